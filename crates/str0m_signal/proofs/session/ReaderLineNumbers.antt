-- The number of the line at which a rest begins: as many lines stand before it as line feeds.
use Rattle.str0m_signal.proofs.Common.{◌≡◌, ◌≢◌, ◌==◌, ◌+◌, ℕ, List, [], ◌∷◌, ◌++◌, cond, count_by, length, refl, sym, ap, ◌∙◌, arith, inl}
use Rattle.str0m_signal.proofs.Common.{inr, ne_eqb, Lacks, sum_by-append, sum_by-cons}
use Rattle.str0m_signal.specs.line.Lines.{Line, lines_joined, IsLine, AreLines}
use Rattle.str0m_signal.specs.session.Reader.{IsFromLine}

abbrev pub line_feeds : List ℕ → ℕ
line_feeds text = count_by (λ c. c == 10) text

reader_feeds_of_both : (a b : List ℕ) → line_feeds (a ++ b) ≡ line_feeds a + line_feeds b
reader_feeds_of_both a b = sum_by-append (λ c. cond (c == 10) 1 0) a b

reader_no_feeds : (text : List ℕ) → Lacks 10 text → line_feeds text ≡ 0
reader_no_feeds [] h = refl
reader_no_feeds (x ∷ xs) h = sum_by-cons (λ c. cond (c == 10) 1 0) x xs ∙ rw (ne_eqb x 10 h.0, reader_no_feeds xs h.1) refl

-- a line with something after it has one, at its end
reader_one_feed : (line : Line) (rest : List ℕ) → IsLine line rest → rest ≢ [] → line_feeds line.ending ≡ 1
reader_one_feed line rest h some = elim h.ends [
  | inl lf ↦ ap line_feeds lf.0
  | inr more ↦ elim more [ inl crlf ↦ ap line_feeds crlf | inr last ↦ absurd (some last.1) ]
]

reader_nil_behind : (a b : List ℕ) → a ++ b ≡ [] → b ≡ []
reader_nil_behind [] b e = e
reader_nil_behind (x ∷ a) b e = absurd cc

reader_lines_joined : (before after : List Line) → lines_joined after ≢ [] → lines_joined (before ++ after) ≢ []
reader_lines_joined [] after some = some
reader_lines_joined (line ∷ before) after some =
    λ e. reader_lines_joined before after some
    (reader_nil_behind line.ending (lines_joined (before ++ after))
    (reader_nil_behind line.content (line.ending ++ lines_joined (before ++ after)) e))

reader_feeds_before : (before after : List Line) → AreLines (before ++ after) → lines_joined after ≢ []
    → line_feeds (lines_joined (before ++ after)) ≡ length before + line_feeds (lines_joined after)
reader_feeds_before [] after are some = omega arith
reader_feeds_before (line ∷ before) after are some = grind (
  arith,
  reader_feeds_of_both,
  reader_no_feeds,
  reader_one_feed,
  reader_lines_joined,
  reader_feeds_before before after are.1 some,
)

-- where something is left, the line feeds before it are as many as the lines
pub line_number : (text rest : List ℕ) (h : IsFromLine text rest) → rest ≢ [] → line_feeds text ≡ length h.before + line_feeds rest
line_number text rest h some =
    ap line_feeds h.lines_are.0
    ∙ reader_feeds_before h.before h.after h.lines_are.1 (λ e. some (h.rest_is ∙ e))
    ∙ ap (λ (t : List ℕ). length h.before + line_feeds t) (sym h.rest_is)
