-- Where the first line ends.
use Rattle.str0m_signal.proofs.Common.{◌≡◌, ◌≢◌, ℕ, suc, true, false, not, eqb, List, [], ◌∷◌, ◌++◌, length, Some, None, refl, sym, ap, ◌∙◌}
use Rattle.str0m_signal.proofs.Common.{arith, inl, inr, eqb-true, ne_eqb, cases_eq, and_right, append-nil, Lacks, IsRest, lacks, ◌>>=◌}
use Rattle.str0m_signal.proofs.Common.{lacks_cut_true}
use Rattle.str0m_signal.proofs.line.LinesLaws.{line_at_other, line_here}
use Rattle.str0m_signal.specs.line.Lines.{Line, EndsIn, IsLine}
use Rattle.str0m_signal.specs.line.LinesReading.{is_crlf, longer_line_first, lines_of, clean_line, behind_end, IsAtEnd}

-- ---- the first line, by what stands after it

no_return_ends : (a : List ℕ) → Lacks 13 a → EndsIn 13 a → ⊥
no_return_ends a h e = go e.0 (rw e.1 at h)
  where
    go : (front : List ℕ) → Lacks 13 (front ++ (13 ∷ [])) → ⊥
    go [] h = h.0 refl
    go (f ∷ fs) h = go fs h.1

line_clean_here : (text : List ℕ) (line : Line) (rest : List ℕ) → text ≡ line.content ++ (line.ending ++ rest) → IsLine line rest
    → Lacks 13 line.content → Some (line.content, lines_of rest) ≡ clean_line (lines_of text)
line_clean_here text line rest e h plain = sym (ap clean_line (line_here text line rest e h)
    ∙ rw (lacks_cut_true 13 line.content plain) refl)

-- the first of the lines holds a carriage return
abbrev HoldsLineReturn : List Line → Type 0
HoldsLineReturn lines = (line : Line) × (behind : List Line) × (lines ≡ line ∷ behind) × (lacks 13 line.content ≡ false)

not_crlf_of : (x : ℕ) (xs : List ℕ) → x ≢ 13 → is_crlf x xs ≡ false
not_crlf_of x xs other = grind arith

longer_line_returned : (lines : List Line) → HoldsLineReturn (longer_line_first 13 lines)
longer_line_returned [] = (record { content = 13 ∷ []; ending = [] }, [], refl, refl)
longer_line_returned (line ∷ lines) = (record { content = 13 ∷ line.content; ending = line.ending }, lines, refl, refl)

line_longer_holds : (x : ℕ) (lines : List Line) → HoldsLineReturn lines → HoldsLineReturn (longer_line_first x lines)
line_longer_holds x lines h = (
  record { content = x ∷ h.0.content; ending = h.0.ending },
  h.1,
  ap (longer_line_first x) h.2,
  and_right (not (eqb x 13)) (lacks 13 h.0.content) h.3,
)

line_returned : (a rest : List ℕ) → Lacks 10 a → Lacks 13 a → is_crlf 13 rest ≡ false → HoldsLineReturn (lines_of (a ++ (13 ∷ rest)))
unfolding lines_of
line_returned [] rest feed return lone = rw (line_at_other 13 rest (lines_of rest) (λ e. absurd cc) lone)
    (longer_line_returned (lines_of rest))
line_returned (x ∷ xs) rest feed return lone =
    let more = xs ++ (13 ∷ rest) in
    rw (line_at_other x more (lines_of more) feed.0 (not_crlf_of x more return.0))
    (line_longer_holds x (lines_of more) (line_returned xs rest feed.1 return.1 lone))

lone_line_return_refused : (text a rest : List ℕ) → text ≡ a ++ (13 ∷ rest) → Lacks 10 a → Lacks 13 a → is_crlf 13 rest ≡ false
    → None ≡ clean_line (lines_of text)
lone_line_return_refused text a rest e feed return lone = grind (arith, line_returned)

-- the line is the text up to its end, and what follows is after that
pub clean_line_cut : (text a b : List ℕ) → text ≡ a ++ b → Lacks 10 a → Lacks 13 a → IsAtEnd b → IsRest text
    → (behind_end b >>= λ rest. Some (a, lines_of rest)) ≡ clean_line (lines_of text)
clean_line_cut text a [] e feed return stops rest = grind (
  arith,
  append-nil a,
  line_clean_here text (record { content = a; ending = [] }) [] e,
)
clean_line_cut text a (x ∷ xs) e feed return (inl lf) rest =
    grind (arith, line_clean_here text (record { content = a; ending = 10 ∷ [] }) xs, no_return_ends a return)
clean_line_cut text a (x ∷ []) e feed return (inr cr) rest = grind (arith, lone_line_return_refused)
clean_line_cut text a (x ∷ (y ∷ ys)) e feed return (inr cr) rest =
    let here : text ≡ a ++ (13 ∷ y ∷ ys) = e ∙ ap (λ (z : ℕ). a ++ (z ∷ y ∷ ys)) cr in
    elim (cases_eq y 10) [
      | inl lf ↦
          rw (cr, lf) (line_clean_here text (record { content = a; ending = 13 ∷ 10 ∷ [] }) ys
          (here ∙ ap (λ (z : ℕ). a ++ (13 ∷ z ∷ ys)) lf)
          (record { inside = feed; ends = inr (inl refl) }) return)
      | inr other ↦
          rw (cr, ne_eqb 10 y (λ same. other (sym same)), ne_eqb (suc (suc (length ys))) 0 (λ none. absurd cc))
          (lone_line_return_refused text a (y ∷ ys) here feed return (ne_eqb y 10 other))
    ]

pub line_none_of_none : (text : List ℕ) → eqb (length text) 0 ≡ true → None ≡ clean_line (lines_of text)
unfolding lines_of
line_none_of_none [] e = refl
line_none_of_none (x ∷ xs) e = absurd (omega (arith, eqb-true (length (x ∷ xs)) 0 e))

pub rest_from : (text : List ℕ) → eqb (length text) 0 ≡ false → IsRest text
rest_from text e = grind arith
