-- The first line of a text, by where its line feed stands.
use Rattle.lint.proofs.Common.{◌≡◌, ◌<◌, ◌-◌, ◌+◌, ℕ, List, [], ◌∷◌, ◌++◌, Option, Some, None, length, take, MatchOption, unwrap_or, refl}
use Rattle.lint.proofs.Common.{sym, ap, ◌∙◌, inl, inr, arith, lit<, append_assoc, append-nil, Bor, cut}
use Rattle.lint.specs.Lines.{IsLineWithoutReturn}
use Rattle.std.specs.Str.Pattern.{FindsCharSuffix}
use Rattle.str0m_signal.proofs.{line_here, line_without_suffix}
use Rattle.str0m_signal.specs.line.LinesReading.{lines_of}
use Rattle.str0m_values.proofs.CutLaws.{cut_found, cut_none_lacks, LacksCut-append}
use Rattle.str0m_values.specs.CutsParts.{Lacks}

pub line_without_return : (line : Bor (List ℕ)) (r : Option (Bor (List ℕ))) (result : Bor (List ℕ))
    → MatchOption r (FindsCharSuffix 13 line.now None) (λ x. (n : ℕ) × FindsCharSuffix 13 line.now (Some n)
    × (x.now ≡ take (length line.now - n) line.now) × (length x.now + n ≡ length line.now))
    → result ≡ unwrap_or r line → IsLineWithoutReturn line.now result.now
line_without_return line r result cases is = rw is (line_without_suffix 13 (lit< tt) line r cases)

-- some end after the content, and the rest of the lines
abbrev pub BeginsWithLine : List ℕ → List ℕ → List ℕ → Type 0
BeginsWithLine text content rest = (ending : List ℕ) × (lines_of text ≡ record { content = content; ending = ending } ∷ lines_of rest)

pub line_at_feed : (text front rest content : List ℕ) → Some (front, rest) ≡ cut 10 text → IsLineWithoutReturn front content
    → BeginsWithLine text content rest
line_at_feed text front rest content found (inl returned) =
    let at = cut_found 10 text front rest (sym found) in
    let whole : text ≡ content ++ ((13 ∷ 10 ∷ []) ++ rest) = at.0 ∙ ap (λ (t : List ℕ). t ++ (10 ∷ rest)) returned
    ∙ append_assoc content (13 ∷ []) (10 ∷ rest) in
    let inside : Lacks 10 content = LacksCut-append 10 content (13 ∷ []) (rw returned at at.1) in (
      13 ∷ 10 ∷ [],
      line_here text (record { content = content; ending = 13 ∷ 10 ∷ [] }) rest whole
          (record { inside = inside; ends = inr (inl refl) }),
    )
line_at_feed text front rest content found (inr plain) =
    let at = cut_found 10 text front rest (sym found) in
    let whole : text ≡ content ++ ((10 ∷ []) ++ rest) = at.0 ∙ ap (λ (t : List ℕ). t ++ (10 ∷ rest)) (sym plain.0) in (
      10 ∷ [],
      line_here text (record { content = content; ending = 10 ∷ [] }) rest whole
          (record { inside = rw (plain.0) at.1; ends = inl (refl, rw (plain.0) plain.1) }),
    )

pub line_at_end : (text : List ℕ) → None ≡ cut 10 text → 0 < length text → BeginsWithLine text text []
line_at_end text none some = (
  [],
  line_here text (record { content = text; ending = [] }) [] (sym (append-nil text))
      (record { inside = cut_none_lacks 10 text (sym none); ends = inr (inr (refl, refl, some)) }),
)

pub no_line : (text : List ℕ) → length text ≡ 0 → lines_of text ≡ []
unfolding lines_of
no_line [] e = refl
no_line (x ∷ xs) e = absurd (omega (arith, e))
