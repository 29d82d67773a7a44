-- What is told of a text, a line at a time.
use Rattle.lint.proofs.Common.{◌≡◌, ◌↔◌, ℕ, true, false, List, ◌∷◌, refl, sym, ap, ◌∙◌, codes, is_some, strip}
use Rattle.lint.proofs.LineLaws.{BeginsWithLine}
use Rattle.lint.specs.Told.{Told, line_told, lines_told, told_of}
use Rattle.str0m_signal.proofs.{form_tail_is}

-- the first line is a `c=` line
pub told_skip : (text content after : List ℕ) → BeginsWithLine text content after → is_some (strip (codes "c=") content) ≡ true
    → told_of text ≡ told_of after
told_skip text content after (ending, e) is = ap lines_told e ∙ rw is refl

pub told_take : (text content after : List ℕ) → BeginsWithLine text content after → is_some (strip (codes "c=") content) ≡ false
    → told_of text ≡ line_told content ∷ told_of after
told_take text content after (ending, e) not_one = ap lines_told e ∙ rw not_one refl

-- the rest of two texts is told alike exactly where they are, if their first lines are
pub told_alike_further : (left right after other : List ℕ) (a b : Told) → told_of left ≡ a ∷ told_of after
    → told_of right ≡ b ∷ told_of other
    → a ≡ b
    → (told_of left ≡ told_of right) ↔ (told_of after ≡ told_of other)
told_alike_further left right after other a b l r same = (
  λ e. form_tail_is a b (told_of after) (told_of other) (sym l ∙ e ∙ r),
  λ e. l ∙ ap (λ (x : Told). x ∷ told_of after) same
      ∙ ap (λ (xs : List Told). b ∷ xs) e ∙ sym r,
)
