-- Reading of the pieces that forms share, as functions.
use Rattle.std.specs.List.{slice_split}
use Rattle.std.specs.Prelude.{ℕ, List, [], ◌∷◌, ◌==◌, Option, Some, None, codes, is_some, if◌then◌else◌, bytes_eq}
use Rattle.str0m_signal.specs.Prelude.{cut, is_rest, num, strip, when, ◌>>=◌}

-- a value where the text is this word
abbrev pub word_alone_read : {A : Type 0} → List ℕ → A → List ℕ → Option A
word_alone_read word x text = when (bytes_eq text word) x

-- what f reads after a label
abbrev pub behind : {A : Type 0} → List ℕ → (List ℕ → Option A) → List ℕ → Option A
behind label f text = strip label text >>= f

abbrev pub text_read : List ℕ → Option (List ℕ)
text_read text = when (is_rest text) text

-- a number in digits alone
abbrev pub digits_read : ℕ → List ℕ → Option ℕ
digits_read limit text = if is_some (strip (codes "+") text) then None else num limit text

-- what f reads before the first c, and g after it
abbrev pub two_read : {A B : Type 0} → ℕ → (List ℕ → Option A) → (List ℕ → Option B) → List ℕ → Option (A × B)
two_read c f g text = do
  parts ← cut c text
  first ← f parts.0
  second ← g parts.1
  Some (first, second)

-- what f reads before the first c; what stands after it is dropped
abbrev pub tailed_form_piece_after : {A : Type 0} → (List ℕ → Option A) → List ℕ → Option (List ℕ × List ℕ) → Option A
tailed_form_piece_after f text None = f text
tailed_form_piece_after f text (Some parts) = do
  x ← f parts.0
  when (is_rest parts.1) x

abbrev pub tailed_read : {A : Type 0} → ℕ → (List ℕ → Option A) → List ℕ → Option A
tailed_read c f text = tailed_form_piece_after f text (cut c text)

-- what f reads of each piece
abbrev pub all_read : {A : Type 0} → (List ℕ → Option A) → List (List ℕ) → Option (List A)
all_read f [] = Some []
all_read f (piece ∷ pieces) = do
  x ← f piece
  xs ← all_read f pieces
  Some (x ∷ xs)

-- what f reads of each piece between the c
abbrev pub parted_read : {A : Type 0} → ℕ → (List ℕ → Option A) → List ℕ → Option (List A)
parted_read c f text = all_read f (slice_split (λ b. b == c) text)
