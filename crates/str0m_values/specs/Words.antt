-- Words that stand for the cases of an enumeration.
use Rattle.std.specs.Prelude.{ℕ, List, Option, find, bytes_eq}
use Rattle.std.specs.Str.{str_eq_ignore_ascii_case}

-- the case of this very word, among those that are listed
unfoldable pub case_of : {A : Type 0} → (A → List ℕ) → List A → List ℕ → Option A
case_of word cases text = find (λ one. bytes_eq text (word one)) cases

-- the case of this word without regard to the case of ASCII letters
unfoldable pub case_alike : {A : Type 0} → (A → List ℕ) → List A → List ℕ → Option A
case_alike word cases text = find (λ one. str_eq_ignore_ascii_case text (word one)) cases
