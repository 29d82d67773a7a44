-- Reading as functions on texts: what the readers of lines compute. The relations of the grammar are in CutsParts.
use Rattle.std.specs.Borrow.{Bor}
use Rattle.std.specs.Prelude.{ℕ, Bool, true, List, [], ◌∷◌, Option, Some, None, ◌==◌, ◌&&◌, not, nat_le, nat_lt, length, if◌then◌else◌, ◌≡◌, ◌≢◌, ◌<◌, get_or, IfSome}
use Rattle.std.specs.Str.{all_ascii_digits}
use Rattle.std.specs.Str.Parse.{digits_value, without_leading_plus, IsNumeral}

infixl 10 ◌>>=◌
abbrev pub ◌>>=◌ : {A B : Type 0} → Option A → (A → Option B) → Option B
None >>= f = None
(Some x) >>= f = f x

-- the first that is there
infixr 9 ◌<|>◌
abbrev pub ◌<|>◌ : {A : Type 0} → Option A → Option A → Option A
None <|> other = other
(Some x) <|> other = Some x

-- x before the first of the two parts
abbrev pub before_cut : ℕ → Option (List ℕ × List ℕ) → Option (List ℕ × List ℕ)
before_cut x None = None
before_cut x (Some parts) = Some (x ∷ parts.0, parts.1)

-- the parts before and after the first c
abbrev pub cut : ℕ → List ℕ → Option (List ℕ × List ℕ)
cut c [] = None
cut c (x ∷ xs) = if x == c then Some ([], xs) else before_cut x (cut c xs)

-- what follows p
abbrev pub strip : List ℕ → List ℕ → Option (List ℕ)
strip [] text = Some text
strip (p ∷ ps) [] = None
strip (p ∷ ps) (x ∷ xs) = if p == x then strip ps xs else None

-- the value where a test passes
abbrev pub when : {A : Type 0} → Bool → A → Option A
when test x = if test then Some x else None

abbrev pub is_rest : List ℕ → Bool
is_rest text = nat_lt 0 (length text)

abbrev pub is_numeral : List ℕ → Bool
is_numeral digits = is_rest digits && all_ascii_digits digits

-- the number that std reads, where it is at most limit
abbrev pub num : ℕ → List ℕ → Option ℕ
num limit text = let digits = without_leading_plus text in
    when (is_numeral digits && nat_le (digits_value 10 digits) limit) (digits_value 10 digits)

-- two texts without where they lie in memory
abbrev pub parts : Option (Bor (List ℕ) × Bor (List ℕ)) → Option (List ℕ × List ℕ)
parts None = None
parts (Some x) = Some (x.0.now, x.1.now)

-- the text before a cut, or the whole of it
abbrev pub front : List ℕ → Option (List ℕ × List ℕ) → List ℕ
front text None = text
front text (Some parts) = parts.0

abbrev pub before : ℕ → List ℕ → List ℕ
before c text = front text (cut c text)

-- the character c doesn't stand in the text
abbrev pub lacks : ℕ → List ℕ → Bool
lacks c [] = true
lacks c (x ∷ xs) = not (x == c) && lacks c xs

-- ---- what going over the bytes of a field finds

-- c stands at none of the first n places
abbrev pub LacksCutAt : ℕ → List ℕ → ℕ → Type 0
LacksCutAt c text n = (k : ℕ) → k < n → get_or text k 0 ≢ c

-- c first stands at place i
abbrev pub IsFirstCutAt : ℕ → List ℕ → ℕ → Type 0
IsFirstCutAt c text i = (i < length text) × (get_or text i 0 ≡ c) × LacksCutAt c text i

-- the digits write n
abbrev pub IsWrittenIn : ℕ → List ℕ → ℕ → Type 0
IsWrittenIn radix digits n = IsNumeral radix digits × (n ≡ digits_value radix digits)

-- the number that digits alone write in decimal
abbrev pub IsWrittenAs : List ℕ → ℕ → Type 0
IsWrittenAs = IsWrittenIn 10

-- ---- a reading that answers an Option: both ways, and one value at most

-- the answer is the one value with P, and None where no value has it
pub record IsTheOnly {A : Type 0} (P : A → Type 0) (answer : Option A) : Type 0 where
  pub found : IfSome answer P
  pub only : (x : A) → P x → answer ≡ Some x
