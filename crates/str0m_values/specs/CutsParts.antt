-- The named parts of a line, as facts on texts (lists of bytes).
use Rattle.std.specs.Borrow.{Bor}
use Rattle.std.specs.List.{AllByRecursion}
use Rattle.std.specs.Prelude.{◌≡◌, ◌≢◌, ◌≤◌, ◌<◌, ℕ, List, length, Option, Some, None, option_map, ◌⊎◌}
use Rattle.std.specs.Str.Parse.{IsNumeral, digits_value, without_leading_plus}

-- the character c doesn't stand in the text
abbrev pub Lacks : ℕ → List ℕ → Type 0
Lacks c text = AllByRecursion (λ b. b ≢ c) text

-- one or more characters
abbrev pub IsRest : List ℕ → Type 0
IsRest text = 0 < length text

-- one or more characters other than c
abbrev pub IsWithout : ℕ → List ℕ → Type 0
IsWithout c text = IsRest text × Lacks c text

-- one or more characters other than space
abbrev pub IsWord : List ℕ → Type 0
IsWord text = IsWithout 32 text

-- the text is what std's reading of a number in this radix takes, as n, which is at most limit
pub record IsNumber (radix limit : ℕ) (text : List ℕ) (n : ℕ) : Type 0 where
  pub numeral : IsNumeral radix (without_leading_plus text)
  pub value : digits_value radix (without_leading_plus text) ≡ n
  pub fits : n ≤ limit

-- a number in decimal
abbrev pub IsNum : ℕ → List ℕ → ℕ → Type 0
IsNum limit text n = IsNumber 10 limit text n

-- a number, or the default where there is no text
abbrev pub IsGivenNumber : ℕ → ℕ → Option (List ℕ) → ℕ → Type 0
IsGivenNumber limit default None n = n ≡ default
IsGivenNumber limit default (Some text) n = IsNum limit text n

-- a text without where it lies in memory
abbrev pub part_text_of : Option (Bor (List ℕ)) → Option (List ℕ)
part_text_of text = option_map (λ t. t.now) text

abbrev pub IsNumOr : ℕ → ℕ → Option (Bor (List ℕ)) → ℕ → Type 0
IsNumOr limit default text n = IsGivenNumber limit default (part_text_of text) n

-- a payload type
abbrev pub IsPt : List ℕ → ℕ → Type 0
IsPt text n = IsNum 127 text n

-- ---- the first of two forms that fits a text

-- F holds of the text and the value, or F holds of no value, and G does
abbrev pub FirstFit : {A B : Type 0} → (A → B → Type 0) → (A → B → Type 0) → A → B → Type 0
FirstFit F G a b = F a b ⊎ (((c : _) → F a c → ⊥) × G a b)
