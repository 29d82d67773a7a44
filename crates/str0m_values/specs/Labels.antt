-- Words after labels, as the parts of a line.
use Rattle.std.specs.Prelude.{◌≡◌, ℕ, List, [], ◌++◌, Option, Some, None}
use Rattle.str0m_values.specs.CutsParts.{IsWord}

-- a text stands for itself
abbrev pub IsSameLabel : List ℕ → List ℕ → Type 0
IsSameLabel text x = x ≡ text

-- a label, and after it a word with its value by F
abbrev pub IsLabelled : {B : Type 0} → List ℕ → (List ℕ → B → Type 0) → List ℕ → B → Type 0
IsLabelled label F part x = (word : List ℕ) × (part ≡ label ++ word) × IsWord word × F word x

-- the same, or nothing
abbrev pub IsOptionalLabelled : {B : Type 0} → List ℕ → (List ℕ → B → Type 0) → List ℕ → Option B → Type 0
IsOptionalLabelled label F part None = part ≡ []
IsOptionalLabelled label F part (Some x) = IsLabelled label F part x

-- the same with any word, which isn't kept
abbrev pub IsOptionalLabelUnkept : List ℕ → List ℕ → Type 0
IsOptionalLabelUnkept label part = (word : Option (List ℕ)) × IsOptionalLabelled label IsSameLabel part word

-- a label and a value's text, or nothing
abbrev pub optional_text : {B : Type 0} → List ℕ → (B → List ℕ) → Option B → List ℕ
optional_text label text None = []
optional_text label text (Some x) = label ++ text x
