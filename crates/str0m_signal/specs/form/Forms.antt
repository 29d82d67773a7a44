-- The pieces that forms of attributes share.
use Rattle.std.specs.Prelude.{◌≡◌, ◌⊎◌, ◌++◌, ◌∷◌, [], ℕ, List}
use Rattle.str0m_signal.specs.Prelude.{IsRest, Lacks}

-- a label, and after it the text of a value by F
abbrev pub Behind : {A : Type 0} → List ℕ → (List ℕ → A → Type 0) → List ℕ → A → Type 0
Behind label F text x = (body : List ℕ) × (text ≡ label ++ body) × F body x

-- one or more characters, which stand for themselves
abbrev pub IsText : List ℕ → List ℕ → Type 0
IsText text x = IsRest text × (x ≡ text)

-- what stands before the first c, and what stands after it, each with its value
abbrev pub TwoFormParts : {A B : Type 0} → ℕ → (List ℕ → A → Type 0) → (List ℕ → B → Type 0) → List ℕ → A × B → Type 0
TwoFormParts c F G text pair = (front : List ℕ) × (rest : List ℕ) × (text ≡ front ++ (c ∷ rest)) × Lacks c front × F front pair.0 × G rest pair.1

-- nothing, or c and one or more characters, which aren't kept
abbrev pub IsDroppedFormTail : ℕ → List ℕ → Type 0
IsDroppedFormTail c text = (text ≡ []) ⊎ ((rest : List ℕ) × (text ≡ c ∷ rest) × IsRest rest)

-- what stands before the first c, with its value, and such a tail
abbrev pub IsBeforeDroppedFormTail : {A : Type 0} → ℕ → (List ℕ → A → Type 0) → List ℕ → A → Type 0
IsBeforeDroppedFormTail c F text x = (front : List ℕ) × (tail : List ℕ) × (text ≡ front ++ tail) × Lacks c front × F front x × IsDroppedFormTail c tail
