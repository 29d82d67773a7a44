-- What one item of a list stands for, and what may stand at the ends of a list.
use Rattle.std.specs.Char.{digit_value}
use Rattle.std.specs.Prelude.{◌≡◌, ◌⊎◌, ◌<◌, ◌+◌, ◌*◌, ℕ, List, [], ◌∷◌, ◌++◌, codes}
use Rattle.str0m_signal.specs.Prelude.{IsLongestShortText, IsWord, PartedAddress}
use Rattle.str0m_signal.specs.form.Forms.{IsText, TwoFormParts}

-- a word stands for itself
abbrev pub IsWordText : List ℕ → List ℕ → Type 0
IsWordText text x = IsWord text × (x ≡ text)

-- a word stands for the name that is kept of it
abbrev pub IsKeptWordName : List ℕ → List ℕ → Type 0
IsKeptWordName text name = IsWord text × IsLongestShortText 16 text name

-- two hexadecimal digits
abbrev pub IsHexPair : List ℕ → ℕ → Type 0
IsHexPair text byte = (high : ℕ) × (low : ℕ) × (text ≡ high ∷ (low ∷ [])) × (digit_value high < 16) × (digit_value low < 16) × (byte ≡ digit_value high * 16 + digit_value low)

-- nothing, or one space
abbrev pub IsWordSpace : List ℕ → Type 0
IsWordSpace text = (text ≡ []) ⊎ (text ≡ codes " ")

-- a word, and names after it, each after a space; a space may end them (RFC 5888, section 5)
abbrev pub AreGroupNames : List ℕ → List ℕ → List (List ℕ) → Type 0
AreGroupNames text typ [] = IsWordText text typ
AreGroupNames text typ (name ∷ names) = TwoFormParts 32 IsText (PartedAddress 32 IsKeptWordName) text (typ, name ∷ names)

abbrev pub IsGroup : List ℕ → List ℕ × List (List ℕ) → Type 0
IsGroup text group = (names : List ℕ) × (end : List ℕ) × (text ≡ names ++ end) × IsWordSpace end × AreGroupNames names group.0 group.1

-- a word and one or more words after it, each after a space; a space may stand before them
abbrev pub IsMsidSemantic : List ℕ → List ℕ × List (List ℕ) → Type 0
IsMsidSemantic text meant = (lead : List ℕ) × (words : List ℕ) × (text ≡ lead ++ words) × IsWordSpace lead × TwoFormParts 32 IsText (PartedAddress 32 IsWordText) words meant
