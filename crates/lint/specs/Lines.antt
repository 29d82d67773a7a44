-- The lines of a text as the findings number them.
use Rattle.lint.specs.Prelude.{EndsIn, Line, lines_of, strip}
use Rattle.lint.specs.declared.finding.Finding.{Finding}
use Rattle.std.specs.Borrow.{Bor}
use Rattle.std.specs.Prelude.{◌≡◌, ◌⊎◌, ◌+◌, ◌-◌, ◌≤◌, ℕ, Bool, List, [], ◌∷◌, ◌++◌, Option, Some, None, codes, length, max, if◌then◌else◌, is_some}

-- the line without the carriage return that ends it, if one does
abbrev pub IsLineWithoutReturn : List ℕ → List ℕ → Type 0
IsLineWithoutReturn line text = (line ≡ text ++ (13 ∷ [])) ⊎ ((text ≡ line) × (EndsIn 13 line → ⊥))

-- the text has no line; or its first line has this content, and the rest follow
abbrev pub NextLine : List ℕ → Option (Bor (List ℕ) × Bor (List ℕ)) → Type 0
NextLine text None = lines_of text ≡ []
NextLine text (Some x) = (ending : List ℕ) × (lines_of text ≡ record { content = x.0.now; ending = ending } ∷ lines_of x.1.now)

-- a text has one line at least, be it empty
abbrev pub last_line : List ℕ → ℕ
last_line text = max 1 (length (lines_of text))

-- the number of a line, counted from 1
abbrev pub IsLineNumber : ℕ → ℕ → Type 0
IsLineNumber last n = (1 ≤ n) × (n ≤ last)

-- the finding names a line of its text
abbrev pub IsWithinLines : ℕ → Finding → Type 0
IsWithinLines last finding = IsLineNumber last finding.line

-- an attribute line begins with `a=` (RFC 8866, section 5.13)
abbrev pub begins_attribute : List ℕ → Bool
begins_attribute content = is_some (strip (codes "a=") content)

-- the numbers of the attribute lines, where the first of the lines has this number
abbrev pub attribute_numbers : ℕ → List Line → List ℕ
attribute_numbers n [] = []
attribute_numbers n (line ∷ lines) =
    if begins_attribute line.content then n ∷ attribute_numbers (n + 1) lines else attribute_numbers (n + 1) lines

-- the line at which the rest begins, where there is a rest
abbrev pub unread_lines : List ℕ → List ℕ → List ℕ
unread_lines text [] = []
unread_lines text (c ∷ rest) = (length (lines_of text) - length (lines_of (c ∷ rest)) + 1) ∷ []
