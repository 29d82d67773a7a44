-- The lines of a text as a function.
use Rattle.std.specs.Borrow.{Bor}
use Rattle.std.specs.Prelude.{◌≡◌, ◌⊎◌, ℕ, Bool, false, true, codes, List, [], ◌∷◌, ◌++◌, length, Option, Some, None, ◌==◌, ◌&&◌, if◌then◌else◌}
use Rattle.str0m_signal.specs.Prelude.{lacks, strip, when, ◌<|>◌, ◌>>=◌}
use Rattle.str0m_signal.specs.line.Lines.{Line, StopsLines}

abbrev pub is_crlf : ℕ → List ℕ → Bool
is_crlf x [] = false
is_crlf x (y ∷ ys) = (x == 13) && (y == 10)

abbrev pub longer_line_first : ℕ → List Line → List Line
longer_line_first x [] = record { content = x ∷ []; ending = [] } ∷ []
longer_line_first x (line ∷ lines) = record { content = x ∷ line.content; ending = line.ending } ∷ lines

abbrev pub line_behind_first : List Line → List Line
line_behind_first [] = []
line_behind_first (line ∷ lines) = lines

abbrev pub line_from : ℕ → List ℕ → List Line → List Line
line_from x xs lines =
    if x == 10 then record { content = []; ending = 10 ∷ [] } ∷ lines
    else if is_crlf x xs then record { content = []; ending = 13 ∷ 10 ∷ [] } ∷ line_behind_first lines
    else longer_line_first x lines

unfoldable pub lines_of : List ℕ → List Line
lines_of [] = []
lines_of (x ∷ xs) = line_from x xs (lines_of xs)

-- the text is at its end, at a line feed or at a carriage return
abbrev pub IsAtEnd : List ℕ → Type 0
IsAtEnd [] = Unit {0}
IsAtEnd (x ∷ xs) = (x ≡ 10) ⊎ (x ≡ 13)

-- what follows the line's end that stands there
abbrev pub behind_end : List ℕ → Option (List ℕ)
behind_end text =
    strip (13 ∷ 10 ∷ []) text
    <|> strip (10 ∷ []) text
    <|> when (length text == 0) text

-- the first line, if it holds no CR, and the lines after it
abbrev pub clean_line : List Line → Option (List ℕ × List Line)
clean_line [] = None
clean_line (line ∷ lines) = if lacks 13 line.content then Some (line.content, lines) else None

-- what f reads of the first line
abbrev pub line_read : {A : Type 0} → (List ℕ → Option A) → List Line → Option (A × List Line)
line_read f lines = clean_line lines >>= λ found. f found.0 >>= λ value. Some (value, found.1)

-- f reads this of the first line
abbrev pub ReadsTo : {A : Type 0} → (List ℕ → Option A) → List Line → A → List Line → Type 0
ReadsTo f lines value rest = line_read f lines ≡ Some (value, rest)

-- what was found stands after the others; or nothing was found, and nothing is added
abbrev pub TakesLast : {A : Type 0} → Option A → List A → List A → Bool → Type 0
TakesLast {A} found old new true = (value : A) × (found ≡ Some value) × (new ≡ old ++ value ∷ [])
TakesLast found old new false = (found ≡ None) × (new ≡ old)

-- a value and what is left of the text, as lines
abbrev pub lines_left : {A : Type 0} → A × Bor (List ℕ) → A × List Line
lines_left x = (x.0, lines_of x.1.now)

abbrev pub both_lines_left : Bor (List ℕ) × Bor (List ℕ) → List ℕ × List Line
both_lines_left x = (x.0.now, lines_of x.1.now)

-- the part that stands next, or that none does
abbrev pub NextLinePart : {A : Type 0} → (List Line → A → List Line → Type 0) → List ℕ → Option (A × Bor (List ℕ)) → Type 0
NextLinePart S text None = StopsLines S (lines_of text)
NextLinePart S text (Some x) = S (lines_of text) x.0 (lines_of x.1.now)

-- what f reads of the text that follows `a=`
abbrev pub read_attribute : {A : Type 0} → (List ℕ → Option A) → List ℕ → Option A
read_attribute f content = strip (codes "a=") content >>= f
