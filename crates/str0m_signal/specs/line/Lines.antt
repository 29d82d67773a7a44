-- The lines of a text.
use Rattle.std.specs.Prelude.{◌≡◌, ◌⊎◌, ℕ, List, [], ◌∷◌, ◌++◌, codes, Option, Some, None}
use Rattle.str0m_signal.specs.Prelude.{IsRest, Lacks}

pub record Line : Type 0 where
  pub content : List ℕ
  pub ending : List ℕ

-- the lines and their ends, in order
abbrev pub lines_joined : List Line → List ℕ
lines_joined [] = []
lines_joined (line ∷ lines) = line.content ++ (line.ending ++ lines_joined lines)

abbrev pub EndsIn : ℕ → List ℕ → Type 0
EndsIn c text = (front : List ℕ) × (text ≡ front ++ (c ∷ []))

-- a line ends at LF, at CR LF, or at the end of the text; an empty last piece is no line
pub record IsLine (line : Line) (rest : List ℕ) : Type 0 where
  pub inside : Lacks 10 line.content
  pub ends : ((line.ending ≡ 10 ∷ []) × (EndsIn 13 line.content → ⊥))
      ⊎ ((line.ending ≡ 13 ∷ 10 ∷ []) ⊎ ((line.ending ≡ []) × (rest ≡ []) × IsRest line.content))

abbrev pub AreLines : List Line → Type 0
AreLines [] = Unit {0}
AreLines (line ∷ lines) = IsLine line (lines_joined lines) × AreLines lines

-- these are the lines of the text
abbrev pub Lines : List ℕ → List Line → Type 0
Lines text lines = (text ≡ lines_joined lines) × AreLines lines

-- the first line has the form F of the value, and the rest follow it; a line that holds a CR fits no form
abbrev pub OneLine : {A : Type 0} → (List ℕ → A → Type 0) → List Line → A → List Line → Type 0
OneLine F lines value rest = (line : Line) × (lines ≡ line ∷ rest) × Lacks 13 line.content × F line.content value

-- the text's lines begin so, and the text of the lines after is left
abbrev pub OfText : {A : Type 0} → (List Line → A → List Line → Type 0) → List ℕ → A × List ℕ → Type 0
OfText S text found = (lines : List Line) × (rest : List Line) × Lines text lines × S lines found.0 rest × (found.1 ≡ lines_joined rest)

-- the text's first line has the form F of the value
abbrev pub FirstLine : {A : Type 0} → (List ℕ → A → Type 0) → List ℕ → A × List ℕ → Type 0
FirstLine F = OfText (OneLine F)

-- `a=` and a text that stands for the attribute
abbrev pub IsAttributeLine : {A : Type 0} → (List ℕ → A → Type 0) → List ℕ → A → Type 0
IsAttributeLine F content attribute = (text : List ℕ) × (content ≡ codes "a=" ++ text) × F text attribute

-- ---- parts of a list of lines that stand one after another

-- the lines begin with a part of each value, in order, and the rest follow
abbrev pub Chain : {A : Type 0} → (List Line → A → List Line → Type 0) → List Line → List A → List Line → Type 0
Chain S lines [] rest = lines ≡ rest
Chain S lines (a ∷ as') rest = (after : List Line) × S lines a after × Chain S after as' rest

-- no part stands next
abbrev pub StopsLines : {A : Type 0} → (List Line → A → List Line → Type 0) → List Line → Type 0
StopsLines S lines = (a : _) (after : List Line) → S lines a after → ⊥

-- the longest run of such parts
abbrev pub Run : {A : Type 0} → (List Line → A → List Line → Type 0) → List Line → List A → List Line → Type 0
Run S lines values rest = Chain S lines values rest × StopsLines S rest

-- a part is taken exactly where it stands next
abbrev pub TakenLine : {A : Type 0} → (List Line → A → List Line → Type 0) → List Line → Option A → List Line → Type 0
TakenLine S lines None rest = (lines ≡ rest) × StopsLines S lines
TakenLine S lines (Some a) rest = S lines a rest
