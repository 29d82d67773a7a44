-- The lines of a header.
use Rattle.std.specs.Prelude.{◌≡◌, ◌⊎◌, ◌≤◌, ℕ, List, [], ◌∷◌, ◌++◌, Option, codes}
use Rattle.std.specs.Str.Parse.{IsNumeral, digits_value}
use Rattle.str0m_signal.specs.Prelude.{Bandwidth, IsRest, IsWord}
use Rattle.str0m_signal.specs.line.Lines.{Line, OneLine, TakenLine, Run}
use Rattle.str0m_signal.specs.session.Section.{IsSessionField, IsBandwidth}

-- the line is this word, which is also what it says
abbrev pub IsExactHeaderLine : List ℕ → List ℕ → List ℕ → Type 0
IsExactHeaderLine word content text = (content ≡ word) × (text ≡ word)

-- digits alone, at most 64 bits
pub record IsDigits (text : List ℕ) (n : ℕ) : Type 0 where
  pub numeral : IsNumeral 10 text
  pub value : digits_value 10 text ≡ n
  pub fits : n ≤ 18446744073709551615

-- `o=` word SP digits SP rest (RFC 8866, section 5.2)
pub record IsOrigin (content : List ℕ) (id : ℕ) : Type 0 where
  pub name : List ℕ
  pub number : List ℕ
  pub more : List ℕ
  pub joined : content ≡ codes "o=" ++ (name ++ (codes " " ++ (number ++ (codes " " ++ more))))
  pub name_is : IsWord name
  pub number_is : IsDigits number id
  pub more_is : IsRest more

-- a field of one of these letters
abbrev pub IsHeaderField : List (List ℕ) → List ℕ → List ℕ → Type 0
IsHeaderField [] content text = ⊥
IsHeaderField (letter ∷ letters) content text = IsSessionField letter content text ⊎ IsHeaderField letters content text

abbrev pub IsHeaderInfo : List ℕ → List ℕ → Type 0
IsHeaderInfo = IsHeaderField (codes "i=" ∷ codes "u=" ∷ codes "e=" ∷ codes "p=" ∷ codes "c=" ∷ codes "z=" ∷ codes "k=" ∷ [])

-- `v=0`, the origin and the name
pub record IsHeaderOpening (lines : List Line) (id : ℕ) (rest : List Line) : Type 0 where
  pub after_version : List Line
  pub after_origin : List Line
  pub name : List ℕ
  pub version_is : OneLine (IsExactHeaderLine (codes "v=0")) lines (codes "v=0") after_version
  pub origin_is : OneLine IsOrigin after_version id after_origin
  pub name_is : OneLine (IsSessionField (codes "s=")) after_origin name rest

-- what a header says
pub record Header : Type 0 where
  pub id : ℕ
  pub bw : Option Bandwidth

-- a header: its opening, any number of other fields, a bandwidth where it stands next, `t=0 0`, and every `r=` that follows
pub record IsHeader (lines : List Line) (header : Header) (rest : List Line) : Type 0 where
  pub after_opening : List Line
  pub after_infos : List Line
  pub after_bandwidth : List Line
  pub after_timing : List Line
  pub infos : List (List ℕ)
  pub repeats : List (List ℕ)
  pub opening_is : IsHeaderOpening lines header.id after_opening
  pub infos_are : Run (OneLine IsHeaderInfo) after_opening infos after_infos
  pub bandwidth_is : TakenLine (OneLine IsBandwidth) after_infos header.bw after_bandwidth
  pub timing_is : OneLine (IsExactHeaderLine (codes "t=0 0")) after_bandwidth (codes "t=0 0") after_timing
  pub repeats_are : Run (OneLine (IsSessionField (codes "r="))) after_timing repeats rest
