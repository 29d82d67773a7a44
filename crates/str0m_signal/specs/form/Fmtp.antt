-- The form of an fmtp line (RFC 8866, section 6.15).
use Rattle.std.specs.List.{AllByRecursion}
use Rattle.std.specs.Prelude.{◌≡◌, ◌⊎◌, ℕ, List, [], ◌∷◌, ◌++◌, Option, Some, None, codes}
use Rattle.str0m_formats.specs.declared.format.format_param.FormatParam.TheVariants.{BareRange, BarePtList, Unknown}
use Rattle.str0m_formats.specs.format.Pairs.{ArePairsRead}
use Rattle.str0m_sdp.specs.declared.label.TheConstants as label
use Rattle.str0m_signal.specs.Prelude.{FirstFit, FormatParam, IsEventRange, IsNum, IsPt, IsRest, Lacks, PartedAddress}
use Rattle.str0m_signal.specs.form.Forms.{Behind}

-- a space or a tab
abbrev pub IsFmtpBlank : ℕ → Type 0
IsFmtpBlank b = (b ≡ 32) ⊎ (b ≡ 9)

abbrev pub AreFmtpBlanks : List ℕ → Type 0
AreFmtpBlanks text = AllByRecursion IsFmtpBlank text

-- one or more characters other than `=`, space and tab
abbrev pub IsFmtpKey : List ℕ → Type 0
IsFmtpKey text = IsRest text × Lacks 61 text × Lacks 32 text × Lacks 9 text

-- one or more characters other than `;`, space and tab
abbrev pub IsFmtpValue : List ℕ → Type 0
IsFmtpValue text = IsRest text × Lacks 59 text × Lacks 32 text × Lacks 9 text

-- nothing, or `;` and blanks
abbrev pub IsFmtpEnd : List ℕ → Type 0
IsFmtpEnd text = (text ≡ []) ⊎ ((blanks : List ℕ) × (text ≡ codes ";" ++ blanks) × AreFmtpBlanks blanks)

abbrev pub StartsWithoutFmtpBlank : List ℕ → Type 0
StartsWithoutFmtpBlank [] = ⊥
StartsWithoutFmtpBlank (x ∷ xs) = IsFmtpBlank x → ⊥

-- key `=` value, and then blanks and the end, or `;` between blanks and more
abbrev pub IsFmtpPair : List ℕ → List ℕ × List ℕ → Option (List ℕ) → Type 0
IsFmtpPair text pair None = (blanks : List ℕ) × (end : List ℕ) × (text ≡ pair.0 ++ (codes "=" ++ (pair.1 ++ (blanks ++ end))))
    × IsFmtpKey pair.0 × IsFmtpValue pair.1 × AreFmtpBlanks blanks × IsFmtpEnd end
IsFmtpPair text pair (Some more) = (before : List ℕ) × (after : List ℕ) × (text ≡ pair.0 ++ (codes "=" ++ (pair.1 ++ (before ++ (codes ";" ++ (after ++ more))))))
    × IsFmtpKey pair.0 × IsFmtpValue pair.1 × AreFmtpBlanks before × AreFmtpBlanks after × StartsWithoutFmtpBlank more

-- one or more pairs, where F says how each stands before what follows it
abbrev pub AreFmtpPairsOneByOne : (List ℕ → List ℕ × List ℕ → Option (List ℕ) → Type 0) → List ℕ → List (List ℕ × List ℕ) → Type 0
AreFmtpPairsOneByOne F text [] = ⊥
AreFmtpPairsOneByOne F text (p ∷ []) = F text p None
AreFmtpPairsOneByOne F text (p ∷ q ∷ qs) = (more : List ℕ) × F text p (Some more) × AreFmtpPairsOneByOne F more (q ∷ qs)

abbrev pub AreFmtpPairs : List ℕ → List (List ℕ × List ℕ) → Type 0
AreFmtpPairs = AreFmtpPairsOneByOne IsFmtpPair

-- SP and pairs, blanks before them
abbrev pub IsPairsForm : List ℕ → List FormatParam → Type 0
IsPairsForm more values = (blanks : List ℕ) × (text : List ℕ) × (pairs : List (List ℕ × List ℕ)) × (more ≡ codes " " ++ (blanks ++ text))
    × AreFmtpBlanks blanks × AreFmtpPairs text pairs × ArePairsRead pairs values

-- SP and two or more payload types, parted by `/`: the first of them (RFC 2198, section 5)
abbrev pub IsListForm : List ℕ → List FormatParam → Type 0
IsListForm more values = (first : ℕ) × (second : ℕ) × (others : List ℕ) × Behind (codes " ") (PartedAddress 47 (IsNum 255)) more (first ∷ second ∷ others) × (values ≡ BarePtList first ∷ [])

-- SP and a range from 0 on, written in digits alone: where it ends (RFC 4733, section 2.4)
abbrev pub IsRangeForm : List ℕ → List FormatParam → Type 0
IsRangeForm more values = (last : ℕ) × Behind (codes " ") IsEventRange more last × (values ≡ BareRange last ∷ [])

abbrev pub IsAnyFmtp : List ℕ → List FormatParam → Type 0
IsAnyFmtp more values = values ≡ Unknown ∷ []

-- `fmtp:` pt, and after that word the first form that fits
pub record IsFmtp (text : List ℕ) (pt : ℕ) (values : List FormatParam) : Type 0 where
  pub number : List ℕ
  pub more : List ℕ
  pub joined : text ≡ label.FMTP.now ++ (number ++ more)
  pub number_is : IsPt number pt
  pub word_ends : (more ≡ []) ⊎ ((rest : List ℕ) × (more ≡ codes " " ++ rest))
  pub values_are : FirstFit IsPairsForm (FirstFit IsListForm (FirstFit IsRangeForm IsAnyFmtp)) more values
