-- The numbers of what was read keep to their ranges.
use Rattle.str0m_formats.proofs.{IsKeyed, keyed_or_hidden}
use Rattle.str0m_formats.specs.format.PairsTriple.{TripleTexts, IsTripleParam}
use Rattle.str0m_sdp.proofs.{rows_bounded}
use Rattle.str0m_signal.proofs.Common.{rules, ◌≡◌, ◌⊎◌, arith, param_text, ℕ, Bool, List, [], ◌∷◌, get_or, Option, Result, Ok, Err, All}
use Rattle.str0m_signal.proofs.Common.{IfOk, inl, inr, subst, sym, MatchBool, Bor, cons_option, All-nil, FormatParam, KeepsToRowLine}
use Rattle.str0m_signal.proofs.Common.{HasBoundedRows, MediaAttribute, SdpError, MediaLine, Sdp, FirstFit, IsParsedParam, AreParsedParams}
use Rattle.str0m_signal.proofs.Common.{AreJoinedPairs}
use Rattle.str0m_signal.proofs.Common.{pairs_merged, IsRowInBounds, KeepsToRowLines}
use Rattle.str0m_signal.proofs.form.MediaAttributeAgain.{media_other_whole, other_again}
use Rattle.str0m_signal.specs.form.Fmtp.{IsPairsForm, IsListForm, IsRangeForm, IsAnyFmtp}
use Rattle.str0m_signal.specs.form.FormTable.{any_form}
use Rattle.str0m_signal.specs.form.MediaAttribute.{media_forms, MediaForm, IsMediaLine}
use Rattle.str0m_signal.specs.line.Lines.{Chain, Line, OneLine}
use Rattle.str0m_signal.specs.session.Reader.{ConsistentSection, Reading}
use Rattle.str0m_signal.specs.session.ReaderAnswers.{Answers, unread}

-- ---- parameters

-- what has a key of its own keeps to its key's range, and any other parameter prints nothing
reader_keyed_within : (param : FormatParam) → IsKeyed param ⊎ (param_text param ≡ []) → IsRowInBounds param
reader_keyed_within param h = grind arith

parsed_within : (pair : List ℕ × List ℕ) (param : FormatParam) → IsParsedParam pair param → IsRowInBounds param
parsed_within pair param is = reader_keyed_within param (keyed_or_hidden pair param is)

read_params_within : (pairs : List (List ℕ × List ℕ)) (params : List FormatParam) → AreParsedParams pairs params → All IsRowInBounds params
read_params_within [] [] are = All-nil IsRowInBounds
read_params_within [] (param ∷ params) are = absurd are
read_params_within (pair ∷ pairs) [] are = absurd are
read_params_within (pair ∷ pairs) (param ∷ params) are = grind
    (arith, parsed_within pair param are.0, read_params_within pairs params are.1)

read_triple_within : (texts : TripleTexts) (triple : Option FormatParam) (rest : List FormatParam) → IsTripleParam texts triple
    → All IsRowInBounds rest
    → All IsRowInBounds (cons_option triple rest)
read_triple_within texts triple rest o all = grind arith

read_within : (marked : Bool) (pairs : List (List ℕ × List ℕ)) (params : List FormatParam)
    → MatchBool marked (AreJoinedPairs (pairs_merged pairs) params) (AreParsedParams pairs params) → All IsRowInBounds params
read_within marked pairs params are = grind (arith, read_triple_within, read_params_within)

fmtp_within : (more : List ℕ) (values : List FormatParam)
    → FirstFit IsPairsForm (FirstFit IsListForm (FirstFit IsRangeForm IsAnyFmtp)) more values → All IsRowInBounds values
fmtp_within more values o = grind (arith, read_within)

-- ---- lines

reader_named_keeps : (text : List ℕ) (attr : MediaAttribute) → (any_form media_forms).Is text attr → KeepsToRowLine attr
reader_named_keeps text attr (inl (p, is, e)) = subst KeepsToRowLine (sym e) is.number_is.fits
reader_named_keeps text attr (inr (inl (p, is, e))) = subst KeepsToRowLine (sym e)
    (is.number_is.fits, fmtp_within is.more p.1 is.values_are)
reader_named_keeps text attr (inr (inr is)) = (media_other_whole attr (other_again.passes text attr is)).1

form_keeps : (text : List ℕ) (attr : MediaAttribute) → MediaForm text attr → KeepsToRowLine attr
form_keeps text attr (inl named) = reader_named_keeps text attr named
form_keeps text attr (inr unused) = rw unused.1.1 tt

line_keeps : (lines : List Line) (attr : MediaAttribute) (rest : List Line) → OneLine IsMediaLine lines attr rest → KeepsToRowLine attr
line_keeps lines attr rest is = form_keeps is.3.0 attr is.3.2

-- what each part of a chain has, all values have
all_of_chain : {A : Type 0} (S : List Line → A → List Line → Type 0) (P : A → Type 0)
    → ((lines : List Line) (a : A) (rest : List Line) → S lines a rest → P a)
    → (lines : List Line) (values : List A) (rest : List Line) → Chain S lines values rest → All P values
all_of_chain S P each lines [] rest chain = All-nil P
all_of_chain S P each lines (a ∷ values) rest chain = grind (arith, all_of_chain S P each chain.0 values rest chain.2)

section_keeps : (lines : List Line) (m : MediaLine) (rest : List Line) → ConsistentSection lines m rest → KeepsToRowLines m
section_keeps lines m rest is = search (rules, all_of_chain, line_keeps)

-- the lines of what was read keep to their ranges
reading_keeps : (text : List ℕ) (sdp : Sdp) (rest : List ℕ) → Reading text (sdp, rest) → All KeepsToRowLines sdp.media_lines
reading_keeps text sdp rest is = search (rules, all_of_chain ConsistentSection KeepsToRowLines, section_keeps)

-- so do their rows
pub answer_bounded : (text : List ℕ) (result : Result (Sdp × Bor (List ℕ)) SdpError) → Answers unread result (Reading text)
    → IfOk result (λ read. All HasBoundedRows read.0.media_lines)
answer_bounded text (Ok read) is = λ k d lt. rows_bounded (get_or read.0.media_lines k d) (reading_keeps text read.0 read.1.now is k d lt)
answer_bounded text (Err e) is = tt
