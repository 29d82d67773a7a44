-- What one reading says of a description that may be read back.
use Rattle.exchange.proofs.Common.{◌≡◌, ◌≢◌, ℕ, List, [], Option, None, Some, Result, Ok, Err, IfOk, IfSome, MatchOption, ap, subst, sym}
use Rattle.exchange.proofs.Common.{refl, Sdp, SdpError, ParseError, Inconsistent, Memory, Reading, AtMostOneAnswer, ReaderRefuses}
use Rattle.exchange.specs.state.ReadBack.{IsWholeReadAs, IsReadBack}

-- what a reading of the text says of the description, where one was found
abbrev pub TellsReadBack : Sdp → List ℕ → Option Sdp → Type 0
TellsReadBack said text found = MatchOption found (IsReadBack said text → ⊥) (λ read. IsReadBack said text)

-- the text has one reading: so it is read back where this one is
pub read_back_so : (said : Sdp) (text : List ℕ) (read : Sdp) (rest : List ℕ) (found : Option Sdp) → Reading text (read, rest)
    → AtMostOneAnswer (Reading text)
    → MatchOption found ((rest ≡ []) × IsWholeReadAs said read → ⊥) (λ whole. (whole ≡ read) × (rest ≡ []) × IsWholeReadAs said read)
    → TellsReadBack said text found
read_back_so said text read rest None reading one lost = λ back.
    let same : (read, rest) ≡ (back.0, []) = one (read, rest) (back.0, []) reading back.1 in
    lost (
      ap (λ (found : Sdp × List ℕ). found.1) same,
      subst (λ (other : Sdp). IsWholeReadAs said other)
          (sym (ap (λ (found : Sdp × List ℕ). found.0) same)) back.2,
    )
read_back_so said text read rest (Some whole) reading one (same, none_left, alike) = (
  read,
  subst (λ (left : List ℕ). Reading text (read, left)) none_left reading,
  alike,
)

-- where it is, it is alike
pub read_back_alike_so : (said read : Sdp) (rest : List ℕ) (found : Option Sdp)
    → MatchOption found ((rest ≡ []) × IsWholeReadAs said read → ⊥) (λ whole. (whole ≡ read) × (rest ≡ []) × IsWholeReadAs said read)
    → IfSome found (IsWholeReadAs said)
read_back_alike_so said read rest None lost = tt
read_back_alike_so said read rest (Some whole) (same, none_left, alike) = subst (λ (other : Sdp). IsWholeReadAs said other) (sym same) alike

-- a text that is refused has none
pub read_back_refused_so : {E : Type 0} (said : Sdp) (text : List ℕ) (error : SdpError) (r : Result (Option Sdp) E)
    → ReaderRefuses error (Reading text)
    → IfOk r (λ found. (found ≡ None) × (error ≢ Memory)) → IfOk r (TellsReadBack said text)
read_back_refused_so said text error (Err e) refuses told = tt
read_back_refused_so said text (ParseError message) (Ok found) refuses told =
    subst (TellsReadBack said text) (sym told.0) (λ back. refuses (back.0, []) back.1)
read_back_refused_so said text (Inconsistent message) (Ok found) refuses told = absurd refuses
read_back_refused_so said text Memory (Ok found) refuses told = absurd (told.1 refl)

pub none_read_back : {E : Type 0} (said : Sdp) (error : SdpError) (r : Result (Option Sdp) E)
    → IfOk r (λ found. (found ≡ None) × (error ≢ Memory)) → IfOk r (λ found. IfSome found (IsWholeReadAs said))
none_read_back said error (Err e) told = tt
none_read_back said error (Ok found) told = subst (λ (o : Option Sdp). IfSome o (IsWholeReadAs said)) (sym told.0) tt

-- what was found is read back
pub found_back : (said : Sdp) (text : List ℕ) (found : Option Sdp) (read : Sdp) → found ≡ Some read → TellsReadBack said text found
    → IsReadBack said text
found_back said text found read is told = subst (TellsReadBack said text) is told

-- and alike
pub read_back_found_alike : (said : Sdp) (found : Option Sdp) (read : Sdp) → found ≡ Some read → IfSome found (IsWholeReadAs said)
    → IsWholeReadAs said read
read_back_found_alike said found read is alike = subst (λ (o : Option Sdp). IfSome o (IsWholeReadAs said)) is alike

-- a copy that was found is what was said, and is read back
pub read_back_copied : (said : Sdp) (text : List ℕ) (found : Option Sdp) (copy : Sdp) → found ≡ Some copy
    → MatchOption found (IsReadBack said text → ⊥) (λ it. (it ≡ said) × IsReadBack said text) → (copy ≡ said) × IsReadBack said text
read_back_copied said text found copy is told =
    subst (λ (other : Option Sdp). MatchOption other (IsReadBack said text → ⊥) (λ it. (it ≡ said) × IsReadBack said text)) is told
