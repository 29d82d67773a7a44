-- What a fault says of the input.
use Rattle.show.specs.Faults.{IsFaultyText, IsFaultOfReading, IsFaultOfInput, IsFaultOf}
use Rattle.show.specs.Run.{RunInputDescribes}
use Rattle.show.specs.declared.fault.Fault.{Fault}
use Rattle.show.specs.declared.fault.Fault.TheVariants.{Refused, NotUtf8, Unreadable, Unwritable}
use Rattle.std.proofs.Common.{◌≡◌, ℕ, List, Option, Some, None, IfSome, Result, Ok, Err, IfErr, subst, sym}
use Rattle.std.specs.Str.{IsUtf8}
use Rattle.str0m_sdp.specs.declared.session.error.SdpError.{SdpError}
use Rattle.str0m_sdp.specs.declared.session.error.SdpError.TheVariants.{ParseError, Inconsistent, Memory}
use Rattle.str0m_signal.specs.session.Reader.{DescribesSession}
use Rattle.str0m_signal.specs.session.ReaderAnswers.{ReaderRefuses}

-- what was read whole, and is no text
pub fault_of_no_text : (held : Option (List ℕ)) (bytes : List ℕ) → IfSome held (λ known. bytes ≡ known) → (IsUtf8 bytes → ⊥)
    → IsFaultyText held
fault_of_no_text None bytes is none = tt
fault_of_no_text (Some known) bytes is none = subst (λ (b : List ℕ). IsUtf8 b → ⊥) is none

-- what is wrong while bytes are read is wrong with the input
pub of_reading : (held : Option (List ℕ)) (fault : Fault) → IsFaultOfReading fault → IsFaultOfInput held fault
of_reading held (Refused refusal) is = is
of_reading held NotUtf8 is = absurd is
of_reading held Unreadable is = tt
of_reading held Unwritable is = absurd is

pub fault_of_input : (held : Option (List ℕ)) (fault : Fault) → IsFaultOfInput held fault → IsFaultOf held fault
fault_of_input held (Refused (ParseError message)) is = absurd is
fault_of_input held (Refused (Inconsistent message)) is = absurd is
fault_of_input held (Refused Memory) is = tt
fault_of_input held NotUtf8 is = is
fault_of_input held Unreadable is = tt
fault_of_input held Unwritable is = absurd is

pub fault_of_refusal : (held : Option (List ℕ)) (bytes : List ℕ) (refusal : SdpError) → IfSome held (λ known. bytes ≡ known)
    → ReaderRefuses refusal (DescribesSession bytes) → IsFaultOf held (Refused refusal)
fault_of_refusal held bytes (ParseError message) is none = (bytes, is, none)
fault_of_refusal held bytes (Inconsistent message) is none = none
fault_of_refusal held bytes Memory is none = tt

-- the only fault of writing, where what is read describes a session
pub fault_of_unwritten : {T : Type 0} (held : Option (List ℕ)) (result : Result T Fault) → IfErr result (λ fault. fault ≡ Unwritable)
    → RunInputDescribes held → IfErr result (IsFaultOf held)
fault_of_unwritten held (Ok x) is described = tt
fault_of_unwritten held (Err fault) is described = subst (IsFaultOf held) (sym is) described
