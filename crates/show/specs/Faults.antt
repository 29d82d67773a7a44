-- Why a run of the program fails, and the line that says so.
use Rattle.show.specs.Run.{RunInputDescribes}
use Rattle.show.specs.declared.fault.Fault.{Fault}
use Rattle.show.specs.declared.fault.Fault.TheVariants.{Refused, NotUtf8, Unreadable, Unwritable}
use Rattle.std.specs.Prelude.{◌≡◌, ◌++◌, ℕ, List, Option, IfSome, codes, IsUtf8}
use Rattle.str0m_sdp.specs.declared.session.Sdp.{Sdp}
use Rattle.str0m_sdp.specs.declared.session.error.SdpError.{SdpError}
use Rattle.str0m_sdp.specs.declared.session.error.SdpError.TheVariants.{ParseError, Inconsistent, Memory}
use Rattle.str0m_sdp.specs.session.Error.{error_text}
use Rattle.str0m_signal.specs.session.Reader.{DescribesSession}

-- what is said of it; of a refusal, its own text
abbrev pub shown_fault : Fault → List ℕ
shown_fault (Refused refusal) = error_text refusal
shown_fault NotUtf8 = codes "input is not UTF-8"
shown_fault Unreadable = codes "cannot read input"
shown_fault Unwritable = codes "cannot write output"

-- the line that says it
abbrev pub fault_line : Fault → List ℕ
fault_line fault = shown_fault fault ++ codes "\n"

-- the line that says how the program is called
abbrev pub usage_line : List ℕ
usage_line = codes "usage: sdpshow text|rows|negotiate\n"

-- what a reader holds, where that is known, is no text
abbrev pub IsFaultyText : Option (List ℕ) → Type 0
IsFaultyText held = IfSome held (λ bytes. IsUtf8 bytes → ⊥)

abbrev pub IsMemoryFault : SdpError → Type 0
IsMemoryFault (ParseError message) = ⊥
IsMemoryFault (Inconsistent message) = ⊥
IsMemoryFault Memory = Unit {0}

-- what may be wrong while bytes are read, whatever they are
abbrev pub IsFaultOfReading : Fault → Type 0
IsFaultOfReading (Refused refusal) = IsMemoryFault refusal
IsFaultOfReading NotUtf8 = ⊥
IsFaultOfReading Unreadable = Unit {0}
IsFaultOfReading Unwritable = ⊥

-- what may be wrong with the input itself
abbrev pub IsFaultOfInput : Option (List ℕ) → Fault → Type 0
IsFaultOfInput held (Refused refusal) = IsMemoryFault refusal
IsFaultOfInput held NotUtf8 = IsFaultyText held
IsFaultOfInput held Unreadable = Unit {0}
IsFaultOfInput held Unwritable = ⊥

-- what a reader holds, where that is known, describes no session
abbrev pub IsFaultyDescription : Option (List ℕ) → Type 0
IsFaultyDescription held = (bytes : List ℕ) × IfSome held (λ known. bytes ≡ known) × ((sdp : Sdp) → DescribesSession bytes sdp → ⊥)

-- what a refusal says of what was read
abbrev pub IsFaultOfRefusal : Option (List ℕ) → SdpError → Type 0
IsFaultOfRefusal held (ParseError message) = IsFaultyDescription held
IsFaultOfRefusal held (Inconsistent message) = ⊥
IsFaultOfRefusal held Memory = Unit {0}

-- what a fault says of the input; the output is written only where the input describes a session
abbrev pub IsFaultOf : Option (List ℕ) → Fault → Type 0
IsFaultOf held (Refused refusal) = IsFaultOfRefusal held refusal
IsFaultOf held NotUtf8 = IsFaultyText held
IsFaultOf held Unreadable = Unit {0}
IsFaultOf held Unwritable = RunInputDescribes held
