-- Why a call of an exchange of offers and answers is refused, as C is told.
use Rattle.c_parts.specs.declared.fault.Fault.{Fault}
use Rattle.c_parts.specs.declared.fault.Fault.TheVariants.{NotUtf8, NoFingerprint, NoCandidate, Refused}
use Rattle.exchange.specs.declared.state.exchange_error.ExchangeError.{ExchangeError}
use Rattle.exchange.specs.declared.state.exchange_error.ExchangeError.TheVariants.{NotRead, Unread, WrongState, DoesNotFit, NoRows, NoChannels, NoName, NotPrintable, Memory}
use Rattle.std.specs.Prelude.{◌≡◌, ℕ, List, IsUtf8}

-- the number of an error (`zax_status`)
abbrev pub fault_code_of_error : ExchangeError → ℕ
fault_code_of_error (NotRead cause) = 1
fault_code_of_error Memory = 3
fault_code_of_error (WrongState state) = 8
fault_code_of_error (Unread line content) = 9
fault_code_of_error (DoesNotFit section broken) = 10
fault_code_of_error NotPrintable = 11
fault_code_of_error NoRows = 12
fault_code_of_error NoChannels = 13
fault_code_of_error NoName = 14

abbrev pub fault_code : Fault → ℕ
fault_code NotUtf8 = 2
fault_code NoFingerprint = 15
fault_code NoCandidate = 15
fault_code (Refused error) = fault_code_of_error error

-- the line at fault, counted from 1; 0 where it isn't a line
abbrev pub fault_line_of_error : ExchangeError → ℕ
fault_line_of_error (Unread line content) = line
fault_line_of_error _ = 0

abbrev pub line_of_fault : Fault → ℕ
line_of_fault (Refused error) = fault_line_of_error error
line_of_fault _ = 0

-- a call is refused for a fault that is so, and tells its number
abbrev pub ToldFault : (Fault → Type 0) → ℕ → Type 0
ToldFault P status = (fault : Fault) × P fault × (status ≡ fault_code fault)

-- its number, and its line
abbrev pub FaultToldAt : (Fault → Type 0) → ℕ → ℕ → Type 0
FaultToldAt P status line = (fault : Fault) × P fault × (status ≡ fault_code fault) × (line ≡ line_of_fault fault)

-- what a call refuses that takes no text
abbrev pub FaultRefusesCall : (ExchangeError → Type 0) → Fault → Type 0
FaultRefusesCall P (Refused error) = P error
FaultRefusesCall P _ = ⊥

-- what a call refuses that takes a text
abbrev pub FaultRefusesBytes : List ℕ → (ExchangeError → Type 0) → Fault → Type 0
FaultRefusesBytes text P (Refused error) = P error
FaultRefusesBytes text P NotUtf8 = IsUtf8 text → ⊥
FaultRefusesBytes text P _ = ⊥
