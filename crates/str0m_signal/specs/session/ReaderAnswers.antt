-- What a reader answers.
use Rattle.std.specs.Borrow.{Bor}
use Rattle.std.specs.Prelude.{◌≡◌, ℕ, List, Option, Some, None, Result, Ok, Err}
use Rattle.str0m_sdp.specs.declared.session.error.SdpError.{SdpError}
use Rattle.str0m_sdp.specs.declared.session.error.SdpError.TheVariants.{ParseError, Inconsistent, Memory}

-- a value, and the bytes that are left
abbrev pub unread : {X : Type 0} → X × Bor (List ℕ) → X × List ℕ
unread x = (x.0, x.1.now)

-- a ParseError comes only where no value has P; memory aside
abbrev pub ReaderRefuses : {V : Type 0} → SdpError → (V → Type 0) → Type 0
ReaderRefuses (ParseError message) P = (v : _) → P v → ⊥
ReaderRefuses (Inconsistent message) P = ⊥
ReaderRefuses Memory P = Unit {0}

-- Ok holds a value with P, and what is refused has none
abbrev pub Answers : {X V : Type 0} → (X → V) → Result X SdpError → (V → Type 0) → Type 0
Answers view (Ok x) P = P (view x)
Answers view (Err e) P = ReaderRefuses e P

abbrev pub AtMostOneAnswer : {V : Type 0} → (V → Type 0) → Type 0
AtMostOneAnswer P = (v w : _) → P v → P w → v ≡ w

-- what was read is this, memory aside
abbrev pub GivesRead : {X V : Type 0} → (X → V) → Result X SdpError → Option V → Type 0
GivesRead view (Ok x) read = read ≡ Some (view x)
GivesRead view (Err (ParseError message)) read = read ≡ None
GivesRead view (Err (Inconsistent message)) read = ⊥
GivesRead view (Err Memory) read = Unit {0}

-- a text is refused, or memory ran out
abbrev pub IsReaderRefusal : SdpError → Type 0
IsReaderRefusal (ParseError message) = Unit {0}
IsReaderRefusal (Inconsistent message) = ⊥
IsReaderRefusal Memory = Unit {0}
