-- Why a text isn't read.
use Rattle.c_parts.specs.declared.reading.Refusal.{Refusal}
use Rattle.c_parts.specs.declared.reading.Refusal.TheVariants.{NotUtf8, Refused}
use Rattle.std.specs.Prelude.{ℕ, List, IsUtf8}
use Rattle.str0m_signal.specs.session.Reader.{DescribesSession}
use Rattle.str0m_signal.specs.session.ReaderAnswers.{ReaderRefuses}

-- the bytes are no text, or the reader refuses them: memory aside, they describe no session
abbrev pub RefusesReading : Refusal → List ℕ → Type 0
RefusesReading NotUtf8 text = IsUtf8 text → ⊥
RefusesReading (Refused error) text = ReaderRefuses error (DescribesSession text)
