-- What codes say.
use Rattle.lint.specs.declared.code.Change.{Change}
use Rattle.lint.specs.declared.code.Change.TheVariants.{HeaderLine, Protocol, Candidate, Spelling}
use Rattle.lint.specs.declared.code.Code.{Code}
use Rattle.lint.specs.declared.code.Code.TheVariants.{Refused, Unread, Malformed, Unknown, Unseen, Changed, Contradiction, Round}
use Rattle.lint.specs.declared.code.Fate.{Fate}
use Rattle.lint.specs.declared.code.Fate.TheVariants.{RefusedRound}
use Rattle.lint.specs.declared.code.Severity.{Severity}
use Rattle.lint.specs.declared.code.Severity.TheVariants.{Error, Warning, Note}
use Rattle.std.specs.Prelude.{ℕ, Bool, true, false, List, codes}

-- of a change, a note where the other side can't tell, else a warning
abbrev pub severity_of_change : Change → Severity
severity_of_change HeaderLine = Note
severity_of_change Protocol = Note
severity_of_change Candidate = Note
severity_of_change Spelling = Note
severity_of_change _ = Warning

-- what comes of a row is a note, a round that is refused a warning
abbrev pub severity_of_fate : Fate → Severity
severity_of_fate RefusedRound = Warning
severity_of_fate _ = Note

abbrev pub severity_of : Code → Severity
severity_of (Refused refusal) = Error
severity_of (Unread unfit) = Error
severity_of (Malformed misfit) = Warning
severity_of (Unknown unknown) = Note
severity_of (Unseen unseen) = Note
severity_of (Changed change) = severity_of_change change
severity_of (Contradiction conflict) = Warning
severity_of (Round fate) = severity_of_fate fate

-- as reports write it
abbrev pub severity_word : Severity → List ℕ
severity_word Error = codes "error"
severity_word Warning = codes "warning"
severity_word Note = codes "note"

-- the text is refused
abbrev pub is_refusal : Code → Bool
is_refusal (Refused refusal) = true
is_refusal _ = false

-- reading ended there
abbrev pub is_end_code : Code → Bool
is_end_code (Unread unfit) = true
is_end_code _ = false

-- an attribute line is kept unread
abbrev pub is_unread_code : Code → Bool
is_unread_code (Malformed misfit) = true
is_unread_code (Unknown unknown) = true
is_unread_code _ = false

-- a line is printed otherwise than it stands
abbrev pub is_change : Code → Bool
is_change (Changed change) = true
is_change _ = false
