-- What findings say of a text.
use Rattle.lint.specs.Code.{is_refusal, is_end_code, is_unread_code, is_change}
use Rattle.lint.specs.Kept.{is_unread, kept_at, kept_flags}
use Rattle.lint.specs.Lines.{attribute_numbers, unread_lines}
use Rattle.lint.specs.Prelude.{Line, Reading, Sdp, lines_of, sdp_text}
use Rattle.lint.specs.Told.{NothingLost, told_of}
use Rattle.lint.specs.declared.code.Code.{Code}
use Rattle.lint.specs.declared.finding.Finding.{Finding}
use Rattle.lint.specs.declared.mark.Mark.{Mark}
use Rattle.lint.specs.declared.notes.Notes.{Notes}
use Rattle.std.specs.Borrow.{Bor}
use Rattle.std.specs.List.{list_any}
use Rattle.std.specs.Prelude.{◌≡◌, ◌↔◌, ◌+◌, ℕ, Bool, true, false, List, [], ◌∷◌, ◌++◌, Option, Some, None, filter_map, map, max, min, if◌then◌else◌}
use Rattle.str0m_sdp.specs.declared.session.error.SdpError.{SdpError}
use Rattle.str0m_sdp.specs.declared.session.error.SdpError.TheVariants.{ParseError, Inconsistent, Memory}

-- the line of a finding whose code is such a one
abbrev pub line_if : (Code → Bool) → Finding → Option ℕ
line_if is finding = if is finding.code then Some finding.line else None

-- the lines of such findings, in order
abbrev pub lines_of_kind : (Code → Bool) → List Finding → List ℕ
lines_of_kind is findings = filter_map (line_if is) findings

-- the lines at which reading is said to end
abbrev pub end_lines : List Finding → List ℕ
end_lines findings = lines_of_kind is_end_code findings

-- those that are said to be kept unread
abbrev pub lines_kept : List Finding → List ℕ
lines_kept findings = lines_of_kind is_unread_code findings

-- the text is said to be refused
abbrev pub is_refused : List Finding → Bool
is_refused findings = list_any (λ finding. is_refusal finding.code) findings

-- a line is said to be printed otherwise than it stands
abbrev pub is_changed : List Finding → Bool
is_changed findings = list_any (λ finding. is_change finding.code) findings

-- nothing is said to be lost: no refusal, no end of reading, no line that is printed otherwise
pub record AreFindingsSilent (findings : List Finding) : Type 0 where
  pub not_refused : is_refused findings ≡ false
  pub no_end : end_lines findings ≡ []
  pub not_changed : is_changed findings ≡ false

-- one finding is added, at this line where the text has it
abbrev pub AddsOneFinding : ℕ → Code → Notes → Notes → Type 0
AddsOneFinding line code old new =
    (finding : Finding) × (new.findings ≡ old.findings ++ finding ∷ []) × (finding.code ≡ code) × (finding.line ≡ min (max line 1) old.last)

-- such findings are added, in order: of lines that are kept unread, of these alone, and none that refuses the text, ends the reading or says
-- that a line is printed otherwise
pub record KeepsUnread (lines : List ℕ) (old new : Notes) : Type 0 where
  pub kept_are : lines_kept new.findings ≡ lines_kept old.findings ++ lines
  pub ends_stay : end_lines new.findings ≡ end_lines old.findings
  pub refused_stays : is_refused new.findings ≡ is_refused old.findings
  pub changed_stays : is_changed new.findings ≡ is_changed old.findings
  pub last_stays : new.last ≡ old.last

-- findings are added of lines that are printed otherwise, and no others
pub record OnlyChanges (old new : Notes) : Type 0 where
  pub kept_stay : lines_kept new.findings ≡ lines_kept old.findings
  pub ends_stay : end_lines new.findings ≡ end_lines old.findings
  pub refused_stays : is_refused new.findings ≡ is_refused old.findings

-- findings are added, none of which any of these is about
pub record AddsOtherFindings (old new : Notes) : Type 0 where
  pub only : OnlyChanges old new
  pub changed_stays : is_changed new.findings ≡ is_changed old.findings

-- one finding is added: reading ends at this line
pub record EndsReading (line : ℕ) (old new : Notes) : Type 0 where
  pub ends_are : end_lines new.findings ≡ end_lines old.findings ++ line ∷ []
  pub kept_stay : lines_kept new.findings ≡ lines_kept old.findings
  pub refused_stays : is_refused new.findings ≡ is_refused old.findings
  pub last_stays : new.last ≡ old.last

-- the numbers of the attribute lines of a text that its description keeps unread
abbrev pub kept_numbers : List ℕ → Sdp → List ℕ
kept_numbers text sdp = kept_at (kept_flags sdp) (attribute_numbers 1 (lines_of text))

-- of a text that is read so, with this rest, findings are added of the lines that are kept unread, and of the end where there is a rest; where
-- there is none, some line is said to be printed otherwise exactly where the lines don't say what is printed
pub record TellsUnread (text : List ℕ) (sdp : Sdp) (rest : List ℕ) (old new : Notes) : Type 0 where
  pub kept_are : lines_kept new.findings ≡ lines_kept old.findings ++ kept_numbers text sdp
  pub ends_are : end_lines new.findings ≡ end_lines old.findings ++ unread_lines text rest
  pub refused_stays : is_refused new.findings ≡ is_refused old.findings
  pub changed : rest ≡ [] → is_changed old.findings ≡ false → (is_changed new.findings ≡ false) ↔ (told_of text ≡ told_of (sdp_text sdp))
  pub last_stays : new.last ≡ old.last

-- what is said of a line, by the attributes that were left before it and those that are left after it: the numbers of lines that are kept
-- unread begin with the line's own, if it is one
pub record NotesLine (number : ℕ) (content : List ℕ) (left more : List Mark) (old new : Notes) : Type 0 where
  pub own : List ℕ
  pub keeps : KeepsUnread own old new
  pub rest_are : (ending : List ℕ) (lines : List Line)
      → kept_at (map is_unread left) (attribute_numbers number (record { content = content; ending = ending } ∷ lines))
      ≡ own ++ kept_at (map is_unread more) (attribute_numbers (number + 1) lines)

-- the text is refused; or it is read so, with this rest
abbrev pub ReadsAs : List ℕ → Option (Sdp × Bor (List ℕ)) → Type 0
ReadsAs text None = (v : Sdp × List ℕ) → Reading text v → ⊥
ReadsAs text (Some x) = Reading text (x.0, x.1.now)

abbrev pub IsNotOutOfMemory : SdpError → Type 0
IsNotOutOfMemory (ParseError message) = Unit {0}
IsNotOutOfMemory (Inconsistent message) = Unit {0}
IsNotOutOfMemory Memory = ⊥

-- the findings are those of the text, whatever it is read as: whether it is refused, where reading ends, which lines are kept unread, and
-- whether anything is lost
pub record AreFindingsOf (text : List ℕ) (findings : List Finding) : Type 0 where
  pub refused : (is_refused findings ≡ true) ↔ ((v : Sdp × List ℕ) → Reading text v → ⊥)
  pub unread : (sdp : Sdp) (rest : List ℕ) → Reading text (sdp, rest) → end_lines findings ≡ unread_lines text rest
  pub kept_are : (sdp : Sdp) (rest : List ℕ) → Reading text (sdp, rest) → lines_kept findings ≡ kept_numbers text sdp
  pub silent : AreFindingsSilent findings ↔ NothingLost text
