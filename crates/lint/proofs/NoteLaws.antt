-- What one more finding changes.
use Rattle.lint.proofs.Common.{◌≡◌, ◌||◌, ℕ, Bool, true, false, cond, List, [], ◌∷◌, ◌++◌, Some, None, min, max, refl, ap, ◌∙◌, arith}
use Rattle.lint.proofs.Common.{append-nil, filter_map-append, cons_option, list_any, rows_or_false}
use Rattle.lint.specs.Code.{is_refusal, is_end_code, is_unread_code, is_change}
use Rattle.lint.specs.Findings.{AddsOneFinding, EndsReading, KeepsUnread, OnlyChanges, AddsOtherFindings, end_lines, is_changed, is_refused}
use Rattle.lint.specs.Findings.{lines_kept}
use Rattle.lint.specs.Findings.{line_if}
use Rattle.lint.specs.Findings.{lines_of_kind}
use Rattle.lint.specs.Lines.{IsLineNumber}
use Rattle.lint.specs.declared.code.Change.{Change}
use Rattle.lint.specs.declared.code.Code.{Code}
use Rattle.lint.specs.declared.code.Code.TheVariants.{Refused, Unread, Malformed, Unknown, Unseen, Changed, Contradiction, Round}
use Rattle.lint.specs.declared.code.Conflict.{Conflict}
use Rattle.lint.specs.declared.code.Refusal.{Refusal}
use Rattle.lint.specs.declared.code.Unfit.{Unfit}
use Rattle.lint.specs.declared.code.Unseen.{Unseen as What}
use Rattle.lint.specs.declared.finding.Finding.{Finding}
use Rattle.lint.specs.declared.notes.Notes.{Notes}
use Rattle.std.proofs.lemmas.List.Folds.{list_any-append}

-- one item, or none
abbrev line_once : Bool → ℕ → List ℕ
line_once b n = cond b (n ∷ []) []

note_one_line_alone : (b : Bool) (n : ℕ) → cons_option (cond b (Some n) None) [] ≡ line_once b n
note_one_line_alone true n = refl
note_one_line_alone false n = refl

one_finding_more : (is : Code → Bool) (old : List Finding) (f : Finding)
    → lines_of_kind is (old ++ f ∷ []) ≡ lines_of_kind is old ++ line_once (is f.code) f.line
one_finding_more is old f =
    filter_map-append (line_if is) old (f ∷ []) ∙ ap (λ (t : List ℕ). lines_of_kind is old ++ t) (note_one_line_alone (is f.code) f.line)

note_or_true : (b : Bool) → (b || true) ≡ true
note_or_true true = refl
note_or_true false = refl

-- the lines of a kind with one more finding of a code
added_lines : (is : Code → Bool) (line : ℕ) (code : Code) (old new : Notes) → AddsOneFinding line code old new
    → lines_of_kind is new.findings ≡ lines_of_kind is old.findings ++ line_once (is code) (min (max line 1) old.last)
added_lines is line code old new (f, e, c, l) =
    ap (lines_of_kind is) e ∙ one_finding_more is old.findings f
    ∙ ap (λ (k : Code). lines_of_kind is old.findings ++ line_once (is k) f.line) c
    ∙ ap (λ (n : ℕ). lines_of_kind is old.findings ++ line_once (is code) n) l

-- whether some finding is of a kind, with one more of a code
note_added_finding_any : (is : Code → Bool) (line : ℕ) (code : Code) (old new : Notes) → AddsOneFinding line code old new
    → list_any (λ finding. is finding.code) new.findings ≡ (list_any (λ finding. is finding.code) old.findings || is code)
note_added_finding_any is line code old new (f, e, c, l) =
    ap (list_any (λ finding. is finding.code)) e ∙ list_any-append (λ finding. is finding.code) old.findings (f ∷ [])
    ∙ ap (λ (b : Bool). list_any (λ finding. is finding.code) old.findings || b) (rows_or_false (is f.code))
    ∙ ap (λ (k : Code). list_any (λ finding. is finding.code) old.findings || is k) c

added_refusal : (line : ℕ) (code : Code) (old new : Notes) → AddsOneFinding line code old new
    → is_refused new.findings ≡ (is_refused old.findings || is_refusal code)
added_refusal = note_added_finding_any is_refusal

added_change : (line : ℕ) (code : Code) (old new : Notes) → AddsOneFinding line code old new
    → is_changed new.findings ≡ (is_changed old.findings || is_change code)
added_change = note_added_finding_any is_change

-- a finding of a kind of which no clause counts the lines
pub keeps_none : (line : ℕ) (what : What) (old new : Notes) → AddsOneFinding line (Unseen what) old new → new.last ≡ old.last
    → KeepsUnread [] old new
keeps_none line what old new a last = record {
  kept_are = added_lines is_unread_code line (Unseen what) old new a;
  ends_stay = added_lines is_end_code line (Unseen what) old new a ∙ append-nil (end_lines old.findings);
  refused_stays = added_refusal line (Unseen what) old new a ∙ rows_or_false (is_refused old.findings);
  changed_stays = added_change line (Unseen what) old new a ∙ rows_or_false (is_changed old.findings);
  last_stays = last;
}

note_clamped : (last line : ℕ) → IsLineNumber last line → min (max line 1) last ≡ line
note_clamped last line h = omega arith

-- a line that is kept unread
pub unread_line_is_kept : (line : ℕ) (code : Code) (old new : Notes) → is_unread_code code ≡ true → IsLineNumber old.last line
    → AddsOneFinding line code old new → new.last ≡ old.last
    → KeepsUnread (line ∷ []) old new
unread_line_is_kept line (Malformed misfit) old new is here a last = record {
  kept_are = added_lines is_unread_code line (Malformed misfit) old new a
      ∙ ap (λ (n : ℕ). lines_kept old.findings ++ n ∷ []) (note_clamped old.last line here);
  ends_stay = added_lines is_end_code line (Malformed misfit) old new a ∙ append-nil (end_lines old.findings);
  refused_stays = added_refusal line (Malformed misfit) old new a ∙ rows_or_false (is_refused old.findings);
  changed_stays = added_change line (Malformed misfit) old new a ∙ rows_or_false (is_changed old.findings);
  last_stays = last;
}
unread_line_is_kept line (Unknown unknown) old new is here a last = record {
  kept_are = added_lines is_unread_code line (Unknown unknown) old new a
      ∙ ap (λ (n : ℕ). lines_kept old.findings ++ n ∷ []) (note_clamped old.last line here);
  ends_stay = added_lines is_end_code line (Unknown unknown) old new a ∙ append-nil (end_lines old.findings);
  refused_stays = added_refusal line (Unknown unknown) old new a ∙ rows_or_false (is_refused old.findings);
  changed_stays = added_change line (Unknown unknown) old new a ∙ rows_or_false (is_changed old.findings);
  last_stays = last;
}
unread_line_is_kept line (Refused refusal) old new is here a last = absurd cc
unread_line_is_kept line (Unread unfit) old new is here a last = absurd cc
unread_line_is_kept line (Unseen what) old new is here a last = absurd cc
unread_line_is_kept line (Changed change) old new is here a last = absurd cc
unread_line_is_kept line (Contradiction conflict) old new is here a last = absurd cc
unread_line_is_kept line (Round fate) old new is here a last = absurd cc

-- the line at which reading ends
pub one_end_noted : (line : ℕ) (unfit : Unfit) (old new : Notes) → IsLineNumber old.last line → AddsOneFinding line (Unread unfit) old new
    → new.last ≡ old.last
    → EndsReading line old new
one_end_noted line unfit old new here a last = record {
  ends_are = added_lines is_end_code line (Unread unfit) old new a
      ∙ ap (λ (n : ℕ). end_lines old.findings ++ n ∷ []) (note_clamped old.last line here);
  kept_stay = added_lines is_unread_code line (Unread unfit) old new a ∙ append-nil (lines_kept old.findings);
  refused_stays = added_refusal line (Unread unfit) old new a ∙ rows_or_false (is_refused old.findings);
  last_stays = last;
}

-- the text is refused
pub note_refuses : (line : ℕ) (refusal : Refusal) (old new : Notes) → AddsOneFinding line (Refused refusal) old new
    → is_refused new.findings ≡ true
note_refuses line refusal old new a = added_refusal line (Refused refusal) old new a ∙ note_or_true (is_refused old.findings)

-- a line that is printed otherwise
pub changes_one : (line : ℕ) (change : Change) (old new : Notes) → AddsOneFinding line (Changed change) old new → OnlyChanges old new
changes_one line change old new a = record {
  kept_stay = added_lines is_unread_code line (Changed change) old new a ∙ append-nil (lines_kept old.findings);
  ends_stay = added_lines is_end_code line (Changed change) old new a ∙ append-nil (end_lines old.findings);
  refused_stays = added_refusal line (Changed change) old new a ∙ rows_or_false (is_refused old.findings);
}

pub says_change : (line : ℕ) (change : Change) (old new : Notes) → AddsOneFinding line (Changed change) old new
    → is_changed new.findings ≡ true
says_change line change old new a = added_change line (Changed change) old new a ∙ note_or_true (is_changed old.findings)

pub changes_none : (old : Notes) → OnlyChanges old old
changes_none old = record { kept_stay = refl; ends_stay = refl; refused_stays = refl }

pub changes_more : (old mid new : Notes) → OnlyChanges old mid → OnlyChanges mid new → OnlyChanges old new
changes_more old mid new c d = record {
  kept_stay = d.kept_stay ∙ c.kept_stay;
  ends_stay = d.ends_stay ∙ c.ends_stay;
  refused_stays = d.refused_stays ∙ c.refused_stays;
}

-- a line that contradicts others
pub one_conflict_noted : (line : ℕ) (conflict : Conflict) (old new : Notes) → AddsOneFinding line (Contradiction conflict) old new
    → AddsOtherFindings old new
one_conflict_noted line conflict old new a = record {
  only = record {
    kept_stay = added_lines is_unread_code line (Contradiction conflict) old new a ∙ append-nil (lines_kept old.findings);
    ends_stay = added_lines is_end_code line (Contradiction conflict) old new a ∙ append-nil (end_lines old.findings);
    refused_stays = added_refusal line (Contradiction conflict) old new a ∙ rows_or_false (is_refused old.findings);
  };
  changed_stays = added_change line (Contradiction conflict) old new a ∙ rows_or_false (is_changed old.findings);
}

pub no_conflict_noted : (old : Notes) → AddsOtherFindings old old
no_conflict_noted old = record { only = changes_none old; changed_stays = refl }

pub more_conflicts_noted : (old mid new : Notes) → AddsOtherFindings old mid → AddsOtherFindings mid new → AddsOtherFindings old new
more_conflicts_noted old mid new c d = record {
  only = changes_more old mid new c.only d.only;
  changed_stays = d.changed_stays ∙ c.changed_stays;
}
