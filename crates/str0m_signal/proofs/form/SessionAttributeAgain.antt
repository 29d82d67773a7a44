-- The attributes of a session are read exactly where their forms hold, and are printed as they were read.
use Rattle.str0m_sdp.specs.declared.attribute.SessionAttribute.TheVariants.{Group, Candidate, Fingerprint, Setup, Unused}
use Rattle.str0m_sdp.specs.declared.label.TheConstants as label
use Rattle.str0m_signal.proofs.Common.{arith, ℕ, true, List, ◌++◌, refl, sym, subst, lit≤, inl, inr, session_attribute_text}
use Rattle.str0m_signal.proofs.Common.{SessionAttribute, cuts_reads_first, Reads, session_words}
use Rattle.str0m_signal.proofs.form.FormPiecesAgain.{behind_again}
use Rattle.str0m_signal.proofs.form.FormTableAgain.{KeptFormPiece, PrintsAgain, WholeForm, form_laws_of, quiet_again, made_again}
use Rattle.str0m_signal.proofs.form.FormTableAgain.{form_entire}
use Rattle.str0m_signal.proofs.form.FormTableAgain.{text_kept}
use Rattle.str0m_signal.proofs.form.FormTableAgain.{labelled_form_whole, form_words_whole, all_labelled_forms_whole, any_again}
use Rattle.str0m_signal.proofs.form.FormTableLaws.{LawfulForm, AllOfForms, ◌also◌, any_form_lawful, labelled_form_lawful, made_form_lawful}
use Rattle.str0m_signal.proofs.form.FormTableLaws.{unused_reads}
use Rattle.str0m_signal.proofs.form.MediaAttributeAgain.{setup_role_kept, candidate_lawful, fingerprint_lawful, candidate_back}
use Rattle.str0m_signal.proofs.form.MediaAttributeAgain.{printed_fingerprint}
use Rattle.str0m_signal.proofs.line.AttributesPrinted.{HoldsNoEnd, line_printed}
use Rattle.str0m_signal.proofs.line.LinesLaws.{attribute_both}
use Rattle.str0m_signal.proofs.line.WordsAgain.{IsFilledGroup, group_again, group_filled, meaning_again, meaning_text, names_text}
use Rattle.str0m_signal.proofs.line.WordsCharacterStarts.{StartsWithin, behind_starts}
use Rattle.str0m_signal.proofs.line.WordsLaws.{group_both, msid_semantic_both}
use Rattle.str0m_signal.specs.back.Writable.{IsReadBackLine}
use Rattle.str0m_signal.specs.form.FormTable.{Form, form_led_by}
use Rattle.str0m_signal.specs.form.FormTransport.{candidate, fingerprint}
use Rattle.str0m_signal.specs.form.Forms.{Behind}
use Rattle.str0m_signal.specs.form.SessionAttribute.{session_texts, group, session_forms, session_read, SessionForm, IsSessionLine}
use Rattle.str0m_signal.specs.line.LinesReading.{read_attribute}
use Rattle.str0m_signal.specs.line.Words.{IsGroup, IsMsidSemantic}
use Rattle.str0m_signal.specs.line.WordsReading.{group_fields_read, msid_semantic_fields_read}

abbrev FormComesBack : Form SessionAttribute → Type 0
FormComesBack = PrintsAgain (λ _. Unit {0}) session_attribute_text (λ _. true)

abbrev KeptForm : Form SessionAttribute → Type 0
KeptForm = WholeForm (λ _. Unit {0}) session_attribute_text (λ _. true)

-- no name of a group that was read is empty
group_comes_back : FormComesBack group
group_comes_back =
    made_again (form_led_by label.GROUP.now (record { Is = IsGroup; read = group_fields_read })) (λ g. Group g.0 g.1)
    (λ g. label.GROUP.now ++ names_text g.0 g.1) (λ text g quiet starts fits h.
    let whole = behind_again group_again label.GROUP.now in
    let filled : Behind label.GROUP.now IsFilledGroup text g =
    (h.0, h.1, (h.2, group_filled h.0 g (behind_starts 3 label.GROUP.now h.0 (lit≤ tt) (subst (StartsWithin 3) h.1 starts)) h.2)) in
    let is = whole.form text g filled in
    ((is.0, is.1, is.2.0), quiet_again whole text g quiet filled)) (λ _ _. refl) (λ _. refl)

msid_semantic_kept : KeptFormPiece (record { Is = IsMsidSemantic; read = msid_semantic_fields_read }) meaning_text
msid_semantic_kept = record { reads = msid_semantic_both; again = meaning_again }

session_laws : AllOfForms KeptForm session_forms
session_laws =
    form_words_whole session_words refl refl
    also labelled_form_whole _ Setup setup_role_kept (λ _. refl) (λ _. refl)
    also form_entire (labelled_form_lawful _ _ group_both) group_comes_back
    also labelled_form_whole _ _ msid_semantic_kept (λ _. refl) (λ _. refl)
    also all_labelled_forms_whole text_kept session_texts refl (λ _. refl)
    also form_entire (made_form_lawful Fingerprint fingerprint_lawful)
    (made_again fingerprint Fingerprint _ printed_fingerprint (λ _ _. refl) (λ _. refl))
    also form_entire (made_form_lawful Candidate candidate_lawful)
    (made_again candidate Candidate _ candidate_back (λ _ _. refl) (λ _. refl))
    also tt

pub session_line_both : Reads IsSessionLine (read_attribute session_read)
session_line_both =
    attribute_both (cuts_reads_first
    (any_form_lawful session_forms (form_laws_of KeptForm LawfulForm (λ form law. law.lawful) session_forms session_laws)
    refl).reads (unused_reads Unused))

-- an attribute that a line was read as prints a line that is read as it
pub session_again : (text : List ℕ) (attr : SessionAttribute) → HoldsNoEnd text → StartsWithin 3 text → SessionForm text attr
    → IsReadBackLine IsSessionLine (session_attribute_text attr) attr
session_again text attr quiet starts (inl h) =
    let new = (any_again session_forms (form_laws_of KeptForm FormComesBack (λ form law. law.prints) session_forms session_laws)).again text
    attr
    quiet starts tt h in
    subst (λ (t : List ℕ). IsReadBackLine IsSessionLine t attr) (sym new.1) (line_printed SessionForm new.0 attr new.2 (inl new.3))
session_again text attr quiet starts (inr (none, (filled, e))) = grind (arith, line_printed SessionForm text (Unused text) quiet)
