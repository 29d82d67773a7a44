-- A section's attribute is read exactly where its form holds.
use Rattle.str0m_signal.proofs.Common.{refl, cuts_reads_first, Reads, Unused}
use Rattle.str0m_signal.proofs.form.FmtpLaws.{fmtp_fields_both}
use Rattle.str0m_signal.proofs.form.FormTableAgain.{form_laws_of}
use Rattle.str0m_signal.proofs.form.FormTableLaws.{LawfulForm, AllOfForms, ◌also◌, own_form_lawful, made_form_lawful, unused_reads}
use Rattle.str0m_signal.proofs.form.FormTableLaws.{table_lettered}
use Rattle.str0m_signal.proofs.form.MediaAttributeAgain.{OtherForm, other_form_laws}
use Rattle.str0m_signal.proofs.form.RtpMapLaws.{rtpmap_fields_both}
use Rattle.str0m_signal.proofs.line.LinesLaws.{attribute_both}
use Rattle.str0m_signal.specs.form.MediaAttribute.{other_forms, media_forms, media_form_letters, IsMediaLine, media_read}
use Rattle.str0m_signal.specs.line.LinesReading.{read_attribute}

media_laws : AllOfForms LawfulForm media_forms
media_laws =
    made_form_lawful _ (own_form_lawful _ rtpmap_fields_both (λ text p h. (_, h.joined)))
    also made_form_lawful _ (own_form_lawful _ fmtp_fields_both (λ text p h. (_, h.joined)))
    also form_laws_of OtherForm LawfulForm (λ form law. law.lawful) other_forms other_form_laws

pub media_line_both : Reads IsMediaLine (read_attribute media_read)
media_line_both = attribute_both
    (cuts_reads_first (table_lettered media_form_letters media_forms media_laws refl refl) (unused_reads Unused))
