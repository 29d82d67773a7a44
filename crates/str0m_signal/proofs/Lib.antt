pub mod Common
-- What crates above name of the laws of rooms, which are private as their code is.
pub use Rattle.str0m_signal.proofs.back.ReadBackRowLines.{named_mapping_read_back}
pub use Rattle.str0m_signal.proofs.form.FmtpAgain.{keyed_values_read}
pub use Rattle.str0m_signal.proofs.form.FormTableLaws.{form_tail_is}
pub use Rattle.str0m_signal.proofs.form.MediaAttributePlain.{IsMediaText, is_media_word, media_extension_read, media_hash_read}
pub use Rattle.str0m_signal.proofs.form.MediaAttributePlain.{media_mid_read}
pub use Rattle.str0m_signal.proofs.form.MediaAttributePlain.{media_options_read, media_password_read, media_port_read, media_role_read}
pub use Rattle.str0m_signal.proofs.form.MediaAttributePlain.{media_size_read, media_stream_read, media_ufrag_read, media_word_read}
pub use Rattle.str0m_signal.proofs.form.RtpMapPrinted.{feedback_printed}
pub use Rattle.str0m_signal.proofs.line.AttributesPrinted.{LinesReadAs}
pub use Rattle.str0m_signal.proofs.line.LinesAgain.{IsPlainHead, head_of, plain_head_line}
pub use Rattle.str0m_signal.proofs.line.LinesLaws.{attribute_both, line_here, line_without_suffix}
pub use Rattle.str0m_signal.proofs.line.LinesPrinted.{lines_joined-append}
pub use Rattle.str0m_signal.proofs.line.LinesWhole.{line_whole_read}
pub use Rattle.str0m_signal.proofs.line.PartLaws.{part_cut_shorter}
pub use Rattle.str0m_signal.proofs.session.ReaderAnswerLaws.{first_line_one}
pub use Rattle.str0m_signal.proofs.session.ReaderLineNumbers.{line_feeds, line_number}
pub use Rattle.str0m_signal.proofs.session.ReaderPrinted.{read_of, versioned_reading_printed}
pub use Rattle.str0m_signal.proofs.session.ReaderRestLaws.{reading_leaves}
pub use Rattle.str0m_signal.proofs.session.Sections.{AreSectionsRead, SectionReadAs}
