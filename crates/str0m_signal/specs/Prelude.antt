-- What definitions and clauses cite of the crates below, passed on from one place. Declares nothing.
pub use Rattle.str0m_formats.specs.codec.Codec.{IsReadAsCodec, codec_of}
pub use Rattle.str0m_formats.specs.declared.format.format_param.FormatParam.{FormatParam}
pub use Rattle.str0m_formats.specs.declared.row.payload_params.PayloadParams.{PayloadParams}
pub use Rattle.str0m_formats.specs.format.FormatParam.{IsEventRange, pair_texts}
pub use Rattle.str0m_formats.specs.round.Claimed.{AllTypesDistinct}
pub use Rattle.str0m_formats.specs.row.PayloadParams.{SameRow, types}
pub use Rattle.str0m_formats.specs.row.PlainRow.{IsPlain}
pub use Rattle.str0m_sdp.specs.attribute.Attribute.{media_attribute_text, media_words, session_attribute_text, session_words}
pub use Rattle.str0m_sdp.specs.attribute.Bandwidth.{bandwidth_text}
pub use Rattle.str0m_sdp.specs.attribute.MediaType.{is_media}
pub use Rattle.str0m_sdp.specs.attribute.Setup.{setup_text}
pub use Rattle.str0m_sdp.specs.declared.attribute.MediaAttribute.{MediaAttribute}
pub use Rattle.str0m_sdp.specs.declared.attribute.SessionAttribute.{SessionAttribute}
pub use Rattle.str0m_sdp.specs.declared.attribute.bandwidth.Bandwidth.{Bandwidth}
pub use Rattle.str0m_sdp.specs.declared.attribute.media_type.MediaType.{MediaType}
pub use Rattle.str0m_sdp.specs.declared.attribute.proto.Proto.{Proto}
pub use Rattle.str0m_sdp.specs.declared.attribute.simulcast.RestrictionId.{RestrictionId}
pub use Rattle.str0m_sdp.specs.declared.attribute.simulcast.Simulcast.{Simulcast}
pub use Rattle.str0m_sdp.specs.declared.attribute.simulcast.SimulcastLayer.{SimulcastLayer}
pub use Rattle.str0m_sdp.specs.declared.section.media_line.MediaLine.{MediaLine}
pub use Rattle.str0m_sdp.specs.declared.session.Sdp.{Sdp}
pub use Rattle.str0m_sdp.specs.form.Printed.{printed_line_end}
pub use Rattle.str0m_sdp.specs.section.Consistency.{Consistent, is_direction, is_mid, is_setup}
pub use Rattle.str0m_sdp.specs.section.MadeSection.{is_of_type, made}
pub use Rattle.str0m_sdp.specs.section.SectionRows.{HasBoundedRows, NamesOnePrimaryRow, rows}
pub use Rattle.str0m_sdp.specs.session.Session.{IsSessionNumber, sdp_text}
pub use Rattle.str0m_values.specs.Address.{PartedAddress}
pub use Rattle.str0m_values.specs.Candidate.{IsCandidateText}
pub use Rattle.str0m_values.specs.CandidateReading.{candidate_read}
pub use Rattle.str0m_values.specs.Cuts.{IsTheOnly, before, cut, is_rest, lacks, num, parts, strip, when, ◌<|>◌, ◌>>=◌}
pub use Rattle.str0m_values.specs.CutsParts.{FirstFit, IsNum, IsPt, IsRest, IsWithout, IsWord, Lacks}
pub use Rattle.str0m_values.specs.Separator.{code}
pub use Rattle.str0m_values.specs.ShortText.{IsLongestShortText, text_beginning_of}
pub use Rattle.str0m_values.specs.Words.{case_of}
pub use Rattle.str0m_values.specs.declared.candidate.Candidate.{Candidate}
pub use Rattle.str0m_values.specs.declared.direction.Direction.{Direction}
pub use Rattle.str0m_values.specs.declared.fingerprint.Fingerprint.{Fingerprint}
pub use Rattle.str0m_values.specs.declared.media_kind.MediaKind.{MediaKind}
