-- What definitions and clauses cite of the crates below, passed on from one place. Declares nothing.
pub use Rattle.str0m_formats.specs.declared.row.payload_params.PayloadParams.{PayloadParams}
pub use Rattle.str0m_formats.specs.round.Claimed.{AllTypesDistinct, has}
pub use Rattle.str0m_formats.specs.round.RoundsPromises.{LockedStay, RoundsRunPromises}
pub use Rattle.str0m_formats.specs.round.RoundsRuns.{OutcomeOfRound, RunReached}
pub use Rattle.str0m_formats.specs.row.KindRows.{kind_rows}
pub use Rattle.str0m_formats.specs.row.PayloadParams.{locked_types, types, types_of}
pub use Rattle.str0m_formats.specs.row.PlainRow.{HasVideoFeedback, IsPlain}
pub use Rattle.str0m_sdp.specs.Common.{distinct, first, last}
pub use Rattle.str0m_sdp.specs.attribute.Attribute.{direction_attribute}
pub use Rattle.str0m_sdp.specs.attribute.MediaType.{is_media}
pub use Rattle.str0m_sdp.specs.attribute.Setup.{AnswersSetupRole}
pub use Rattle.str0m_sdp.specs.declared.attribute.MediaAttribute.{MediaAttribute}
pub use Rattle.str0m_sdp.specs.declared.attribute.SessionAttribute.{SessionAttribute}
pub use Rattle.str0m_sdp.specs.declared.attribute.media_type.MediaType.{MediaType}
pub use Rattle.str0m_sdp.specs.declared.attribute.proto.Proto.{Proto}
pub use Rattle.str0m_sdp.specs.declared.attribute.setup.Setup.{Setup}
pub use Rattle.str0m_sdp.specs.declared.attribute.simulcast.SimulcastLayer.{SimulcastLayer}
pub use Rattle.str0m_sdp.specs.declared.section.media_line.MediaLine.{MediaLine}
pub use Rattle.str0m_sdp.specs.declared.session.Sdp.{Sdp}
pub use Rattle.str0m_sdp.specs.declared.session.Session.{Session}
pub use Rattle.str0m_sdp.specs.section.Alike.{Alike}
pub use Rattle.str0m_sdp.specs.section.Consistency.{Consistent, is_mid, maps, mid_of}
pub use Rattle.str0m_sdp.specs.section.MadeSection.{is_of_type, made}
pub use Rattle.str0m_sdp.specs.section.RowAttributes.{row_attrs}
pub use Rattle.str0m_sdp.specs.section.SectionAccessors.{rid_name_of, simulcast_of}
pub use Rattle.str0m_sdp.specs.section.SectionDirection.{section_direction}
pub use Rattle.str0m_sdp.specs.section.SectionRows.{HasBoundedRows, rows}
pub use Rattle.str0m_sdp.specs.session.OrderedMids.{HoldsMids, is_mid_held}
pub use Rattle.str0m_sdp.specs.session.PreferredFingerprint.{IsPreferred, first_filled_fingerprints}
pub use Rattle.str0m_sdp.specs.session.SdpAccessors.{bundled_of}
pub use Rattle.str0m_sdp.specs.session.Session.{versioned_text}
pub use Rattle.str0m_sdp.specs.session.SessionConsistency.{AreMidsDistinct, is_group_listed, section_mids}
pub use Rattle.str0m_sdp.specs.session.Transport.{creds, media_creds, media_fingerprint, media_pwd, media_setup, media_ufrag, session_fingerprint, session_pwd, session_setup, session_ufrag}
pub use Rattle.str0m_signal.specs.form.CandidateLine.{IsCandidateLine}
pub use Rattle.str0m_signal.specs.line.Lines.{FirstLine, Line, Lines}
pub use Rattle.str0m_signal.specs.session.Locked.{is_carried_by_section}
pub use Rattle.str0m_signal.specs.session.Negotiation.{Negotiated}
pub use Rattle.str0m_signal.specs.session.Reader.{IsFromLine, IsReading, Reading}
pub use Rattle.str0m_signal.specs.session.ReaderAnswers.{Answers, AtMostOneAnswer, IsReaderRefusal, ReaderRefuses}
pub use Rattle.str0m_values.specs.Cuts.{strip, ◌>>=◌}
pub use Rattle.str0m_values.specs.Direction.{AnswersDirection, receives, sends}
pub use Rattle.str0m_values.specs.declared.candidate.Candidate.{Candidate}
pub use Rattle.str0m_values.specs.declared.direction.Direction.{Direction}
pub use Rattle.str0m_values.specs.declared.fingerprint.Fingerprint.{Fingerprint}
pub use Rattle.str0m_values.specs.declared.ice_creds.IceCreds.{IceCreds}
pub use Rattle.str0m_values.specs.declared.media_kind.MediaKind.{MediaKind}
