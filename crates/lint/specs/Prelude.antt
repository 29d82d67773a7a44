-- What definitions and clauses cite of the crates below, passed on from one place. Declares nothing.
pub use Rattle.str0m_formats.specs.declared.codec.Codec.{Codec}
pub use Rattle.str0m_formats.specs.declared.row.payload_params.PayloadParams.{PayloadParams}
pub use Rattle.str0m_formats.specs.round.Choices.{IsChoice, choice_points_with}
pub use Rattle.str0m_formats.specs.round.MatchScore.{same_codec, score}
pub use Rattle.str0m_formats.specs.round.RoundsRuns.{OutcomeOfRound, RoundRan}
pub use Rattle.str0m_sdp.specs.attribute.MediaType.{is_media}
pub use Rattle.str0m_sdp.specs.declared.section.media_line.MediaLine.{MediaLine}
pub use Rattle.str0m_sdp.specs.declared.session.Sdp.{Sdp}
pub use Rattle.str0m_sdp.specs.section.SectionDirection.{section_direction}
pub use Rattle.str0m_sdp.specs.section.SectionRows.{rows}
pub use Rattle.str0m_sdp.specs.session.Session.{sdp_text}
pub use Rattle.str0m_signal.specs.line.Lines.{EndsIn, Line}
pub use Rattle.str0m_signal.specs.line.LinesReading.{lines_of}
pub use Rattle.str0m_signal.specs.session.Reader.{Reading}
pub use Rattle.str0m_signal.specs.session.ReaderAnswers.{AtMostOneAnswer}
pub use Rattle.str0m_values.specs.Cuts.{cut, strip, ◌>>=◌}
pub use Rattle.str0m_values.specs.Direction.{receives}
