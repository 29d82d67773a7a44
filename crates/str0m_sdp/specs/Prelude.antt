-- What definitions and clauses cite of the crates below, passed on from one place. Declares nothing.
pub use Rattle.str0m_formats.specs.codec.Codec.{codec_text, codec_content}
pub use Rattle.str0m_formats.specs.codec.CodecSpec.{IsStaticSpec, codec_rtp_rate, static_spec}
pub use Rattle.str0m_formats.specs.declared.codec.Codec.{Codec}
pub use Rattle.str0m_formats.specs.declared.codec.codec_spec.CodecSpec.{CodecSpec}
pub use Rattle.str0m_formats.specs.declared.format.format_param.FormatParam.{FormatParam}
pub use Rattle.str0m_formats.specs.declared.format.format_params.FormatParams.{FormatParams}
pub use Rattle.str0m_formats.specs.declared.row.payload_params.PayloadParams.{PayloadParams}
pub use Rattle.str0m_formats.specs.format.FormatLine.{format_of_fmtp, format_line_values}
pub use Rattle.str0m_formats.specs.format.FormatParam.{entry, kind, param_text}
pub use Rattle.str0m_formats.specs.format.FormatParams.{empty, params_of}
pub use Rattle.str0m_formats.specs.round.Choices.{has_events}
pub use Rattle.str0m_formats.specs.round.Claimed.{has}
pub use Rattle.str0m_formats.specs.row.KindRows.{row_content_has_audio}
pub use Rattle.str0m_formats.specs.row.PayloadParams.{row_content_has_video, new_row, types, types_of}
pub use Rattle.str0m_formats.specs.row.PlainRowBounds.{AreModes, FitsType, IsBounded, IsByte, IsDistance}
pub use Rattle.str0m_values.specs.Candidate.{IsCandidateSocketInRange, candidate_text}
pub use Rattle.str0m_values.specs.Cuts.{before, cut, when, ◌<|>◌, ◌>>=◌}
pub use Rattle.str0m_values.specs.Fingerprint.{fingerprint_text, hash_preference_of}
pub use Rattle.str0m_values.specs.declared.address.IpAddr.{IpAddr}
pub use Rattle.str0m_values.specs.declared.address.SocketAddr.{SocketAddr}
pub use Rattle.str0m_values.specs.declared.candidate.Candidate.{Candidate}
pub use Rattle.str0m_values.specs.declared.candidate_kind.CandidateKind.{CandidateKind}
pub use Rattle.str0m_values.specs.declared.direction.Direction.{Direction}
pub use Rattle.str0m_values.specs.declared.extension.Extension.{Extension}
pub use Rattle.str0m_values.specs.declared.fingerprint.Fingerprint.{Fingerprint}
pub use Rattle.str0m_values.specs.declared.ice_creds.IceCreds.{IceCreds}
pub use Rattle.str0m_values.specs.declared.protocol.Protocol.{Protocol}
pub use Rattle.str0m_values.specs.declared.protocol.TcpType.{TcpType}
