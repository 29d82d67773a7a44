-- The mapping of a payload type: as it prints, and as the codec that it names.
use Rattle.std.specs.Prelude.{ℕ, List, [], ◌++◌, ◌==◌, Option, Some, None, codes, if◌then◌else◌, decimal}
use Rattle.str0m_formats.specs.declared.codec.Codec.TheVariants.{G722}
use Rattle.str0m_sdp.specs.Prelude.{Codec, CodecSpec, codec_text, empty, codec_rtp_rate}
use Rattle.str0m_sdp.specs.declared.attribute.rtp_map.RtpMap.{RtpMap}

abbrev pub rtp_map_channels_text : Option ℕ → List ℕ
rtp_map_channels_text None = []
rtp_map_channels_text (Some n) = codes "/" ++ decimal n

abbrev pub rtp_map_text : RtpMap → List ℕ
rtp_map_text map = codec_text map.codec ++ (codes "/" ++ (decimal map.clock_rate ++ rtp_map_channels_text map.channels))

-- ---- the codec that a mapping names

-- the rate at which the codec samples: G722 at 16000 Hz, whatever its mapping says (RFC 3551, section 4.5.2), any
-- other codec as its mapping says (RFC 8866, section 6.6)
abbrev pub sampling_rate : Codec → ℕ → ℕ
sampling_rate G722 rate = 16000
sampling_rate _ rate = rate

-- one channel is what no count says (RFC 8866, section 6.6)
abbrev pub rtp_map_channels_unless_one : Option ℕ → Option ℕ
rtp_map_channels_unless_one None = None
rtp_map_channels_unless_one (Some n) = if n == 1 then None else Some n

-- the channels of a codec, of which G722 doesn't count a single one
abbrev pub rtp_map_channels_of : Codec → Option ℕ → Option ℕ
rtp_map_channels_of G722 channels = rtp_map_channels_unless_one channels
rtp_map_channels_of _ channels = channels

-- the codec at the rate and with the channels that its mapping says, and nothing said of its format
abbrev pub spec_of_map : RtpMap → CodecSpec
spec_of_map map = record {
  codec = map.codec;
  clock_rate = sampling_rate map.codec map.clock_rate;
  channels = rtp_map_channels_of map.codec map.channels;
  format = empty;
}

-- the mapping that names a codec, at its clock rate in RTP (RFC 3551, section 4.5.2)
abbrev pub map_of_spec : CodecSpec → RtpMap
map_of_spec spec = record {
  codec = spec.codec;
  clock_rate = codec_rtp_rate spec.codec spec.clock_rate;
  channels = spec.channels;
}
