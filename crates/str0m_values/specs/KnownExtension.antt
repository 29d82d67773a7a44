-- The header extensions that browsers write, of which the program has the URIs.
use Rattle.std.specs.Prelude.{ℕ, List, Bool, is_some}
use Rattle.str0m_values.specs.Words.{case_of}
use Rattle.str0m_values.specs.declared.known_extension.KnownExtension.{KnownExtension}
use Rattle.str0m_values.specs.declared.known_extension.KnownExtension.TheVariants.{Mid, TransportWideCc, AbsSendTime, AudioLevel, TimeOffset}
use Rattle.str0m_values.specs.declared.known_extension.KnownExtension.TheVariants.{PlayoutDelay, RtpStreamId, RepairedRtpStreamId, VideoOrientation, VideoTiming}
use Rattle.str0m_values.specs.declared.known_extension.KnownExtension.TheVariants.{VideoContentType, ColorSpace, MixedAudioLevels, VideoLayersAllocation, DependencyDescriptor}
use Rattle.str0m_values.specs.declared.known_extension.TheConstants as uri
use Rattle.str0m_values.specs.declared.known_extension.TheConstants.{KNOWN_EXTENSIONS}

abbrev pub known_uri : KnownExtension → List ℕ
known_uri Mid = uri.MID.now
known_uri TransportWideCc = uri.TRANSPORT_WIDE_CC.now
known_uri AbsSendTime = uri.ABS_SEND_TIME.now
known_uri AudioLevel = uri.AUDIO_LEVEL.now
known_uri TimeOffset = uri.TIME_OFFSET.now
known_uri PlayoutDelay = uri.PLAYOUT_DELAY.now
known_uri RtpStreamId = uri.RTP_STREAM_ID.now
known_uri RepairedRtpStreamId = uri.REPAIRED_RTP_STREAM_ID.now
known_uri VideoOrientation = uri.VIDEO_ORIENTATION.now
known_uri VideoTiming = uri.VIDEO_TIMING.now
known_uri VideoContentType = uri.VIDEO_CONTENT_TYPE.now
known_uri ColorSpace = uri.COLOR_SPACE.now
known_uri MixedAudioLevels = uri.MIXED_AUDIO_LEVELS.now
known_uri VideoLayersAllocation = uri.VIDEO_LAYERS_ALLOCATION.now
known_uri DependencyDescriptor = uri.DEPENDENCY_DESCRIPTOR.now

-- whether the program has the URI, so that an extension of it takes no memory
unfoldable pub is_known_uri : List ℕ → Bool
is_known_uri text = is_some (case_of known_uri KNOWN_EXTENSIONS text)
