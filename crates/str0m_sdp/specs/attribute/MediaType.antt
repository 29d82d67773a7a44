-- Media types: their words, and which of them carry media.
use Rattle.std.specs.Prelude.{ℕ, Bool, true, false, List}
use Rattle.str0m_sdp.specs.declared.attribute.media_type.MediaType.{MediaType}
use Rattle.str0m_sdp.specs.declared.attribute.media_type.MediaType.TheVariants.{Audio, Video, Application, Unknown}
use Rattle.str0m_sdp.specs.declared.label.TheConstants.{AUDIO, VIDEO, APPLICATION}

abbrev pub media_type_text : MediaType → List ℕ
media_type_text Audio = AUDIO.now
media_type_text Video = VIDEO.now
media_type_text Application = APPLICATION.now
media_type_text (Unknown text) = text

-- what carries media, over RTP
abbrev pub is_media : MediaType → Bool
is_media Audio = true
is_media Video = true
is_media Application = false
is_media (Unknown text) = false

-- what carries data channels (RFC 8841, section 4)
abbrev pub is_channel : MediaType → Bool
is_channel Application = true
is_channel Audio = false
is_channel Video = false
is_channel (Unknown text) = false
