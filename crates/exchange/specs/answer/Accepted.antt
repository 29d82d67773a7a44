-- What an accepted section says, line by line.
use Rattle.exchange.specs.Prelude.{AnswersDirection, AnswersSetupRole, Candidate, Direction, MediaAttribute, MediaLine, PayloadParams, Sdp, Setup, direction_attribute, first, made, media_setup, receives, section_direction, sends, session_setup}
use Rattle.exchange.specs.answer.Layers.{answered_layers}
use Rattle.exchange.specs.declared.answer.accepted.TheConstants.{RTP_STREAM_ID}
use Rattle.exchange.specs.declared.state.own_side.DataChannels.{DataChannels}
use Rattle.exchange.specs.declared.state.own_side.OwnSide.{OwnSide}
use Rattle.exchange.specs.section.RepeatedLines.{is_repeated, repeated_lines}
use Rattle.exchange.specs.state.OwnSide.{own_direction}
use Rattle.std.specs.List.{list_any}
use Rattle.std.specs.Option.{option_or}
use Rattle.std.specs.Prelude.{◌≡◌, ◌&&◌, ℕ, Bool, false, List, [], ◌∷◌, ◌++◌, Option, None, bytes_eq, codes, filter_map, map, if◌then◌else◌}
use Rattle.str0m_sdp.specs.declared.attribute.MediaAttribute.TheVariants as media

-- the role that is said for a section: by its own lines, else by the session (RFC 8842, section 5.2)
abbrev pub setup_in_force : Sdp → MediaLine → Option Setup
setup_in_force offer m = option_or (first (filter_map media_setup m.attrs)) (first (filter_map session_setup offer.session.attrs))

-- its name (RFC 5888, section 4), the hash of the certificate (RFC 8122, section 5), the credentials (RFC 8839, section 5.4),
-- that candidates may follow (RFC 8840, section 4.1.3), and the role (RFC 8842, section 5.3)
abbrev pub accepted_first_lines : OwnSide → List ℕ → Setup → List MediaAttribute
accepted_first_lines own mid role =
    media.Mid mid ∷ (media.Fingerprint own.fingerprint ∷ (media.IceUfrag own.creds.ufrag ∷ (media.IcePwd own.creds.pass
    ∷ (media.IceOptions (codes "trickle") ∷ (media.Setup role ∷ [])))))

-- where this side is reached (RFC 8839, section 5.1)
abbrev pub candidate_line : Candidate → MediaAttribute
candidate_line candidate = media.Candidate candidate

-- the track is named after the section, so that no two sections have one
abbrev pub track_id : List ℕ → List ℕ
track_id mid = codes "track-" ++ mid

-- the stream and the track, where this side sends (RFC 8830, section 2)
abbrev pub msid_lines : OwnSide → Direction → List ℕ → List MediaAttribute
msid_lines own direction mid =
    if sends direction then media.Msid (record { stream_id = own.stream_id; track_id = track_id mid }) ∷ [] else []

-- an extension of the answer tells of each packet which layer it is of (RFC 8852, section 3.3)
abbrev pub tells_layer : MediaAttribute → Bool
tells_layer (media.ExtMap id ext) = bytes_eq ext.uri RTP_STREAM_ID.now
tells_layer _ = false

abbrev pub are_layers_told : List (List ℕ) → MediaLine → Bool
are_layers_told known offered = list_any (λ line. tells_layer line && is_repeated known line) offered.attrs

-- the layers that are offered, where this side receives, takes layers and is told them (RFC 8853, section 5.3.2)
abbrev pub layer_lines : OwnSide → Direction → MediaLine → List PayloadParams → List MediaAttribute
layer_lines own direction offered rows =
    if own.receives_simulcast && (receives direction && are_layers_told own.extensions offered) then answered_layers rows offered else []

-- where data channels are reached (RFC 8841, sections 5 and 6)
abbrev pub accepted_channel_lines : DataChannels → List MediaAttribute
accepted_channel_lines channels = media.SctpPort channels.port ∷ (media.MaxMessageSize channels.max_message_size ∷ [])

-- a section of the type and the protocol of the one that it answers, with a port (RFC 3264, section 6)
abbrev pub accepted_frame : MediaLine → List MediaAttribute → MediaLine
accepted_frame offered lines = record { typ = offered.typ; disabled = false; proto = offered.proto; pts = []; bw = None; attrs = lines }

-- what media says but for its rows: its direction (RFC 3264, section 6.1), where it is reached, what it repeats of the offer,
-- its track and its layers
abbrev pub media_lines : OwnSide → MediaLine → List ℕ → Direction → List PayloadParams → List MediaAttribute
media_lines own offered mid direction rows =
    direction_attribute direction ∷ [] ++ map candidate_line own.candidates ++ repeated_lines own.extensions offered
    ++ msid_lines own direction mid ++ layer_lines own direction offered rows

-- media is accepted under a name with these rows: in a direction and a role that answer those that are offered
pub record AcceptsMedia (own : OwnSide) (offer : Sdp) (offered : MediaLine) (mid : List ℕ) (rows : List PayloadParams) (answered : MediaLine) : Type 0 where
  pub role : Setup
  pub answers_role : AnswersSetupRole (setup_in_force offer offered) role
  pub direction : Direction
  pub answers_direction : AnswersDirection (section_direction offered.attrs) (own_direction own offered) direction
  pub says : answered ≡ made (accepted_frame offered (accepted_first_lines own mid role ++ media_lines own offered mid direction rows)) rows

-- data channels are accepted under a name, in a role that answers the one that is offered
pub record AcceptsChannels (own : OwnSide) (offer : Sdp) (offered : MediaLine) (mid : List ℕ) (channels : DataChannels) (answered : MediaLine) : Type 0 where
  pub role : Setup
  pub answers_role : AnswersSetupRole (setup_in_force offer offered) role
  pub says : answered ≡ accepted_frame offered (accepted_first_lines own mid role ++ accepted_channel_lines channels ++ map candidate_line own.candidates)
