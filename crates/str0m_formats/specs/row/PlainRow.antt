-- Plain rows: those that the lines of a section say whole, so that a section made of them describes them again.
use Rattle.std.specs.Prelude.{◌≡◌, ◌≢◌, ℕ, true, Some, None}
use Rattle.str0m_formats.specs.codec.Codec.{codec_content, audio, video, events, other}
use Rattle.str0m_formats.specs.declared.codec.Codec.TheVariants.{G722, H265, H266}
use Rattle.str0m_formats.specs.declared.codec.codec_spec.CodecSpec.{CodecSpec}
use Rattle.str0m_formats.specs.declared.format.format_params.FormatParams.{FormatParams}
use Rattle.str0m_formats.specs.declared.row.payload_params.PayloadParams.{PayloadParams}
use Rattle.str0m_formats.specs.format.FormatParams.{empty}
use Rattle.str0m_formats.specs.row.PlainRowBounds.{IsBounded}

-- G722 samples at 16000 Hz, and its one channel isn't said (RFC 3551, section 4.5.2)
abbrev pub IsPlainG722 : CodecSpec → Type 0
IsPlainG722 spec = (spec.clock_rate ≡ 16000) × (spec.channels ≢ Some 1)

-- the feedback that every video row has: NACK and PLI (RFC 4585, section 4.2), FIR (RFC 5104, section 7.1) and REMB
pub record HasVideoFeedback (row : PayloadParams) : Type 0 where
  pub nack : row.fb_nack ≡ true
  pub pli : row.fb_pli ≡ true
  pub fir : row.fb_fir ≡ true
  pub remb : row.fb_remb ≡ true

-- a format of telephone events: their maximum, and nothing else (RFC 4733, section 2.4.1)
abbrev pub SaysEventsAlone : FormatParams → Type 0
SaysEventsAlone format = (n : ℕ) × (format ≡ record empty { telephone_event_max = Some n })

-- a profile, tier and level stands under its own codec alone, and without a `profile-id` beside it (RFC 7798, section 7.1;
-- RFC 9328, section 7.2)
pub record HasPlainTriples (spec : CodecSpec) : Type 0 where
  pub h265 : spec.format.h265_profile_tier_level ≢ None → (spec.codec ≡ H265) × (spec.format.profile_id ≡ None)
  pub h266 : spec.format.h266_profile_tier_level ≢ None → (spec.codec ≡ H266) × (spec.format.profile_id ≡ None)

-- the codec carries audio, video or events; what it carries says which feedback, RED and maximum of events are there
pub record IsPlain (row : PayloadParams) : Type 0 where
  pub carried : codec_content row.spec.codec ≢ other
  pub bounded : IsBounded row
  pub triples : HasPlainTriples row.spec
  pub g722 : row.spec.codec ≡ G722 → IsPlainG722 row.spec
  pub as_video : codec_content row.spec.codec ≡ video → HasVideoFeedback row
  pub redundant : row.red ≢ None → codec_content row.spec.codec ≡ audio
  pub telephone : codec_content row.spec.codec ≡ events → SaysEventsAlone row.spec.format
  pub no_maximum : codec_content row.spec.codec ≢ events → row.spec.format.telephone_event_max ≡ None
