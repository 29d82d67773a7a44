-- Rows: which a call makes, when two are the same, and the payload types that they hold.
use Rattle.std.specs.Prelude.{◌≡◌, find, nat_lt, ℕ, Bool, true, false, not, Option, None, List, ◌∷◌, ◌++◌, filter, flat_map, option_to_list}
use Rattle.str0m_formats.specs.codec.Codec.{CodecContent, codec_content, video}
use Rattle.str0m_formats.specs.declared.codec.Codec.TheVariants.{Null}
use Rattle.str0m_formats.specs.declared.codec.codec_spec.CodecSpec.{CodecSpec}
use Rattle.str0m_formats.specs.declared.row.payload_params.PayloadParams.{PayloadParams}
use Rattle.str0m_formats.specs.format.FormatParams.{empty}

-- whether it carries video
abbrev pub row_content_has_video : CodecContent → Bool
row_content_has_video video = true
row_content_has_video _ = false

-- a row that isn't locked: feedback of video where the codec carries it, and no RED
abbrev pub new_row : ℕ → Option ℕ → CodecSpec → PayloadParams
new_row pt resend spec = record {
  pt = pt;
  resend = resend;
  red = None;
  spec = spec;
  fb_transport_cc = true;
  fb_fir = row_content_has_video (codec_content spec.codec);
  fb_nack = row_content_has_video (codec_content spec.codec);
  fb_pli = row_content_has_video (codec_content spec.codec);
  fb_remb = row_content_has_video (codec_content spec.codec);
  locked = false;
}

-- a row that only probes
abbrev pub probe_row : ℕ → PayloadParams
probe_row pt = new_row pt None (record { codec = Null; clock_rate = 90000; channels = None; format = empty })

-- the same in all but whether they are locked
abbrev pub SameRow : PayloadParams → PayloadParams → Type 0
SameRow a b = record a { locked = false } ≡ record b { locked = false }

-- the types of a row, each in its role: primary, RTX, RED
abbrev pub types_of : PayloadParams → List ℕ
types_of row = row.pt ∷ (option_to_list row.resend ++ option_to_list row.red)

-- the types of all rows, in order; of those that are locked; of those that are open
abbrev pub types : List PayloadParams → List ℕ
types rows = flat_map types_of rows

abbrev pub locked_types : List PayloadParams → List ℕ
locked_types rows = types (filter (λ row. row.locked) rows)

abbrev pub open_types : List PayloadParams → List ℕ
open_types rows = types (filter (λ row. not row.locked) rows)

-- none of the types is above 127
abbrev pub AllTypesSmall : List ℕ → Type 0
AllTypesSmall types = find (nat_lt 127) types ≡ None
