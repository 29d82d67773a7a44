-- What calls find in what a handle owns; nothing where there is no such section or item.
use Rattle.c_calls.specs.Prelude.{MediaLine, PayloadParams, Sdp, Section, c_section, codec_text, params_text}
use Rattle.c_calls.specs.SessionCalls.{session_mid_or_empty}
use Rattle.c_calls.specs.declared.row_calls.RowText.{RowText}
use Rattle.c_calls.specs.declared.row_calls.RowText.TheVariants.{Codec, Format}
use Rattle.std.specs.Prelude.{ℕ, List, Option, nat_eq, option_map, slice_get, if◌then◌else◌}

-- the mid of a section
abbrev pub section_mid_at : Sdp → ℕ → Option (List ℕ)
section_mid_at sdp at = option_map session_mid_or_empty (slice_get sdp.media_lines at)

-- a section, as C holds it
abbrev pub section_at : Sdp → ℕ → Option Section
section_at sdp at = option_map c_section (slice_get sdp.media_lines at)

-- what a section lists, as C holds it
abbrev pub section_list_at : {X : Type 0} → (MediaLine → List X) → Sdp → ℕ → Option (List X)
section_list_at listed sdp at = option_map listed (slice_get sdp.media_lines at)

-- what is printed of a row: the name of its codec, or its format
abbrev pub row_text : RowText → PayloadParams → List ℕ
row_text Codec row = codec_text row.spec.codec
row_text Format row = params_text row.spec.format

-- which of them a number is (of `enum section_text` in capi/proved_calls.h)
abbrev pub row_text_numbered : ℕ → RowText
row_text_numbered n = if nat_eq n 0 then Codec else Format

-- that of a row among these
abbrev pub text_in : RowText → List PayloadParams → ℕ → Option (List ℕ)
text_in what rows row = option_map (row_text what) (slice_get rows row)
