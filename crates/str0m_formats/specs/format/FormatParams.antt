-- Formats: what each field holds, which parameter sets it, and how a format prints.
use Rattle.std.specs.List.{join_with_byte}
use Rattle.std.specs.Prelude.{◌≡◌, ◌⊎◌, ◌≤◌, ℕ, List, map, Option, Some, None, IfSome, option_map, filter_map, fold}
use Rattle.str0m_formats.specs.declared.format.format_key.FormatKey.{FormatKey}
use Rattle.str0m_formats.specs.declared.format.format_key.FormatKey.TheVariants as key
use Rattle.str0m_formats.specs.declared.format.format_param.FormatParam.{FormatParam}
use Rattle.str0m_formats.specs.declared.format.format_param.FormatParam.TheVariants.{H265ProfileTierLevel, H266ProfileTierLevel, TelephoneEvents}
use Rattle.str0m_formats.specs.declared.format.format_params.Field.{Field}
use Rattle.str0m_formats.specs.declared.format.format_params.Field.TheVariants as field
use Rattle.str0m_formats.specs.declared.format.format_params.FormatParams.{FormatParams}
use Rattle.str0m_formats.specs.declared.format.format_params.TheConstants.{FIELDS}
use Rattle.str0m_formats.specs.format.FormatParam.{HeldParamValue, kind, keyed, entry, IsParamInRange, param_text}
use Rattle.str0m_values.specs.H265.{H265ProfileTierLevel as h265_triple}
use Rattle.str0m_values.specs.H266.{H266ProfileTierLevel as h266_triple}

-- what the field of a format holds: the value of its key, a profile, tier and level, or the highest event
abbrev pub FormatFieldContent : Field → Type 0
FormatFieldContent (field.Key key) = HeldParamValue (kind key)
FormatFieldContent field.H265ProfileTierLevel = h265_triple
FormatFieldContent field.H266ProfileTierLevel = h266_triple
FormatFieldContent field.TelephoneEvents = ℕ

-- what the field holds; a key without a field holds nothing
abbrev pub get : (field : Field) → FormatParams → Option (FormatFieldContent field)
get (field.Key key.MinPTime) p = p.min_p_time
get (field.Key key.Stereo) p = p.stereo
get (field.Key key.SpropStereo) p = p.sprop_stereo
get (field.Key key.UseInbandFec) p = p.use_inband_fec
get (field.Key key.UseDtx) p = p.use_dtx
get (field.Key key.LevelAsymmetryAllowed) p = p.level_asymmetry_allowed
get (field.Key key.PacketizationMode) p = p.packetization_mode
get (field.Key key.ProfileLevelId) p = p.profile_level_id
get (field.Key key.ProfileId) p = p.profile_id
get (field.Key key.Profile) p = p.profile
get (field.Key key.LevelIdx) p = p.level_idx
get (field.Key key.Tier) p = p.tier
get (field.Key key.SpropMaxDonDiff) p = p.sprop_max_don_diff
get (field.Key key.OctetAlign) p = p.octet_align
get (field.Key key.ModeSet) p = p.mode_set
get field.H265ProfileTierLevel p = p.h265_profile_tier_level
get field.H266ProfileTierLevel p = p.h266_profile_tier_level
get field.TelephoneEvents p = p.telephone_event_max
get f p = None

-- the format with this in the field
abbrev pub put_format_field : (field : Field) → Option (FormatFieldContent field) → FormatParams → FormatParams
put_format_field (field.Key key.MinPTime) o p = record p { min_p_time = o }
put_format_field (field.Key key.Stereo) o p = record p { stereo = o }
put_format_field (field.Key key.SpropStereo) o p = record p { sprop_stereo = o }
put_format_field (field.Key key.UseInbandFec) o p = record p { use_inband_fec = o }
put_format_field (field.Key key.UseDtx) o p = record p { use_dtx = o }
put_format_field (field.Key key.LevelAsymmetryAllowed) o p = record p { level_asymmetry_allowed = o }
put_format_field (field.Key key.PacketizationMode) o p = record p { packetization_mode = o }
put_format_field (field.Key key.ProfileLevelId) o p = record p { profile_level_id = o }
put_format_field (field.Key key.ProfileId) o p = record p { profile_id = o }
put_format_field (field.Key key.Profile) o p = record p { profile = o }
put_format_field (field.Key key.LevelIdx) o p = record p { level_idx = o }
put_format_field (field.Key key.Tier) o p = record p { tier = o }
put_format_field (field.Key key.SpropMaxDonDiff) o p = record p { sprop_max_don_diff = o }
put_format_field (field.Key key.OctetAlign) o p = record p { octet_align = o }
put_format_field (field.Key key.ModeSet) o p = record p { mode_set = o }
put_format_field field.H265ProfileTierLevel o p = record p { h265_profile_tier_level = o }
put_format_field field.H266ProfileTierLevel o p = record p { h266_profile_tier_level = o }
put_format_field field.TelephoneEvents o p = record p { telephone_event_max = o }
put_format_field f o p = p

-- the parameter of what the field holds
abbrev pub param_in : (field : Field) → FormatFieldContent field → FormatParam
param_in (field.Key key) x = keyed key x
param_in field.H265ProfileTierLevel t = H265ProfileTierLevel t
param_in field.H266ProfileTierLevel t = H266ProfileTierLevel t
param_in field.TelephoneEvents n = TelephoneEvents n

abbrev put_entry : Option ((key : FormatKey) × HeldParamValue (kind key)) → FormatParams → FormatParams
put_entry None p = p
put_entry (Some e) p = put_format_field (field.Key e.0) (Some e.1) p

-- the format, with the value of the parameter in its field; a parameter without a field changes nothing
abbrev pub set : FormatParam → FormatParams → FormatParams
set (H265ProfileTierLevel t) p = put_format_field field.H265ProfileTierLevel (Some t) p
set (H266ProfileTierLevel t) p = put_format_field field.H266ProfileTierLevel (Some t) p
set (TelephoneEvents n) p = put_format_field field.TelephoneEvents (Some n) p
set param p = put_entry (entry param) p

-- the format, with the values of the parameters in their fields, one after another
abbrev pub set_all : FormatParams → List FormatParam → FormatParams
set_all p params = fold (λ q param. set param q) p params

-- the format that says nothing
abbrev pub empty : FormatParams
empty = record { min_p_time = None; stereo = None; sprop_stereo = None; use_inband_fec = None; use_dtx = None; level_asymmetry_allowed = None; packetization_mode = None; profile_level_id = None; profile_id = None; profile = None; level_idx = None; tier = None; h265_profile_tier_level = None; h266_profile_tier_level = None; sprop_max_don_diff = None; telephone_event_max = None; octet_align = None; mode_set = None }

abbrev param_given : Field → FormatParams → Option FormatParam
param_given f p = option_map (param_in f) (get f p)

-- the parameter of a field, where it is given; by cases, so that it computes at each field and at no variable
abbrev pub param_at : Field → FormatParams → Option FormatParam
param_at (field.Key key.Apt) p = param_given (field.Key key.Apt) p
param_at f p = param_given f p

-- the parameters of the fields that are given, in the order in which the fields stand
unfoldable pub params_of : FormatParams → List FormatParam
params_of p = filter_map (λ field. param_at field p) FIELDS

-- what a format prints: the texts of its parameters, parted by `;`
unfoldable pub params_text : FormatParams → List ℕ
params_text p = join_with_byte 59 (map param_text (params_of p))

-- what the field holds reads back as it prints
abbrev pub IsFormatFieldWithin : (field : Field) → FormatFieldContent field → Type 0
IsFormatFieldWithin (field.Key key) x = IsParamInRange (kind key) x
IsFormatFieldWithin field.TelephoneEvents n = n ≤ 255
IsFormatFieldWithin f x = Unit {0}

-- the format reads back as it prints: the values of its fields do, modes 1 to 511 and the distance up to 32767 among
-- them, and it holds one profile, tier and level at most, and no `profile-id` beside it
pub record CanFormatBeReadBack (p : FormatParams) : Type 0 where
  pub values : (f : Field) → IfSome (get f p) (IsFormatFieldWithin f)
  pub triples : (p.h265_profile_tier_level ≡ None) ⊎ (p.h266_profile_tier_level ≡ None)
  pub profile : (p.profile_id ≡ None) ⊎ ((p.h265_profile_tier_level ≡ None) × (p.h266_profile_tier_level ≡ None))
