-- What the row that a row is matched with changes in its format.
use Rattle.std.specs.Option.{option_or}
use Rattle.std.specs.Prelude.{◌&&◌, ℕ, Bool, false, Option, Some, None, unwrap_or, min, nat_lt, if◌then◌else◌}
use Rattle.str0m_formats.specs.Prelude.{ProfileTierLevel, lower_level}
use Rattle.str0m_formats.specs.codec.Codec.{Rule, codec_rule, by_flags, by_level, by_h265, by_h266, by_modes, by_profile, by_av1, by_events, by_equality}
use Rattle.str0m_formats.specs.declared.codec.Codec.{Codec}
use Rattle.str0m_formats.specs.declared.codec.codec_spec.CodecSpec.{CodecSpec}
use Rattle.str0m_formats.specs.declared.format.format_params.FormatParams.{FormatParams}
use Rattle.str0m_values.specs.H265 as h265
use Rattle.str0m_values.specs.H266 as h266

-- the highest telephone event of a format; where it gives none, 16, the default of `str0m` (RFC 4733 itself has 0 to 15)
abbrev pub telephone_max : FormatParams → ℕ
telephone_max format = unwrap_or format.telephone_event_max 16

-- the triple of the choice, its level the lower of both by their places where the row has one (RFC 7798, section 7.2.2; RFC 9328,
-- section 7.3.2)
abbrev pub lower_triple : {P T L : Type 0} → (L → ℕ) → Option (ProfileTierLevel P T L) → Option (ProfileTierLevel P T L) → Option (ProfileTierLevel P T L)
lower_triple place (Some own) (Some chosen) =
    if nat_lt (place own.level) (place chosen.level) then Some (record chosen { level = own.level }) else Some chosen
lower_triple place None (Some chosen) = Some chosen
lower_triple place _ None = None

-- the profile id of the choice, which stands only where it has no triple
abbrev pub narrowed_profile_id : {Triple : Type 0} → Option Triple → Option ℕ → Option ℕ
narrowed_profile_id (Some triple) id = None
narrowed_profile_id None id = id

-- whether each side may send at a level of its own, as it may where both say so (RFC 6184, section 8.1)
abbrev pub levels_differ : FormatParams → FormatParams → Bool
levels_differ own chosen = unwrap_or own.level_asymmetry_allowed false && unwrap_or chosen.level_asymmetry_allowed false

-- the profile-level-id of a row: its own where levels may differ, else that of the lower level (RFC 6184, section 8.2.2)
abbrev pub lower_h264 : FormatParams → FormatParams → Option ℕ
lower_h264 own chosen =
    if levels_differ own chosen then own.profile_level_id else lower_level own.profile_level_id chosen.profile_level_id

-- a row's spec once it is matched, by the rule of its codec
abbrev pub narrowed_by : Rule → CodecSpec → CodecSpec → CodecSpec
narrowed_by by_events own chosen = record own {
  format = record own.format { telephone_event_max = Some (min (telephone_max own.format) (telephone_max chosen.format)) };
}
narrowed_by by_level own chosen = record own {
  format = record own.format { profile_level_id = lower_h264 own.format chosen.format };
}
narrowed_by by_h265 own chosen = record own {
  format = record own.format {
    h265_profile_tier_level = lower_triple h265.level_ordinal own.format.h265_profile_tier_level chosen.format.h265_profile_tier_level;
    profile_id = narrowed_profile_id chosen.format.h265_profile_tier_level chosen.format.profile_id;
    sprop_max_don_diff = option_or chosen.format.sprop_max_don_diff own.format.sprop_max_don_diff;
  };
}
narrowed_by by_h266 own chosen = record own {
  format = record own.format {
    h266_profile_tier_level = lower_triple h266.level_ordinal own.format.h266_profile_tier_level chosen.format.h266_profile_tier_level;
    profile_id = narrowed_profile_id chosen.format.h266_profile_tier_level chosen.format.profile_id;
    sprop_max_don_diff = option_or chosen.format.sprop_max_don_diff own.format.sprop_max_don_diff;
  };
}
narrowed_by by_modes own chosen = record own {
  channels = chosen.channels;
  format = record own.format {
    octet_align = chosen.format.octet_align;
    mode_set = option_or own.format.mode_set chosen.format.mode_set;
  };
}
narrowed_by by_flags own chosen = own
narrowed_by by_profile own chosen = own
narrowed_by by_av1 own chosen = own
narrowed_by by_equality own chosen = own

abbrev pub narrowed_as : Codec → CodecSpec → CodecSpec → CodecSpec
narrowed_as codec own chosen = narrowed_by (codec_rule codec) own chosen

unfoldable pub narrowed : CodecSpec → CodecSpec → CodecSpec
narrowed own chosen = narrowed_as own.codec own chosen
