-- What definitions and clauses cite of the crates below, passed on from one place. Declares nothing.
pub use Rattle.str0m_values.specs.Cuts.{IsTheOnly, before, cut, is_rest, lacks, num, when, ◌<|>◌, ◌>>=◌}
pub use Rattle.str0m_values.specs.CutsParts.{FirstFit, IsNum, IsNumber}
pub use Rattle.str0m_values.specs.Direction.{receives}
pub use Rattle.str0m_values.specs.H264.{level_ordinal, lower_level, named}
pub use Rattle.str0m_values.specs.H265.{H265ProfileTierLevel}
pub use Rattle.str0m_values.specs.H266.{H266ProfileTierLevel}
pub use Rattle.str0m_values.specs.ProfileTierLevel.{HasGivenNumbers, HasNumbers, profile_table_value}
pub use Rattle.str0m_values.specs.declared.h264.H264Profile.{H264Profile}
pub use Rattle.str0m_values.specs.declared.h264.H264ProfileLevel.{H264ProfileLevel}
pub use Rattle.str0m_values.specs.declared.media_kind.MediaKind.{MediaKind}
pub use Rattle.str0m_values.specs.declared.profile_tier_level.ProfileTierLevel.{ProfileTierLevel}
