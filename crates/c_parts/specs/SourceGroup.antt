-- Groups of sources as C holds them.
use Rattle.c_parts.specs.declared.source_group.SourceInGroup.{SourceInGroup}
use Rattle.std.specs.Prelude.{ℕ, ◌+◌, List, [], ◌∷◌, ◌++◌, Option, Some, None, filter_map, map}
use Rattle.str0m_sdp.specs.declared.attribute.MediaAttribute.{MediaAttribute}
use Rattle.str0m_sdp.specs.declared.attribute.MediaAttribute.TheVariants.{SsrcGroup}
use Rattle.str0m_sdp.specs.declared.section.media_line.MediaLine.{MediaLine}

-- a source in a group of this number (`zax_group_source`)
abbrev pub c_member : ℕ → ℕ → SourceInGroup
c_member group ssrc = record { group = group; ssrc = ssrc; reserved = 0 }

abbrev pub c_members : ℕ → List ℕ → List SourceInGroup
c_members group ssrcs = map (c_member group) ssrcs

-- those of all groups, which are counted on from this number
abbrev pub groups_numbered_from : ℕ → List (List ℕ) → List SourceInGroup
groups_numbered_from group [] = []
groups_numbered_from group (ssrcs ∷ more) = c_members group ssrcs ++ groups_numbered_from (group + 1) more

-- the sources of a line that groups some (RFC 5576, section 4.2)
abbrev pub grouped_ssrcs_of : MediaAttribute → Option (List ℕ)
grouped_ssrcs_of (SsrcGroup semantics ssrcs) = Some ssrcs
grouped_ssrcs_of _ = None

-- those of a section
abbrev pub c_source_groups : MediaLine → List SourceInGroup
c_source_groups section = groups_numbered_from 0 (filter_map grouped_ssrcs_of section.attrs)
