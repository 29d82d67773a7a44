-- How what is said of sources is gathered, attribute by attribute.
use Rattle.indexmap.specs.IndexSet.{insert_all}
use Rattle.std.specs.Map.{lookup, keys_of}
use Rattle.std.specs.Option.{option_flatten}
use Rattle.std.specs.Prelude.{◌≡◌, ℕ, nat_eq, List, [], Option, Some, None, codes, unwrap_or, if◌then◌else◌}
use Rattle.std.specs.Str.{str_eq_ignore_ascii_case}
use Rattle.str0m_sdp.specs.Prelude.{before, cut}
use Rattle.str0m_sdp.specs.declared.attribute.MediaAttribute.{MediaAttribute}
use Rattle.str0m_sdp.specs.declared.section.ssrc_info.SsrcInfo.{SsrcInfo}
use Rattle.str0m_sdp.specs.section.SsrcInfo.{source_id_of, latest_source_said, repaired_by, source_cname_said, stream_said, source_track_said, empty_info}

-- the track that a value names after its first space, where it has one
abbrev pub source_track_after : Option (List ℕ × List ℕ) → Option (List ℕ) → Option (List ℕ)
source_track_after None old = old
source_track_after (Some parts) old = source_id_of (before 32 parts.1)

-- with the ids of a value
abbrev pub source_with_ids : List ℕ → SsrcInfo → SsrcInfo
source_with_ids value info = record info { stream_id = source_id_of (before 32 value); track_id = source_track_after (cut 32 value) info.track_id }

-- with one more value and its name
abbrev pub source_with_value : List ℕ → List ℕ → SsrcInfo → SsrcInfo
source_with_value name value info =
    if str_eq_ignore_ascii_case name (codes "cname") then record info { cname = Some value }
    else (if str_eq_ignore_ascii_case name (codes "msid") then source_with_ids value info else info)

-- what the entries have of a source
abbrev pub source_so_far : List (ℕ × SsrcInfo) → ℕ → SsrcInfo
source_so_far entries s = unwrap_or (lookup (nat_eq s) entries) (empty_info s)

-- the source, with what these groups and these values say of it last
abbrev pub info_from : List MediaAttribute → List MediaAttribute → ℕ → SsrcInfo
info_from groups values s = record {
  ssrc = s;
  repairs = latest_source_said (repaired_by s) groups;
  cname = latest_source_said (source_cname_said s) values;
  stream_id = option_flatten (latest_source_said (stream_said s) values);
  track_id = option_flatten (latest_source_said (source_track_said s) values);
}

-- the entries are of these sources, in order, with what these groups and these values say
pub record AreSourcesGathered (sources : List ℕ) (groups values : List MediaAttribute) (entries : List (ℕ × SsrcInfo)) : Type 0 where
  pub keys : keys_of entries ≡ insert_all nat_eq [] sources
  pub said : (s : ℕ) → source_so_far entries s ≡ info_from groups values s
