-- What a section says of each of its sources (RFC 5576).
use Rattle.std.specs.Option.{option_flatten}
use Rattle.std.specs.Prelude.{ℕ, ◌==◌, ◌&&◌, nat_eq, List, [], ◌∷◌, ◌++◌, map, Option, Some, None, codes, if◌then◌else◌, filter_map, option_map, bytes_eq}
use Rattle.std.specs.Str.{trim, str_eq_ignore_ascii_case}
use Rattle.str0m_sdp.specs.Common.{last, distinct}
use Rattle.str0m_sdp.specs.Prelude.{before, cut, when, ◌>>=◌}
use Rattle.str0m_sdp.specs.declared.attribute.MediaAttribute.{MediaAttribute}
use Rattle.str0m_sdp.specs.declared.attribute.MediaAttribute.TheVariants.{Ssrc, SsrcGroup}
use Rattle.str0m_sdp.specs.declared.section.ssrc_info.SsrcInfo.{SsrcInfo}

-- ---- sources

-- the source that an attribute describes (RFC 5576, section 4.1)
abbrev pub source_of : MediaAttribute → Option ℕ
source_of (Ssrc ssrc name value) = Some ssrc
source_of _ = None

-- two sources and no more
abbrev pub only_source_pair : List ℕ → Option (ℕ × ℕ)
only_source_pair (first ∷ second ∷ []) = Some (first, second)
only_source_pair _ = None

-- a source and the one that repairs it: a group FID of two (RFC 5576, section 4.2)
abbrev pub repair_pair : MediaAttribute → Option (ℕ × ℕ)
repair_pair (SsrcGroup semantics ssrcs) = if str_eq_ignore_ascii_case semantics (codes "fid") then only_source_pair ssrcs else None
repair_pair _ = None

-- the source that repairs another one
abbrev pub repair_source : MediaAttribute → Option ℕ
repair_source attr = option_map (λ pair. pair.1) (repair_pair attr)

-- each source that is described, and then each that repairs one, once, in order of first appearance
abbrev pub sources : List MediaAttribute → List ℕ
sources attrs = distinct nat_eq (filter_map source_of attrs ++ filter_map repair_source attrs)

-- ---- what is said of a source s

-- the value that an attribute gives it under a name, without regard to the case of ASCII letters
abbrev pub source_value_of : List ℕ → ℕ → MediaAttribute → Option (List ℕ)
source_value_of wanted s (Ssrc ssrc name value) = when ((ssrc == s) && str_eq_ignore_ascii_case name wanted) value
source_value_of wanted s _ = None

-- the source that it repairs
abbrev pub repaired_by : ℕ → MediaAttribute → Option ℕ
repaired_by s attr = repair_pair attr >>= (λ pair. when (pair.1 == s) pair.0)

-- its name (RFC 5576, section 6.1)
abbrev pub source_cname_said : ℕ → MediaAttribute → Option (List ℕ)
source_cname_said s attr = source_value_of (codes "cname") s attr

-- the id in a piece, without white space at its ends, where `-` says that there is none (RFC 8830, section 2)
abbrev pub source_id_of : List ℕ → Option (List ℕ)
source_id_of piece = if bytes_eq (trim piece) (codes "-") then None else Some (trim piece)

-- its stream: the text before the first space
abbrev pub stream_said : ℕ → MediaAttribute → Option (Option (List ℕ))
stream_said s attr = option_map (λ value. source_id_of (before 32 value)) (source_value_of (codes "msid") s attr)

-- its track: the text after the first space, up to the next one
abbrev pub source_track_said : ℕ → MediaAttribute → Option (Option (List ℕ))
source_track_said s attr = source_value_of (codes "msid") s attr >>= (λ value. option_map (λ parts. source_id_of (before 32 parts.1)) (cut 32 value))

-- what the last attribute says that says something
abbrev pub latest_source_said : {X : Type 0} → (MediaAttribute → Option X) → List MediaAttribute → Option X
latest_source_said said attrs = last (filter_map said attrs)

-- the source, with what is said of it last
abbrev pub info : List MediaAttribute → ℕ → SsrcInfo
info attrs s = record {
  ssrc = s;
  repairs = latest_source_said (repaired_by s) attrs;
  cname = latest_source_said (source_cname_said s) attrs;
  stream_id = option_flatten (latest_source_said (stream_said s) attrs);
  track_id = option_flatten (latest_source_said (source_track_said s) attrs);
}

-- each source of a section
abbrev pub infos : List MediaAttribute → List SsrcInfo
infos attrs = map (info attrs) (sources attrs)

-- a source of which nothing is said
abbrev pub empty_info : ℕ → SsrcInfo
empty_info s = record { ssrc = s; repairs = None; cname = None; stream_id = None; track_id = None }
