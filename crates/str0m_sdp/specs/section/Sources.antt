-- What is said of sources, and where it stands.
use Rattle.indexmap.specs.IndexMap.{insert_entry}
use Rattle.std.specs.BTreeMap.{get}
use Rattle.std.specs.Ordering.{nat_cmp}
use Rattle.std.specs.Prelude.{◌≡◌, ℕ, suc, option_map, nat_eq, cond, None, Some, [], ◌∷◌, List, map, slice_set, Option}
use Rattle.str0m_sdp.specs.declared.section.sources.Sources.{Sources}
use Rattle.str0m_sdp.specs.declared.section.ssrc_info.SsrcInfo.{SsrcInfo}

-- each source, and what is said of it
abbrev pub source_entries_of : List SsrcInfo → List (ℕ × SsrcInfo)
source_entries_of infos = map (λ info. (info.ssrc, info)) infos

abbrev pub source_entries : Sources → List (ℕ × SsrcInfo)
source_entries sources = source_entries_of sources.infos.items

-- the first place of a source
abbrev pub source_place_in : ℕ → List SsrcInfo → Option ℕ
source_place_in s [] = None
source_place_in s (info ∷ infos) = cond (nat_eq s info.ssrc) (Some 0) (option_map suc (source_place_in s infos))

-- the place of each source is known, and of no other
abbrev pub AreSourcesPlaced : Sources → Type 0
AreSourcesPlaced sources = (s : ℕ) → get nat_cmp sources.places s ≡ source_place_in s sources.infos.items

-- what is written at the place is written at the source, and places stay
abbrev pub IsPutAtSource : Sources → Sources → ℕ → ℕ → Type 0
IsPutAtSource old new s place =
    (info : SsrcInfo) → info.ssrc ≡ s
    → (source_entries_of (slice_set new.infos.items place info) ≡ insert_entry nat_eq (source_entries old) s info)
    × ((q : ℕ) → get nat_cmp new.places q ≡ source_place_in q (slice_set new.infos.items place info))
