-- How the pairs of a format line are read together.
use Rattle.indexmap.specs.IndexMap.{insert_all}
use Rattle.std.specs.List.{list_any, cons_option}
use Rattle.std.specs.Map.{lookup}
use Rattle.std.specs.Prelude.{◌≡◌, ◌||◌, ℕ, Bool, not, List, [], map, filter, Option, MatchBool, bytes_eq}
use Rattle.std.specs.Str.{str_eq_ignore_ascii_case, str_to_ascii_lowercase}
use Rattle.str0m_formats.specs.declared.format.format_key.TheConstants.{PROFILE_ID, TIER_FLAG, LEVEL_ID}
use Rattle.str0m_formats.specs.declared.format.format_param.FormatParam.{FormatParam}
use Rattle.str0m_formats.specs.format.FormatParam.{AreParsedParams}
use Rattle.str0m_formats.specs.format.PairsTriple.{TripleTexts, IsTripleParam}

-- a key that only a profile, tier and level have
abbrev pub is_triple_mark : List ℕ → Bool
is_triple_mark key = str_eq_ignore_ascii_case key TIER_FLAG.now || str_eq_ignore_ascii_case key LEVEL_ID.now

unfoldable pub has_triple_mark : List (List ℕ × List ℕ) → Bool
has_triple_mark pairs = list_any (λ pair. is_triple_mark pair.0) pairs

-- each key once, in lower case, where it first stands, with its last value
unfoldable pub pairs_merged : List (List ℕ × List ℕ) → List (List ℕ × List ℕ)
pairs_merged pairs = insert_all bytes_eq [] (map (λ pair. (str_to_ascii_lowercase pair.0, pair.1)) pairs)

-- the value of a key
abbrev pub value_of_key : List ℕ → List (List ℕ × List ℕ) → Option (List ℕ)
value_of_key key pairs = lookup (bytes_eq key) pairs

abbrev pub triple_texts_of : List (List ℕ × List ℕ) → TripleTexts
triple_texts_of pairs = (value_of_key PROFILE_ID.now pairs, value_of_key TIER_FLAG.now pairs, value_of_key LEVEL_ID.now pairs)

-- one of the three keys of a profile, tier and level
abbrev pub is_triple_key : List ℕ → Bool
is_triple_key key = bytes_eq key PROFILE_ID.now || (bytes_eq key TIER_FLAG.now || bytes_eq key LEVEL_ID.now)

abbrev pub other_pairs : List (List ℕ × List ℕ) → List (List ℕ × List ℕ)
other_pairs pairs = filter (λ pair. not (is_triple_key pair.0)) pairs

-- the profile, tier and level of the pairs where they name one, and then the parameter of each other pair
abbrev pub AreJoinedPairs : List (List ℕ × List ℕ) → List FormatParam → Type 0
AreJoinedPairs pairs params = (triple : Option FormatParam) × (rest : List FormatParam) × IsTripleParam (triple_texts_of pairs) triple
    × AreParsedParams (other_pairs pairs) rest × (params ≡ cons_option triple rest)

-- where a key is one that only a profile, tier and level have, the pairs are merged and read together, else each on its own
abbrev pub ArePairsRead : List (List ℕ × List ℕ) → List FormatParam → Type 0
ArePairsRead pairs params = MatchBool (has_triple_mark pairs) (AreJoinedPairs (pairs_merged pairs) params) (AreParsedParams pairs params)
