-- Reading of pairs as functions.
use Rattle.std.specs.Borrow.{Bor}
use Rattle.std.specs.List.{cons_option}
use Rattle.std.specs.Prelude.{ℕ, String, List, map, Option, Some, None, option_map, if◌then◌else◌, string_bytes}
use Rattle.str0m_formats.specs.Prelude.{num, ◌<|>◌, ◌>>=◌}
pub use Rattle.str0m_values.specs.CutsParts.{part_text_of}
pub use Rattle.str0m_values.specs.H265.{h265_tables}
pub use Rattle.str0m_values.specs.H266.{h266_tables}
pub use Rattle.str0m_values.specs.ProfileTierLevel.{ProfileTables}
use Rattle.str0m_formats.specs.Prelude.{ProfileTierLevel, profile_table_value}
use Rattle.str0m_formats.specs.declared.format.format_param.FormatParam.{FormatParam}
use Rattle.str0m_formats.specs.declared.format.format_param.FormatParam.TheVariants.{H265ProfileTierLevel, H266ProfileTierLevel}
use Rattle.str0m_formats.specs.format.FormatParamReading.{param_of}
use Rattle.str0m_formats.specs.format.Pairs.{has_triple_mark, pairs_merged, other_pairs, triple_texts_of}
use Rattle.str0m_formats.specs.format.PairsTriple.{TripleTexts}

-- the number in the text, or the default where there is no text
abbrev pub triple_number_read : ℕ → Option (List ℕ) → Option ℕ
triple_number_read default None = Some default
triple_number_read default (Some text) = num 255 text

-- the value of a table beside the number of the text
abbrev pub triple_table_read : {A : Type 0} → List (A × ℕ) → ℕ → Option (List ℕ) → Option A
triple_table_read rows default text = triple_number_read default text >>= λ n. profile_table_value rows n

unfoldable pub read_triple : {P T L : Type 0} → ProfileTables P T L → TripleTexts → Option (ProfileTierLevel P T L)
read_triple tables texts = do
  profile ← triple_table_read tables.profiles tables.defaults.0 texts.0
  tier ← triple_table_read tables.tiers tables.defaults.1 texts.1
  level ← triple_table_read tables.levels tables.defaults.2 texts.2
  Some (record { profile = profile; tier = tier; level = level })

abbrev pub triple_read : TripleTexts → Option FormatParam
triple_read texts =
    option_map (λ t. H265ProfileTierLevel t) (read_triple h265_tables texts) <|> option_map (λ t. H266ProfileTierLevel t) (read_triple h266_tables texts)

-- entries of a map as pairs of texts
abbrev pub entry_texts : {S : Type 0} → List (String S × Bor (List ℕ)) → List (List ℕ × List ℕ)
entry_texts entries = map (λ e. (string_bytes e.0, e.1.now)) entries

-- what pairs read as
abbrev pub joined_pairs_read : List (List ℕ × List ℕ) → List FormatParam
joined_pairs_read pairs = cons_option (triple_read (triple_texts_of pairs)) (map param_of (other_pairs pairs))

unfoldable pub params_read : List (List ℕ × List ℕ) → List FormatParam
params_read pairs = if has_triple_mark pairs then joined_pairs_read (pairs_merged pairs) else map param_of pairs
