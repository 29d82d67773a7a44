-- The keys of format parameters, and their texts.
use Rattle.std.specs.Prelude.{ℕ, List, [], find, option_map, unwrap_or}
use Rattle.str0m_formats.specs.contracts.format.format_key.FormatKey as format_key
use Rattle.str0m_formats.specs.declared.format.format_key.FormatKey.{FormatKey}
use Rattle.str0m_formats.specs.declared.format.format_key.FormatKey.TheVariants.{Apt}
use Rattle.str0m_formats.specs.declared.format.format_key.TheConstants.{KEYS}
use denote.Enum.Bare.{sameb}

-- the text that the table has of the key
abbrev key_entry_text : FormatKey → List ℕ
key_entry_text key = unwrap_or (option_map (λ it. it.1.now) (find (λ it. sameb format_key.the_type it.0 key) KEYS)) []

-- the same by cases, so that it computes at each key and at no variable
abbrev pub key_text : FormatKey → List ℕ
key_text Apt = key_entry_text Apt
key_text key = key_entry_text key
