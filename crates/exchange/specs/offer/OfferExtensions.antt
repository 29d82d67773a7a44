-- The header extensions of a section that an offer adds (RFC 8285, section 5; RFC 8829, section 5.2.1).
use Rattle.exchange.specs.Prelude.{MediaAttribute, MediaLine, first}
use Rattle.std.specs.Option.{option_or}
use Rattle.std.specs.Prelude.{ℕ, ◌+◌, true, List, [], ◌∷◌, ◌++◌, Option, Some, None, bytes_eq, filter_map, if◌then◌else◌, max, nat_lt, option_map, option_to_list}
use Rattle.str0m_sdp.specs.declared.attribute.MediaAttribute.TheVariants.{ExtMap}

-- the number under which a line says the extension of a URI
abbrev pub extension_number_of : List ℕ → MediaAttribute → Option ℕ
extension_number_of uri (ExtMap id ext) = if bytes_eq ext.uri uri then Some id else None
extension_number_of uri _ = None

-- that of the first line in a section, and of the first section that has one
abbrev pub extension_number_at : List ℕ → MediaLine → Option ℕ
extension_number_at uri m = first (filter_map (extension_number_of uri) m.attrs)

abbrev pub extension_number_in : List MediaLine → List ℕ → Option ℕ
extension_number_in said uri = first (filter_map (extension_number_at uri) said)

-- the greatest number that is said, and no less than another
abbrev pub greatest_extension_with : ℕ → MediaAttribute → ℕ
greatest_extension_with least (ExtMap id ext) = max least id
greatest_extension_with least _ = least

abbrev pub greatest_extension_of : ℕ → List MediaAttribute → ℕ
greatest_extension_of least [] = least
greatest_extension_of least (line ∷ lines) = greatest_extension_of (greatest_extension_with least line) lines

abbrev pub greatest_extension_in : ℕ → List MediaLine → ℕ
greatest_extension_in least [] = least
greatest_extension_in least (m ∷ ms) = greatest_extension_in (greatest_extension_of least m.attrs) ms

-- the number for a URI: the one that is said, else the next after the last, up to 14 (one-byte headers, RFC 8285, section 4.2)
abbrev pub next_extension_number : ℕ → Option ℕ
next_extension_number last = if nat_lt last 14 then Some (last + 1) else None

abbrev pub extension_number_for : List MediaLine → ℕ → List ℕ → Option ℕ
extension_number_for said last uri = option_or (extension_number_in said uri) (next_extension_number last)

abbrev pub last_extension_number : ℕ → Option ℕ → ℕ
last_extension_number last None = last
last_extension_number last (Some number) = max last number

abbrev pub extension_line : List ℕ → ℕ → MediaAttribute
extension_line uri number = ExtMap number (record { uri = uri; serialized = true })

-- the lines of the extensions that this side knows, as far as there are numbers
abbrev pub numbered_extension_lines : List MediaLine → ℕ → List (List ℕ) → List MediaAttribute
numbered_extension_lines said last [] = []
numbered_extension_lines said last (uri ∷ uris) =
    option_to_list (option_map (extension_line uri) (extension_number_for said last uri)) ++ numbered_extension_lines said (last_extension_number last (extension_number_for said last uri)) uris

abbrev pub extension_lines : List MediaLine → List (List ℕ) → List MediaAttribute
extension_lines said known = numbered_extension_lines said (greatest_extension_in 0 said) known
