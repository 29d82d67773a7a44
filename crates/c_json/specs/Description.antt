-- Texts of JSON.
use Rattle.json.specs.Lex.{tokens}
use Rattle.json.specs.Print.{print}
use Rattle.serde_json.specs.Data.{Data}
use Rattle.serde_json.specs.Written.{IsInOrder}
use Rattle.std.specs.Prelude.{◌≡◌, ℕ, List}

-- the text of some value: it has the value's items and members, each once and in order, and nothing stands between its tokens
-- (RFC 8259, section 2)
abbrev pub IsJsonText : List ℕ → Type 0
IsJsonText text = (value : Data) × IsInOrder text value × (text ≡ print (tokens text))
