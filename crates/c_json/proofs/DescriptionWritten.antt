-- What is written of a value.
use Rattle.c_json.specs.Description.{IsJsonText}
use Rattle.json.specs.Lex.{tokens}
use Rattle.json.specs.Print.{print}
use Rattle.serde_json.specs.Data.{Data}
use Rattle.serde_json.specs.Written.{IsInOrder}
use Rattle.std.proofs.Common.{◌≡◌, Result, Ok, Err, IfOk, String, string_bytes}
use Rattle.std.specs.declared.alloc.Global.{Global}

-- a text in the order of a value is its text
pub is_json_text : {E : Type 0} (value : Data) (written : Result (String Global) E)
    → IfOk written (λ text. IsInOrder (string_bytes text) value)
    → IfOk written (λ text. string_bytes text ≡ print (tokens (string_bytes text))) → IfOk written (λ text. IsJsonText (string_bytes text))
is_json_text value (Ok text) ordered compact = (value, ordered, compact)
is_json_text value (Err error) ordered compact = tt
