-- What a call answers of what is found in a text.
use Rattle.c_calls.specs.Prelude.{IsJsonText}
use Rattle.c_calls.specs.Said.{SaysSome}
use Rattle.c_calls.specs.Told.{no_utf8}
use Rattle.std.specs.Prelude.{◌≡◌, ◌⊎◌, ℕ, List, IsUtf8}

-- JSON, as in other calls with room; or that the text isn't UTF-8: then room and count stay
abbrev pub SaysFindings : List ℕ → List ℕ × ℕ → ℕ × List ℕ × ℕ → Type 0
SaysFindings text before after = SaysSome IsJsonText before after ⊎ ((IsUtf8 text → ⊥) × (after ≡ (no_utf8, before.0, before.1)))
