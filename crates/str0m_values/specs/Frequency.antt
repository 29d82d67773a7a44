-- Clock rates in texts.
use Rattle.std.specs.Prelude.{◌<◌, ℕ, List}
use Rattle.str0m_values.specs.CutsParts.{IsNum}

-- the text is a number of 32 bits that isn't zero: a rate in Hz
abbrev pub IsRate : List ℕ → ℕ → Type 0
IsRate text n = IsNum 4294967295 text n × (0 < n)
