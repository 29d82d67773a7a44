-- Reading of a setup's role as a function.
use Rattle.std.specs.Prelude.{ℕ, List, Option}
use Rattle.str0m_sdp.specs.declared.attribute.setup.Setup.{Setup as Role}
use Rattle.str0m_sdp.specs.declared.attribute.setup.TheConstants.{SETUPS}
use Rattle.str0m_signal.specs.Prelude.{case_of, setup_text}

abbrev pub role_read : List ℕ → Option Role
role_read text = case_of setup_text SETUPS text
