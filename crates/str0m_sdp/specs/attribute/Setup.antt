-- Setups: their words, and which roles go together (RFC 4145, section 4).
use Rattle.std.specs.Prelude.{◌≡◌, ◌⊎◌, ℕ, List, Option, Some, None, IfSome, codes}
use Rattle.str0m_sdp.specs.declared.attribute.setup.Setup.{Setup}
use Rattle.str0m_sdp.specs.declared.attribute.setup.Setup.TheVariants.{ActPass, Active, Passive}

abbrev pub setup_text : Setup → List ℕ
setup_text ActPass = codes "actpass"
setup_text Active = codes "active"
setup_text Passive = codes "passive"

-- the role of the other side
abbrev pub inverse_setup : Setup → Setup
inverse_setup ActPass = ActPass
inverse_setup Active = Passive
inverse_setup Passive = Active

-- the role that this side takes, by what it offers and what the other side offers; none where both
-- offer the same (RFC 4145, section 4.1)
abbrev pub settled_setup : Setup → Setup → Option Setup
settled_setup ActPass ActPass = None
settled_setup ActPass Active = Some Passive
settled_setup ActPass Passive = Some Active
settled_setup Active ActPass = Some Active
settled_setup Active Active = None
settled_setup Active Passive = Some Active
settled_setup Passive ActPass = Some Passive
settled_setup Passive Active = Some Passive
settled_setup Passive Passive = None

-- ---- answers (RFC 8842, section 5.3; RFC 4145, section 4.1; RFC 8829, section 5.3.1)

-- an answer chooses one of the two roles
abbrev pub IsChosenSetup : Setup → Type 0
IsChosenSetup role = (role ≡ Active) ⊎ (role ≡ Passive)

-- the offer leaves the choice to the answer
abbrev pub LeavesSetupRole : Option Setup → Type 0
LeavesSetupRole offered = (offered ≡ None) ⊎ (offered ≡ Some ActPass)

-- a role that answers what is offered: one of the two, which both sides settle on, and the active one where the choice is free
pub record AnswersSetupRole (offered : Option Setup) (role : Setup) : Type 0 where
  pub chosen : IsChosenSetup role
  pub fits : IfSome offered (λ theirs. settled_setup role theirs ≡ Some role)
  pub begins : LeavesSetupRole offered → role ≡ Active
