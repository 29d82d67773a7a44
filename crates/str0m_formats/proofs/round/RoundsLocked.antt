-- A locked row stays locked, with its types each in its role.
use Rattle.str0m_formats.proofs.Common.{arith, ◌≡◌, Bool, true, List, Option, Some, None, Ok, refl}
use Rattle.str0m_formats.proofs.round.FirstPass.{same_row_Ok, placed-locked_row, first_pass_placed-no_choice}
use Rattle.str0m_formats.proofs.round.RoundsRowSteps.{row_steps}
use Rattle.str0m_formats.proofs.round.SettlingPass.{settled-same}
use Rattle.str0m_formats.specs.declared.row.payload_params.PayloadParams.{PayloadParams}
use Rattle.str0m_formats.specs.round.Claimed.{TypeSet}
use Rattle.str0m_formats.specs.round.Rounds.{placed, RoundLeaves}
use Rattle.str0m_formats.specs.round.RoundsPromises.{StaysLocked, LockedStay}

round_placed-stays : (taken unlocked : TypeSet) (receives : Bool) (row new : PayloadParams) (choice : Option PayloadParams)
    → placed taken unlocked receives row choice ≡ Ok new → row.locked ≡ true → StaysLocked row new
round_placed-stays taken unlocked receives row new None h l = grind (arith, first_pass_placed-no_choice)
round_placed-stays taken unlocked receives row new (Some c) h l = grind (arith, same_row_Ok, placed-locked_row)

-- after a round each row that was locked is locked, with its primary, RTX and RED types
pub locked_stay : (before remote : List PayloadParams) (receives : Bool) (after : List PayloadParams)
    → RoundLeaves before remote receives after
    → LockedStay before after
locked_stay before remote receives after r i old new at_old at_new l =
    grind (arith, row_steps before remote receives after r i old new at_old at_new, round_placed-stays, settled-same)

-- and so through every round of a list
pub locked-stays-same : (row : PayloadParams) → row.locked ≡ true → StaysLocked row row
locked-stays-same row l = record { locked = l; primary = refl; resend = refl; red = refl }

pub locked-stays-then : (a b c : PayloadParams) → (a.locked ≡ true → StaysLocked a b) → (b.locked ≡ true → StaysLocked b c)
    → a.locked ≡ true
    → StaysLocked a c
locked-stays-then a b c first second l = grind arith
