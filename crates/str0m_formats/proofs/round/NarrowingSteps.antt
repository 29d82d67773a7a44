-- What a round makes of a row's spec: it stays, or is narrowed by one that it fits.
use Rattle.str0m_formats.proofs.Common.{◌≡◌, ◌≢◌, Bool, true, false, List, Option, Some, None, Ok, refl, sym, ap, ◌∙◌, subst}
use Rattle.str0m_formats.proofs.round.FirstPass.{same_row_Ok, placed-locked_row, placed-open_row, first_pass_placed-no_choice, locked_parts}
use Rattle.str0m_formats.proofs.round.RoundsMatched.{some_score}
use Rattle.str0m_formats.proofs.round.RoundsRowSteps.{row_steps}
use Rattle.str0m_formats.proofs.round.SettlingPass.{settled_parts, settled-same}
use Rattle.str0m_formats.specs.declared.codec.codec_spec.CodecSpec.{CodecSpec}
use Rattle.str0m_formats.specs.declared.row.payload_params.PayloadParams.{PayloadParams}
use Rattle.str0m_formats.specs.round.Choices.{IsChoice, choice_points_for}
use Rattle.str0m_formats.specs.round.Claimed.{TypeSet}
use Rattle.str0m_formats.specs.round.MatchScore.{score}
use Rattle.str0m_formats.specs.round.Narrowing.{narrowed}
use Rattle.str0m_formats.specs.round.Rounds.{placed, settled_row, RoundLeaves}
use Rattle.str0m_formats.specs.round.RoundsPromises.{AtEachRow}

settled-spec : (locked taken unlocked : TypeSet) (row new : PayloadParams) → settled_row locked taken unlocked row ≡ Ok new
    → row.spec ≡ new.spec
settled-spec locked taken unlocked row new h = go row.locked refl where
  go : (b : Bool) → row.locked ≡ b → row.spec ≡ new.spec
  go true l = ap (λ r. r.spec) (sym (settled-same locked taken unlocked row new h l))
  go false l = ap (λ r. r.spec) (settled_parts locked taken unlocked row new h l).all

-- what holds of a spec and itself, and of a spec and what one that it fits narrows it to
module _ (Holds : CodecSpec → CodecSpec → Type 0) (same : (spec : CodecSpec) → Holds spec spec)
    (narrow : (own chosen : CodecSpec) → score own chosen ≢ None → Holds own (narrowed own chosen)) where
  narrowed_placed-holds : (taken unlocked : TypeSet) (remote : List PayloadParams) (receives : Bool) (row new : PayloadParams)
      (choice : Option PayloadParams) → IsChoice (choice_points_for taken receives row) remote choice
      → placed taken unlocked receives row choice ≡ Ok new → Holds row.spec new.spec
  narrowed_placed-holds taken unlocked remote receives row new None none h =
      let P : PayloadParams → Type 0 = λ r. Holds row.spec r.spec in
      subst P (first_pass_placed-no_choice taken unlocked receives row new h) (same row.spec)
  narrowed_placed-holds taken unlocked remote receives row new (Some c) best h = go row.locked refl where
    narrows : Holds row.spec (narrowed row.spec c.spec)
    narrows = narrow row.spec c.spec (some_score taken receives row c best.most best.has_most)

    go : (b : Bool) → row.locked ≡ b → Holds row.spec new.spec
    go true l =
        let same = sym (placed-locked_row taken unlocked receives row c l) ∙ h in
        let all = same_row_Ok (record row { spec = narrowed row.spec c.spec }) new same in
        subst (Holds row.spec) (ap (λ r. r.spec) all) narrows
    go false l =
        let parts = locked_parts taken unlocked receives row c new (sym (placed-open_row taken unlocked receives row c l) ∙ h) in
        subst (Holds row.spec) (ap (λ r. r.spec) parts.all) narrows

  -- it holds of each row's spec before and after a round
  pub round_holds : (before remote : List PayloadParams) (receives : Bool) (after : List PayloadParams)
      → RoundLeaves before remote receives after → AtEachRow (λ old new. Holds old.spec new.spec) before after
  round_holds before remote receives after r i old new at_old at_new =
      let steps = row_steps before remote receives after r i old new at_old at_new in
      subst (Holds old.spec) (settled-spec _ _ _ steps.between new steps.then_settled)
      (narrowed_placed-holds _ _ remote receives old steps.between steps.became.choice steps.became.is_choice steps.became.placed_so)
