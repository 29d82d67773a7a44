-- Which rows a round locks, and at which types.
use Rattle.str0m_formats.proofs.Common.{arith, ◌≡◌, ◌≢◌, ℕ, Bool, true, false, not, ◌&&◌, List, Option, Some, None, Ok, refl, sym, ap, ◌∙◌}
use Rattle.str0m_formats.proofs.Common.{subst, fun_ext, Contains}
use Rattle.str0m_formats.proofs.round.FirstPass.{then_in_round-ok, same_row_Ok, locked_to-locks, placed-open_row}
use Rattle.str0m_formats.proofs.round.FirstPass.{first_pass_placed-no_choice}
use Rattle.str0m_formats.proofs.round.FirstPass.{locked_parts}
use Rattle.str0m_formats.proofs.round.RoundsLocked.{locked_stay}
use Rattle.str0m_formats.proofs.round.RoundsPasses.{pass_split_has}
use Rattle.str0m_formats.proofs.round.RoundsRowSteps.{RowSteps, row_steps}
use Rattle.str0m_formats.proofs.round.SettlingPass.{settled-locked, settled-same}
use Rattle.str0m_formats.specs.codec.Codec.{is_amr_wb}
use Rattle.str0m_formats.specs.declared.codec.Codec.TheVariants.{AmrWb}
use Rattle.str0m_formats.specs.declared.row.payload_params.PayloadParams.{PayloadParams}
use Rattle.str0m_formats.specs.round.Choices.{IsBestChoice, IsChoice, choice_points_for}
use Rattle.str0m_formats.specs.round.Claimed.{TypeSet}
use Rattle.str0m_formats.specs.round.MatchScore.{score}
use Rattle.str0m_formats.specs.round.Rounds.{role_type, rtx_type, placed, RoundLeaves}
use Rattle.str0m_formats.specs.round.RoundsPromises.{IsMatched, MatchedAreLocked, HasTypesOf, LockedAtBest}

-- ---- when a remote row's points are its score

-- whether some remote row may be left aside
abbrev matched_may_leave : Bool → PayloadParams → Bool
matched_may_leave receives row = is_amr_wb row.spec.codec && (not row.locked && receives)

matched_may_leave-false : (receives : Bool) (row : PayloadParams) → (receives ≡ true → row.spec.codec ≡ AmrWb → row.locked ≡ true)
    → matched_may_leave receives row ≡ false
matched_may_leave-false receives row h = grind arith

points-score : (taken : TypeSet) (receives : Bool) (row theirs : PayloadParams) → matched_may_leave receives row ≡ false
    → choice_points_for taken receives row theirs ≡ score row.spec theirs.spec
unfolding choice_points_for
points-score taken receives row theirs h = grind arith

pub some_score : (taken : TypeSet) (receives : Bool) (row theirs : PayloadParams) (n : ℕ)
    → choice_points_for taken receives row theirs ≡ Some n
    → score row.spec theirs.spec ≢ None
unfolding choice_points_for
some_score taken receives row theirs n h = grind arith

-- ---- each matched row is locked

chosen_locks : (taken unlocked : TypeSet) (remote : List PayloadParams) (receives : Bool) (row new : PayloadParams)
    (choice : Option PayloadParams) → IsChoice (choice_points_for taken receives row) remote choice
    → placed taken unlocked receives row choice ≡ Ok new
    → row.locked ≡ false → IsMatched remote row → matched_may_leave receives row ≡ false → new.locked ≡ true
chosen_locks taken unlocked remote receives row new choice none h l m a = grind (arith, points-score, locked_to-locks, placed-open_row)

-- after a round each row that a remote row matches is locked
pub matched_are_locked : (before remote : List PayloadParams) (receives : Bool) (after : List PayloadParams)
    → RoundLeaves before remote receives after → MatchedAreLocked remote receives before after
matched_are_locked before remote receives after r i old new at_old at_new m amr = go old.locked refl where
  steps : RowSteps before remote receives r.mid after i old new
  steps = row_steps before remote receives after r i old new at_old at_new

  go : (b : Bool) → old.locked ≡ b → new.locked ≡ true
  go true l = (locked_stay before remote receives after r i old new at_old at_new l).locked
  go false l =
      settled-locked _ _ _ steps.between new steps.then_settled
      ∙ chosen_locks _ _ remote receives old steps.between steps.became.choice steps.became.is_choice steps.became.placed_so l m
      (matched_may_leave-false receives old amr)

-- ---- where the remote receives, at the types of its best row

round_role-received : (taken unlocked : TypeSet) (asked : ℕ) (own : Option ℕ) (t : ℕ) → role_type taken unlocked true asked own ≡ Ok t
    → asked ≡ t
unfolding role_type
round_role-received taken unlocked asked own t h = grind arith

rtx-received : (taken unlocked : TypeSet) (asked own new : Option ℕ) → rtx_type taken unlocked true asked own ≡ Ok new → asked ≡ new
unfolding rtx_type
rtx-received taken unlocked asked own new h = grind (arith, same_row_Ok, then_in_round-ok, round_role-received)

-- what is said of a newly locked row
abbrev IsAtBestMatch : List PayloadParams → PayloadParams → PayloadParams → Type 0
IsAtBestMatch remote old new =
    (best : PayloadParams) × HasTypesOf new best × Contains remote best × (score old.spec best.spec ≢ None)
    × (old.spec.codec ≢ AmrWb → IsBestChoice (λ theirs. score old.spec theirs.spec) remote best)

placed-at_best_match : (taken unlocked : TypeSet) (remote : List PayloadParams) (row new : PayloadParams) (choice : Option PayloadParams)
    → IsChoice (choice_points_for taken true row) remote choice → placed taken unlocked true row choice ≡ Ok new
    → row.locked ≡ false → new.locked ≡ true → IsAtBestMatch remote row new
placed-at_best_match taken unlocked remote row new None none h l k = grind (arith, first_pass_placed-no_choice)
placed-at_best_match taken unlocked remote row new (Some c) best h l k =
    let parts = locked_parts taken unlocked true row c new (sym (placed-open_row taken unlocked true row c l) ∙ h) in
    let primary : new.pt ≡ c.pt = ap (λ r. r.pt) (sym parts.all)
    ∙ sym (round_role-received taken unlocked c.pt (Some row.pt) parts.pt parts.pt_is) in
    let resend : new.resend ≡ c.resend = ap (λ r. r.resend) (sym parts.all)
    ∙ sym (rtx-received _ unlocked c.resend row.resend parts.resend parts.resend_is) in
    let Best : (PayloadParams → Option ℕ) → Type 0 = λ points. IsBestChoice points remote c in (
      c,
      (primary, resend),
      pass_split_has remote best.before c best.after best.split,
      some_score taken true row c best.most best.has_most,
      λ not_amr. subst Best (fun_ext
          (λ theirs. points-score taken true row theirs (matched_may_leave-false true row (λ _ amr. absurd (not_amr amr))))) best,
    )

-- where the remote receives, a newly locked row has the types of the last remote row of greatest score
pub locked_at_best : (before remote : List PayloadParams) (receives : Bool) (after : List PayloadParams)
    → RoundLeaves before remote receives after → receives ≡ true → LockedAtBest remote before after
locked_at_best before remote receives after r is_true = received (subst Left is_true r) where
  Left : Bool → Type 0
  Left b = RoundLeaves before remote b after

  received : RoundLeaves before remote true after → LockedAtBest remote before after
  received s i old new at_old at_new l k =
      let steps = row_steps before remote true after s i old new at_old at_new in
      let locks : steps.between.locked ≡ true = sym (settled-locked _ _ _ steps.between new steps.then_settled) ∙ k in
      subst (IsAtBestMatch remote old) (sym (settled-same _ _ _ steps.between new steps.then_settled locks))
      (placed-at_best_match _ _ remote old steps.between steps.became.choice steps.became.is_choice steps.became.placed_so l locks)
