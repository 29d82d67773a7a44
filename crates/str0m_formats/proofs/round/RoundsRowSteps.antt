-- What a round does to the row at a place, step by step.
use Rattle.str0m_formats.proofs.Common.{arith, ◌≡◌, ℕ, Bool, true, false, List, take, Option, Some, None, Result, Ok, Err, IfOk, IfErr}
use Rattle.str0m_formats.proofs.Common.{IfSome, slice_get, ok_or}
use Rattle.str0m_formats.proofs.round.RoundsWhole.{row_before}
use Rattle.str0m_formats.specs.declared.round.negotiation_error.NegotiationError.{NegotiationError}
use Rattle.str0m_formats.specs.declared.round.negotiation_error.NegotiationError.TheVariants.{Exhausted, ClaimedTwice}
use Rattle.str0m_formats.specs.declared.row.payload_params.PayloadParams.{PayloadParams}
use Rattle.str0m_formats.specs.round.Claimed.{TypeSet, has, either_set, free}
use Rattle.str0m_formats.specs.round.Rounds.{then_in_round, role_type, rtx_type, red_type, types_taken_by, types_taken_after, settled_row}
use Rattle.str0m_formats.specs.round.Rounds.{kept_red, RowBecomes}
use Rattle.str0m_formats.specs.round.Rounds.{RoundLeaves}
use Rattle.str0m_formats.specs.row.PayloadParams.{locked_types, open_types}

-- ---- what a step gives, by its parts

pub round_step_then_ok : {A B : Type 0} (r : Result A NegotiationError) (f : A → Result B NegotiationError) (P : A → Type 0) (Q : B
    → Type 0)
    → IfOk r P → ((x : A) → P x → IfOk (f x) Q) → IfOk (then_in_round r f) Q
round_step_then_ok r f P Q first next = grind arith

pub round_step_then_err : {A B : Type 0} (r : Result A NegotiationError) (f : A → Result B NegotiationError) (Q : NegotiationError → Type 0)
    → IfErr r Q → ((x : A) → IfErr (f x) Q) → IfErr (then_in_round r f) Q
round_step_then_err r f Q first next = grind arith

-- what holds of a free type, and of there being none, holds of the choice of one
pub round_free_cases : (P : Result ℕ NegotiationError → Type 0) (used : TypeSet) → ((t : ℕ) → free used ≡ Some t → P (Ok t))
    → (free used ≡ None → P (Err Exhausted)) → P (ok_or (free used) Exhausted)
round_free_cases P used some none = grind arith

-- a role has the type that is asked for, its own or a free one, or is refused what is demanded
pub round_role_cases : (P : Result ℕ NegotiationError → Type 0) (taken unlocked : TypeSet) (receives : Bool) (asked : ℕ) (own : Option ℕ)
    → (taken asked ≡ false → P (Ok asked)) → (receives ≡ true → P (Err (ClaimedTwice asked))) → IfSome own (λ t. taken t ≡ false → P (Ok t))
    → P (ok_or (free (either_set taken unlocked)) Exhausted)
    → P (role_type taken unlocked receives asked own)
unfolding role_type
round_role_cases P taken unlocked receives asked own is_asked demanded is_own is_free = grind arith

-- what holds of a free type, and of each that may be kept, holds of the types that roles are given
module _ (Q : ℕ → Type 0) (taken unlocked : TypeSet) (given : (t : ℕ) → free (either_set taken unlocked) ≡ Some t → Q t) where
  round_free_given : (o : Option ℕ) → free (either_set taken unlocked) ≡ o → IfSome o Q
  round_free_given o e = grind arith

  pub round_role-given : (receives : Bool) (asked : ℕ) (own : Option ℕ) → (taken asked ≡ false → Q asked)
      → IfSome own (λ t. taken t ≡ false → Q t) → IfOk (role_type taken unlocked receives asked own) Q
  round_role-given receives asked own is_asked is_own =
      round_role_cases (λ r. IfOk r Q) taken unlocked receives asked own is_asked (λ _. tt) is_own
      (round_free_cases (λ r. IfOk r Q) (either_set taken unlocked) given (λ _. tt))

  pub rtx-given : (receives : Bool) (asked own : Option ℕ) → IfSome asked (λ t. taken t ≡ false → Q t)
      → IfSome own (λ t. taken t ≡ false → Q t) → IfOk (rtx_type taken unlocked receives asked own) (λ o. IfSome o Q)
  unfolding rtx_type
  rtx-given receives None own is_asked is_own = tt
  rtx-given receives (Some asked) own is_asked is_own =
      round_step_then_ok (role_type taken unlocked receives asked own) (λ t. Ok (Some t)) Q (λ o. IfSome o Q)
      (round_role-given receives asked own is_asked is_own) (λ t q. q)

  pub red-given : (receives : Bool) (asked own : Option ℕ) → IfSome asked (λ t. taken t ≡ false → Q t)
      → IfSome (red_type taken unlocked receives asked own) Q
  unfolding red_type
  red-given receives asked own is_asked = grind arith

  pub round_kept_role-given : (locked : TypeSet) (own : Option ℕ) → IfSome own (λ t. locked t ≡ false → Q t)
      → IfSome (kept_red locked taken unlocked own) Q
  round_kept_role-given locked own is_own = grind arith

-- the row between the passes, and what each pass does
pub record RowSteps (before remote : List PayloadParams) (receives : Bool) (mid after : List PayloadParams) (i : ℕ)
    (old new : PayloadParams) : Type 0 where
  pub between : PayloadParams
  pub at_between : slice_get mid i ≡ Some between
  pub became : RowBecomes (types_taken_by before (take i mid)) (has (open_types before)) remote receives old (Ok between)
  pub then_settled : settled_row (has (locked_types mid)) (types_taken_after mid (take i after)) (has (open_types before)) between ≡ Ok new

pub row_steps : (before remote : List PayloadParams) (receives : Bool) (after : List PayloadParams)
    (r : RoundLeaves before remote receives after) (i : ℕ) (old new : PayloadParams) → slice_get before i ≡ Some old
    → slice_get after i ≡ Some new
    → RowSteps before remote receives r.mid after i old new
row_steps before remote receives after r i old new at_old at_new =
    let mid = row_before r.mid after i new r.whole at_new in
    record {
      between = mid.0;
      at_between = mid.1;
      became = r.first.begun.each i old mid.0 at_old mid.1;
      then_settled = r.second.each i mid.0 new mid.1 at_new;
    }
