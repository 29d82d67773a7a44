-- The second pass of a round: what one row changes, and the state between two rows.
use Rattle.str0m_formats.proofs.Common.{◌≡◌, ◌==◌, ℕ, ◌+◌, ◌<◌, Bool, true, false, ◌||◌, cond, if◌then◌else◌, List, [], ◌∷◌, ◌++◌, length}
use Rattle.str0m_formats.proofs.Common.{take, drop, get_or, Option, Some, None, Result, Ok, Err, refl, sym, ap, ◌∙◌, subst, arith}
use Rattle.str0m_formats.proofs.Common.{slice_get, ok_or, append_assoc, append-nil, take_more_set, drop-set-lt, length-set, length-take-le}
use Rattle.str0m_formats.proofs.Common.{length_push, drop_more_same, true≢false, eqb-true, or_parts, or-false, fun_ext, set}
use Rattle.str0m_formats.proofs.round.ClaimedSets.{free_claim-small, claimed_or_turned}
use Rattle.str0m_formats.proofs.round.FirstPass.{then_in_round-ok, same_row_Ok}
use Rattle.str0m_formats.proofs.round.RoundsPasses.{EachPassPlace, pass_each_push, pass_get_from_rest}
use Rattle.str0m_formats.proofs.row.PayloadParamsSets.{row_types_has-append, open_types-push}
use Rattle.str0m_formats.specs.declared.round.negotiation_error.NegotiationError.{NegotiationError}
use Rattle.str0m_formats.specs.declared.round.negotiation_error.NegotiationError.TheVariants.{Exhausted}
use Rattle.str0m_formats.specs.declared.row.payload_params.PayloadParams.{PayloadParams}
use Rattle.str0m_formats.specs.round.Claimed.{TypeSet, has, with_type, claimed_with_option, either_set, free}
use Rattle.str0m_formats.specs.round.Claims.{ClaimsServe}
use Rattle.str0m_formats.specs.round.Rounds.{settled_row, then_in_round, kept_or_free_claim, kept_red, kept_rtx, types_taken_after, Settled}
use Rattle.str0m_formats.specs.round.Rounds.{StopsSettling}
use Rattle.str0m_formats.specs.row.PayloadParams.{types_of, locked_types, open_types}

-- ---- what a row becomes

pub settling_not_ok : {A : Type 0} {cause : NegotiationError} {x : A} → ◌≡◌ {A = Result A NegotiationError} (Err cause) (Ok x) → ⊥
settling_not_ok e = cc

pub settling_ok_or_found : (o : Option ℕ) (x : ℕ) → ok_or o Exhausted ≡ Ok x → o ≡ Some x
settling_ok_or_found None x e = absurd (settling_not_ok e)
settling_ok_or_found (Some y) x e = ap (λ z. Some z) (same_row_Ok y x e)

-- the RED of a row that stays open, and then its RTX, once its primary type is settled
abbrev pub new_red : TypeSet → TypeSet → TypeSet → PayloadParams → ℕ → Option ℕ
new_red locked taken unlocked row pt = kept_red locked (with_type taken pt) unlocked row.red

-- what is taken once its RED is settled, too
abbrev pub with_red : TypeSet → TypeSet → TypeSet → PayloadParams → ℕ → TypeSet
with_red locked taken unlocked row pt = claimed_with_option (with_type taken pt) (new_red locked taken unlocked row pt)

abbrev pub new_resend : TypeSet → TypeSet → TypeSet → PayloadParams → ℕ → Option ℕ
new_resend locked taken unlocked row pt = kept_red locked (with_red locked taken unlocked row pt) unlocked row.resend

-- a locked row is left as it is; an open one is settled role by role
pub settled_if_locked : (locked taken unlocked : TypeSet) (row : PayloadParams) → row.locked ≡ true
    → ◌≡◌ {A = Result PayloadParams NegotiationError} (Ok row) (settled_row locked taken unlocked row)
unfolding settled_row
settled_if_locked locked taken unlocked row l = rw l refl

-- what is left to do once the primary type is found, and once the RED is
abbrev from_red : TypeSet → TypeSet → TypeSet → PayloadParams → ℕ → Option ℕ → Result PayloadParams NegotiationError
from_red locked taken unlocked row pt red = then_in_round
    (kept_rtx locked (claimed_with_option (with_type taken pt) red) unlocked row.resend)
    (λ resend. Ok (record row { pt = pt; resend = resend; red = red }))

abbrev from_pt : TypeSet → TypeSet → TypeSet → PayloadParams → ℕ → Result PayloadParams NegotiationError
from_pt locked taken unlocked row pt = from_red locked taken unlocked row pt (kept_red locked (with_type taken pt) unlocked row.red)

settled_if_open : (locked taken unlocked : TypeSet) (row : PayloadParams) → row.locked ≡ false
    → settled_row locked taken unlocked row ≡ then_in_round (ok_or (kept_or_free_claim locked taken unlocked row.pt) Exhausted)
    (from_pt locked taken unlocked row)
unfolding settled_row
settled_if_open locked taken unlocked row l = rw l refl

pub settled-same : (locked taken unlocked : TypeSet) (row new : PayloadParams) → settled_row locked taken unlocked row ≡ Ok new
    → row.locked ≡ true → new ≡ row
settled-same locked taken unlocked row new h l = sym (same_row_Ok row new (settled_if_locked locked taken unlocked row l ∙ h))

-- what a row that stays open becomes
pub record SettledParts (locked taken unlocked : TypeSet) (row new : PayloadParams) : Type 0 where
  pub pt : ℕ
  pub pt_is : kept_or_free_claim locked taken unlocked row.pt ≡ Some pt
  pub all : record row { pt = pt; resend = new_resend locked taken unlocked row pt; red = new_red locked taken unlocked row pt } ≡ new

kept_rtx-is_kept_red : (locked taken unlocked : TypeSet) (own new : Option ℕ) → kept_rtx locked taken unlocked own ≡ Ok new
    → kept_red locked taken unlocked own ≡ new
kept_rtx-is_kept_red locked taken unlocked None new h = same_row_Ok None new h
kept_rtx-is_kept_red locked taken unlocked (Some t) new h = grind (arith, then_in_round-ok, settling_ok_or_found, same_row_Ok)

pub settled_parts : (locked taken unlocked : TypeSet) (row new : PayloadParams) → settled_row locked taken unlocked row ≡ Ok new
    → row.locked ≡ false → SettledParts locked taken unlocked row new
settled_parts locked taken unlocked row new h l = grind (arith, then_in_round-ok, settled_if_open, kept_rtx-is_kept_red, same_row_Ok)

-- a row stays locked or open
pub settled-locked : (locked taken unlocked : TypeSet) (row new : PayloadParams) → settled_row locked taken unlocked row ≡ Ok new
    → new.locked ≡ row.locked
settled-locked locked taken unlocked row new h = go row.locked refl where
  go : (b : Bool) → row.locked ≡ b → new.locked ≡ row.locked
  go true l = ap (λ r. r.locked) (settled-same locked taken unlocked row new h l)
  go false l = ap (λ r. r.locked) (sym (settled_parts locked taken unlocked row new h l).all)

-- what a row adds to the types that are taken
pub types_taken_after-push : (mid done : List PayloadParams) (row new : PayloadParams) → new.locked ≡ row.locked
    → cond row.locked (types_taken_after mid done) (either_set (types_taken_after mid done) (has (types_of new)))
    ≡ types_taken_after mid (done ++ new ∷ [])
types_taken_after-push mid done row new e = go row.locked (sym e) where
  longer : locked_types mid ++ open_types (done ++ new ∷ []) ≡ (locked_types mid ++ open_types done) ++ cond new.locked [] (types_of new)
  longer = ap (λ ts. locked_types mid ++ ts) (open_types-push done new)
      ∙ sym (append_assoc (locked_types mid) (open_types done) (cond new.locked [] (types_of new)))

  go : (b : Bool) → b ≡ new.locked → cond b (types_taken_after mid done) (either_set (types_taken_after mid done) (has (types_of new)))
      ≡ types_taken_after mid (done ++ new ∷ [])
  go true l = ap has (sym (longer ∙ ap (λ b. (locked_types mid ++ open_types done) ++ cond b [] (types_of new)) (sym l)
      ∙ append-nil (locked_types mid ++ open_types done)))
  go false l = sym (ap has (longer ∙ ap (λ b. (locked_types mid ++ open_types done) ++ cond b [] (types_of new)) (sym l))
      ∙ row_types_has-append (locked_types mid ++ open_types done) (types_of new))

-- ---- what is claimed, where types that are kept aren't claimed

-- a type that is kept changes nothing, since it was open before
pub settling_kept_serves : (claimed unlocked locked taken : TypeSet) (pt : ℕ) → ClaimsServe claimed unlocked locked taken
    → unlocked pt ≡ true
    → ClaimsServe claimed unlocked locked (with_type taken pt)
settling_kept_serves claimed unlocked locked taken pt s open_before = record {
  locked_is = s.locked_is;
  in_use = s.in_use ∙ fun_ext (λ t. go (taken t) (unlocked t) (pt == t) (λ e. ap unlocked (sym (eqb-true pt t e)) ∙ open_before));
} where
  go : (a u same : Bool) → (same ≡ true → u ≡ true) → (a || u) ≡ ((a || same) || u)
  go true u same h = refl
  go false u true h = h refl
  go false u false h = refl

-- a free type is claimed, and wasn't open before
pub settling_given_serves : (claimed unlocked locked taken new : TypeSet) (result : Option ℕ) → ClaimsServe claimed unlocked locked taken
    → result ≡ free (either_set claimed unlocked) → new ≡ claimed_with_option claimed result
    → ClaimsServe new unlocked locked (claimed_with_option taken result)
settling_given_serves claimed unlocked locked taken new None s found e = grind arith
settling_given_serves claimed unlocked locked taken new (Some y) s found e =
    let P : TypeSet → Type 0 = λ set. ClaimsServe set unlocked locked (with_type taken y) in
    subst P (sym e) (record {
      locked_is = λ t u. ap (λ b. claimed t || b) (other t u (y == t) refl) ∙ or-false (claimed t) ∙ s.locked_is t u;
      in_use = fun_ext (λ t. claimed_or_turned (claimed t) (y == t) (unlocked t) ∙ ap (λ set. set t || y == t) s.in_use
          ∙ sym (claimed_or_turned (taken t) (y == t) (unlocked t)));
    }) where
      not_open : unlocked y ≡ false
      not_open = (or_parts (claimed y) (unlocked y) (free_claim-small (either_set claimed unlocked) y (sym found)).1).1

      other : (t : ℕ) → unlocked t ≡ true → (b : Bool) → (y == t) ≡ b → (y == t) ≡ false
      other t u true h = absurd (true≢false (sym u ∙ ap unlocked (sym (eqb-true y t h)) ∙ not_open))
      other t u false h = h

-- a RED that is settled beside the same open types
pub red_step : (claimed1 claimed2 unlocked unlocked1 unlocked2 locked taken : TypeSet) (red asked : Option ℕ) → unlocked1 ≡ unlocked
    → unlocked2 ≡ unlocked1 → ClaimsServe claimed1 unlocked locked taken
    → ((l t : TypeSet) → ClaimsServe claimed1 unlocked1 l t → red ≡ kept_red l t unlocked1 asked)
    → ((l t : TypeSet) → ClaimsServe claimed1 unlocked1 l t → ClaimsServe claimed2 unlocked1 l (claimed_with_option t red))
    → (red ≡ kept_red locked taken unlocked asked) × ClaimsServe claimed2 unlocked2 locked (claimed_with_option taken red)
red_step claimed1 claimed2 unlocked unlocked1 unlocked2 locked taken red asked same1 same2 s value claimed =
    let In : TypeSet → Type 0 = λ u. ClaimsServe claimed1 u locked taken in
    let Out : TypeSet → Type 0 = λ u. ClaimsServe claimed2 u locked (claimed_with_option taken red) in
    let s1 = subst In (sym same1) s in
    (value locked taken s1 ∙ ap (λ u. kept_red locked taken u asked) same1, subst Out (sym same2) (claimed locked taken s1))

-- ---- a row that is settled, step by step

pub settled_stops : (locked taken unlocked : TypeSet) (row : PayloadParams) (pt : Option ℕ) (cause : NegotiationError) → row.locked ≡ false
    → pt ≡ kept_or_free_claim locked taken unlocked row.pt → ok_or pt Exhausted ≡ Err cause
    → ◌≡◌ {A = Result PayloadParams NegotiationError} (Err cause) (settled_row locked taken unlocked row)
settled_stops locked taken unlocked row pt cause l k e = grind (arith, settled_if_open)

pub settled_by : (locked taken unlocked : TypeSet) (row : PayloadParams) (pt : ℕ) (red : Option ℕ)
    (resend : Result (Option ℕ) NegotiationError) → row.locked ≡ false → Some pt ≡ kept_or_free_claim locked taken unlocked row.pt
    → red ≡ kept_red locked (with_type taken pt) unlocked row.red
    → resend ≡ kept_rtx locked (claimed_with_option (with_type taken pt) red) unlocked row.resend
    → then_in_round resend (λ new. Ok (record row { pt = pt; resend = new; red = red })) ≡ settled_row locked taken unlocked row
settled_by locked taken unlocked row pt red resend l k r e = grind (arith, settled_if_open)

pub record SecondPassState (unlocked : TypeSet) (mid rows : List PayloadParams) (i : ℕ) (claimed now_unlocked : TypeSet) : Type 0 where
  pub done : Settled unlocked mid (take i rows)
  pub rest : drop i rows ≡ drop i mid
  pub whole : length rows ≡ length mid
  pub serves : ClaimsServe claimed unlocked (has (locked_types mid)) (types_taken_after mid (take i rows))
  pub unlocked_is : now_unlocked ≡ unlocked

pub second_row : (unlocked : TypeSet) (mid rows : List PayloadParams) (i : ℕ) (claimed now_unlocked : TypeSet) (row : PayloadParams)
    → SecondPassState unlocked mid rows i claimed now_unlocked → i < length rows → row ≡ get_or rows i row → slice_get mid i ≡ Some row
second_row unlocked mid rows i claimed now_unlocked row s h e = pass_get_from_rest rows mid i row h s.rest ∙ ap (λ r. Some r) (sym e)

-- the claims serve for the next row
pub settling_serves_now : (unlocked : TypeSet) (mid rows : List PayloadParams) (i : ℕ) (claimed now_unlocked : TypeSet)
    → SecondPassState unlocked mid rows i claimed now_unlocked
    → ClaimsServe claimed now_unlocked (has (locked_types mid)) (types_taken_after mid (take i rows))
settling_serves_now unlocked mid rows i claimed now_unlocked s = grind arith

pub settling_second_step : (unlocked : TypeSet) (mid rows : List PayloadParams) (i : ℕ)
    (claimed now_unlocked claimed' now_unlocked' : TypeSet)
    (row new : PayloadParams)
    → SecondPassState unlocked mid rows i claimed now_unlocked → i < length rows → row ≡ get_or rows i row
    → settled_row (has (locked_types mid)) (types_taken_after mid (take i rows)) now_unlocked row ≡ Ok new
    → ClaimsServe claimed' now_unlocked (has (locked_types mid))
    (if row.locked then types_taken_after mid (take i rows) else either_set (types_taken_after mid (take i rows)) (has (types_of new)))
    → now_unlocked' ≡ now_unlocked
    → SecondPassState unlocked mid (set rows i new) (i + 1) claimed' now_unlocked'
settling_second_step unlocked mid rows i claimed now_unlocked claimed' now_unlocked' row new s h e p k u =
    let at_row = second_row unlocked mid rows i claimed now_unlocked row s h e in
    let there : length (take i rows) ≡ i = length-take-le i rows (omega arith) in
    let front : take i rows ++ new ∷ [] ≡ take (i + 1) (set rows i new) = sym (take_more_set rows i new h) in
    let now : settled_row (has (locked_types mid)) (types_taken_after mid (take i rows)) unlocked row ≡ Ok new =
    ap (λ x. settled_row (has (locked_types mid)) (types_taken_after mid (take i rows)) x row) (sym s.unlocked_is) ∙ p in
    let Next : ℕ → Type 0 = λ n. slice_get mid n ≡ Some row in
    let each = pass_each_push (λ d r n. settled_row (has (locked_types mid)) (types_taken_after mid d) unlocked r ≡ Ok n) mid (take i rows)
    row new
    s.done.each (subst Next (sym there) at_row) now in
    let Front : List PayloadParams → Type 0 =
    λ d. EachPassPlace (λ d r n. settled_row (has (locked_types mid)) (types_taken_after mid d) unlocked r ≡ Ok n) mid d in
    let Taken : TypeSet → Type 0 = λ taken. ClaimsServe claimed' unlocked (has (locked_types mid)) taken in
    let Unlocked : TypeSet → Type 0 =
    λ x. ClaimsServe claimed' x (has (locked_types mid))
    (cond row.locked (types_taken_after mid (take i rows)) (either_set (types_taken_after mid (take i rows)) (has (types_of new)))) in
    record {
      done = record {
        within = omega (arith, ap length front, length_push (take i rows) new, there, s.whole);
        each = subst Front front each;
      };
      rest = drop-set-lt (i + 1) rows i new (omega arith) ∙ drop_more_same rows mid i s.rest;
      whole = length-set rows i new ∙ s.whole;
      serves = subst Taken
          (types_taken_after-push mid (take i rows) row new
          (settled-locked (has (locked_types mid)) (types_taken_after mid (take i rows)) now_unlocked row new p)
          ∙ ap (types_taken_after mid) front)
          (subst Unlocked s.unlocked_is k);
      unlocked_is = u ∙ s.unlocked_is;
    }

pub settling_second_stops : (unlocked : TypeSet) (mid rows : List PayloadParams) (i : ℕ) (claimed now_unlocked : TypeSet)
    (row : PayloadParams)
    (cause : NegotiationError)
    → SecondPassState unlocked mid rows i claimed now_unlocked → i < length rows → row ≡ get_or rows i row
    → settled_row (has (locked_types mid)) (types_taken_after mid (take i rows)) now_unlocked row ≡ Err cause
    → StopsSettling unlocked mid cause
settling_second_stops unlocked mid rows i claimed now_unlocked row cause s h e p =
    grind (arith, length-take-le i rows, second_row unlocked mid rows i claimed now_unlocked row s h e)
