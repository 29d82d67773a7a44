-- Types stay at most 127.
use Rattle.str0m_formats.proofs.Common.{arith, zero, suc, ◌≡◌, ℕ, Bool, true, false, cond, find, nat_lt, List, [], ◌∷◌, ◌++◌, Option, Some}
use Rattle.str0m_formats.proofs.Common.{None, Ok, IfSome, refl, sym, ap, ◌∙◌, subst, slice_get, option_to_list, option_or, find-append}
use Rattle.str0m_formats.proofs.Common.{le-ltb, IfOk-at_ok}
use Rattle.str0m_formats.proofs.round.ClaimedSets.{free_claim-small}
use Rattle.str0m_formats.proofs.round.FirstPass.{first_pass_none-parts, row_types_small_at, choice_types_small, placed-locked}
use Rattle.str0m_formats.proofs.round.FirstPass.{placed-open_row}
use Rattle.str0m_formats.proofs.round.FirstPass.{first_pass_placed-no_choice}
use Rattle.str0m_formats.proofs.round.FirstPass.{locked_parts}
use Rattle.str0m_formats.proofs.round.RoundsInvariants.{locked_once}
use Rattle.str0m_formats.proofs.round.RoundsRowSteps.{row_steps, round_role-given, rtx-given, red-given, round_kept_role-given}
use Rattle.str0m_formats.proofs.round.RoundsWhole.{row_before}
use Rattle.str0m_formats.proofs.round.SettlingPass.{settled_parts, new_red, new_resend, with_red, settled-same}
use Rattle.str0m_formats.specs.codec.Codec.{CodecContent, codec_content}
use Rattle.str0m_formats.specs.declared.row.payload_params.PayloadParams.{PayloadParams}
use Rattle.str0m_formats.specs.round.Choices.{choice_points_for}
use Rattle.str0m_formats.specs.round.Claimed.{TypeSet, with_type, claimed_with_option, either_set, free, AllTypesDistinct}
use Rattle.str0m_formats.specs.round.Rounds.{red_type, round_red_of_audio, placed, settled_row, RoundLeaves}
use Rattle.str0m_formats.specs.row.PayloadParams.{AllTypesSmall, types_of, types, locked_types}

pub small-append : (xs ys : List ℕ) → AllTypesSmall xs → AllTypesSmall ys → AllTypesSmall (xs ++ ys)
small-append xs ys hx hy = find-append (nat_lt 127) xs ys ∙ ap (λ o. option_or o (find (nat_lt 127) ys)) hx ∙ hy

-- rows each of whose types is small, row by row
small_rows : (rows : List PayloadParams) → ((i : ℕ) (row : PayloadParams) → slice_get rows i ≡ Some row → AllTypesSmall (types_of row))
    → AllTypesSmall (types rows)
small_rows [] h = refl
small_rows (r ∷ rows) h = small-append (types_of r) (types rows) (h zero r refl) (small_rows rows (λ i row e. h (suc i) row e))

-- the types of a row, role by role
abbrev Small : ℕ → Type 0
Small t = AllTypesSmall (t ∷ [])

abbrev SmallRoles : PayloadParams → Type 0
SmallRoles row = Small row.pt × IfSome row.resend Small × IfSome row.red Small

small_single : (o : Option ℕ) → AllTypesSmall (option_to_list o) → IfSome o Small
small_single o h = grind arith

listed_small : (o : Option ℕ) → IfSome o Small → AllTypesSmall (option_to_list o)
listed_small o h = grind arith

round_small_roles_of : (row : PayloadParams) → AllTypesSmall (types_of row) → SmallRoles row
round_small_roles_of row h = grind arith

round_small_of_roles : (p : ℕ) (x r : Option ℕ) → Small p → IfSome x Small → IfSome r Small
    → AllTypesSmall (p ∷ (option_to_list x ++ option_to_list r))
round_small_of_roles p x r hp hx hr = grind arith

round_free-fits : (taken unlocked : TypeSet) (t : ℕ) → free (either_set taken unlocked) ≡ Some t → Small t
round_free-fits taken unlocked t e = ap (λ b. cond {A = Option ℕ} b (Some t) None)
    (le-ltb 127 t (free_claim-small (either_set taken unlocked) t e).0)

-- whether it is in a set or not
type_small_anyway : (set : TypeSet) (o : Option ℕ) → IfSome o Small → IfSome o (λ t. set t ≡ false → Small t)
type_small_anyway set o h = grind arith

-- ---- the first pass

audio-small : (c : CodecContent) (o : Option ℕ) → IfSome o Small → IfSome (round_red_of_audio c o) Small
audio-small c o h = grind arith

placed-small : (taken unlocked : TypeSet) (receives : Bool) (row new : PayloadParams) (choice : Option PayloadParams)
    → placed taken unlocked receives row choice ≡ Ok new → AllTypesSmall (types_of row) → IfSome choice (λ c. AllTypesSmall (types_of c))
    → AllTypesSmall (types_of new)
placed-small taken unlocked receives row new None h s k = grind (arith, first_pass_placed-no_choice)
placed-small taken unlocked receives row new (Some c) h s k = go row.locked refl where
  go : (b : Bool) → row.locked ≡ b → AllTypesSmall (types_of new)
  go true l = ap (find (nat_lt 127)) (placed-locked taken unlocked receives row new (Some c) h l).1 ∙ s
  go false l =
      let parts = locked_parts taken unlocked receives row c new (sym (placed-open_row taken unlocked receives row c l) ∙ h) in
      let own = round_small_roles_of row s in
      let asked = round_small_roles_of c k in
      let one = with_type taken parts.pt in
      let two = claimed_with_option one parts.resend in
      let red = red_type two unlocked receives c.red row.red in
      ap (λ r. find (nat_lt 127) (types_of r)) (sym parts.all)
      ∙ round_small_of_roles parts.pt parts.resend (round_red_of_audio (codec_content row.spec.codec) red)
      (IfOk-at_ok Small parts.pt_is
      (round_role-given Small taken unlocked (round_free-fits taken unlocked) receives c.pt (Some row.pt) (λ _. asked.0) (λ _. own.0)))
      (IfOk-at_ok (λ o. IfSome o Small) parts.resend_is
      (rtx-given Small one unlocked (round_free-fits one unlocked) receives c.resend row.resend (type_small_anyway one c.resend asked.1)
      (type_small_anyway one row.resend own.1)))
      (audio-small (codec_content row.spec.codec) red
      (red-given Small two unlocked (round_free-fits two unlocked) receives c.red row.red (type_small_anyway two c.red asked.2)))

-- ---- the second pass

settled-small : (locked taken unlocked : TypeSet) (row new : PayloadParams) → settled_row locked taken unlocked row ≡ Ok new
    → AllTypesSmall (types_of row) → AllTypesSmall (types_of new)
settled-small locked taken unlocked row new h s = go row.locked refl where
  go : (b : Bool) → row.locked ≡ b → AllTypesSmall (types_of new)
  go true l = ap (λ r. find (nat_lt 127) (types_of r)) (settled-same locked taken unlocked row new h l) ∙ s
  go false l =
      let parts = settled_parts locked taken unlocked row new h l in
      let own = round_small_roles_of row s in
      let one = with_type taken parts.pt in
      let two = with_red locked taken unlocked row parts.pt in
      let Fits : Option ℕ → Type 0 = λ o. IfSome o Small in
      ap (λ r. find (nat_lt 127) (types_of r)) (sym parts.all)
      ∙ round_small_of_roles parts.pt (new_resend locked taken unlocked row parts.pt) (new_red locked taken unlocked row parts.pt)
      (subst Fits parts.pt_is (round_kept_role-given Small taken unlocked (round_free-fits taken unlocked) locked (Some row.pt)
      (λ _. own.0)))
      (round_kept_role-given Small two unlocked (round_free-fits two unlocked) locked row.resend
      (type_small_anyway locked row.resend own.1))
      (round_kept_role-given Small one unlocked (round_free-fits one unlocked) locked row.red
      (type_small_anyway locked row.red own.2))

-- ---- a round

-- after a round no type is above 127, since none was before it on either side
pub small_after : (before remote : List PayloadParams) (receives : Bool) (after : List PayloadParams)
    → RoundLeaves before remote receives after
    → AllTypesSmall (types after)
small_after before remote receives after r = small_rows after at where
  at : (i : ℕ) (new : PayloadParams) → slice_get after i ≡ Some new → AllTypesSmall (types_of new)
  at i new at_new =
      let old = row_before before after i new (r.whole ∙ r.first.whole) at_new in
      let steps = row_steps before remote receives after r i old.0 new old.1 at_new in
      let small = first_pass_none-parts (nat_lt 127) (types before) (types remote) r.first.may.small in
      let chosen = choice_types_small (choice_points_for _ receives old.0) remote steps.became.choice steps.became.is_choice small.1 in
      settled-small _ _ _ steps.between new steps.then_settled
      (placed-small _ _ receives old.0 steps.between steps.became.choice steps.became.placed_so
      (row_types_small_at before i old.0 small.0 old.1)
      chosen)

-- so the next round may begin, against rows of small types
pub type_bounds_kept : (before remote : List PayloadParams) (receives : Bool) (after : List PayloadParams)
    → RoundLeaves before remote receives after
    → AllTypesSmall (types after) × AllTypesDistinct (locked_types after)
type_bounds_kept before remote receives after r = (small_after before remote receives after r, locked_once before remote receives after r)
