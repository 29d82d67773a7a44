-- How often a type stands in a row that stays open.
use Rattle.str0m_formats.proofs.Common.{◌≡◌, ℕ, ◌+◌, ◌≤◌, ◌⊎◌, inl, inr, Bool, true, false, cond, [], ◌∷◌, ◌++◌, Option, Some, None, refl}
use Rattle.str0m_formats.proofs.Common.{sym, ap, ◌∙◌, subst, arith, option_to_list, cases_Bool, or_parts, or_left}
use Rattle.str0m_formats.proofs.round.ClaimedSets.{free_claim-small}
use Rattle.str0m_formats.proofs.round.ClaimedTimes.{type_times-nil}
use Rattle.str0m_formats.proofs.round.SettlingPass.{SettledParts, new_red, new_resend, with_red}
use Rattle.str0m_formats.specs.declared.row.payload_params.PayloadParams.{PayloadParams}
use Rattle.str0m_formats.specs.round.Claimed.{TypeSet, with_type, claimed_with_option, either_set, free, type_times}
use Rattle.str0m_formats.specs.round.Rounds.{kept_red}
use Rattle.str0m_formats.specs.row.PayloadParams.{types_of}

-- ---- one role

-- a type that a set has isn't one that it hasn't
settling_none-other : (set : TypeSet) (x t : ℕ) → set x ≡ false → set t ≡ true → type_times (x ∷ []) t ≡ 0
settling_none-other set x t hx ht = grind arith

-- a type in use is given to none
settling_free-none : (used : TypeSet) (t : ℕ) → used t ≡ true → type_times (option_to_list (free used)) t ≡ 0
settling_free-none used t h = grind (arith, type_times-nil, settling_none-other, free_claim-small)

-- a type in use is there after a role is settled only where it was there before
settled_role-held : (locked taken unlocked : TypeSet) (own : Option ℕ) (t : ℕ) → either_set taken unlocked t ≡ true
    → type_times (option_to_list (kept_red locked taken unlocked own)) t ≤ type_times (option_to_list own) t
settled_role-held locked taken unlocked None t h = omega arith
settled_role-held locked taken unlocked (Some x) t h = grind (arith, settling_free-none (either_set taken unlocked) t h)

-- a type of a locked row isn't there
settled_role-apart : (locked taken unlocked : TypeSet) (own : Option ℕ) (t : ℕ) → locked t ≡ true
    → either_set taken unlocked t ≡ true
    → type_times (option_to_list (kept_red locked taken unlocked own)) t ≡ 0
settled_role-apart locked taken unlocked None t l h = type_times-nil t
settled_role-apart locked taken unlocked (Some x) t l h = go (locked x) refl where
  go : (b : Bool) → locked x ≡ b → type_times (option_to_list (cond b (free (either_set taken unlocked)) (Some x))) t ≡ 0
  go true e = settling_free-none (either_set taken unlocked) t h
  go false e = settling_none-other locked x t e l

-- a role has a type at most once
settling_one_role : (o : Option ℕ) (t : ℕ) → type_times (option_to_list o) t ≤ 1
settling_one_role o t = grind arith

-- a type that a set doesn't have once a role's type is in it isn't that type
settling_role-apart : (set : TypeSet) (o : Option ℕ) (t : ℕ) → claimed_with_option set o t ≡ false → type_times (option_to_list o) t ≡ 0
settling_role-apart set o t h = grind arith

type_times-roles : (p : ℕ) (x r : Option ℕ) (t : ℕ) → type_times (p ∷ (option_to_list x ++ option_to_list r)) t ≡ type_times (p ∷ []) t
    + type_times (option_to_list x) t + type_times (option_to_list r) t
type_times-roles p x r t = grind arith

settling_wider : (taken unlocked : TypeSet) (o : Option ℕ) (t : ℕ) → either_set taken unlocked t ≡ true
    → either_set (claimed_with_option taken o) unlocked t ≡ true
settling_wider taken unlocked o t h = grind arith

-- ---- a row, role by role

type_times-settled : (locked taken unlocked : TypeSet) (row new : PayloadParams) (parts : SettledParts locked taken unlocked row new)
    (t : ℕ)
    → type_times (types_of new) t ≡ type_times (parts.pt ∷ []) t
    + type_times (option_to_list (new_resend locked taken unlocked row parts.pt)) t
    + type_times (option_to_list (new_red locked taken unlocked row parts.pt)) t
type_times-settled locked taken unlocked row new parts t = grind arith

-- a type in use stands in it no more often than before
pub settled_row-held : (locked taken unlocked : TypeSet) (row new : PayloadParams) → SettledParts locked taken unlocked row new → (t : ℕ)
    → either_set taken unlocked t ≡ true → type_times (types_of new) t ≤ type_times (types_of row) t
settled_row-held locked taken unlocked row new parts t h =
    let h1 = settling_wider taken unlocked (Some parts.pt) t h in
    let h2 = settling_wider (with_type taken parts.pt) unlocked (new_red locked taken unlocked row parts.pt) t h1 in
    let Held : Option ℕ → Type 0 = λ o. type_times (option_to_list o) t ≤ type_times (row.pt ∷ []) t in
    let primary : type_times (parts.pt ∷ []) t ≤ type_times (row.pt ∷ []) t =
    subst Held parts.pt_is (settled_role-held locked taken unlocked (Some row.pt) t h) in
    omega (
      arith,
      type_times-settled locked taken unlocked row new parts t,
      type_times-roles row.pt row.resend row.red t,
      primary,
      settled_role-held locked (with_type taken parts.pt) unlocked row.red t h1,
      settled_role-held locked (with_red locked taken unlocked row parts.pt) unlocked row.resend t h2,
    )

-- a type of a locked row, which is taken, isn't there
pub settled_row-apart : (locked taken unlocked : TypeSet) (row new : PayloadParams) → SettledParts locked taken unlocked row new → (t : ℕ)
    → locked t ≡ true → taken t ≡ true → type_times (types_of new) t ≡ 0
settled_row-apart locked taken unlocked row new parts t l k =
    let h = or_left (taken t) (unlocked t) k in
    let h1 = settling_wider taken unlocked (Some parts.pt) t h in
    let h2 = settling_wider (with_type taken parts.pt) unlocked (new_red locked taken unlocked row parts.pt) t h1 in
    let primary : type_times (parts.pt ∷ []) t ≡ 0 = ap (λ o. type_times (option_to_list o) t) (sym parts.pt_is)
    ∙ settled_role-apart locked taken unlocked (Some row.pt) t l h in
    omega (
      arith,
      type_times-settled locked taken unlocked row new parts t,
      primary,
      settled_role-apart locked (with_type taken parts.pt) unlocked row.red t l h1,
      settled_role-apart locked (with_red locked taken unlocked row parts.pt) unlocked row.resend t l h2,
    )

-- a type that it didn't have stands in it once at most
pub settled_row-once : (locked taken unlocked : TypeSet) (row new : PayloadParams) → SettledParts locked taken unlocked row new → (t : ℕ)
    → type_times (types_of row) t ≡ 0 → type_times (types_of new) t ≤ 1
settled_row-once locked taken unlocked row new parts t none = primary (cases_Bool (either_set (with_type taken parts.pt) unlocked t)) where
  none_own : (type_times (row.pt ∷ []) t ≡ 0) × (type_times (option_to_list row.resend) t ≡ 0) × (type_times (option_to_list row.red) t ≡ 0)
  none_own = let sum = type_times-roles row.pt row.resend row.red t in
      (omega (arith, sum, none), omega (arith, sum, none), omega (arith, sum, none))

  no_resend : either_set (with_red locked taken unlocked row parts.pt) unlocked t ≡ true
      → type_times (option_to_list (new_resend locked taken unlocked row parts.pt)) t ≡ 0
  no_resend h = omega (
    arith,
    settled_role-held locked (with_red locked taken unlocked row parts.pt) unlocked row.resend t h,
    none_own.1,
  )

  rest : type_times (parts.pt ∷ []) t ≡ 0
      → (either_set (with_red locked taken unlocked row parts.pt) unlocked t ≡ true) ⊎
      (either_set (with_red locked taken unlocked row parts.pt) unlocked t ≡ false) → type_times (types_of new) t ≤ 1
  rest no_pt (inl h) = omega (
    arith,
    type_times-settled locked taken unlocked row new parts t,
    no_pt,
    no_resend h,
    settling_one_role (new_red locked taken unlocked row parts.pt) t,
  )
  rest no_pt (inr h) =
      let no_red = settling_role-apart (with_type taken parts.pt) (new_red locked taken unlocked row parts.pt) t
      (or_parts (with_red locked taken unlocked row parts.pt t) (unlocked t) h).0 in
      omega (
        arith,
        type_times-settled locked taken unlocked row new parts t,
        no_pt,
        no_red,
        settling_one_role (new_resend locked taken unlocked row parts.pt) t,
      )

  primary : (either_set (with_type taken parts.pt) unlocked t ≡ true) ⊎ (either_set (with_type taken parts.pt) unlocked t ≡ false)
      → type_times (types_of new) t ≤ 1
  primary (inl h) =
      let no_rtx = no_resend (settling_wider (with_type taken parts.pt) unlocked (new_red locked taken unlocked row parts.pt) t h) in
      omega (
        arith,
        type_times-settled locked taken unlocked row new parts t,
        settling_one_role (Some parts.pt) t,
        settled_role-held locked (with_type taken parts.pt) unlocked row.red t h,
        no_rtx,
        none_own.2,
      )
  primary (inr h) =
      rest (settling_role-apart taken (Some parts.pt) t (or_parts (with_type taken parts.pt t) (unlocked t) h).0)
      (cases_Bool (either_set (with_red locked taken unlocked row parts.pt) unlocked t))
