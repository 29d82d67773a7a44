-- What holds of the locked rows after every accepted round.
use Rattle.str0m_formats.proofs.Common.{zero, suc, ◌≡◌, ◌==◌, ℕ, ◌+◌, ◌<◌, ◌≤◌, ◌⊎◌, inl, inr, Bool, true, false, not, cond, List, [], ◌∷◌}
use Rattle.str0m_formats.proofs.Common.{◌++◌, length, take, Option, Some, None, Ok, IfSome, filter, refl, sym, ap, ◌∙◌, subst, arith}
use Rattle.str0m_formats.proofs.Common.{slice_get, option_to_list, true≢false, cases_Bool, or_parts, or_left, or-false, eqb-true}
use Rattle.str0m_formats.proofs.Common.{append-nil, take_all, IfOk-at_ok}
use Rattle.str0m_formats.proofs.round.ClaimSteps.{AllTypesDistinct-push}
use Rattle.str0m_formats.proofs.round.ClaimedSets.{free_claim-small, type-is, two_claims-are}
use Rattle.str0m_formats.proofs.round.ClaimedTimes.{type_times-append, type_times-cons, type_times-nil, type_times-none, type_times-some}
use Rattle.str0m_formats.proofs.round.FirstPass.{locked_to-locks, placed-locked, placed-open_row, first_pass_placed-no_choice, locked_parts}
use Rattle.str0m_formats.proofs.round.RoundsPasses.{pass_none_within}
use Rattle.str0m_formats.proofs.round.RoundsRowCounts.{RoundStandingTimes, round_standing_step, round_times_where-drop, type_times-split}
use Rattle.str0m_formats.proofs.round.RoundsRowSteps.{round_role-given, rtx-given, red-given}
use Rattle.str0m_formats.proofs.round.RoundsWhole.{row_before}
use Rattle.str0m_formats.proofs.round.SettlingPass.{settled-locked, settled-same, settled_parts}
use Rattle.str0m_formats.proofs.round.SettlingRows.{settled_row-apart}
use Rattle.str0m_formats.proofs.row.PayloadParamsSets.{row_types_has-append}
use Rattle.str0m_formats.specs.codec.Codec.{CodecContent, audio, codec_content}
use Rattle.str0m_formats.specs.declared.row.payload_params.PayloadParams.{PayloadParams}
use Rattle.str0m_formats.specs.round.Claimed.{TypeSet, has, with_type, claimed_with_option, either_set, free, type_times, AllTypesDistinct}
use Rattle.str0m_formats.specs.round.Rounds.{red_type, round_red_of_audio, locked_to, placed, types_taken_by, types_taken_after}
use Rattle.str0m_formats.specs.round.Rounds.{AllRoundsBegun}
use Rattle.str0m_formats.specs.round.Rounds.{RoundLeaves}
use Rattle.str0m_formats.specs.round.RoundsPromises.{LockedStandAlone}
use Rattle.str0m_formats.specs.row.PayloadParams.{types_of, types, locked_types, open_types}

-- ---- the types of a row that is locked are new, and differ

abbrev IsUntakenInRound : TypeSet → ℕ → Type 0
IsUntakenInRound taken t = taken t ≡ false

round_free-new : (taken unlocked : TypeSet) (t : ℕ) → free (either_set taken unlocked) ≡ Some t → IsUntakenInRound taken t
round_free-new taken unlocked t e = (or_parts (taken t) (unlocked t) (free_claim-small (either_set taken unlocked) t e).1).0

round_untaken_itself : (taken : TypeSet) (o : Option ℕ) → IfSome o (λ t. taken t ≡ false → IsUntakenInRound taken t)
round_untaken_itself taken o = grind arith

-- a primary, then an RTX and a RED that are new beside what came before: each stands once, and none is taken
abbrev NewTypes : TypeSet → List ℕ → Type 0
NewTypes taken new = AllTypesDistinct new × ((t : ℕ) → taken t ≡ true → type_times new t ≡ 0)

round_new_push : (taken : TypeSet) (ls : List ℕ) (x : ℕ) → NewTypes taken ls → IsUntakenInRound (either_set taken (has ls)) x
    → NewTypes taken (ls ++ x ∷ [])
round_new_push taken ls x n fresh =
    let parts = or_parts (taken x) (has ls x) fresh in
    (AllTypesDistinct-push ls x n.0 parts.1, λ t h. go t h (x == t) refl parts.0) where
      go : (t : ℕ) → taken t ≡ true → (b : Bool) → (x == t) ≡ b → taken x ≡ false → type_times (ls ++ x ∷ []) t ≡ 0
      go t h true e f = absurd (true≢false (sym h ∙ ap taken (sym (eqb-true x t e)) ∙ f))
      go t h false e f =
          let none : cond {A = ℕ} (x == t) 1 0 ≡ 0 = ap (λ b. cond {A = ℕ} b 1 0) e in
          omega (arith, type_times-append ls (x ∷ []) t, type_times-cons x [] t, type_times-nil t, none, n.1 t h)

claim_new_option : (taken set : TypeSet) (ls : List ℕ) (o : Option ℕ) → NewTypes taken ls → set ≡ either_set taken (has ls)
    → IfSome o (IsUntakenInRound set)
    → NewTypes taken (ls ++ option_to_list o)
claim_new_option taken set ls None n is h = subst (NewTypes taken) (sym (append-nil ls)) n
claim_new_option taken set ls (Some x) n is h = round_new_push taken ls x n (ap (λ s. s x) (sym is) ∙ h)

pub locked_to-new : (taken unlocked : TypeSet) (receives : Bool) (row choice new : PayloadParams)
    → locked_to taken unlocked receives row choice ≡ Ok new → NewTypes taken (types_of new)
locked_to-new taken unlocked receives row choice new h =
    let parts = locked_parts taken unlocked receives row choice new h in
    let one = with_type taken parts.pt in
    let two = claimed_with_option one parts.resend in
    let pt : IsUntakenInRound taken parts.pt =
    IfOk-at_ok (IsUntakenInRound taken) parts.pt_is
    (round_role-given (IsUntakenInRound taken) taken unlocked (round_free-new taken unlocked) receives choice.pt (Some row.pt) (λ new. new)
    (λ new. new))
    in
    let resend : IfSome parts.resend (IsUntakenInRound one) =
    IfOk-at_ok (λ o. IfSome o (IsUntakenInRound one)) parts.resend_is
    (rtx-given (IsUntakenInRound one) one unlocked (round_free-new one unlocked) receives choice.resend row.resend
    (round_untaken_itself one choice.resend)
    (round_untaken_itself one row.resend)) in
    let red : IfSome (red_type two unlocked receives choice.red row.red) (IsUntakenInRound two) =
    red-given (IsUntakenInRound two) two unlocked (round_free-new two unlocked) receives choice.red row.red
    (round_untaken_itself two choice.red) in
    let New : PayloadParams → Type 0 = λ r. NewTypes taken (types_of r) in
    let primary : NewTypes taken (parts.pt ∷ []) =
    round_new_push taken [] parts.pt ((λ t. omega (arith, type_times-nil t)), (λ t k. refl)) (or-false (taken parts.pt) ∙ pt) in
    let pair : NewTypes taken (parts.pt ∷ option_to_list parts.resend) =
    claim_new_option taken one (parts.pt ∷ []) parts.resend primary (type-is taken parts.pt) resend in
    subst New parts.all (claim_new_option taken two (parts.pt ∷ option_to_list parts.resend) _ pair
    (two_claims-are taken parts.pt parts.resend)
    (kept two _ red (codec_content row.spec.codec))) where
      kept : (set : TypeSet) (o : Option ℕ) → IfSome o (IsUntakenInRound set) → (c : CodecContent)
          → IfSome (round_red_of_audio c o) (IsUntakenInRound set)
      kept set o f audio = f
      kept set o f _ = tt

-- ---- no type of locked rows stands twice

-- the locked rows among the rows done and the rows to come
abbrev LockedStanding : List PayloadParams → List PayloadParams → ℕ → ℕ → ℕ
LockedStanding before mid i t = RoundStandingTimes (λ r. r.locked) before mid i t

round_placed-new : (taken unlocked : TypeSet) (receives : Bool) (row new : PayloadParams) (choice : Option PayloadParams)
    → placed taken unlocked receives row choice ≡ Ok new → row.locked ≡ false
    → (new ≡ row) ⊎ ((new.locked ≡ true) × NewTypes taken (types_of new))
round_placed-new taken unlocked receives row new None h l = inl (sym (first_pass_placed-no_choice taken unlocked receives row new h))
round_placed-new taken unlocked receives row new (Some c) h l =
    let locks = sym (placed-open_row taken unlocked receives row c l) ∙ h in
    inr (locked_to-locks taken unlocked receives row c new locks, locked_to-new taken unlocked receives row c new locks)

-- where nothing that is new is taken, what stands stays at most once
round_standing_new : (before mid : List PayloadParams) (i t : ℕ) (new : List ℕ) → NewTypes (types_taken_by before (take i mid)) new
    → LockedStanding before mid i t ≤ 1 → LockedStanding before mid i t + type_times new t ≤ 1
round_standing_new before mid i t new n h = go (cases_Bool (types_taken_by before (take i mid) t)) where
  go : (types_taken_by before (take i mid) t ≡ true) ⊎ (types_taken_by before (take i mid) t ≡ false)
      → LockedStanding before mid i t + type_times new t ≤ 1
  go (inl e) = omega (arith, n.1 t e, h)
  go (inr e) =
      let none = type_times-none (locked_types before ++ locked_types (take i mid)) t e in
      omega (
        arith,
        none,
        type_times-append (locked_types before) (locked_types (take i mid)) t,
        round_times_where-drop (λ r. r.locked) before i t,
        n.0 t,
      )

round_standing_next : (before remote : List PayloadParams) (receives : Bool) (mid : List PayloadParams)
    → AllRoundsBegun before remote receives mid
    → (i : ℕ) → i < length mid → (t : ℕ) → LockedStanding before mid i t ≤ 1 → LockedStanding before mid (suc i) t ≤ 1
round_standing_next before remote receives mid m i h t rec = at (slice_get mid i) refl where
  now : (old new : PayloadParams) → slice_get before i ≡ Some old → slice_get mid i ≡ Some new → (l : Bool) → old.locked ≡ l
      → LockedStanding before mid (suc i) t ≤ 1
  now old new at_old at_new true e =
      let became = m.begun.each i old new at_old at_new in
      let kept = placed-locked _ _ receives old new became.choice became.placed_so e in
      let same : type_times (cond new.locked (types_of new) []) t ≡ type_times (cond old.locked (types_of old) []) t =
      ap (λ b. type_times (cond b (types_of new) []) t) (kept.0 ∙ sym e) ∙ ap (λ ts. type_times (cond old.locked ts []) t) kept.1 in
      omega (arith, round_standing_step (λ r. r.locked) before mid i t old new at_old at_new, same, rec)
  now old new at_old at_new false e =
      let became = m.begun.each i old new at_old at_new in
      let none : type_times (cond old.locked (types_of old) []) t ≡ 0 = ap (λ b. type_times (cond b (types_of old) []) t) e in
      either_way none (round_placed-new _ _ receives old new became.choice became.placed_so e) where
        either_way : type_times (cond old.locked (types_of old) []) t ≡ 0
            → (new ≡ old) ⊎ ((new.locked ≡ true) × NewTypes (types_taken_by before (take i mid)) (types_of new))
            → LockedStanding before mid (suc i) t ≤ 1
        either_way none (inl same) =
            let none_new : type_times (cond new.locked (types_of new) []) t ≡ 0 =
            ap (λ r. type_times (cond r.locked (types_of r) []) t) same ∙ none in
            omega (arith, round_standing_step (λ r. r.locked) before mid i t old new at_old at_new, none, none_new, rec)
        either_way none (inr n) =
            let here : type_times (cond new.locked (types_of new) []) t ≡ type_times (types_of new) t =
            ap (λ b. type_times (cond b (types_of new) []) t) n.0 in
            omega (
              arith,
              round_standing_step (λ r. r.locked) before mid i t old new at_old at_new,
              none,
              here,
              round_standing_new before mid i t (types_of new) n.1 rec,
            )

  at : (o : Option PayloadParams) → slice_get mid i ≡ o → LockedStanding before mid (suc i) t ≤ 1
  at None e = absurd (pass_none_within mid i h e)
  at (Some new) e = let old = row_before before mid i new m.whole e in now old.0 new old.1 e old.0.locked refl

round_standing_once : (before remote : List PayloadParams) (receives : Bool) (mid : List PayloadParams)
    → AllRoundsBegun before remote receives mid
    → (i : ℕ) → i ≤ length mid → (t : ℕ) → LockedStanding before mid i t ≤ 1
round_standing_once before remote receives mid m zero h t = omega (arith, m.may.once t)
round_standing_once before remote receives mid m (suc i) h t = round_standing_next before remote receives mid m i (omega arith) t
    (round_standing_once before remote receives mid m i (omega arith) t)

-- after the first pass no type stands twice among the locked rows
pub locked_distinct : (before remote : List PayloadParams) (receives : Bool) (mid : List PayloadParams)
    → AllRoundsBegun before remote receives mid → AllTypesDistinct (locked_types mid)
locked_distinct before remote receives mid m = λ t.
    let all = round_standing_once before remote receives mid m (length mid) (omega arith) t in
    let front : type_times (locked_types (take (length mid) mid)) t ≡ type_times (locked_types mid) t =
    ap (λ xs. type_times (locked_types xs) t) (take_all (length mid) mid (omega arith)) in
    omega (arith, all, front)

-- ---- after the second pass

-- the locked rows are those of the first pass
locked_rows_same : (mid after : List PayloadParams) → length after ≡ length mid
    → ((i : ℕ) (row new : PayloadParams) → slice_get mid i ≡ Some row → slice_get after i ≡ Some new
    → (new.locked ≡ row.locked) × (row.locked ≡ true → new ≡ row)) → filter (λ r. r.locked) after ≡ filter (λ r. r.locked) mid
locked_rows_same [] [] l h = refl
locked_rows_same [] (a ∷ after) l h = absurd (omega arith)
locked_rows_same (m ∷ mid) [] l h = absurd (omega arith)
locked_rows_same (m ∷ mid) (a ∷ after) l h = go (locked_rows_same mid after (omega arith) (λ i row new e f. h (suc i) row new e f))
    (h zero m a refl refl) m.locked refl where
      go : filter (λ r. r.locked) after ≡ filter (λ r. r.locked) mid → (a.locked ≡ m.locked) × (m.locked ≡ true → a ≡ m) → (b : Bool)
          → m.locked ≡ b → filter (λ r. r.locked) (a ∷ after) ≡ filter (λ r. r.locked) (m ∷ mid)
      go rec both true e =
          ap (λ b. cond b (a ∷ filter (λ r. r.locked) after) (filter (λ r. r.locked) after)) (both.0 ∙ e)
          ∙ ap (λ x. x ∷ filter (λ r. r.locked) after) (both.1 e) ∙ ap (λ xs. m ∷ xs) rec
          ∙ ap (λ b. cond b (m ∷ filter (λ r. r.locked) mid) (filter (λ r. r.locked) mid)) (sym e)
      go rec both false e =
          ap (λ b. cond b (a ∷ filter (λ r. r.locked) after) (filter (λ r. r.locked) after)) (both.0 ∙ e) ∙ rec
          ∙ ap (λ b. cond b (m ∷ filter (λ r. r.locked) mid) (filter (λ r. r.locked) mid)) (sym e)

pub locked_after : (before remote : List PayloadParams) (receives : Bool) (after : List PayloadParams)
    (r : RoundLeaves before remote receives after) → locked_types after ≡ locked_types r.mid
locked_after before remote receives after r =
    ap types (locked_rows_same r.mid after r.whole (λ i row new at_row at_new.
    let s = r.second.each i row new at_row at_new in (settled-locked _ _ _ row new s, λ l. settled-same _ _ _ row new s l)))

-- no type stands twice among the rows that are locked after a round
pub locked_once : (before remote : List PayloadParams) (receives : Bool) (after : List PayloadParams)
    → RoundLeaves before remote receives after
    → AllTypesDistinct (locked_types after)
locked_once before remote receives after r = subst AllTypesDistinct (sym (locked_after before remote receives after r))
    (locked_distinct before remote receives r.mid r.first)

round_open_none : (rows : List PayloadParams) (t : ℕ)
    → ((i : ℕ) (row : PayloadParams) → slice_get rows i ≡ Some row → row.locked ≡ false → type_times (types_of row) t ≡ 0)
    → type_times (open_types rows) t ≡ 0
round_open_none [] t h = type_times-nil t
round_open_none (r ∷ rows) t h = go (round_open_none rows t (λ i row e l. h (suc i) row e l)) r.locked refl where
  go : type_times (open_types rows) t ≡ 0 → (b : Bool) → r.locked ≡ b → type_times (open_types (r ∷ rows)) t ≡ 0
  go rec true e = ap (λ b. type_times (types (cond (not b) (r ∷ filter (λ x. not x.locked) rows) (filter (λ x. not x.locked) rows))) t) e
      ∙ rec
  go rec false e =
      let here = h zero r refl e in
      ap (λ b. type_times (types (cond (not b) (r ∷ filter (λ x. not x.locked) rows) (filter (λ x. not x.locked) rows))) t) e
      ∙ type_times-append (types_of r) (open_types rows) t ∙ omega (arith, here, rec)

-- after a round each type of a locked row stands in one role alone
pub locked_alone : (before remote : List PayloadParams) (receives : Bool) (after : List PayloadParams)
    → RoundLeaves before remote receives after
    → LockedStandAlone after
locked_alone before remote receives after r t h =
    let locked = has (locked_types r.mid) in
    let same = locked_after before remote receives after r in
    let l : locked t ≡ true = ap (λ ts. has ts t) (sym same) ∙ h in
    let open_row = round_open_none after t (λ i row at_row is_open.
    let between = row_before r.mid after i row r.whole at_row in
    let s = r.second.each i between.0 row between.1 at_row in
    settled_row-apart locked (types_taken_after r.mid (take i after)) (has (open_types before)) between.0 row
    (settled_parts _ _ _ between.0 row s (sym (settled-locked _ _ _ between.0 row s) ∙ is_open)) t l
    (ap (λ f. f t) (row_types_has-append (locked_types r.mid) (open_types (take i after)))
    ∙ or_left (locked t) (has (open_types (take i after)) t) l)) in
    omega (
      arith,
      type_times-split after t,
      open_row,
      locked_once before remote receives after r t,
      type_times-some (locked_types after) t h,
    )
