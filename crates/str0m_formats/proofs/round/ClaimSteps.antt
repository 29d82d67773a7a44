-- Types that are claimed one by one: what is then claimed, and which is met a second time.
use Rattle.str0m_formats.proofs.Common.{◌≡◌, ◌==◌, ℕ, ◌+◌, ◌<◌, ◌≤◌, Bool, true, false, cond, List, [], ◌∷◌, ◌++◌, length, take, drop}
use Rattle.str0m_formats.proofs.Common.{get_or, Result, Ok, Err, refl, sym, ap, ◌∙◌, subst, arith, append_assoc, append-nil, take_more}
use Rattle.str0m_formats.proofs.Common.{filter-append, flat_map-append, eqb-true, take-append-drop}
use Rattle.str0m_formats.proofs.round.ClaimedSets.{type-is}
use Rattle.str0m_formats.proofs.round.ClaimedTimes.{type_times-cons, type_times-nil, type_times-append, type_times-none, one_time_if}
use Rattle.str0m_formats.proofs.row.PayloadParamsSets.{row_types_has-append, locked_types-push, open_types-push}
use Rattle.str0m_formats.specs.declared.round.negotiation_error.NegotiationError.{NegotiationError}
use Rattle.str0m_formats.specs.declared.round.negotiation_error.NegotiationError.TheVariants.{ClaimedTwice}
use Rattle.str0m_formats.specs.declared.row.payload_params.PayloadParams.{PayloadParams}
use Rattle.str0m_formats.specs.round.Claimed.{TypeSet, has, with_type, either_set, type_times, AllTypesDistinct}
use Rattle.str0m_formats.specs.round.Claims.{claim_each}
use Rattle.str0m_formats.specs.round.Rounds.{then_in_round, IsFirstClaimRepeat}
use Rattle.str0m_formats.specs.row.PayloadParams.{types_of, types, locked_types, open_types}

pub claim_each-append : (set : TypeSet) (xs ys : List ℕ) → claim_each set (xs ++ ys)
    ≡ then_in_round (claim_each set xs) (λ s. claim_each s ys)
unfolding claim_each
claim_each-append set [] ys = refl
claim_each-append set (x ∷ xs) ys = grind (arith, claim_each-append (with_type set x) xs ys)

claim_next : (set : TypeSet) (xs ys : List ℕ) (mid : TypeSet) (r : Result TypeSet NegotiationError) → claim_each set xs ≡ Ok mid
    → claim_each mid ys ≡ r → claim_each set (xs ++ ys) ≡ r
claim_next set xs ys mid r h k = claim_each-append set xs ys ∙ ap (λ s. then_in_round s (λ s'. claim_each s' ys)) h ∙ k

-- rows so far, and one more
rows_more : (rows : List PayloadParams) (i : ℕ) (row : PayloadParams) → i < length rows → row ≡ get_or rows i row
    → take (i + 1) rows ≡ take i rows ++ row ∷ []
rows_more rows i row h e = take_more rows i row h ∙ ap (λ r. take i rows ++ r ∷ []) (sym e)

pub locked_more : (rows : List PayloadParams) (i : ℕ) (row : PayloadParams) (b : Bool) → i < length rows → row ≡ get_or rows i row
    → row.locked ≡ b → locked_types (take (i + 1) rows) ≡ locked_types (take i rows) ++ cond b (types_of row) []
locked_more rows i row b h e l = grind (arith, rows_more rows i row h e, locked_types-push (take i rows) row)

pub claim_open_more : (rows : List PayloadParams) (i : ℕ) (row : PayloadParams) (b : Bool) → i < length rows → row ≡ get_or rows i row
    → row.locked ≡ b → open_types (take (i + 1) rows) ≡ open_types (take i rows) ++ cond b [] (types_of row)
claim_open_more rows i row b h e l = grind (arith, rows_more rows i row h e, open_types-push (take i rows) row)

pub claims_locked : (rows : List PayloadParams) (i : ℕ) (row : PayloadParams) (set : TypeSet) (r : Result TypeSet NegotiationError)
    → i < length rows → row ≡ get_or rows i row → row.locked ≡ true → claim_each (has []) (locked_types (take i rows)) ≡ Ok set
    → claim_each set (types_of row) ≡ r → claim_each (has []) (locked_types (take (i + 1) rows)) ≡ r
claims_locked rows i row set r h e l k n =
    grind (arith, locked_more rows i row true h e l, claim_next (has []) (locked_types (take i rows)) (types_of row) set r k n)

pub claims_open : (rows : List PayloadParams) (i : ℕ) (row : PayloadParams) (set : TypeSet) → i < length rows → row ≡ get_or rows i row
    → row.locked ≡ false → claim_each (has []) (locked_types (take i rows)) ≡ Ok set
    → claim_each (has []) (locked_types (take (i + 1) rows)) ≡ Ok set
claims_open rows i row set h e l k = grind (arith, locked_more rows i row false h e l, append-nil (locked_types (take i rows)))

pub unlocked_locked : (rows : List PayloadParams) (i : ℕ) (row : PayloadParams) (set : TypeSet) → i < length rows → row ≡ get_or rows i row
    → row.locked ≡ true → set ≡ has (open_types (take i rows)) → set ≡ has (open_types (take (i + 1) rows))
unlocked_locked rows i row set h e l k = k ∙ ap has (sym (claim_open_more rows i row true h e l ∙ append-nil (open_types (take i rows))))

pub claim_unlocked_open : (rows : List PayloadParams) (i : ℕ) (row : PayloadParams) (set new : TypeSet) → i < length rows
    → row ≡ get_or rows i row → row.locked ≡ false → set ≡ has (open_types (take i rows)) → new ≡ either_set set (has (types_of row))
    → new ≡ has (open_types (take (i + 1) rows))
claim_unlocked_open rows i row set new h e l k n =
    grind (arith, claim_open_more rows i row false h e l, row_types_has-append (open_types (take i rows)) (types_of row))

-- what is refused among some rows is refused among all of them
pub claims_refused : (rows : List PayloadParams) (i : ℕ) (cause : NegotiationError)
    → claim_each (has []) (locked_types (take i rows)) ≡ Err cause → claim_each (has []) (locked_types rows) ≡ Err cause
claims_refused rows i cause h =
    ap (λ xs. claim_each (has []) (locked_types xs)) (sym (take-append-drop i rows))
    ∙ ap (λ xs. claim_each (has []) (types xs)) (filter-append (λ r. r.locked) (take i rows) (drop i rows))
    ∙ ap (claim_each (has [])) (flat_map-append types_of _ _)
    ∙ claim_each-append (has []) (locked_types (take i rows)) (locked_types (drop i rows))
    ∙ ap (λ s. then_in_round s (λ s'. claim_each s' (locked_types (drop i rows)))) h

-- ---- what claiming each type means

pub AllTypesDistinct-push : (xs : List ℕ) (y : ℕ) → AllTypesDistinct xs → has xs y ≡ false → AllTypesDistinct (xs ++ y ∷ [])
AllTypesDistinct-push xs y d h = λ t. go t (y == t) refl where
  go : (t : ℕ) (b : Bool) → (y == t) ≡ b → type_times (xs ++ y ∷ []) t ≤ 1
  go t true e =
      let same : y ≡ t = eqb-true y t e in
      let none : type_times xs t ≡ 0 = type_times-none xs t (ap (has xs) (sym same) ∙ h) in
      omega (arith, type_times-append xs (y ∷ []) t, type_times-cons y [] t, type_times-nil t, none, one_time_if (y == t) true e)
  go t false e =
      omega (arith, type_times-append xs (y ∷ []) t, type_times-cons y [] t, type_times-nil t, d t, one_time_if (y == t) false e)

with_type-push : (xs : List ℕ) (y : ℕ) → with_type (has xs) y ≡ has (xs ++ y ∷ [])
with_type-push xs y = type-is (has xs) y ∙ sym (row_types_has-append xs (y ∷ []))

pub claimed_all : (seen xs : List ℕ) (set : TypeSet) → AllTypesDistinct seen → claim_each (has seen) xs ≡ Ok set
    → (set ≡ has (seen ++ xs)) × AllTypesDistinct (seen ++ xs)
unfolding claim_each
claimed_all seen [] set d h =
    let same : has seen ≡ set = cc in
    (sym same ∙ ap has (sym (append-nil seen)), subst AllTypesDistinct (sym (append-nil seen)) d)
claimed_all seen (x ∷ xs) set d h = go (λ d' h'. claimed_all (seen ++ x ∷ []) xs set d' h') (has seen x) refl h where
  go : (AllTypesDistinct (seen ++ x ∷ []) → claim_each (has (seen ++ x ∷ [])) xs ≡ Ok set
      → (set ≡ has ((seen ++ x ∷ []) ++ xs)) × AllTypesDistinct ((seen ++ x ∷ []) ++ xs))
      → (b : Bool) → has seen x ≡ b → cond b (Err (ClaimedTwice x)) (claim_each (with_type (has seen) x) xs) ≡ Ok set
      → (set ≡ has (seen ++ x ∷ xs)) × AllTypesDistinct (seen ++ x ∷ xs)
  go rec true e k = absurd (cc)
  go rec false e k =
      let both = rec (AllTypesDistinct-push seen x d e) (ap (λ s. claim_each s xs) (sym (with_type-push seen x)) ∙ k) in
      let same = append_assoc seen (x ∷ []) xs in
      (both.0 ∙ ap has same, subst AllTypesDistinct same both.1)

pub claimed_twice : (seen xs : List ℕ) (cause : NegotiationError) → AllTypesDistinct seen → claim_each (has seen) xs ≡ Err cause
    → (t : ℕ) × (cause ≡ ClaimedTwice t) × IsFirstClaimRepeat (seen ++ xs) t
unfolding claim_each
claimed_twice seen [] cause d h = absurd (cc)
claimed_twice seen (x ∷ xs) cause d h = go (λ d' h'. claimed_twice (seen ++ x ∷ []) xs cause d' h') (has seen x) refl h where
  go : (AllTypesDistinct (seen ++ x ∷ []) → claim_each (has (seen ++ x ∷ [])) xs ≡ Err cause
      → (t : ℕ) × (cause ≡ ClaimedTwice t) × IsFirstClaimRepeat ((seen ++ x ∷ []) ++ xs) t)
      → (b : Bool) → has seen x ≡ b → cond b (Err (ClaimedTwice x)) (claim_each (with_type (has seen) x) xs) ≡ Err cause
      → (t : ℕ) × (cause ≡ ClaimedTwice t) × IsFirstClaimRepeat (seen ++ x ∷ xs) t
  go rec true e k = (x, cc, record { seen = seen; rest = xs; split = refl; distinct = d; again = e })
  go rec false e k =
      let found = rec (AllTypesDistinct-push seen x d e) (ap (λ s. claim_each s xs) (sym (with_type-push seen x)) ∙ k) in
      let P : List ℕ → Type 0 = λ ts. IsFirstClaimRepeat ts found.0 in
      (found.0, found.1, subst P (append_assoc seen (x ∷ []) xs) found.2)
