-- What `find_map` answers over the list that an iterator gives.
use Rattle.std.specs.Fn.{Called}
use Rattle.std.specs.Iterator.{Yields}
use Rattle.std.specs.Iterator.Runs.{Run, YieldsRun, SomeRun, AllItemsGive, IsFirstToGive}
use Rattle.str0m_sdp.proofs.Common.{◌≡◌, ℕ, ◌<◌, ◌+◌, zero, suc, List, [], ◌∷◌, ◌++◌, map, filter_map, length, drop, Option, Some, None}
use Rattle.str0m_sdp.proofs.Common.{refl, ap, sym, subst, ◌∙◌, arith, MatchOption, IsTrue, slice_get, cons_option, take-append-drop, IfSome}
use Rattle.str0m_sdp.proofs.Common.{IsSomeAnd, option_map, YieldsList, option_map_id, YieldsList-so_far, YieldsList-end}
use Rattle.str0m_sdp.specs.Common.{first}
use denote.Param.Members.{Mut}

module _ {A B D : Type 0} (v : A → B) (h : B → Option D) where
  -- h gives nothing of any item
  accessor_first_none : (xs : List A) → ((k : ℕ) → IfSome (slice_get xs k) (λ x. None ≡ h (v x))) → first (filter_map h (map v xs)) ≡ None
  accessor_first_none [] none = refl
  accessor_first_none (x ∷ xs) none = ap (λ o. first (cons_option o (filter_map h (map v xs)))) (sym (none 0))
      ∙ accessor_first_none xs (λ k. none (suc k))

  -- h gives d of the item at i, and nothing of those before
  accessor_first_at : (xs : List A) (more : List B) (i : ℕ) (d : D) → IsSomeAnd (slice_get xs i) (λ x. Some d ≡ h (v x))
      → ((k : ℕ) → k < i → IsSomeAnd (slice_get xs k) (λ x. None ≡ h (v x))) → first (filter_map h (map v xs ++ more)) ≡ Some d
  accessor_first_at [] more i d hit miss = absurd hit
  accessor_first_at (x ∷ xs) more zero d hit miss = ap (λ o. first (cons_option o (filter_map h (map v xs ++ more)))) (sym hit)
  accessor_first_at (x ∷ xs) more (suc i) d hit miss =
      ap (λ o. first (cons_option o (filter_map h (map v xs ++ more)))) (sym (miss 0 (omega arith)))
      ∙ accessor_first_at xs more i d hit (λ k lt. miss (suc k) (omega arith))

module _ {S A B C D F : Type 0} {steps : S → Option A → S → Type 0} {v : A → B} {g : Mut F (A × Unit {0}) (Option C)} {s : S} {f : F}
    {all : List B}
    (w : C → D) (h : B → Option D) (road : YieldsList steps v s all)
    (k : (x : A) (r : Option C) (q : F) → Called g f (x, tt) r q → (q ≡ f) × (option_map w r ≡ h (v x))) where
  -- where the calls gave nothing, and where one gave c
  section_answered_first : (p : Run steps) → p.from ≡ s → (r : Option C)
      → MatchOption r (IsTrue p.whole × AllItemsGive p g f None) (λ c. (i : ℕ) × (i < p.len) × (p.len ≡ i + 1)
      × IsFirstToGive p g f (Some c) None i)
      → option_map w r ≡ first (filter_map h all)
  unfolding YieldsRun
  section_answered_first p from None (whole, none) =
      let drained = p.gave.0 in
      let end = drained.2 whole in
      let start = subst (λ t. Yields steps t p.items drained.0) from drained.1 in
      let is = YieldsList-end road p.items drained.0 start None end.0 refl end.1 in
      let each = none (λ a r q c. (k a.0 r q c).0) in
      subst (λ ys. None ≡ first (filter_map h ys)) is.0
      (sym (accessor_first_none v h p.items (λ n. subst (λ o. IfSome o (λ x. None ≡ h (v x))) (p.gave.1 n) (given (p.at n) (each n)))))
    where
      given : (o : Option A) → IfSome o (λ x. Called g f (x, tt) None f) → IfSome o (λ x. None ≡ h (v x))
      given None c = tt
      given (Some x) c = (k x None f c).1
  section_answered_first p from (Some c) (i, lt, last, hits) =
      let drained = p.gave.0 in
      let start = subst (λ t. Yields steps t p.items drained.0) from drained.1 in
      let so_far = YieldsList-so_far road p.items drained.0 start in
      let each = hits (λ a r q c. (k a.0 r q c).0) in
      let whole : map v p.items ++ drop (length p.items) all ≡ all =
      ap (λ ys. ys ++ drop (length p.items) all) so_far ∙ take-append-drop (length p.items) all in
      subst (λ ys. Some (w c) ≡ first (filter_map h ys)) whole
      (sym (accessor_first_at v h p.items (drop (length p.items) all) i (w c)
      (subst (λ o. IsSomeAnd o (λ x. Some (w c) ≡ h (v x))) (p.gave.1 i) (given (Some c) (p.at i) each.0))
      (λ n below. subst (λ o. IsSomeAnd o (λ x. None ≡ h (v x))) (p.gave.1 n) (given None (p.at n) (each.1 n below)))))
    where
      given : (r : Option C) (o : Option A) → IsSomeAnd o (λ x. Called g f (x, tt) r f) → IsSomeAnd o (λ x. option_map w r ≡ h (v x))
      given r None c = absurd c
      given r (Some x) c = (k x r f c).1

  -- what `find_map` gives is the first that h gives
  pub first_from_find_map : (r : Option C)
      → SomeRun steps s (λ p. MatchOption r (IsTrue p.whole × AllItemsGive p g f None)
      (λ c. (i : ℕ) × (i < p.len) × (p.len ≡ i + 1) × IsFirstToGive p g f (Some c) None i))
      → option_map w r ≡ first (filter_map h all)
  first_from_find_map r (p, from, found) = section_answered_first p from r found

-- where the closure itself gives what h gives
pub first_by_find_map : {S A B C F : Type 0} {steps : S → Option A → S → Type 0} {v : A → B} {g : Mut F (A × Unit {0}) (Option C)} {s : S}
    {f : F} {all : List B}
    (h : B → Option C) (road : YieldsList steps v s all)
    (k : (x : A) (r : Option C) (q : F) → Called g f (x, tt) r q → (q ≡ f) × (r ≡ h (v x)))
    (r : Option C)
    → SomeRun steps s (λ p. MatchOption r (IsTrue p.whole × AllItemsGive p g f None)
    (λ c. (i : ℕ) × (i < p.len) × (p.len ≡ i + 1) × IsFirstToGive p g f (Some c) None i))
    → r ≡ first (filter_map h all)
first_by_find_map h road k r run =
    sym (option_map_id r) ∙ first_from_find_map (λ c. c) h road (λ x o q c. ((k x o q c).0, option_map_id o ∙ (k x o q c).1)) r run
