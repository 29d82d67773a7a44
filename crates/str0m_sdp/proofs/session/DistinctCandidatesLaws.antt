-- What `distinct` keeps of a list: each of its values, once, as a set in order of insertion does.
use Rattle.indexmap.proofs.CallerLemmas.{Contains-list_any}
use Rattle.std.proofs.lemmas.Map.Keys.{apart_from_distinct}
use Rattle.std.proofs.lemmas.Map.Steps.{list_any_congr}
use Rattle.std.proofs.lemmas.Map.Views.{list_any-from_Contains}
use Rattle.std.specs.List.{IsDistinct}
use Rattle.str0m_sdp.proofs.Common.{arith, ◌≡◌, ◌≤◌, ◌||◌, ℕ, Bool, true, false, cond, not, List, [], ◌∷◌, ◌++◌, length, drop, refl, sym}
use Rattle.str0m_sdp.proofs.Common.{ap, ◌∙◌, append_assoc, true≢false, Decides, decided, list_any, flat_map, AllByRecursion, append-nil}
use Rattle.str0m_sdp.proofs.Common.{drop_all, filter-append, list_any-append, insert_key, insert_all, IsEquivalence, AllPairs, Contains}
use Rattle.str0m_sdp.proofs.Common.{filter}
use Rattle.str0m_sdp.proofs.section.SectionRowsParts.{row_all-filter}
use Rattle.str0m_sdp.specs.Common.{distinct}
use Rattle.str0m_sdp.specs.session.DistinctCandidates.{IsEachCandidateOnce}

module _ {X : Type 0} (same : X → X → Bool) (laws : IsEquivalence same) where
  -- those that aren't among others
  abbrev distinct_unseen : List X → List X → List X
  distinct_unseen seen xs = filter (λ y. not (list_any (same y) seen)) xs

  -- those that differ from x
  abbrev distinct_others_than : X → List X → List X
  distinct_others_than x xs = filter (λ y. not (same x y)) xs

  distinct_unseen-none : (xs : List X) → distinct_unseen [] xs ≡ xs
  distinct_unseen-none [] = refl
  distinct_unseen-none (x ∷ xs) = ap (λ rest. x ∷ rest) (distinct_unseen-none xs)

  -- what is the same as one that was seen was seen
  distinct_seen_others : (seen : List X) (x : X) → list_any (same x) seen ≡ true → (xs : List X)
      → distinct_unseen seen (distinct_others_than x xs) ≡ distinct_unseen seen xs
  distinct_seen_others seen x was [] = refl
  distinct_seen_others seen x was (y ∷ ys) = grind (arith, distinct_seen_others seen x was ys, list_any_congr)

  -- one more that was seen
  unseen_candidates_more : (seen : List X) (x : X) (xs : List X) → distinct_unseen (seen ++ x ∷ []) xs
      ≡ distinct_unseen seen (distinct_others_than x xs)
  unseen_candidates_more seen x [] = refl
  unseen_candidates_more seen x (y ∷ ys) = grind (arith, list_any-append, unseen_candidates_more seen x ys)

  -- a set keeps what it had, and then each value that it hadn't
  distinct_unseen_inserted : (seen xs : List X) → insert_all same seen xs ≡ seen ++ distinct_unseen seen (distinct same xs)
  distinct_unseen_inserted seen [] = sym (append-nil seen)
  distinct_unseen_inserted seen (x ∷ xs) = grind (
    arith,
    distinct_unseen_inserted seen xs,
    distinct_unseen_inserted (seen ++ x ∷ []) xs,
    distinct_seen_others,
    append_assoc,
    unseen_candidates_more,
  )

  -- a set into which a list is put has its values, each once
  pub distinct_unseen_inserted-distinct : (xs : List X) → insert_all same [] xs ≡ distinct same xs
  distinct_unseen_inserted-distinct xs = distinct_unseen_inserted [] xs ∙ distinct_unseen-none (distinct same xs)

  -- leaving out what differs from k loses no k
  candidates_any-others : (k x : X) → same k x ≡ false → (xs : List X)
      → list_any (same k) (distinct_others_than x xs) ≡ list_any (same k) xs
  candidates_any-others k x apart [] = refl
  candidates_any-others k x apart (y ∷ ys) = grind (arith, candidates_any-others k x apart ys)

  any-distinct : (k : X) (xs : List X) → list_any (same k) (distinct same xs) ≡ list_any (same k) xs
  any-distinct k [] = refl
  any-distinct k (x ∷ xs) = grind (arith, any-distinct k xs, candidates_any-others)

  distinct-filter : (test : X → Bool) (xs : List X) → IsDistinct same xs → IsDistinct same (filter test xs)
  unfolding IsDistinct
  distinct-filter test [] apart = tt
  distinct-filter test (x ∷ xs) apart = grind (arith, distinct-filter test xs apart.1, row_all-filter)

  candidates_others-apart : (x : X) (xs : List X) → AllByRecursion (λ y. same x y ≡ false) (distinct_others_than x xs)
  candidates_others-apart x [] = tt
  candidates_others-apart x (y ∷ ys) = grind (arith, candidates_others-apart x ys)

  pub distinct-apart : (xs : List X) → IsDistinct same (distinct same xs)
  unfolding IsDistinct
  distinct-apart [] = tt
  distinct-apart (x ∷ xs) = (
    candidates_others-apart x (distinct same xs),
    distinct-filter (λ y. not (same x y)) (distinct same xs) (distinct-apart xs),
  )

-- where the test decides equality, `distinct` keeps each value once and no others
pub each_candidate_once : {X : Type 0} (same : X → X → Bool) → ((x y : X) → Decides (same x y) (x ≡ y)) → (xs : List X)
    → IsEachCandidateOnce xs (distinct same xs)
each_candidate_once {X} same decides xs = record {
  apart = apart;
  same_values = λ x. (
    λ h. among x xs (sym (any-distinct same laws x xs) ∙ found x _ h),
    λ h. among x _ (any-distinct same laws x xs ∙ found x xs h),
  );
}
  where
    laws : IsEquivalence same
    laws = decided same decides

    found : (x : X) (ys : List X) → Contains ys x → list_any (same x) ys ≡ true
    found x ys h = list_any-from_Contains laws x ys h

    among : (x : X) (ys : List X) → list_any (same x) ys ≡ true → Contains ys x
    among x ys h = Contains-list_any same (λ a b. (decides a b).0) ys x h

    apart : AllPairs (λ x y. x ≡ y → ⊥) (distinct same xs)
    apart i j d before inside equal = true≢false (sym ((decides _ _).1 equal)
        ∙ apart_from_distinct same (distinct same xs) i j d (distinct-apart same laws xs) before inside)

-- ---- one after another

module _ {X : Type 0} (same : X → X → Bool) where
  -- one of the values that are still to be put in
  pub candidates_one_put : (old new : List X) (x : X) (left rest : List X) → new ≡ insert_key same old x → left ≡ x ∷ rest
      → insert_all same new rest ≡ insert_all same old left
  candidates_one_put old new x left rest put next = ap (λ l. insert_all same l rest) put ∙ sym (ap (insert_all same old) next)

  -- once every value is put in, those that are there are each of them, once
  pub candidates_all_put : {A : Type 0} → IsEquivalence same → (values : A → List X) (owners : List A) (i : ℕ) (keys given all : List X)
      → length owners ≤ i → given ≡ keys
      → insert_all same keys (flat_map values (drop i owners)) ≡ insert_all same [] all → given ≡ distinct same all
  candidates_all_put laws values owners i keys given all past is put =
      is ∙ sym (ap (λ l. insert_all same keys (flat_map values l)) (drop_all i owners past)) ∙ put
      ∙ distinct_unseen_inserted-distinct same laws all

-- ---- one item more

-- one item under a test that is known of it
candidates_one_kept : {X : Type 0} (test : X → Bool) (x : X) (s b : Bool) → test x ≡ not s
    → filter test (cond b [] (x ∷ [])) ≡ cond (s || b) [] (x ∷ [])
candidates_one_kept test x s b is = grind arith

-- one item more stands after the others, unless it is the same as one of them
pub distinct_push : {X : Type 0} (same : X → X → Bool) (xs : List X) (x : X)
    → distinct same (xs ++ x ∷ []) ≡ distinct same xs ++ cond (list_any (λ y. same y x) xs) [] (x ∷ [])
distinct_push same [] x = refl
distinct_push {X} same (y ∷ xs) x = grind (arith, distinct_push same xs x, filter-append, candidates_one_kept)
