-- Lists of types, each once; what is found in a list; lists that are mapped in part.
use Rattle.exchange.proofs.Common.{arith, ◌≡◌, ◌<◌, ◌+◌, ◌≤◌, ◌++◌, ◌==◌, ◌||◌, ℕ, Bool, true, false, cond, not, List, [], ◌∷◌, length}
use Rattle.exchange.proofs.Common.{take, get_or, Option, Some, None, All, IfSome, filter, filter_map, find, map, refl, sym, ap, ◌∙◌}
use Rattle.exchange.proofs.Common.{eqb-true, eq-eqb, false≢true, take_at_read, All-cons, All-nil, All-head, All-tail, All-filter}
use Rattle.exchange.proofs.Common.{Contains-append_right, list_any_at, list_any, Contains, cons_option, is_some, type_times-cons}
use Rattle.exchange.proofs.Common.{type_times-none}
use Rattle.exchange.proofs.Common.{one_time_if, type_times, has, distinct, one_mapped}
use Rattle.std.proofs.lemmas.Bool.Decides.{nat_tests}
use Rattle.str0m_sdp.proofs.{distinct_push}

-- ---- each once

-- leaving out what differs from k loses no k
row_types_has_after_filter : (k x : ℕ) → (x == k) ≡ false → (xs : List ℕ) → has (filter (λ y. not (x == y)) xs) k ≡ has xs k
row_types_has_after_filter k x apart [] = refl
row_types_has_after_filter k x apart (y ∷ ys) = grind (arith, nat_tests, row_types_has_after_filter k x apart ys)

pub list-has-distinct : (xs : List ℕ) (k : ℕ) → has (distinct ◌==◌ xs) k ≡ has xs k
list-has-distinct [] k = refl
list-has-distinct (x ∷ xs) k = go (x == k) refl (list-has-distinct xs k) where
  go : (b : Bool) → (x == k) ≡ b → has (distinct ◌==◌ xs) k ≡ has xs k
      → (b || has (filter (λ y. not (x == y)) (distinct ◌==◌ xs)) k) ≡ (b || has xs k)
  go true e rec = refl
  go false e rec = row_types_has_after_filter k x e (distinct ◌==◌ xs) ∙ rec

-- one type more
pub list_distinct_more : (xs : List ℕ) (i x : ℕ) → i < length xs → x ≡ get_or xs i x
    → distinct ◌==◌ (take (i + 1) xs) ≡ distinct ◌==◌ (take i xs) ++ cond (has (distinct ◌==◌ (take i xs)) x) [] (x ∷ [])
list_distinct_more xs i x lt is =
    ap (distinct ◌==◌) ((take_at_read xs i x lt).1 ∙ ap (λ (y : ℕ). take i xs ++ y ∷ []) (sym is))
    ∙ distinct_push ◌==◌ (take i xs) x
    ∙ ap (λ (b : Bool). distinct ◌==◌ (take i xs) ++ cond b [] (x ∷ [])) (sym (list-has-distinct (take i xs) x))

pub rows_All-distinct : {X : Type 0} (P : X → Type 0) (same : X → X → Bool) (xs : List X) → All P xs → All P (distinct same xs)
rows_All-distinct P same [] all = All-nil P
rows_All-distinct P same (x ∷ xs) all =
    All-cons P x (filter (λ y. not (same x y)) (distinct same xs)) (All-head P x xs all)
    (All-filter (λ y. not (same x y)) P (distinct same xs) (rows_All-distinct P same xs (All-tail P x xs all)))

-- a part of a list has no type more often
pub row_types_times-filter : (test : ℕ → Bool) (xs : List ℕ) (t : ℕ) → type_times (filter test xs) t ≤ type_times xs t
row_types_times-filter test [] t = omega arith
row_types_times-filter test (x ∷ xs) t = go (test x) (row_types_times-filter test xs t) where
  go : (b : Bool) → type_times (filter test xs) t ≤ type_times xs t
      → type_times (cond b (x ∷ filter test xs) (filter test xs)) t ≤ type_times (x ∷ xs) t
  go true rec = omega (arith, rec, type_times-cons x xs t, type_times-cons x (filter test xs) t)
  go false rec = omega (arith, rec, type_times-cons x xs t)

-- the type that is left out doesn't stand there
row_types_filtered_out : (x : ℕ) (xs : List ℕ) → has (filter (λ y. not (x == y)) xs) x ≡ false
row_types_filtered_out x [] = refl
row_types_filtered_out x (y ∷ ys) = grind (arith, nat_tests, row_types_filtered_out x ys)

pub row_types_distinct-once : (xs : List ℕ) (t : ℕ) → type_times (distinct ◌==◌ xs) t ≤ 1
row_types_distinct-once [] t = omega arith
row_types_distinct-once (x ∷ xs) t = go (x == t) refl (row_types_distinct-once xs t) where
  go : (b : Bool) → (x == t) ≡ b → type_times (distinct ◌==◌ xs) t ≤ 1 → type_times (distinct ◌==◌ (x ∷ xs)) t ≤ 1
  go true e rec =
      let none : type_times (filter (λ y. not (x == y)) (distinct ◌==◌ xs)) t ≡ 0 =
      type_times-none (filter (λ y. not (x == y)) (distinct ◌==◌ xs)) t
      (ap (has (filter (λ y. not (x == y)) (distinct ◌==◌ xs))) (sym (eqb-true x t e)) ∙ row_types_filtered_out x (distinct ◌==◌ xs)) in
      omega (arith, none, type_times-cons x (filter (λ y. not (x == y)) (distinct ◌==◌ xs)) t, one_time_if (x == t) true e)
  go false e rec = omega (
    arith,
    rec,
    row_types_times-filter (λ y. not (x == y)) (distinct ◌==◌ xs) t,
    type_times-cons x (filter (λ y. not (x == y)) (distinct ◌==◌ xs)) t,
    one_time_if (x == t) false e,
  )

-- ---- what is found

-- an item that is found passes the test, and stands in the list
pub list_found : {X : Type 0} (test : X → Bool) (xs : List X) → IfSome (find test xs) (λ x. (test x ≡ true) × Contains xs x)
list_found test [] = tt
list_found {X} test (x ∷ xs) = go (test x) refl (list_found test xs) where
  behind : (y : X) → (test y ≡ true) × Contains xs y → (test y ≡ true) × Contains (x ∷ xs) y
  behind y h = (h.0, Contains-append_right (x ∷ []) xs y h.1)

  weaker : (o : Option X) → IfSome o (λ y. (test y ≡ true) × Contains xs y) → IfSome o (λ y. (test y ≡ true) × Contains (x ∷ xs) y)
  weaker None h = tt
  weaker (Some y) h = behind y h

  go : (b : Bool) → test x ≡ b → IfSome (find test xs) (λ y. (test y ≡ true) × Contains xs y)
      → IfSome (cond b (Some x) (find test xs)) (λ y. (test y ≡ true) × Contains (x ∷ xs) y)
  go true e rec = (e, (0, omega arith, refl))
  go false e rec = weaker (find test xs) rec

-- ---- what is mapped

-- where each image has a mark, which is the item, the marks are the items that have an image
pub list_marks : {Y : Type 0} (mark : Y → ℕ) (f : ℕ → Option Y) → ((x : ℕ) → IfSome (f x) (λ y. mark y ≡ x)) → (xs : List ℕ)
    → map mark (filter_map f xs) ≡ filter (λ x. is_some (f x)) xs
list_marks mark f each [] = refl
list_marks {Y} mark f each (x ∷ xs) = go (f x) (each x) (list_marks mark f each xs) where
  go : (o : Option Y) → IfSome o (λ y. mark y ≡ x) → map mark (filter_map f xs) ≡ filter (λ x. is_some (f x)) xs
      → map mark (cons_option o (filter_map f xs)) ≡ cond (is_some o) (x ∷ filter (λ x. is_some (f x)) xs) (filter (λ x. is_some (f x)) xs)
  go None h rec = rec
  go (Some y) h rec = ap (λ (m : ℕ). m ∷ map mark (filter_map f xs)) h ∙ ap (λ (ms : List ℕ). x ∷ ms) rec

-- what holds of the image of each item
pub rows_All-filter_map : {X Y : Type 0} (P : X → Type 0) (Q : Y → Type 0) (f : X → Option Y) → ((x : X) → P x → IfSome (f x) Q)
    → (xs : List X)
    → All P xs → All Q (filter_map f xs)
rows_All-filter_map P Q f each [] all = All-nil Q
rows_All-filter_map P Q f each (x ∷ xs) all =
    one_mapped Q (f x) (filter_map f xs) (each x (All-head P x xs all)) (rows_All-filter_map P Q f each xs (All-tail P x xs all))

-- ---- what stands in a list

pub rows_is_some_find : {X : Type 0} (test : X → Bool) (xs : List X) → is_some (find test xs) ≡ list_any test xs
rows_is_some_find test [] = refl
rows_is_some_find {X} test (x ∷ xs) = go (test x) (rows_is_some_find test xs) where
  go : (b : Bool) → is_some (find test xs) ≡ list_any test xs → is_some (cond b (Some x) (find test xs)) ≡ (b || list_any test xs)
  go true rec = refl
  go false rec = rec

-- where an item passes the test, one is found
pub rows_found_some : {X : Type 0} (test : X → Bool) (xs : List X) (x : X) → Contains xs x → test x ≡ true → is_some (find test xs) ≡ true
rows_found_some test xs x there passes = rows_is_some_find test xs ∙ list_any_at test xs there.0 x there.1 (ap test there.2 ∙ passes)

pub list_contains_type : (xs : List ℕ) (k : ℕ) → has xs k ≡ true → Contains xs k
list_contains_type [] k h = absurd (false≢true h)
list_contains_type (x ∷ xs) k h = go (x == k) refl h (list_contains_type xs k) where
  go : (b : Bool) → (x == k) ≡ b → (b || has xs k) ≡ true → (has xs k ≡ true → Contains xs k) → Contains (x ∷ xs) k
  go true e h rec = (0, omega arith, eqb-true x k e)
  go false e h rec = Contains-append_right (x ∷ []) xs k (rec h)

list_has_contained : (xs : List ℕ) (k : ℕ) → Contains xs k → has xs k ≡ true
list_has_contained xs k there = list_any_at (λ x. x == k) xs there.0 k there.1 (eq-eqb _ _ there.2)

row_types_has-filter : (test : ℕ → Bool) (xs : List ℕ) (k : ℕ) → test k ≡ true → has (filter test xs) k ≡ has xs k
row_types_has-filter test [] k passes = refl
row_types_has-filter test (x ∷ xs) k passes = go (test x) (x == k) refl refl (row_types_has-filter test xs k passes) where
  go : (kept same : Bool) → test x ≡ kept → (x == k) ≡ same → has (filter test xs) k ≡ has xs k
      → has (cond kept (x ∷ filter test xs) (filter test xs)) k ≡ (same || has xs k)
  go true same e f rec = ap (λ (b : Bool). b || has (filter test xs) k) f ∙ ap (λ (b : Bool). same || b) rec
  go false true e f rec = absurd (false≢true (sym e ∙ ap test (eqb-true x k f) ∙ passes))
  go false false e f rec = rec

-- a type that passes stands among those that pass, each once
pub list_keeps_type : (test : ℕ → Bool) (xs : List ℕ) (k : ℕ) → Contains xs k → test k ≡ true → Contains (filter test (distinct ◌==◌ xs)) k
list_keeps_type test xs k there passes =
    list_contains_type (filter test (distinct ◌==◌ xs)) k (row_types_has-filter test (distinct ◌==◌ xs) k passes ∙ list-has-distinct xs k
    ∙ list_has_contained xs k there)
