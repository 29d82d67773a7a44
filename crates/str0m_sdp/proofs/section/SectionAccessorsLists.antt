-- Laws on the first and the last of what items hold.
use Rattle.str0m_sdp.proofs.Common.{◌≡◌, ℕ, suc, ◌<◌, ◌+◌, Bool, true, false, cond, not, List, [], ◌∷◌, ◌++◌, filter, filter_map, get_or}
use Rattle.str0m_sdp.proofs.Common.{length, take, count_by, Option, Some, None, refl, sym, ap, ◌∙◌, arith, cons_option, position_or_len}
use Rattle.str0m_sdp.proofs.Common.{is_some, option_or, ltb-true, lt-ltb, append-nil, take_more, filter_map-append, ltb, reverse, ◌↔◌, set}
use Rattle.str0m_sdp.proofs.Common.{position, true≢false, reverse-append, length-filter}
use Rattle.str0m_sdp.specs.Common.{first, last}

-- ---- from the end

section_first-append : {X : Type 0} (xs ys : List X) → first (xs ++ ys) ≡ option_or (first xs) (first ys)
section_first-append xs ys = grind arith

first_list_held : {X : Type 0} (o : Option X) → first (cons_option o []) ≡ o
first_list_held o = grind arith

accessor_last_more : {X : Type 0} (o : Option X) (xs : List X) → last (cons_option o xs) ≡ option_or (last xs) o
accessor_last_more o xs = grind arith

-- the first from the end is the last
pub section_first_reversed : {X Y : Type 0} (h : X → Option Y) (xs : List X) → first (filter_map h (reverse xs)) ≡ last (filter_map h xs)
section_first_reversed h [] = refl
section_first_reversed h (x ∷ xs) =
    ap (λ ys. first (filter_map h ys)) (reverse-append (x ∷ []) xs)
    ∙ ap first (filter_map-append h (reverse xs) (x ∷ []))
    ∙ section_first-append (filter_map h (reverse xs)) (filter_map h (x ∷ []))
    ∙ ap (option_or (first (filter_map h (reverse xs)))) (first_list_held (h x))
    ∙ ap (λ o. option_or o (h x)) (section_first_reversed h xs)
    ∙ sym (accessor_last_more (h x) (filter_map h xs))

-- ---- one more item

accessor_item_more : {X Y : Type 0} (h : X → Option Y) (xs : List X) (i : ℕ) (x : X) (o : Option Y) → i < length xs → x ≡ get_or xs i x
    → o ≡ h x
    → filter_map h (take (i + 1) xs) ≡ filter_map h (take i xs) ++ cons_option o []
accessor_item_more h xs i x o lt is holds = grind (arith, take_more xs i x lt, filter_map-append h (take i xs) (get_or xs i x ∷ []))

-- an item that holds something is passed, and one that holds nothing
pub filter_map_more : {X Y : Type 0} (h : X → Option Y) (xs : List X) (i : ℕ) (x : X) (y : Y) → i < length xs → x ≡ get_or xs i x
    → Some y ≡ h x
    → filter_map h (take (i + 1) xs) ≡ filter_map h (take i xs) ++ y ∷ []
filter_map_more h xs i x y lt is holds = accessor_item_more h xs i x (Some y) lt is holds

pub filter_map_same : {X Y : Type 0} (h : X → Option Y) (xs : List X) (i : ℕ) (x : X) → i < length xs → x ≡ get_or xs i x → None ≡ h x
    → filter_map h (take (i + 1) xs) ≡ filter_map h (take i xs)
filter_map_same h xs i x lt is holds = accessor_item_more h xs i x None lt is holds ∙ append-nil (filter_map h (take i xs))

-- ---- counted by a test

module _ {X Y : Type 0} (h : X → Option Y) (p : X → Bool) (same : (x : X) → is_some (h x) ≡ p x) where
  accessor_first_if_held : (x : X) (o : Option Y) (b : Bool) (ys : List Y) (zs : List X) → is_some o ≡ b
      → is_some (first ys) ≡ ltb 0 (length zs)
      → is_some (first (cons_option o ys)) ≡ ltb 0 (length (cond b (x ∷ zs) zs))
  accessor_first_if_held x o b ys zs e rest = grind arith

  filter_map_counted : (xs : List X) → is_some (first (filter_map h xs)) ≡ ltb 0 (length (filter p xs))
  filter_map_counted [] = refl
  filter_map_counted (x ∷ xs) = accessor_first_if_held x (h x) (p x) (filter_map h xs) (filter p xs) (same x) (filter_map_counted xs)

  -- there is a first where some item passes
  pub accessor_first_counted : (xs : List X) → (is_some (first (filter_map h xs)) ≡ true) ↔ (0 < count_by p xs)
  accessor_first_counted xs = grind (arith, length-filter, ltb-true, filter_map_counted, lt-ltb)

  section_replaced : (x y : X) (b : Bool) (o : Option Y) (n : ℕ) (xs : List X) → is_some o ≡ b → h x ≡ o → is_some (h y) ≡ true
      → cond (not b) (1 + n) 0 < length (x ∷ xs)
      → (n < length xs → first (filter_map h (set xs n y)) ≡ h y)
      → first (filter_map h (set (x ∷ xs) (cond (not b) (1 + n) 0) y)) ≡ h y
  section_replaced x y true o n xs e is some lt rest = grind arith
  section_replaced x y false (Some d) n xs e is some lt rest = absurd (true≢false e)
  section_replaced x y false None n xs e is some lt rest = ap (λ k. first (filter_map h (set (x ∷ xs) k y)))
      (let e : 1 + n ≡ suc n = omega arith in
      e) ∙ ap (λ o. first (cons_option o (filter_map h (set xs n y)))) is ∙ rest (omega arith)

  -- what is put where the first item passes is the first
  pub accessor_first_set : (xs : List X) (y : X) → is_some (h y) ≡ true → position_or_len p xs < length xs
      → first (filter_map h (set xs (position_or_len p xs) y)) ≡ h y
  accessor_first_set [] y some lt = absurd (omega arith)
  accessor_first_set (x ∷ xs) y some lt = section_replaced x y (p x) (h x) (position_or_len p xs) xs (same x) refl some lt
      (accessor_first_set xs y some)

-- the first that passes is within a list that holds one
pub accessor_first_within : {X : Type 0} (p : X → Bool) (xs : List X) → 0 < count_by p xs → position_or_len p xs < length xs
accessor_first_within p xs lt = within p xs (omega (arith, length-filter p xs))
  where
    step : {X : Type 0} (x : X) (b : Bool) (n : ℕ) (zs xs : List X) → (0 < length zs → n < length xs) → 0 < length (cond b (x ∷ zs) zs)
        → cond (not b) (1 + n) 0 < length (x ∷ xs)
    step x true n zs xs rest lt = omega arith
    step x false n zs xs rest lt = omega (arith, rest lt)

    within : {X : Type 0} (p : X → Bool) (xs : List X) → 0 < length (filter p xs) → position_or_len p xs < length xs
    within p [] lt = lt
    within p (x ∷ xs) lt = step x (p x) (position_or_len p xs) (filter p xs) xs (within p xs) lt

-- and `position` finds it
pub section_position_within : {X : Type 0} (p : X → Bool) (xs : List X) → 0 < count_by p xs → position p xs ≡ Some (position_or_len p xs)
section_position_within p xs lt = grind (arith, lt-ltb, accessor_first_within)
