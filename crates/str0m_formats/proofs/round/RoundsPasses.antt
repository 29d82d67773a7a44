-- A pass over rows, one row a step.
use Rattle.str0m_formats.proofs.Common.{zero, suc, ◌≡◌, ℕ, ◌≤◌, ◌<◌, List, [], ◌∷◌, ◌++◌, length, take, drop, get_or, Option, Some, None}
use Rattle.str0m_formats.proofs.Common.{refl, sym, ap, ◌∙◌, subst, arith, All, Contains, slice_get, slice_get_within, get_or_from_slice_get}
use Rattle.str0m_formats.proofs.Common.{slice_get-get_or, same_Some, at_drop_more, length_push, take_at, Contains-append_right, cases_order}
use Rattle.str0m_formats.proofs.Common.{take-append-le}

-- at each place, the done rows before it, the row there and the new row stand in a relation
abbrev pub EachPassPlace : {A : Type 0} → (List A → A → A → Type 0) → List A → List A → Type 0
EachPassPlace {A} R rows done = (i : ℕ) (row new : A) → slice_get rows i ≡ Some row → slice_get done i ≡ Some new → R (take i done) row new

pass_slice_get-append_left : {A : Type 0} (xs ys : List A) (i : ℕ) → i < length xs → slice_get (xs ++ ys) i ≡ slice_get xs i
pass_slice_get-append_left [] ys i h = absurd (omega arith)
pass_slice_get-append_left (x ∷ xs) ys zero h = refl
pass_slice_get-append_left (x ∷ xs) ys (suc i) h = pass_slice_get-append_left xs ys i (omega arith)

pub pass_at_split : {A : Type 0} (xs : List A) (y : A) (ys : List A) → slice_get (xs ++ y ∷ ys) (length xs) ≡ Some y
pass_at_split [] y ys = refl
pass_at_split (x ∷ xs) y ys = pass_at_split xs y ys

pub pass_split_has : {A : Type 0} (zs xs : List A) (y : A) (ys : List A) → zs ≡ xs ++ y ∷ ys → Contains zs y
pass_split_has {A} zs xs y ys e = let Has : List A → Type 0 = λ l. Contains l y in
    subst Has (sym e) (Contains-append_right xs (y ∷ ys) y (zero, omega arith, refl))

-- what holds of each element, by its place
pub pass_at_place : {A : Type 0} (P : A → Type 0) (xs : List A) (i : ℕ) (x : A) → All P xs → slice_get xs i ≡ Some x → P x
pass_at_place P xs i x all e = subst P (get_or_from_slice_get xs i x x e) (all i x (slice_get_within xs i x e))

pub pass_from_places : {A : Type 0} (P : A → Type 0) (xs : List A) → ((i : ℕ) (x : A) → slice_get xs i ≡ Some x → P x) → All P xs
pass_from_places P xs h i d lt = h i (get_or xs i d) (slice_get-get_or xs i d lt)

-- a pass goes on by one row
pub pass_each_push : {A : Type 0} (R : List A → A → A → Type 0) (rows done : List A) (row new : A) → EachPassPlace R rows done
    → slice_get rows (length done) ≡ Some row → R done row new → EachPassPlace R rows (done ++ new ∷ [])
pass_each_push {A} R rows done row new each next here =
    grind (arith, cases_order, same_Some, pass_at_split, take_at, take-append-le, pass_slice_get-append_left, slice_get_within, length_push)

pub pass_none_within : {A : Type 0} (xs : List A) (i : ℕ) → i < length xs → slice_get xs i ≡ None → ⊥
pass_none_within [] i h e = omega arith
pass_none_within (x ∷ xs) zero h e = cc
pass_none_within (x ∷ xs) (suc i) h e = pass_none_within xs i (omega arith) e

pub pass_take_suc : {A : Type 0} (xs : List A) (n : ℕ) (x : A) → slice_get xs n ≡ Some x → take (suc n) xs ≡ take n xs ++ x ∷ []
pass_take_suc [] n x e = absurd (cc)
pass_take_suc (y ∷ xs) zero x e = ap (λ z. z ∷ []) (same_Some y x e)
pass_take_suc (y ∷ xs) (suc n) x e = ap (λ zs. y ∷ zs) (pass_take_suc xs n x e)

-- two passes over the same rows agree as far as the shorter goes
pub pass_each_same : {A : Type 0} (R : List A → A → A → Type 0) (rows xs ys : List A)
    → ((d : List A) (row a b : A) → R d row a → R d row b → a ≡ b) → EachPassPlace R rows xs → EachPassPlace R rows ys
    → length xs ≤ length rows
    → (n : ℕ) → n ≤ length xs → n ≤ length ys → take n xs ≡ take n ys
pass_each_same R rows xs ys one ex ey l zero hx hy = refl
pass_each_same {A} R rows xs ys one ex ey l (suc n) hx hy =
    next (pass_each_same R rows xs ys one ex ey l n (omega arith) (omega arith)) (slice_get rows n) refl (slice_get xs n) refl
    (slice_get ys n)
    refl where
      next : take n xs ≡ take n ys → (r : Option A) → slice_get rows n ≡ r → (a : Option A) → slice_get xs n ≡ a → (b : Option A)
          → slice_get ys n ≡ b → take (suc n) xs ≡ take (suc n) ys
      next front None er a ea b eb = absurd (pass_none_within rows n (omega arith) er)
      next front (Some r) er None ea b eb = absurd (pass_none_within xs n (omega arith) ea)
      next front (Some r) er (Some a) ea None eb = absurd (pass_none_within ys n (omega arith) eb)
      next front (Some r) er (Some a) ea (Some b) eb =
          let P : List A → Type 0 = λ d. R d r a in
          let same : a ≡ b = one (take n ys) r a b (subst P front (ex n r a er ea)) (ey n r b er eb) in
          pass_take_suc xs n a ea ∙ ap (λ zs. zs ++ a ∷ []) front ∙ ap (λ z. take n ys ++ z ∷ []) same ∙ sym (pass_take_suc ys n b eb)

-- what the rest of a list says of the element at a place
pub pass_get_from_rest : {A : Type 0} (xs ys : List A) (i : ℕ) (d : A) → i < length xs → drop i xs ≡ drop i ys
    → slice_get ys i ≡ Some (get_or xs i d)
pass_get_from_rest {A} xs ys i d h e = at_rest ys i ∙ ap first (sym e) ∙ at_drop_more first xs i d h where
  first : List A → Option A
  first zs = slice_get zs zero

  at_rest : (zs : List A) (k : ℕ) → slice_get zs k ≡ first (drop k zs)
  at_rest zs zero = refl
  at_rest [] (suc k) = refl
  at_rest (z ∷ zs) (suc k) = at_rest zs k
