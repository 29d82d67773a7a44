-- How often a type stands in rows that are made of a list of rows, one of each at most.
use Rattle.exchange.proofs.Common.{arith, ◌≡◌, ◌+◌, ◌≤◌, ◌==◌, ℕ, Bool, true, false, cond, List, [], ◌∷◌, Option, Some, None, IfSome}
use Rattle.exchange.proofs.Common.{filter, filter_map, find, refl, sym, ap, eq-eqb, cons_option, type_times-append, type_times-cons}
use Rattle.exchange.proofs.Common.{one_time_if}
use Rattle.exchange.proofs.Common.{PayloadParams, AllTypesDistinct, type_times, locked_types, types, types_of}

-- how often t stands in a row, and in a row that is found
abbrev pub row_weight : ℕ → PayloadParams → ℕ
row_weight t row = type_times (types_of row) t

abbrev pub found_row_weight : ℕ → Option PayloadParams → ℕ
found_row_weight t None = 0
found_row_weight t (Some row) = row_weight t row

-- `test` picks a row for each type; a row that it picks is locked, and of this type
module _ (t : ℕ) (test : ℕ → PayloadParams → Bool) (tied : (pt : ℕ) (row : PayloadParams) → test pt row ≡ true
    → (row.pt ≡ pt) × (row.locked ≡ true)) where
  -- in the rows that are found for some types, and in a locked row
  abbrev total_row_weight : List PayloadParams → List ℕ → ℕ
  total_row_weight own [] = 0
  total_row_weight own (pt ∷ pts) = found_row_weight t (find (test pt) own) + total_row_weight own pts

  abbrev own_weight : PayloadParams → ℕ
  own_weight row = cond row.locked (row_weight t row) 0

  -- how much one row weighs in them
  abbrev hit_row_weight : PayloadParams → List ℕ → ℕ
  hit_row_weight row [] = 0
  hit_row_weight row (pt ∷ pts) = cond (test pt row) (row_weight t row) 0 + hit_row_weight row pts

  no_row_weight_found : (pts : List ℕ) → total_row_weight [] pts ≡ 0
  no_row_weight_found [] = refl
  no_row_weight_found (pt ∷ pts) = let rec = no_row_weight_found pts in omega arith

  row_weight_split : (row : PayloadParams) (own : List PayloadParams) (pts : List ℕ)
      → total_row_weight (row ∷ own) pts ≤ hit_row_weight row pts + total_row_weight own pts
  row_weight_split row own [] = omega arith
  row_weight_split row own (pt ∷ pts) = go (test pt row) (row_weight_split row own pts) where
    go : (b : Bool) → total_row_weight (row ∷ own) pts ≤ hit_row_weight row pts + total_row_weight own pts
        → found_row_weight t (cond b (Some row) (find (test pt) own)) + total_row_weight (row ∷ own) pts
        ≤ (cond b (row_weight t row) 0 + hit_row_weight row pts)
        + (found_row_weight t (find (test pt) own) + total_row_weight own pts)
    go true rec = omega arith
    go false rec = omega arith

  row_weight_never : (row : PayloadParams) (pts : List ℕ) → type_times pts row.pt ≡ 0 → hit_row_weight row pts ≡ 0
  row_weight_never row [] gone = refl
  row_weight_never row (pt ∷ pts) gone = go (test pt row) refl
      (row_weight_never row pts (omega (arith, gone, type_times-cons pt pts row.pt))) where
        go : (b : Bool) → test pt row ≡ b → hit_row_weight row pts ≡ 0 → cond b (row_weight t row) 0 + hit_row_weight row pts ≡ 0
        go true e rec = let one = one_time_if (pt == row.pt) true (eq-eqb _ _ (sym (tied pt row e).0)) in
            absurd (omega (arith, gone, type_times-cons pt pts row.pt, one))
        go false e rec = omega (arith, rec)

  row_weighed_once : (row : PayloadParams) (pts : List ℕ) → type_times pts row.pt ≤ 1 → hit_row_weight row pts ≤ own_weight row
  row_weighed_once row [] few = omega arith
  row_weighed_once row (pt ∷ pts) few = go (test pt row) refl (row_weighed_once row pts) where
    go : (b : Bool) → test pt row ≡ b → (type_times pts row.pt ≤ 1 → hit_row_weight row pts ≤ own_weight row)
        → cond b (row_weight t row) 0 + hit_row_weight row pts ≤ own_weight row
    go true e rec =
        let one = one_time_if (pt == row.pt) true (eq-eqb _ _ (sym (tied pt row e).0)) in
        let none = row_weight_never row pts (omega (arith, few, type_times-cons pt pts row.pt, one)) in
        let mine : own_weight row ≡ row_weight t row = ap (λ (b : Bool). cond b (row_weight t row) 0) (tied pt row e).1 in
        omega (arith, none, mine)
    go false e rec = let less = rec (omega (arith, few, type_times-cons pt pts row.pt)) in omega (arith, less)

  row_weight_in_locked : (row : PayloadParams) (own : List PayloadParams)
      → type_times (locked_types (row ∷ own)) t ≡ own_weight row + type_times (locked_types own) t
  row_weight_in_locked row own = go row.locked where
    go : (b : Bool) → type_times (types (cond b (row ∷ filter (λ row. row.locked) own) (filter (λ row. row.locked) own))) t
        ≡ cond b (row_weight t row) 0 + type_times (locked_types own) t
    go true = type_times-append (types_of row) (locked_types own) t
    go false = omega arith

  row_weight_at_most : (own : List PayloadParams) (pts : List ℕ) → AllTypesDistinct pts
      → total_row_weight own pts ≤ type_times (locked_types own) t
  row_weight_at_most [] pts apart = let none = no_row_weight_found pts in omega arith
  row_weight_at_most (row ∷ own) pts apart =
      omega (
        arith,
        row_weight_split row own pts,
        row_weighed_once row pts (apart row.pt),
        row_weight_at_most own pts apart,
        row_weight_in_locked row own,
      )

  -- rows that weigh no more than what is found for their type
  pub row_weight_below_found : (own : List PayloadParams) (f : ℕ → Option PayloadParams)
      → ((pt : ℕ) → IfSome (f pt) (λ row. row_weight t row ≤ found_row_weight t (find (test pt) own)))
      → (pts : List ℕ) → type_times (types (filter_map f pts)) t ≤ total_row_weight own pts
  row_weight_below_found own f each [] = omega arith
  row_weight_below_found own f each (pt ∷ pts) = go (f pt) (each pt) (row_weight_below_found own f each pts) where
    go : (o : Option PayloadParams) → IfSome o (λ row. row_weight t row ≤ found_row_weight t (find (test pt) own))
        → type_times (types (filter_map f pts)) t ≤ total_row_weight own pts
        → type_times (types (cons_option o (filter_map f pts))) t ≤ found_row_weight t (find (test pt) own) + total_row_weight own pts
    go None h rec = omega arith
    go (Some row) h rec = omega (arith, h, rec, type_times-append (types_of row) (types (filter_map f pts)) t)

  pub row_weight_no_more : (own : List PayloadParams) (f : ℕ → Option PayloadParams)
      → ((pt : ℕ) → IfSome (f pt) (λ row. row_weight t row ≤ found_row_weight t (find (test pt) own)))
      → (pts : List ℕ) → AllTypesDistinct pts → type_times (types (filter_map f pts)) t ≤ type_times (locked_types own) t
  row_weight_no_more own f each pts apart = omega (arith, row_weight_below_found own f each pts, row_weight_at_most own pts apart)
