-- The types of rows as sets: what a row adds.
use Rattle.str0m_formats.proofs.Common.{arith, zero, suc, ◌≡◌, ◌==◌, ℕ, Bool, true, false, not, cond, List, [], ◌∷◌, ◌++◌, Some, filter, ap}
use Rattle.str0m_formats.proofs.Common.{list_any-append, slice_get, append-nil, filter-append, flat_map-append, or_right, fun_ext}
use Rattle.str0m_formats.specs.declared.row.payload_params.PayloadParams.{PayloadParams}
use Rattle.str0m_formats.specs.round.Claimed.{TypeSet, has, either_set}
use Rattle.str0m_formats.specs.row.PayloadParams.{types_of, types, locked_types, open_types}

-- the set of two lists together
pub row_types_has-append : (xs ys : List ℕ) → has (xs ++ ys) ≡ either_set (has xs) (has ys)
row_types_has-append xs ys = fun_ext (λ t. list_any-append (λ x. x == t) xs ys)

-- a list that is in a set already adds nothing to it
pub either_set-covered : (set : TypeSet) (xs : List ℕ) → ((t : ℕ) → has xs t ≡ true → set t ≡ true) → either_set set (has xs) ≡ set
either_set-covered set xs h = grind arith

-- the types of the rows that pass a test, with one row more
pub types_where-push : (test : PayloadParams → Bool) (rows : List PayloadParams) (row : PayloadParams)
    → types (filter test (rows ++ row ∷ [])) ≡ types (filter test rows) ++ cond (test row) (types_of row) []
types_where-push test rows row = grind (arith, filter-append, flat_map-append, append-nil)

pub locked_types-push : (rows : List PayloadParams) (row : PayloadParams)
    → locked_types (rows ++ row ∷ []) ≡ locked_types rows ++ cond row.locked (types_of row) []
locked_types-push = types_where-push (λ r. r.locked)

pub open_types-push : (rows : List PayloadParams) (row : PayloadParams)
    → open_types (rows ++ row ∷ []) ≡ open_types rows ++ cond row.locked [] (types_of row)
open_types-push rows row = grind (arith, types_where-push)

-- the types of a row that passes are among those of the rows that do
types_where-at : (test : PayloadParams → Bool) (rows : List PayloadParams) (i : ℕ) (row : PayloadParams) (t : ℕ)
    → slice_get rows i ≡ Some row → test row ≡ true → has (types_of row) t ≡ true → has (types (filter test rows)) t ≡ true
types_where-at test [] i row t at_row l h = absurd (cc)
types_where-at test (r ∷ rows) zero row t at_row l h = grind arith
types_where-at test (r ∷ rows) (suc i) row t at_row l h =
    grind (arith, types_where-at test rows i row t at_row l h, list_any-append, or_right)

pub locked_types-at : (rows : List PayloadParams) (i : ℕ) (row : PayloadParams) (t : ℕ) → slice_get rows i ≡ Some row → row.locked ≡ true
    → has (types_of row) t ≡ true → has (locked_types rows) t ≡ true
locked_types-at = types_where-at (λ r. r.locked)

pub open_types-at : (rows : List PayloadParams) (i : ℕ) (row : PayloadParams) (t : ℕ) → slice_get rows i ≡ Some row → row.locked ≡ false
    → has (types_of row) t ≡ true → has (open_types rows) t ≡ true
open_types-at rows i row t at_row l = types_where-at (λ r. not r.locked) rows i row t at_row (ap not l)
