-- Some of the rows that may be printed may be printed, where there is one.
use Rattle.str0m_formats.proofs.{type_times-append}
use Rattle.str0m_signal.proofs.Common.{◌≡◌, ◌≢◌, ◌≤◌, ℕ, Bool, true, false, cond, filter, List, [], ◌∷◌, arith, AllByRecursion}
use Rattle.str0m_signal.proofs.Common.{recursion_from_All, types, types_of, PayloadParams, IsPlain, All-from_recursion, type_times}
use Rattle.str0m_signal.specs.back.ReadBack.{CanRowsBeReadBack}

module _ (pick : PayloadParams → Bool) where
  picked_hold : (P : PayloadParams → Type 0) (rows : List PayloadParams) → AllByRecursion P rows → AllByRecursion P (filter pick rows)
  picked_hold P [] h = tt
  picked_hold P (row ∷ rows) h = go (pick row) (picked_hold P rows h.1) where
    go : (b : Bool) → AllByRecursion P (filter pick rows) → AllByRecursion P (cond b (row ∷ filter pick rows) (filter pick rows))
    go true more = (h.0, more)
    go false more = more

  -- each type stands at most as often
  picked_fewer : (rows : List PayloadParams) (t : ℕ) → type_times (types (filter pick rows)) t ≤ type_times (types rows) t
  picked_fewer [] t = omega arith
  picked_fewer (row ∷ rows) t = go (pick row) (picked_fewer rows t) where
    go : (b : Bool) → type_times (types (filter pick rows)) t ≤ type_times (types rows) t
        → type_times (types (cond b (row ∷ filter pick rows) (filter pick rows))) t ≤ type_times (types (row ∷ rows)) t
    go true more = omega (
      arith,
      more,
      type_times-append (types_of row) (types (filter pick rows)) t,
      type_times-append (types_of row) (types rows) t,
    )
    go false more = omega (arith, more, type_times-append (types_of row) (types rows) t)

  picked_printable : (rows : List PayloadParams) → CanRowsBeReadBack rows → filter pick rows ≢ [] → CanRowsBeReadBack (filter pick rows)
  picked_printable rows may some = record {
    some = some;
    plain = All-from_recursion IsPlain (filter pick rows) (picked_hold IsPlain rows (recursion_from_All IsPlain rows may.plain));
    distinct = λ t. omega (arith, picked_fewer rows t, may.distinct t);
  }

  pub locked_printable_as : (rows picked : List PayloadParams) → CanRowsBeReadBack rows → picked ≡ filter pick rows → picked ≢ []
      → CanRowsBeReadBack picked
  locked_printable_as rows picked may e some = grind (arith, picked_printable)
