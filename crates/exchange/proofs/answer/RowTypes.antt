-- The types of an answer: none stands there more often than among the locked rows of this side.
use Rattle.exchange.proofs.Common.{arith, ◌≡◌, ◌+◌, ◌≤◌, ◌==◌, ◌&&◌, ℕ, Bool, true, false, List, [], ◌∷◌, ◌++◌, ap, ◌∙◌, Option, Some, None}
use Rattle.exchange.proofs.Common.{IfSome, if◌then◌else◌, find, option_map, option_to_list, subst, sym, and_parts, eqb-true, false≢true}
use Rattle.exchange.proofs.Common.{Contains, type_times-append, PayloadParams, AllTypesDistinct, has, type_times, locked_types, types}
use Rattle.exchange.proofs.Common.{types_of, distinct}
use Rattle.exchange.proofs.Common.{MediaLine, rows, ◌>>=◌}
use Rattle.exchange.proofs.answer.RowsListLaws.{row_types_distinct-once, list_found}
use Rattle.exchange.proofs.answer.RowsTypeLaws.{row_weight_no_more, found_row_weight}
use Rattle.exchange.specs.answer.Rows.{agreed_row_type, answer_to, answer_under, answered_rows, as_answered, row_matches}

-- a type that is agreed on is ours
agreed_row_types_fewer : (listed : List ℕ) (ours theirs : Option ℕ) (t : ℕ)
    → type_times (option_to_list (agreed_row_type listed ours theirs)) t ≤ type_times (option_to_list ours) t
agreed_row_types_fewer listed None theirs t = omega arith
agreed_row_types_fewer listed (Some a) None t = omega arith
agreed_row_types_fewer listed (Some a) (Some b) t = go (a == b && has listed a) where
  go : (test : Bool) → type_times (option_to_list (if test then Some a else None)) t ≤ type_times (option_to_list (Some a)) t
  go true = omega arith
  go false = omega arith

row_times_joined : (row : PayloadParams) (t : ℕ) → type_times (types_of row) t ≡ type_times (row.pt ∷ []) t
    + (type_times (option_to_list row.resend) t + type_times (option_to_list row.red) t)
row_times_joined row t =
    type_times-append (row.pt ∷ []) (option_to_list row.resend ++ option_to_list row.red) t
    ∙ ap (λ (n : ℕ). type_times (row.pt ∷ []) t + n) (type_times-append (option_to_list row.resend) (option_to_list row.red) t)

answer_fewer : (section : MediaLine) (theirs ours : PayloadParams) (t : ℕ)
    → type_times (types_of (as_answered section theirs ours)) t ≤ type_times (types_of ours) t
unfolding as_answered
answer_fewer section theirs ours t = omega (
  arith,
  row_times_joined (as_answered section theirs ours) t,
  row_times_joined ours t,
  agreed_row_types_fewer section.pts ours.resend theirs.resend t,
  agreed_row_types_fewer section.pts ours.red theirs.red t,
)

-- the test of the rows that answer a type, by the offered row
abbrev row_test_with : MediaLine → Option PayloadParams → PayloadParams → Bool
row_test_with section None ours = false
row_test_with section (Some theirs) ours = row_matches section.typ theirs ours

abbrev row_test_under : MediaLine → ℕ → PayloadParams → Bool
row_test_under section pt = row_test_with section (find (λ row. row.pt == pt) (rows section))

row_tied_to_type : (section : MediaLine) (pt : ℕ) (ours : PayloadParams) → row_test_under section pt ours ≡ true
    → (ours.pt ≡ pt) × (ours.locked ≡ true)
row_tied_to_type section pt ours = go (find (λ row. row.pt == pt) (rows section)) (list_found (λ row. row.pt == pt) (rows section)) where
  go : (o : Option PayloadParams) → IfSome o (λ theirs. ((theirs.pt == pt) ≡ true) × Contains (rows section) theirs)
      → row_test_with section o ours ≡ true
      → (ours.pt ≡ pt) × (ours.locked ≡ true)
  go None h e = absurd (false≢true e)
  go (Some theirs) h e =
      let locked = and_parts ours.locked _ e in
      (eqb-true _ _ (and_parts (ours.pt == theirs.pt) _ locked.1).0 ∙ eqb-true _ _ h.0, locked.0)

each_row_weighed : (own : List PayloadParams) (section : MediaLine) (t pt : ℕ)
    → IfSome (answer_under own section (rows section) pt) (λ row. type_times (types_of row) t
    ≤ found_row_weight t (find (row_test_under section pt) own))
unfolding answer_under
each_row_weighed own section t pt = go (find (λ row. row.pt == pt) (rows section)) where
  mapped : (theirs : PayloadParams) (o : Option PayloadParams)
      → IfSome (option_map (as_answered section theirs) o) (λ row. type_times (types_of row) t ≤ found_row_weight t o)
  mapped theirs None = tt
  mapped theirs (Some ours) = answer_fewer section theirs ours t

  go : (o : Option PayloadParams)
      → IfSome (o >>= answer_to own section) (λ row. type_times (types_of row) t ≤ found_row_weight t (find (row_test_with section o) own))
  go None = tt
  go (Some theirs) = mapped theirs (find (row_matches section.typ theirs) own)

row_times_bounded : (own : List PayloadParams) (section : MediaLine) (t : ℕ)
    → type_times (types (answered_rows own section)) t ≤ type_times (locked_types own) t
unfolding answered_rows
row_times_bounded own section t =
    row_weight_no_more t (row_test_under section) (row_tied_to_type section) own (answer_under own section (rows section))
    (each_row_weighed own section t)
    (distinct ◌==◌ section.pts)
    (row_types_distinct-once section.pts)

pub answer_apart : (own : List PayloadParams) (section : MediaLine) (answer : List PayloadParams) → answer ≡ answered_rows own section
    → AllTypesDistinct (locked_types own) → AllTypesDistinct (types answer)
answer_apart own section answer is apart = subst (λ (rs : List PayloadParams). AllTypesDistinct (types rs)) (sym is)
    (λ t. omega (arith, row_times_bounded own section t, apart t))
