-- What is put into room, by whether it fits.
use Rattle.c_calls.specs.Said.{PutsText}
use Rattle.c_calls.specs.Told.{done, no_room}
use Rattle.c_parts.specs.Room.{room_begun_with}
use Rattle.std.proofs.Common.{◌≡◌, ◌≤◌, ◌<◌, ◌↔◌, ℕ, Bool, List, length, true, false, nat_le, Some, IsTrue, ⊎_elim}
use Rattle.std.proofs.lemmas.Bool.{le-leb, lt-leb, iff_false, cases_lt}

-- items that fit are put there
pub put_fits : {X : Type 0} (items before after : List X) (was count : ℕ) (fits : Bool) → (IsTrue fits ↔ (length items ≤ length before))
    → (IsTrue fits → after ≡ room_begun_with items before) → count ≡ length items → fits ≡ true
    → PutsText (Some items) (before, was) (done, after, count)
put_fits items before after was count fits decides put counted test =
    let small : nat_le (length items) (length before) ≡ true = le-leb (length items) (length before) (decides.0 test) in
    let written : after ≡ room_begun_with items before = put test in
    rw (small, written, counted)

-- others aren't
pub put_full : {X : Type 0} (items before after : List X) (was count : ℕ) (fits : Bool) → (IsTrue fits ↔ (length items ≤ length before))
    → (fits ≡ false → after ≡ before) → count ≡ length items → fits ≡ false → PutsText (Some items) (before, was) (no_room, after, count)
put_full items before after was count fits decides stays counted test =
    let full : length before < length items =
    ⊎_elim (λ less. less) (λ fit. absurd (iff_false decides test fit)) (cases_lt (length before) (length items)) in
    let large : nat_le (length items) (length before) ≡ false = lt-leb (length items) (length before) full in
    let kept : after ≡ before = stays test in
    rw (large, kept, counted)
