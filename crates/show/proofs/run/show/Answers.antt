use Rattle.show.proofs.Faults.{fault_of_unwritten}
use Rattle.show.proofs.RunShows.{shown_described_by}
use Rattle.show.proofs.run.show.Goals as goal
use Rattle.std.proofs.Common.{Result, Ok, Err, OnErr, inr}
use Rattle.std.proofs.lemmas.Result.{on_ok_weaker}
use Rattle.std.specs.String.{string_bytes}

-- what holds in any case holds on an error
on_err : {T E P : Type 0} (r : Result T E) → P → OnErr r P
on_err (Ok x) p = tt
on_err (Err e) p = p

pub returns-clause-shown : goal.returns-clause-shown
returns-clause-shown g c =
    let prints = rw c.as_str.ensures.value at c.in_ok-printed.ensures.printed in
    let written = rw c.as_str-2.ensures.value at c.write_whole.ensures.written in
    on_ok_weaker c.write_whole.result
    (λ w. (string_bytes c.in_ok-printed.printed, (string_bytes c.in_ok-text.text, c.in_ok-text.ensures.whole, prints), w)) written

pub returns-clause-refused : goal.returns-clause-refused
returns-clause-refused g c =
    let prints = rw c.as_str.ensures.value at c.in_ok-printed.ensures.printed in
    on_err c.write_whole.result (inr (string_bytes c.in_ok-text.text, c.in_ok-text.ensures.whole, shown_described_by _ _ _ prints))

pub returns-clause-fault : goal.returns-clause-fault
returns-clause-fault g c =
    let prints = rw c.as_str.ensures.value at c.in_ok-printed.ensures.printed in
    fault_of_unwritten _ c.write_whole.result c.write_whole.ensures.fault
    (string_bytes c.in_ok-text.text, c.in_ok-text.ensures.whole, shown_described_by _ _ _ prints)
