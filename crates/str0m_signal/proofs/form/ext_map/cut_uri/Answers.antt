use Rattle.str0m_signal.proofs.Common.{arith, IsCharBoundary-after_ascii}
use Rattle.str0m_signal.proofs.form.ExtMapSearchLaws.{extension_first_place, search_cut, search_fails}
use Rattle.str0m_signal.proofs.form.ext_map.cut_uri.Goals as goal

pub range_from-requires : goal.range_from-requires
range_from-requires c =
    let first = extension_first_place 32 c.args.text.now c.in-Some.place (rw c.as_bytes.ensures.value at c.in-Some.ensures) in
    λ _. IsCharBoundary-after_ascii c.args.text.now c.in-Some.place c.utf8.text first.0 (rw first.1 (omega arith))

pub returns-in-Some : goal.returns-in-Some
returns-in-Some c = rw (c.range.ensures.value, c.range_from.ensures.value)
    (search_cut 32 c.args.text.now c.in-Some.place (rw c.as_bytes.ensures.value at c.in-Some.ensures))

pub returns-in-None : goal.returns-in-None
returns-in-None c = search_fails 32 c.args.text.now (rw c.as_bytes.ensures.value at c.in-None.ensures)
