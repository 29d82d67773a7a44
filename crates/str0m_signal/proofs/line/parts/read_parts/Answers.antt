use Rattle.str0m_signal.proofs.Common.{true, false, rules, sym, code}
use Rattle.str0m_signal.proofs.line.PartLaws.{takes_read, part_more, part_fails, part_ends, part_ends_fail, part_cut_shorter}
use Rattle.str0m_signal.proofs.line.parts.read_parts.Goals as goal

pub returns-then-not-branch : goal.returns-then-not-branch
returns-then-not-branch g c =
    let none = takes_read _ _ c.loop-part.parts.items c.taken_attribute_result.new.place.items false c.read.ensures
    (rw c.if-not-branch.true at c.in_ok-taken_attribute_result.ensures) in
    part_fails (code c.args.at) g.T.Part.reading c.args.text.now c.loop-part.parts.items c.loop-part.rest.now c.in-Some.part.now
    c.in-Some.more.now (sym c.in-Some.ensures) none.0 c.loop-part.invariant.1

pub loop-part-smaller : goal.loop-part-smaller
loop-part-smaller g c = part_cut_shorter (code c.args.at) c.loop-part.rest.now c.in-Some.part.now c.in-Some.more.now (sym c.in-Some.ensures)

pub loop-part-preserved : goal.loop-part-preserved
loop-part-preserved g c =
    let one = takes_read _ _ c.loop-part.parts.items c.taken_attribute_result.new.place.items true c.read.ensures
    (rw c.if-not-branch.false at c.in_ok-taken_attribute_result.ensures) in (
      search rules,
      rw one.2 (part_more (code c.args.at) g.T.Part.reading c.args.text.now c.loop-part.parts.items c.loop-part.rest.now
          c.in-Some.part.now c.in-Some.more.now one.0 (sym c.in-Some.ensures) one.1 c.loop-part.invariant.1),
    )

pub returns-then-branch : goal.returns-then-branch
returns-then-branch g c =
    let one = takes_read _ _ c.loop-part.parts.items c.taken_attribute_result-2.new.place.items true c.read-2.ensures
    (rw c.if-branch.true at c.in_ok-taken_attribute_result-2.ensures) in
    rw (c.from.ensures, one.2)
    (part_ends (code c.args.at) g.T.Part.reading c.args.text.now c.loop-part.parts.items c.loop-part.rest.now
    one.0 (sym c.in_default.ensures) one.1 c.loop-part.invariant.1)

pub returns-else-branch : goal.returns-else-branch
returns-else-branch g c =
    let none = takes_read _ _ c.loop-part.parts.items c.taken_attribute_result-2.new.place.items false c.read-2.ensures
    (rw c.if-branch.false at c.in_ok-taken_attribute_result-2.ensures) in
    part_ends_fail (code c.args.at) g.T.Part.reading c.args.text.now c.loop-part.parts.items c.loop-part.rest.now (sym c.in_default.ensures)
    none.0 c.loop-part.invariant.1
