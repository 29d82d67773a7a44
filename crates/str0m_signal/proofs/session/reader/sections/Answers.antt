use Rattle.str0m_signal.proofs.Common.{rules}
use Rattle.str0m_signal.proofs.line.LinesChainLaws.{chain_more}
use Rattle.str0m_signal.proofs.session.ReaderLaws.{section_fewer, sections_blocked}
use Rattle.str0m_signal.proofs.session.reader.sections.Goals as goal
use Rattle.str0m_signal.specs.line.LinesReading.{lines_of}
use Rattle.str0m_signal.specs.session.Reader.{ConsistentSection}

pub returns-in-Some-2 : goal.returns-in-Some-2
returns-in-Some-2 c =
    let here = rw c.in-Some.is at c.in_ok-m.ensures in
    let fault = rw c.in-Some-2.is at c.in_ok-message.ensures in
    λ v is. sections_blocked (lines_of c.args.text.now) c.loop-sections.sections.items (lines_of c.loop-sections.rest.now) c.in-Some.m
    (lines_of c.in-Some.after.now) c.loop-sections.invariant.1 here fault.told v.0 v.1 is

pub loop-sections-smaller : goal.loop-sections-smaller
loop-sections-smaller c =
    let here = rw c.in-Some.is at c.in_ok-m.ensures in
    section_fewer (lines_of c.loop-sections.rest.now) c.in-Some.m (lines_of c.in-Some.after.now) here

pub loop-sections-preserved : goal.loop-sections-preserved
loop-sections-preserved c =
    let here = rw c.in-Some.is at c.in_ok-m.ensures in
    let consistent = rw c.in_default-2.is at c.in_ok-message.ensures in (
      search rules,
      rw c.in_ok-push_section.ensures
          (chain_more ConsistentSection (lines_of c.args.text.now) c.loop-sections.sections.items (lines_of c.loop-sections.rest.now)
          c.in-Some.m (lines_of c.in-Some.after.now) c.loop-sections.invariant.1 (here, consistent.told)),
    )
