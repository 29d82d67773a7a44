use Rattle.str0m_signal.proofs.Common.{rules}
use Rattle.str0m_signal.proofs.line.AttributesLaws.{attribute_taken}
use Rattle.str0m_signal.proofs.line.LinesChainLaws.{chain_more}
use Rattle.str0m_signal.proofs.line.attributes.attribute_run.Goals as goal
use Rattle.str0m_signal.specs.line.LinesReading.{lines_of, read_attribute, ReadsTo}

pub loop-content-preserved : goal.loop-content-preserved
loop-content-preserved g c =
    let taken = rw c.if-not-branch.false at c.in_ok-take.ensures in
    let reading = g.A.Attribute.reading in (
      search rules,
      rw taken.2 (chain_more (ReadsTo (read_attribute reading)) (lines_of c.args.text.now) c.loop-content.attributes.items
          (lines_of c.loop-content.rest.now) taken.0 (lines_of c.in-Some.after.now) c.loop-content.invariant.1
          (attribute_taken reading (lines_of c.loop-content.rest.now) (lines_of c.in-Some.after.now) c.in-Some.content.now taken.0
          c.in-Some.ensures taken.1)),
    )
