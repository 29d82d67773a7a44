use Rattle.str0m_formats.proofs.Common.{refl}
use Rattle.str0m_formats.proofs.round.ChoicesAsked.{RefusedAllChoices-take, FirstAccepted-at}
use Rattle.str0m_formats.proofs.row.codec_config.CodecConfig.find.Goals as goal
use denote.Param.Always.{mut_next}

pub returns-then-accept : goal.returns-then-accept
returns-then-accept g c =
    FirstAccepted-at (goal.F-step g) c.args.accept c.loop-row.accept c.accept.new.self _ _ _ _ c.deref-row-items.ensures.value
    c.loop-row-test.true c.row-item.is c.loop-row.invariant.refused c.if-accept.ensures

pub loop-row-preserved : goal.loop-row-preserved
loop-row-preserved g c = record {
  callable = mut_next g.F.FnMut _ _ _ _ _ c.accept.ensures refl c.loop-row.invariant.callable;
  refused = RefusedAllChoices-take (goal.F-step g) c.args.accept c.loop-row.accept c.accept.new.self _ _ _ c.loop-row-test.true
      c.row-item.is
      c.loop-row.invariant.refused c.if-accept.ensures;
}
