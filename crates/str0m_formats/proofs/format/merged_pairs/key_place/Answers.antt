use Rattle.str0m_formats.proofs.Common.{sym, ◌∙◌}
use Rattle.str0m_formats.proofs.format.MergedPairsLaws.{merged_no_key_more, merged_first_key_here}
use Rattle.str0m_formats.proofs.format.merged_pairs.key_place.Goals as goal

pub returns-then-eq-clause-place : goal.returns-then-eq-clause-place
returns-then-eq-clause-place c =
    merged_first_key_here c.args.key.now c.args.entries.now c.loop-place.place _ c.loop-place-test.true c.loop-place.invariant
    (sym c.eq.ensures ∙ c.if-eq.true)

pub loop-place-preserved : goal.loop-place-preserved
loop-place-preserved c =
    merged_no_key_more c.args.key.now c.args.entries.now c.loop-place.place _ c.loop-place-test.true c.loop-place.invariant
    (sym c.eq.ensures ∙ c.if-eq.false)
