use Rattle.exchange.proofs.Common.{arith, ◌<◌, length, refl, sym, common_steps, AllZip-get_or, length_all_zip}
use Rattle.exchange.proofs.state.CopiedOverLaws.{copied_from_on_at, copied_behind_place}
use Rattle.exchange.proofs.state.copied_over.copy_sections.Goals as goal
use Rattle.exchange.specs.state.ReadBack.{IsSectionReadAs}

pub loop-i-init : goal.loop-i-init
loop-i-init c = (
  refl,
  sym (length_all_zip IsSectionReadAs _ _ c.requires),
  λ k d e le lt. AllZip-get_or IsSectionReadAs _ _ k d e c.requires lt,
)

pub copy_section-requires : goal.copy_section-requires
copy_section-requires c =
    let lt : c.loop-i.i < length c.args.sources.now = omega (arith, c.loop-i-test.true) in
    copied_from_on_at IsSectionReadAs c.args.sources.now c.loop-i.sections.items c.loop-i.i _ _ lt c.index-sources-i.is
    c.index_mut.ensures.value
    c.loop-i.invariant.2

pub loop-i-preserved : goal.loop-i-preserved
loop-i-preserved c = (
  grind (arith, common_steps),
  grind (arith, common_steps),
  copied_behind_place IsSectionReadAs c.args.sources.now c.loop-i.sections.items c.loop-i.i _ c.loop-i.invariant.2,
)
