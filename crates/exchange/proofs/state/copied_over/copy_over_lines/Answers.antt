use Rattle.exchange.proofs.Common.{arith, ◌<◌, length, refl, sym, common_steps, AllZip-get_or, length_all_zip, Alike}
use Rattle.exchange.proofs.state.CopiedOverLaws.{copied_from_on_at, copied_behind_place}
use Rattle.exchange.proofs.state.copied_over.copy_over_lines.Goals as goal

pub loop-i-init : goal.loop-i-init
loop-i-init c = (refl, sym (length_all_zip Alike _ _ c.requires), λ k d e le lt. AllZip-get_or Alike _ _ k d e c.requires lt)

pub copy_over_line-requires : goal.copy_over_line-requires
copy_over_line-requires c =
    let lt : c.loop-i.i < length c.args.sources.now = omega (arith, c.loop-i-test.true) in
    copied_from_on_at Alike c.args.sources.now c.loop-i.lines.items c.loop-i.i _ _ lt c.index-sources-i.is c.index_mut.ensures.value
    c.loop-i.invariant.2

pub loop-i-preserved : goal.loop-i-preserved
loop-i-preserved c = (
  grind (arith, common_steps),
  grind (arith, common_steps),
  copied_behind_place Alike c.args.sources.now c.loop-i.lines.items c.loop-i.i _ c.loop-i.invariant.2,
)
