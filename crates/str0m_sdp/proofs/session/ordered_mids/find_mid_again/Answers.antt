use Rattle.str0m_sdp.proofs.Common.{◌∷◌}
use Rattle.str0m_sdp.proofs.session.OrderedMids.{mid_found_here, mid_found_later, mids_holds_before, mids_whole_before}
use Rattle.str0m_sdp.proofs.session.ordered_mids.find_mid_again.Goals as goal

pub loop-mid-preserved-then-not-branch : goal.loop-mid-preserved-then-not-branch
loop-mid-preserved-then-not-branch c =
    let mid = c.in-Some.mid.now in
    let passed = c.loop-mid.invariant.0 in
    let holds = c.loop-mid.invariant.3 in
    let told = c.in_ok-insert.ensures in (
      mid ∷ passed,
      mids_whole_before _ _ _ passed mid c.loop-mid.invariant.1 c.in-Some.ensures.cases.0,
      mid_found_here _ c.as_str.result mid passed _ c.as_str.ensures.value holds told.added c.if-not-branch.true,
      mids_holds_before _ _ c.as_str.result mid passed c.as_str.ensures.value told.updates holds,
    )

pub loop-mid-preserved : goal.loop-mid-preserved
loop-mid-preserved c =
    let mid = c.in-Some.mid.now in
    let passed = c.loop-mid.invariant.0 in
    let holds = c.loop-mid.invariant.3 in
    let told = c.in_ok-insert.ensures in (
      mid ∷ passed,
      mids_whole_before _ _ _ passed mid c.loop-mid.invariant.1 c.in-Some.ensures.cases.0,
      mid_found_later _ c.as_str.result mid passed _ _ c.as_str.ensures.value holds told.added c.if-not-branch.false c.loop-mid.invariant.2,
      mids_holds_before _ _ c.as_str.result mid passed c.as_str.ensures.value told.updates holds,
    )
