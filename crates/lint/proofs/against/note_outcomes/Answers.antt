use Rattle.lint.proofs.Common.{on_ok_weaker}
use Rattle.lint.proofs.FateLaws.{described_fates}
use Rattle.lint.proofs.against.note_outcomes.Goals as goal

pub returns-clause-said : goal.returns-clause-said
returns-clause-said c =
    on_ok_weaker c.note_rounds.result
    (described_fates c.as_slice.result.now c.args.sdp.now.media_lines c.in_ok-config.config.params.items c.args.ours.now.params.items
    c.note_rounds.new.config.params.items c.args.notes.now c.note_rounds.new.notes c.as_slice.ensures c.in_ok-config.ensures.rows)
    c.note_rounds.ensures.said
