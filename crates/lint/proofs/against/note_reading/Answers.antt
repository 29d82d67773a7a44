use Rattle.lint.proofs.Common.{on_ok_weaker}
use Rattle.lint.proofs.FateLaws.{fate_says_none, says_read}
use Rattle.lint.proofs.against.note_reading.Goals as goal

pub returns-in-Some-clause-said : goal.returns-in-Some-clause-said
returns-in-Some-clause-said c = λ none one reads.
    let reading = rw c.in-Some.is at reads in
    on_ok_weaker c.note_outcomes.result
    (says_read c.args.text.now c.args.ours.now.params.items c.in-Some.sdp _ c.args.notes.now c.note_outcomes.new.notes reading one none)
    c.note_outcomes.ensures.said

pub returns-in-None-clause-said : goal.returns-in-None-clause-said
returns-in-None-clause-said c = λ none one reads.
    let refused = rw c.in-None.is at reads in
    fate_says_none c.args.text.now c.args.ours.now.params.items c.args.notes.now refused none
