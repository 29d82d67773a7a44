use Rattle.str0m_signal.proofs.Common.{Option, ◌++◌, option_to_list, sym, ap, ◌∙◌, append-nil, Round}
use Rattle.str0m_signal.proofs.session.NegotiationLaws.{one_round_added}
use Rattle.str0m_signal.proofs.session.negotiation.rounds_of.Goals as goal
use Rattle.str0m_signal.specs.session.Negotiation.{brought_by_round, brought_by_section}

pub loop-section-preserved : goal.loop-section-preserved
loop-section-preserved c =
    let rounds = c.loop-section.rounds.items in
    let found = c.in_ok-round.field-0 in
    let step = one_round_added brought_by_section brought_by_round c.args.sections.now c.loop-section.section-index c.section-item.result
    rounds in
    elim c.match-branch-2.branch [
      | goal.in-Some+in_ok-push w ↦
          rw w.rounds-is (step w.push.new.self.items found c.loop-section-test.true c.section-item.is c.in_ok-round.ensures
          (w.in_ok-push.ensures.items ∙ ap (λ (o : Option Round). rounds ++ option_to_list o) (sym w.in-Some.is)) c.loop-section.invariant)
      | goal.in_default w ↦
          rw w.rounds-is (step rounds found c.loop-section-test.true c.section-item.is c.in_ok-round.ensures
          (sym (append-nil rounds) ∙ ap (λ (o : Option Round). rounds ++ option_to_list o) (sym w.in_default.is)) c.loop-section.invariant)
    ]
