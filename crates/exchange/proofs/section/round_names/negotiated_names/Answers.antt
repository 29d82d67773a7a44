use Rattle.exchange.proofs.Common.{◌≡◌, List, Option, ℕ, filter, length, map, ap, ◌∙◌, take_all, MediaLine}
use Rattle.exchange.proofs.section.RoundNameLaws.{one_name_each}
use Rattle.exchange.proofs.section.round_names.negotiated_names.Goals as goal
use Rattle.exchange.specs.section.RoundNames.{has_round, negotiated_names}
use Rattle.exchange.specs.section.Stopped.{name_of}

pub returns-clause-one_each : goal.returns-clause-one_each
returns-clause-one_each c = λ before after outcomes negotiated.
    let sections : List MediaLine = c.as_slice-sections.result.now in
    let are : c.loop-section.names.items ≡ negotiated_names c.args.sdp.now =
    c.loop-section.invariant
    ∙ ap (λ (ms : List MediaLine). map name_of (filter has_round ms))
    (take_all c.loop-section.section-index sections c.loop-section-test.false ∙ c.as_slice-sections.ensures) in
    ap (λ (names : List (Option (List ℕ))). length names) are ∙ one_name_each c.args.sdp.now before after outcomes negotiated
