use Rattle.exchange.proofs.Common.{rules, tests, YieldsList-from_slice, first_from_find_map, media_ufrag}
use Rattle.exchange.proofs.answer.in_force.section_ufrag.Goals as goal

pub returns : goal.returns
returns c =
    first_from_find_map (λ text. text.now) media_ufrag (YieldsList-from_slice c.args.section.now.attrs cc)
    (λ x r q k. search (rules, tests))
    c.find_map.result c.find_map.ensures.runs
