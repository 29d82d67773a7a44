use Rattle.exchange.proofs.Common.{rules, tests, YieldsList-from_slice, first_by_find_map, mid_of}
use Rattle.exchange.proofs.section.stopped.name_of.Goals as goal

pub returns : goal.returns
returns c =
    first_by_find_map mid_of (YieldsList-from_slice c.args.section.now.attrs cc) (λ x r q k. search (rules, tests))
    c.find_map.result c.find_map.ensures.runs
