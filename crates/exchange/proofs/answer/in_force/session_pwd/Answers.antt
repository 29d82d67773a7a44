use Rattle.exchange.proofs.Common.{rules, tests, YieldsList-from_slice, first_from_find_map, session_pwd}
use Rattle.exchange.proofs.answer.in_force.session_pwd.Goals as goal

pub returns : goal.returns
returns c =
    first_from_find_map (λ text. text.now) session_pwd (YieldsList-from_slice c.args.session.now.attrs cc)
    (λ x r q k. search (rules, tests))
    c.find_map.result c.find_map.ensures.runs
