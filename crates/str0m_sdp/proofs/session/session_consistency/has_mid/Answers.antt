use Rattle.std.proofs.lemmas.Iterator.Search.{any_from_yields_List}
use Rattle.str0m_sdp.proofs.Common.{rules, bytes_eq, YieldsList-from_slice, YieldsList-from_filter_map, tests}
use Rattle.str0m_sdp.proofs.session.session_consistency.has_mid.Goals as goal
use Rattle.str0m_sdp.specs.session.SessionConsistency.{section_mid}

pub returns : goal.returns
returns c =
    any_from_yields_List (λ other. bytes_eq other c.args.mid) _ _ _ c.any.ensures.ran
    (YieldsList-from_filter_map _ section_mid (YieldsList-from_slice c.args.sections.now cc) c.filter_map.ensures.closure
    (λ x r q k. search (rules, tests)))
    (λ x b q k. search (rules, tests))
