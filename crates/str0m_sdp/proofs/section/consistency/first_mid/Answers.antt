use Rattle.str0m_sdp.proofs.Common.{rules, tests, YieldsList-from_slice}
use Rattle.str0m_sdp.proofs.section.SectionAccessorsFinding.{first_by_find_map}
use Rattle.str0m_sdp.proofs.section.SectionDirectionHolders.{mid_counted}
use Rattle.str0m_sdp.proofs.section.consistency.first_mid.Goals as goal
use Rattle.str0m_sdp.specs.section.Consistency.{mid_of}

pub returns-clause-mid : goal.returns-clause-mid
returns-clause-mid c = first_by_find_map mid_of (YieldsList-from_slice c.args.attrs.now cc) (λ x r q k. search (rules, tests))
    c.find_map.result c.find_map.ensures.runs

pub returns-clause-found : goal.returns-clause-found
returns-clause-found c = rw (first_by_find_map mid_of (YieldsList-from_slice c.args.attrs.now cc) (λ x r q k. search (rules, tests))
    c.find_map.result c.find_map.ensures.runs) (mid_counted c.args.attrs.now)
