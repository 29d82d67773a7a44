use Rattle.str0m_sdp.proofs.Common.{◌∙◌, filter_map, sym, ap}
use Rattle.str0m_sdp.proofs.section.consistency.check_section.Goals as goal
use Rattle.str0m_sdp.proofs.session.FaultLaws.{fault_earlier_passed}
use Rattle.str0m_sdp.specs.Common.{first}
use Rattle.str0m_sdp.specs.session.Fault.{after_mid, err_if_fault, fault_beside, setup_fault, proto_fault, map_fault}

pub returns : goal.returns
returns c =
    let m = c.args.m.now in
    let mid = c.in_ok-mid.mid in
    let attrs = c.as_slice-attrs.ensures in
    let counts = c.counted-counted.ensures in
    let only = rw attrs at (c.in_ok-mid.ensures counts.mids) in
    let setup = c.in_ok-check_setups.ensures m.attrs (rw attrs at counts.setups) in
    let proto = c.in_ok-check_proto.ensures (rw attrs at counts.directions) in
    let maps = rw (attrs, c.as_slice.ensures) at c.in_ok-check_maps.ensures in
    let apts = rw attrs at c.check_section_apts.ensures in
    apts ∙ ap err_if_fault (sym (
    ap (λ o. after_mid o (fault_beside m)) (sym only)
    ∙ fault_earlier_passed (setup_fault m.attrs mid) _ setup
    ∙ fault_earlier_passed (proto_fault m mid m.proto) _ proto
    ∙ fault_earlier_passed (first (filter_map (map_fault m.attrs mid) m.pts)) _ maps
    ))
