use Rattle.str0m_values.proofs.AddressText.{same_v6}
use Rattle.str0m_values.proofs.Common.{◌∙◌, ap, sym, hex_groups_text, ipv6_segments, has_written_of_eq}
use Rattle.str0m_values.proofs.address.IpAddrDisplay.fmt.Goals as goal
use Rattle.str0m_values.specs.Address.{ip_text}

pub returns-in-V6-clause-writes : goal.returns-in-V6-clause-writes
returns-in-V6-clause-writes g c = λ plain ok.
    let groups = ap ipv6_segments c.hex_groups-groups.ensures ∙ c.from_segments-v6.ensures in
    let text = ap hex_groups_text groups ∙ same_v6 c.in-V6.groups ∙ ap ip_text (sym c.in-V6.is) in
    has_written_of_eq _ _ _ _ _ text (c.write.ensures.writes plain ok)
