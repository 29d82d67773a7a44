-- Reading of an address as a function. The relation is in Address.
use Rattle.std.specs.Net.Addr.{ipv4_octets, ipv6_segments}
use Rattle.std.specs.Net.Reader.{read_ipv4, read_ipv6, whole_value}
use Rattle.std.specs.Prelude.{ℕ, List, Option, option_map}
use Rattle.std.specs.declared.net.ip_addr.IpAddr.{IpAddr as NetIpAddr}
use Rattle.std.specs.declared.net.ip_addr.IpAddr.TheVariants as net
use Rattle.str0m_values.specs.Cuts.{◌<|>◌}
use Rattle.str0m_values.specs.declared.address.IpAddr.{IpAddr}
use Rattle.str0m_values.specs.declared.address.IpAddr.TheVariants.{V4, V6}

-- std's address as ours
abbrev pub own_address : NetIpAddr → IpAddr
own_address (net.V4 address) = V4 (ipv4_octets address)
own_address (net.V6 address) = V6 (ipv6_segments address)

unfoldable pub ip_read : List ℕ → Option IpAddr
ip_read text = option_map V4 (whole_value (read_ipv4 text)) <|> option_map V6 (whole_value (read_ipv6 text))
