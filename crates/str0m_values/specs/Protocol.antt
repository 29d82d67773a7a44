-- The words for the transport of a candidate (RFC 8839 section 5.1, RFC 6544 section 4.5).
use Rattle.std.specs.Prelude.{◌≡◌, ℕ, List, codes}
use Rattle.std.specs.Str.{str_to_ascii_lowercase}
use Rattle.str0m_values.specs.declared.protocol.Protocol.{Protocol}
use Rattle.str0m_values.specs.declared.protocol.Protocol.TheVariants.{Udp, Tcp, SslTcp, Tls}
use Rattle.str0m_values.specs.declared.protocol.TcpType.{TcpType}
use Rattle.str0m_values.specs.declared.protocol.TcpType.TheVariants.{Active, Passive, So}

abbrev pub protocol_text : Protocol → List ℕ
protocol_text Udp = codes "udp"
protocol_text Tcp = codes "tcp"
protocol_text SslTcp = codes "ssltcp"
protocol_text Tls = codes "tls"

abbrev pub tcp_type_text : TcpType → List ℕ
tcp_type_text Active = codes "active"
tcp_type_text Passive = codes "passive"
tcp_type_text So = codes "so"

-- the word stands for the protocol, in any ASCII case
abbrev pub IsProtocolText : List ℕ → Protocol → Type 0
IsProtocolText word protocol = str_to_ascii_lowercase word ≡ protocol_text protocol

-- the word stands for the type, in any ASCII case
abbrev pub IsTcpTypeText : List ℕ → TcpType → Type 0
IsTcpTypeText word tcp_type = str_to_ascii_lowercase word ≡ tcp_type_text tcp_type
