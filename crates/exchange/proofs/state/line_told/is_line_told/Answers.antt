use Rattle.exchange.proofs.Common.{subst, sym}
use Rattle.exchange.proofs.state.line_told.is_line_told.Goals as goal
use Rattle.exchange.specs.state.LineByLine.{IsLineReadAlike}

pub returns-in-RtpMap : goal.returns-in-RtpMap
returns-in-RtpMap c = λ is. subst IsLineReadAlike (sym c.in-RtpMap.is) (c.is_mapping_told.ensures is)

pub returns-in-ExtMap : goal.returns-in-ExtMap
returns-in-ExtMap c = λ is. subst IsLineReadAlike (sym c.in-ExtMap.is) (c.is_extension_told.ensures is)

pub returns-in-Mid : goal.returns-in-Mid
returns-in-Mid c = λ is. subst IsLineReadAlike (sym c.in-Mid.is) (c.is_mid_told.ensures is)

pub returns-in-Setup : goal.returns-in-Setup
returns-in-Setup c = λ is. subst IsLineReadAlike (sym c.in-Setup.is) (c.is_role_told.ensures is)

pub returns-in-Fingerprint : goal.returns-in-Fingerprint
returns-in-Fingerprint c = λ is. subst IsLineReadAlike (sym c.in-Fingerprint.is) (c.is_fingerprint_told.ensures is)

pub returns-in-SctpPort : goal.returns-in-SctpPort
returns-in-SctpPort c = λ is. subst IsLineReadAlike (sym c.in-SctpPort.is) (c.is_port_told.ensures is)

pub returns-in-MaxMessageSize : goal.returns-in-MaxMessageSize
returns-in-MaxMessageSize c = λ is. subst IsLineReadAlike (sym c.in-MaxMessageSize.is) (c.is_size_told.ensures is)
