use Rattle.str0m_sdp.proofs.Common.{◌≡◌, take}
use Rattle.str0m_sdp.proofs.section.fmtp_lines.find_fmtp_lines.Given as goal
use Rattle.str0m_sdp.specs.section.FmtpLines.{fmtp_lines_with}

-- the values of the type's lines so far are found
abbrev pub invariant-loop-number : goal.invariant-loop-number
invariant-loop-number l = l.found.items ≡ fmtp_lines_with l.pt (take l.number-index l.lines)
