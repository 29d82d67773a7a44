use Rattle.str0m_formats.specs.format.FormatParam.{param_text}
use Rattle.str0m_sdp.proofs.Common.{◌++◌, take, filter, codes, flat_map, HasWritten, IsPlainFormatter}
use Rattle.str0m_sdp.proofs.attribute.fmtp.MoreFmtpShownDisplay.fmt.Given as goal
use Rattle.str0m_sdp.specs.attribute.Fmtp.{is_fmtp_shown}

-- the values so far that are shown are written, each after a separator
abbrev pub invariant-loop-value : goal.invariant-loop-value
invariant-loop-value g l =
    IsPlainFormatter l.initial.f → HasWritten g.W.Write.write_str_gives l.initial.f
    (flat_map (λ value. codes ";" ++ param_text value) (filter is_fmtp_shown (take l.value-index l.value-items))) l.f
