use Rattle.std.specs.Prelude.{decimal}
use Rattle.str0m_sdp.proofs.Common.{◌++◌, codes, take, flat_map, HasWritten, IsPlainFormatter}
use Rattle.str0m_sdp.proofs.section.media_line.TypesDisplay.fmt.Given as goal

-- the types so far are written, each with a space behind it
abbrev pub invariant-loop-pt : goal.invariant-loop-pt
invariant-loop-pt g l =
    IsPlainFormatter l.initial.f → HasWritten g.W.Write.write_str_gives l.initial.f
    (flat_map (λ pt. decimal pt ++ codes " ") (take l.pt-index l.before)) l.f
