use Rattle.str0m_formats.specs.contracts.codec.Codec.{the_type}
use Rattle.str0m_sdp.proofs.Common.{rules, ap, sym, ◌∙◌, same_true, format_of_fmtp}
use Rattle.str0m_sdp.proofs.section.type_lines.known_format.Goals as goal
use Rattle.str0m_sdp.specs.section.TypeLines.{IsKnownFormat}

pub returns-then-eq : goal.returns-then-eq
unfolding IsKnownFormat
returns-then-eq c = λ lines all.
    all c.loop-it.it-index _ c.loop-it-test.true ∙ ap (λ codec. format_of_fmtp codec lines)
    (same_true the_type (search rules) _ _ (sym c.if-eq.ensures))
