use Rattle.str0m_sdp.proofs.Common.{List, ap, ◌∙◌, Bor, All-push, All-same, format_of_fmtp, format_line_values, FormatParam}
use Rattle.str0m_sdp.proofs.section.type_lines.TypeLines.learn.Goals as goal
use Rattle.str0m_sdp.specs.section.TypeLines.{IsKnownFormat}

pub returns-clause-group : goal.returns-clause-group
unfolding IsKnownFormat
returns-clause-group c = λ lines group.
    let is = c.from_sdp_fmtp-format.ensures.format
    ∙ ap (λ (ls : List (Bor (List FormatParam))). format_of_fmtp c.args.codec (format_line_values ls)) c.as_slice.ensures.value
    ∙ ap (λ (ls : List (List FormatParam)). format_of_fmtp c.args.codec ls) group.0 in (
      group.0,
      All-same (IsKnownFormat lines) c.push.new.self.items _ c.in_ok-push.ensures.items
          (All-push (IsKnownFormat lines) c.args.self.now.known.items _ group.1 is),
    )
