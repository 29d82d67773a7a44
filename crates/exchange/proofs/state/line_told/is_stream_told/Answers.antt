use Rattle.exchange.proofs.Common.{◌≡◌, ◌&&◌, ◌∙◌, List, ℕ, subst, sym, true}
use Rattle.exchange.proofs.state.LineToldLaws.{line_stream_told}
use Rattle.exchange.proofs.state.line_told.is_stream_told.Goals as goal
use Rattle.exchange.specs.state.LineByLine.{is_line_text}
use Rattle.str0m_values.specs.Cuts.{lacks}

pub returns-then-is_line_word : goal.returns-then-is_line_word
returns-then-is_line_word c = λ is.
    line_stream_told c.args.msid.now.stream_id c.args.msid.now.track_id
    (subst (λ (text : List ℕ). is_line_text text && lacks 32 text ≡ true) c.as_str.ensures.value
    (sym c.is_line_word.ensures ∙ c.if-is_line_word.true))
    (subst (λ (text : List ℕ). is_line_text text ≡ true) c.as_str-then-is_line_word.ensures.value (sym c.is_line_text.ensures ∙ is))
