use Rattle.exchange.proofs.Common.{◌≡◌, ◌≢◌, ◌<◌, ◌&&◌, ◌∙◌, All, List, ℕ, [], subst, sym, true}
use Rattle.exchange.proofs.state.LineToldLaws.{line_fingerprint_told}
use Rattle.exchange.proofs.state.line_told.is_fingerprint_told.Goals as goal
use Rattle.exchange.specs.state.LineByLine.{is_line_text}
use Rattle.str0m_values.specs.Cuts.{lacks}

pub returns-then-is_line_word : goal.returns-then-is_line_word
returns-then-is_line_word c = λ is.
    let bytes =
    subst (λ (bytes : List ℕ). (bytes ≢ []) × All (λ byte. byte < 256) bytes) c.as_slice.ensures (c.has_hash_bytes.ensures is) in
    line_fingerprint_told c.args.hash.now.hash_func c.args.hash.now.bytes
    (subst (λ (text : List ℕ). is_line_text text && lacks 32 text ≡ true) c.as_str.ensures.value
    (sym c.is_line_word.ensures ∙ c.if-is_line_word.true)) bytes.0 bytes.1
