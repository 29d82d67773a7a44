use Rattle.exchange.proofs.Common.{arith, ◌≡◌, ◌+◌, ◌-◌, ◌≤◌, ℕ, List, length, take, min, ap, ◌∙◌, line_feeds}
use Rattle.exchange.proofs.answer.OfferedUnreadLaws.{offered_rest_numbered}
use Rattle.exchange.proofs.answer.offered.offered_rest_line_number.Goals as goal

pub returns : goal.returns
returns c = λ from some.
    let text : List ℕ = c.args.text.now in
    let n : ℕ = c.saturating_sub-read.result in
    let bounded : length text ≤ 18446744073709551615 =
    omega (arith, c.as_bytes.type_inv.0, ap (λ (t : List ℕ). length t) c.as_bytes.ensures.value) in
    let before : c.offered_line_feeds.result ≡ line_feeds (take n text) =
    c.offered_line_feeds.ensures ∙ ap line_feeds (c.split_at.ensures.front ∙ ap (λ (t : List ℕ). take n t) c.as_bytes.ensures.value) in
    offered_rest_numbered text c.args.rest.now n 18446744073709551615 c.saturating_add.result from some c.saturating_sub-read.ensures
    bounded
    (c.saturating_add.ensures ∙ ap (λ (k : ℕ). min (k + 1) 18446744073709551615) before)
