use Rattle.exchange.proofs.Common.{◌≡◌, ℕ, List, rules, subst, versioned_text}
use Rattle.exchange.proofs.state.ReadBackLaws.{read_back_found_alike, found_back}
use Rattle.exchange.proofs.state.exchange.exchange_text_copy.Goals as goal
use Rattle.exchange.specs.state.ReadBack.{IsReadBack}

pub copy_over-requires : goal.copy_over-requires
copy_over-requires c = read_back_found_alike c.args.sdp.now _ c.in-Some.copy c.in-Some.is c.in_ok-copy.ensures.alike

pub returns : goal.returns
returns c =
    let text : c.as_str.result.now ≡ versioned_text c.args.version c.args.sdp.now = search rules in
    let back = found_back c.args.sdp.now c.as_str.result.now _ c.in-Some.copy c.in-Some.is c.in_ok-copy.ensures.exact in
    (c.in_ok-copy_over.ensures, subst (λ (bytes : List ℕ). IsReadBack c.args.sdp.now bytes) text back)
