use Rattle.str0m_formats.proofs.Common.{◌≡◌, ℕ, Option, Some, subst, rules}
use Rattle.str0m_formats.proofs.round.claims.Claims.keep_rtx.Goals as goal
use Rattle.str0m_formats.specs.round.Claimed.{claimed_with_option}
use Rattle.str0m_formats.specs.round.Claims.{ClaimsServe}

pub returns-in_ok-pt-in-Some-clause-claimed : goal.returns-in_ok-pt-in-Some-clause-claimed
returns-in_ok-pt-in-Some-clause-claimed g c = λ locked taken serves.
    let pt : c.keep.result ≡ Some c.in_ok-pt-in-Some.pt = search rules in
    let After : Option ℕ → Type 0 =
    λ given. ClaimsServe (g.C.Claimed.holds c.keep.new.self.claimed) (g.C.Claimed.holds c.args.self.now.unlocked) locked
    (claimed_with_option taken given) in
    subst After pt (c.keep.ensures.claimed locked taken serves)
