use Rattle.str0m_formats.proofs.round.SettlingPass.{settling_given_serves, settling_kept_serves}
use Rattle.str0m_formats.proofs.round.claims.Claims.keep.Goals as goal

pub returns-then-is_claimed-clause-claimed : goal.returns-then-is_claimed-clause-claimed
returns-then-is_claimed-clause-claimed g c = λ locked taken serves.
    settling_given_serves (g.C.Claimed.holds c.args.self.now.claimed) (g.C.Claimed.holds c.args.self.now.unlocked) locked taken
    (g.C.Claimed.holds c.take_free.new.self.claimed) c.take_free.result serves c.take_free.ensures.value c.take_free.ensures.claimed

pub returns-clause-claimed : goal.returns-clause-claimed
returns-clause-claimed g c = λ locked taken serves.
    settling_kept_serves (g.C.Claimed.holds c.args.self.now.claimed) (g.C.Claimed.holds c.args.self.now.unlocked) locked taken c.args.pt
    serves
    c.requires
