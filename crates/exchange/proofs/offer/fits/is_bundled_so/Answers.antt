use Rattle.exchange.proofs.Common.{◌∙◌, Some, sym, false≢true}
use Rattle.exchange.proofs.offer.fits.is_bundled_so.Goals as goal

pub returns-then-is_mid_held : goal.returns-then-is_mid_held
returns-then-is_mid_held c = (
  λ yes. record {
    accepted = sym (c.requires.accepted (Some c.args.mid)) ∙ sym c.is_mid_held.ensures ∙ c.if-is_mid_held.true;
    offered = sym (c.requires.offered (Some c.args.mid)) ∙ sym c.is_mid_held-then-is_mid_held.ensures ∙ yes;
  },
  λ so. c.is_mid_held-then-is_mid_held.ensures ∙ c.requires.offered (Some c.args.mid) ∙ so.offered,
)

pub returns-else-is_mid_held : goal.returns-else-is_mid_held
returns-else-is_mid_held c = (
  λ yes. absurd (false≢true (sym c.if-is_mid_held.false ∙ yes)),
  λ so. c.is_mid_held.ensures ∙ c.requires.accepted (Some c.args.mid) ∙ so.accepted,
)
