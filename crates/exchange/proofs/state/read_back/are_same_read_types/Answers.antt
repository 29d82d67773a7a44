use Rattle.exchange.proofs.Common.{sym, ◌∙◌}
use Rattle.exchange.proofs.state.ReadBackEqual.{read_back_types_Decides}
use Rattle.exchange.proofs.state.read_back.are_same_read_types.Goals as goal

pub returns : goal.returns
returns c =
    let same = read_back_types_Decides c.args.types.now c.args.others.now in
    (λ h. same.0 (sym c.eq.ensures ∙ h), λ e. c.eq.ensures ∙ same.1 e)
