use Rattle.exchange.proofs.Common.{All, List, subst, sym, PayloadParams, AllTypesDistinct, types, IsPlain}
use Rattle.exchange.proofs.state.exchange.negotiated_by.Goals as goal

pub returns-clause-distinct : goal.returns-clause-distinct
returns-clause-distinct c = λ distinct.
    c.in_ok-negotiate.ensures.distinct
    (subst (λ (rows : List PayloadParams). AllTypesDistinct (types rows)) (sym c.in_ok-config.ensures.rows) distinct)

pub returns-clause-plain : goal.returns-clause-plain
returns-clause-plain c = λ bounded plain.
    c.in_ok-negotiate.ensures.plain bounded (subst (All IsPlain) (sym c.in_ok-config.ensures.rows) plain)
