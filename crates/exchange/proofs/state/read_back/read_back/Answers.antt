use Rattle.exchange.proofs.state.ReadBackLaws.{read_back_alike_so, none_read_back, read_back_so, read_back_refused_so}
use Rattle.exchange.proofs.state.read_back.read_back.Goals as goal

pub returns-in-Ok : goal.returns-in-Ok
returns-in-Ok c = record {
  exact = read_back_so _ _ _ _ _ c.in-Ok.ensures.read c.in-Ok.ensures.one c.whole_read_back.ensures;
  alike = read_back_alike_so _ _ _ _ c.whole_read_back.ensures;
}

pub returns-in-Err : goal.returns-in-Err
returns-in-Err c = record {
  exact = read_back_refused_so _ _ _ _ c.in-Err.ensures.read c.refused_read_back.ensures;
  alike = none_read_back _ _ _ c.refused_read_back.ensures;
}
