use Rattle.cases.proofs.random_names.CounterRng.fill_bytes.Goals as goal
use Rattle.rand_core.proofs.StepsLemmas.{meets_fill_bytes}
use Rattle.std.proofs.Common.{rules}

pub returns : goal.returns
returns c = meets_fill_bytes _ _ _ _ _ (search rules)
