use Rattle.cases.proofs.random_names.CounterRng.next_u32.Goals as goal
use Rattle.rand_core.proofs.StepsLemmas.{meets_next_u32}
use Rattle.std.proofs.Common.{rules}

pub returns : goal.returns
returns c = meets_next_u32 _ _ _ _ (search rules)
