use Rattle.c_parts.proofs.SideListed.{list_refused}
use Rattle.c_parts.proofs.side.texts_of.Goals as goal
use Rattle.c_parts.specs.Side.{RefusesSideList, listed_texts}
use Rattle.std.proofs.Common.{arith}
use Rattle.std.proofs.lemmas.Grind.{common_steps}

pub returns-in_err-text-clause-refused : goal.returns-in_err-text-clause-refused
returns-in_err-text-clause-refused c =
    let told : RefusesSideList (listed_texts c.args.list.now) c.in_err-text.field-0.0 =
    list_refused c.args.list.now c.loop-bytes.bytes-index _ c.loop-bytes-test.true c.in_err-text.field-0.0 c.in_err-text.ensures.refused in
    grind (arith, common_steps, told)
