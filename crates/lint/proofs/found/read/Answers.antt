use Rattle.lint.proofs.FindingsLaws.{no_reading}
use Rattle.lint.proofs.found.read.Goals as goal

pub returns-in_ok-found_unless_memory-in-Err-clause-read : goal.returns-in_ok-found_unless_memory-in-Err-clause-read
returns-in_ok-found_unless_memory-in-Err-clause-read c =
    no_reading c.in-Err.error c.args.text.now c.in-Err.ensures.read c.in_ok-found_unless_memory-in-Err.ensures
