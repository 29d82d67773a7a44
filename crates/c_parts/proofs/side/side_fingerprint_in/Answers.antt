use Rattle.c_parts.proofs.side.side_fingerprint_in.Goals as goal

pub returns-in-Err-NoSpace-clause-refused : goal.returns-in-Err-NoSpace-clause-refused
returns-in-Err-NoSpace-clause-refused c = λ fingerprint is. let memory = c.in-Err-NoSpace.ensures.only fingerprint is in absurd cc

pub returns-in-Err-BadByte-clause-refused : goal.returns-in-Err-BadByte-clause-refused
returns-in-Err-BadByte-clause-refused c = λ fingerprint is. let memory = c.in-Err-BadByte.ensures.only fingerprint is in absurd cc
