use Rattle.str0m_formats.proofs.Common.{arith, cuts_parsed_ok, cuts_parsed_err}
use Rattle.str0m_formats.proofs.format.format_param.distance.Goals as goal

pub returns-in-Ok : goal.returns-in-Ok
returns-in-Ok c = cuts_parsed_ok 16 32767 c.args.text.now c.in-Ok.n c.in-Ok.ensures.value.0 c.if-n-le32767.true

pub returns-in_default-2 : goal.returns-in_default-2
returns-in_default-2 c = cuts_parsed_err 16 32767 c.args.text.now c.in_default.ensures.value.0 (omega arith)
