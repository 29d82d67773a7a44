use Rattle.c_parts.proofs.ReadingRefusals.{refused_reading_described}
use Rattle.c_parts.proofs.reading.read_text.Goals as goal

pub returns-in-Err-clause-refused : goal.returns-in-Err-clause-refused
returns-in-Err-clause-refused c = refused_reading_described _ _ c.in-Err.ensures.read
