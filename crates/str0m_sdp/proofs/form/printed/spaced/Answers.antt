use Rattle.std.specs.Fmt.{digits}
use Rattle.str0m_sdp.proofs.Common.{refl}
use Rattle.str0m_sdp.proofs.form.printed.spaced.Goals as goal

pub spaced_row-requires-clause-spaced : goal.spaced_row-requires-clause-spaced
unfolding digits
spaced_row-requires-clause-spaced c = refl
