use Rattle.str0m_signal.proofs.Common.{◌≡◌, length, Utf8, shadow}
use Rattle.str0m_signal.proofs.line.pairs.skip_pair_blanks.Given as goal
use Rattle.str0m_signal.specs.form.FmtpReading.{skip_pair_blanks}

abbrev pub invariant-loop-more : goal.invariant-loop-more
invariant-loop-more l = shadow (Utf8 l.rest) × (skip_pair_blanks l.rest ≡ skip_pair_blanks l.fn.text)

abbrev pub decreases-loop-more : goal.decreases-loop-more
decreases-loop-more l = length l.rest
