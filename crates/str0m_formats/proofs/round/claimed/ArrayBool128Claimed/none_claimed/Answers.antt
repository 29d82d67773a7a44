use Rattle.str0m_formats.proofs.Common.{false}
use Rattle.str0m_formats.proofs.round.ClaimedRanges.{claimed_get_or-replicate_same}
use Rattle.str0m_formats.proofs.round.claimed.ArrayBool128Claimed.none_claimed.Goals as goal

pub returns : goal.returns
returns c = λ t. claimed_get_or-replicate_same 128 false t
