use Rattle.exchange.proofs.Common.{All, take}
use Rattle.exchange.proofs.offer.fits.bundles_so.Given as goal
use Rattle.exchange.specs.offer.Fits.{IsBundledSo}

-- the names so far are those of accepted sections that the offer's group lists
abbrev pub invariant-loop-mid : goal.invariant-loop-mid
invariant-loop-mid l = All (IsBundledSo l.offer l.answer) (take l.mid-index l.listed)
