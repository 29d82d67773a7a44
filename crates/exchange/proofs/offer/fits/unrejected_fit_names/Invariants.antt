use Rattle.exchange.proofs.Common.{◌≡◌, filter_map, take}
use Rattle.exchange.proofs.offer.fits.unrejected_fit_names.Given as goal
use Rattle.exchange.specs.offer.Fits.{fit_section_name}

-- the names of the accepted sections so far
abbrev pub invariant-loop-section : goal.invariant-loop-section
invariant-loop-section l = l.names.items ≡ filter_map fit_section_name (take l.section-index l.sections)
