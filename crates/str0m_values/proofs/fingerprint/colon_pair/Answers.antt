use Rattle.std.proofs.lemmas.Str.{IsCharBoundary-from_ascii}
use Rattle.str0m_values.proofs.Common.{◌*◌, ◌+◌, ◌∙◌, arith}
use Rattle.str0m_values.proofs.FingerprintColonPairs.{colon_pair_at, colon_pairs_ascii, length_of_colon_pairs}
use Rattle.str0m_values.proofs.fingerprint.colon_pair.Goals as goal
use Rattle.str0m_values.specs.declared.fingerprint.TheConstants.{COLON_PAIRS}

pub range-requires-clause-start_boundary : goal.range-requires-clause-start_boundary
range-requires-clause-start_boundary c = rw c.colon_pairs.ensures
    (λ _. IsCharBoundary-from_ascii COLON_PAIRS.now (c.args.byte * 3) colon_pairs_ascii
    (omega (arith, length_of_colon_pairs, c.ranges.byte.fits)))

pub range-requires-clause-end_boundary : goal.range-requires-clause-end_boundary
range-requires-clause-end_boundary c = rw c.colon_pairs.ensures
    (IsCharBoundary-from_ascii COLON_PAIRS.now (c.args.byte * 3 + 3) colon_pairs_ascii
    (omega (arith, length_of_colon_pairs, c.ranges.byte.fits)))

pub returns : goal.returns
returns c = c.range.ensures.value ∙ rw c.colon_pairs.ensures (colon_pair_at c.args.byte c.ranges.byte.fits)
