use Rattle.str0m_formats.proofs.Common.{None, take, bytes_eq}
use Rattle.str0m_formats.proofs.format.merged_pairs.key_place.Given as goal
use Rattle.str0m_formats.specs.format.FormatParam.{pair_texts}
use Rattle.str0m_formats.specs.format.MergedPairs.{IsPairPlace}

-- the key is none of those so far
abbrev pub invariant-loop-place : goal.invariant-loop-place
invariant-loop-place l = IsPairPlace (bytes_eq l.key) (pair_texts (take l.place l.entries)) None
