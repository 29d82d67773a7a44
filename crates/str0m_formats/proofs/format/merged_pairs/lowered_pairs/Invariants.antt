use Rattle.str0m_formats.proofs.Common.{◌≡◌, map, take, str_to_ascii_lowercase}
use Rattle.str0m_formats.proofs.format.merged_pairs.lowered_pairs.Given as goal
use Rattle.str0m_formats.specs.format.FormatParam.{pair_texts}
use Rattle.str0m_formats.specs.format.PairsReading.{entry_texts}

-- the pairs so far
abbrev pub invariant-loop-key : goal.invariant-loop-key
invariant-loop-key l = entry_texts l.lowered.items ≡ map (λ pair. (str_to_ascii_lowercase pair.0, pair.1))
    (pair_texts (take l.key-index l.pairs))
