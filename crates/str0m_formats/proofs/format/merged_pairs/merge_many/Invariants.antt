use Rattle.str0m_formats.proofs.Common.{◌≡◌, [], take, bytes_eq, insert_all}
use Rattle.str0m_formats.proofs.format.merged_pairs.merge_many.Given as goal
use Rattle.str0m_formats.specs.format.FormatParam.{pair_texts}
use Rattle.str0m_formats.specs.format.MergedPairs.{HasPairPlaces}
use Rattle.str0m_formats.specs.format.PairsReading.{entry_texts}

-- the pairs so far are merged, and where each key stands is known
abbrev pub invariant-loop-key : goal.invariant-loop-key
invariant-loop-key l = (pair_texts l.entries.items ≡ insert_all bytes_eq [] (entry_texts (take l.key-index l.pairs)))
    × HasPairPlaces l.places (pair_texts l.entries.items)
