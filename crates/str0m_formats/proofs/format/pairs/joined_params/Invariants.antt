use Rattle.str0m_formats.proofs.Common.{◌≡◌, ◌++◌, drop, map}
use Rattle.str0m_formats.proofs.format.pairs.joined_params.Given as goal
use Rattle.str0m_formats.specs.format.FormatParam.{pair_texts}
use Rattle.str0m_formats.specs.format.FormatParamReading.{param_of}
use Rattle.str0m_formats.specs.format.Pairs.{other_pairs}
use Rattle.str0m_formats.specs.format.PairsReading.{joined_pairs_read}

-- the parameters so far, and those of the entries that are left
abbrev pub invariant-loop-key : goal.invariant-loop-key
invariant-loop-key l = l.params.items ++ map param_of (other_pairs (pair_texts (drop l.key-index l.merged)))
    ≡ joined_pairs_read (pair_texts l.merged)
