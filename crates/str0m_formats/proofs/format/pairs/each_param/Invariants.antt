use Rattle.str0m_formats.proofs.Common.{◌≡◌, map, take}
use Rattle.str0m_formats.proofs.format.pairs.each_param.Given as goal
use Rattle.str0m_formats.specs.format.FormatParam.{pair_texts}
use Rattle.str0m_formats.specs.format.FormatParamReading.{param_of}

-- the parameters so far are those of the pairs so far
abbrev pub invariant-loop-key : goal.invariant-loop-key
invariant-loop-key l = l.params.items ≡ map param_of (pair_texts (take l.key-index l.pairs))
