use Rattle.str0m_formats.proofs.Common.{refl, sym}
use Rattle.str0m_formats.proofs.format.MergedPairsLaws.{merged_key_without_value, pair_placed_alike, merged_key_value_there}
use Rattle.str0m_formats.proofs.format.pairs.value_of_key.Goals as goal
use Rattle.str0m_formats.specs.format.FormatParam.{pair_texts}

pub returns-in-Some : goal.returns-in-Some
returns-in-Some c =
    let merged = c.args.merged.now in
    sym (merged_key_value_there c.args.key.now merged c.in-Some.place _
    (pair_placed_alike c.args.key.now merged merged _ _ refl c.in-Some.is c.key_place.ensures.place))

pub returns-in-None : goal.returns-in-None
returns-in-None c =
    let merged = c.args.merged.now in
    sym (merged_key_without_value c.args.key.now (pair_texts merged)
    (pair_placed_alike c.args.key.now merged merged _ _ refl c.in-None.is c.key_place.ensures.place))
