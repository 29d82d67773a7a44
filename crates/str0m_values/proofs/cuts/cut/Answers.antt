use Rattle.std.proofs.lemmas.Str.{IsCharBoundary-after_ascii}
use Rattle.str0m_values.proofs.CutLaws.{cut_from_split}
use Rattle.str0m_values.proofs.CutsNearLaws.{cut_first, cut_nowhere}
use Rattle.str0m_values.proofs.cuts.cut.Goals as goal
use Rattle.str0m_values.specs.Separator.{code}

pub range_from-requires : goal.range_from-requires
range_from-requires c =
    let first = rw c.as_bytes.ensures.value at c.in-Some.ensures in
    λ _. IsCharBoundary-after_ascii c.args.text.now c.in-Some.place c.utf8.text first.0 (rw first.1 c.character-wanted.ensures.ascii)

pub returns-in-Some : goal.returns-in-Some
returns-in-Some c = rw (c.range.ensures.value, c.range_from.ensures.value)
    (cut_first (code c.args.at) c.args.text.now c.in-Some.place
    (rw (← c.character-wanted.ensures.is) (rw c.as_bytes.ensures.value at c.in-Some.ensures)))

pub returns-then-text-le-NEAR_CUT : goal.returns-then-text-le-NEAR_CUT
returns-then-text-le-NEAR_CUT c = cut_nowhere (code c.args.at) c.args.text.now
    (rw (← c.character-wanted.ensures.is) ((rw c.as_bytes.ensures.value at c.in-None.ensures) c.if-text-le-NEAR_CUT.true))

pub returns-else-text-le-NEAR_CUT : goal.returns-else-text-le-NEAR_CUT
returns-else-text-le-NEAR_CUT c = cut_from_split (code c.args.at) c.args.text.now c.split_once.result
    (rw (← c.character-wanted.ensures.is) c.split_once.ensures.cases)
    (rw (← c.character-wanted.ensures.is) c.character-wanted.ensures.ascii)
