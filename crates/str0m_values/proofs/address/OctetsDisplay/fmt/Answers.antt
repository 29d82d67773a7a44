use Rattle.std.proofs.NetLemmas.Arrays.{four_items}
use Rattle.std.proofs.lemmas.Grind.{put_four}
use Rattle.str0m_values.proofs.Common.{ap, sym, rules}
use Rattle.str0m_values.proofs.address.OctetsDisplay.fmt.Goals as goal
use Rattle.str0m_values.specs.Address.{v4_text}

pub returns-clause-writes : goal.returns-clause-writes
returns-clause-writes g c = λ plain ok.
    let first = c.write.ensures.writes plain (search rules) in
    let second = c.fmt.ensures.writes first.plain (search rules) in
    let third = c.fmt-2.ensures.writes second.plain (search rules) in
    let fourth = c.fmt-3.ensures.writes third.plain ok in
    put_four _ _ _ _ _ _ _ _ _ _ _ first second third fourth (ap v4_text (sym (four_items c.args.self.now.0 (search rules))))
