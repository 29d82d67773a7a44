use Rattle.str0m_sdp.proofs.Common.{nat_eq, ap, ◌∙◌, insert_entry}
use Rattle.str0m_sdp.proofs.section.SourceLaws.{source_value_keeps, source_written}
use Rattle.str0m_sdp.proofs.section.sources.Sources.add_value.Goals as goal
use Rattle.str0m_sdp.specs.section.Sources.{source_entries}
use Rattle.str0m_sdp.specs.section.SsrcInfoReading.{source_with_value}

pub returns-clause-entries : goal.returns-clause-entries
returns-clause-entries c =
    let old = c.args.self.now in
    let is = source_written c.args.ssrc c.in_ok-place.place old.infos.items c.place_of.new.self.infos.items c.set_value.new.self
    c.index_mut.result.now (source_with_value c.args.name.now c.args.value.now) (source_value_keeps c.args.name.now c.args.value.now)
    c.in_ok-place.ensures.info c.index_mut.ensures.value c.in_ok-set_value.ensures in
    (c.in_ok-place.ensures.put c.set_value.new.self is.1).0 ∙ ap (λ info. insert_entry nat_eq (source_entries old) c.args.ssrc info) is.0

pub returns-clause-placed : goal.returns-clause-placed
returns-clause-placed c =
    let old = c.args.self.now in
    let is = source_written c.args.ssrc c.in_ok-place.place old.infos.items c.place_of.new.self.infos.items c.set_value.new.self
    c.index_mut.result.now (source_with_value c.args.name.now c.args.value.now) (source_value_keeps c.args.name.now c.args.value.now)
    c.in_ok-place.ensures.info c.index_mut.ensures.value c.in_ok-set_value.ensures in
    (c.in_ok-place.ensures.put c.set_value.new.self is.1).1
