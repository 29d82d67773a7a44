use Rattle.str0m_sdp.proofs.Common.{Some, nat_eq, refl, ap, ◌∙◌, insert_entry}
use Rattle.str0m_sdp.proofs.section.SourceLaws.{source_written}
use Rattle.str0m_sdp.proofs.section.sources.Sources.add_repair.Goals as goal
use Rattle.str0m_sdp.specs.declared.section.ssrc_info.SsrcInfo.{SsrcInfo}
use Rattle.str0m_sdp.specs.section.Sources.{source_entries}

pub returns-clause-entries : goal.returns-clause-entries
returns-clause-entries c =
    let old = c.args.self.now in
    let was = c.index_mut-info.result.now in
    let repairing = λ (info : SsrcInfo). record info { repairs = Some c.args.repaired } in
    let is = source_written c.args.repairing c.in_ok-place.place old.infos.items c.place_of.new.self.infos.items (repairing was) was
    repairing
    (λ info. refl) c.in_ok-place.ensures.info c.index_mut-info.ensures.value refl in
    (c.in_ok-place.ensures.put (repairing was) is.1).0 ∙ ap (λ info. insert_entry nat_eq (source_entries old) c.args.repairing info) is.0

pub returns-clause-placed : goal.returns-clause-placed
returns-clause-placed c =
    let old = c.args.self.now in
    let was = c.index_mut-info.result.now in
    let repairing = λ (info : SsrcInfo). record info { repairs = Some c.args.repaired } in
    let is = source_written c.args.repairing c.in_ok-place.place old.infos.items c.place_of.new.self.infos.items (repairing was) was
    repairing
    (λ info. refl) c.in_ok-place.ensures.info c.index_mut-info.ensures.value refl in
    (c.in_ok-place.ensures.put (repairing was) is.1).1
