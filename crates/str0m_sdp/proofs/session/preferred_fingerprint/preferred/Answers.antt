use Rattle.str0m_sdp.proofs.Common.{Some, ap, filter_map, sym, take, ◌∙◌, option_copied}
use Rattle.str0m_sdp.proofs.section.SectionAccessorsLists.{filter_map_more, filter_map_same}
use Rattle.str0m_sdp.proofs.session.PreferredFingerprintLaws.{preferred_more}
use Rattle.str0m_sdp.proofs.session.preferred_fingerprint.preferred.Goals as goal
use Rattle.str0m_sdp.specs.session.PreferredFingerprint.{better_fingerprint_of, preferred}

pub loop-attr-preserved : goal.loop-attr-preserved
loop-attr-preserved g c =
    let held = g.A.TransportAttribute.fingerprint in
    let attrs = c.args.attrs.now in
    let i = c.loop-attr.attr-index in
    elim c.match-as_fingerprint.branch [
      | goal.in-Some w ↦
          let print = w.in-Some.print.now in
          ap option_copied w.best-is
          ∙ ap Some w.better_fingerprint_of.ensures
          ∙ ap (λ best. Some (better_fingerprint_of best print)) c.loop-attr.invariant
          ∙ sym (preferred_more (filter_map held (take i attrs)) print)
          ∙ ap preferred (sym (filter_map_more held attrs i c.attr-item.result print c.loop-attr-test.true c.attr-item.is
          w.in-Some.ensures))
      | goal.in_default w ↦
          ap option_copied w.best-is
          ∙ c.loop-attr.invariant
          ∙ ap preferred (sym (filter_map_same held attrs i c.attr-item.result c.loop-attr-test.true c.attr-item.is w.in_default.ensures))
    ]
