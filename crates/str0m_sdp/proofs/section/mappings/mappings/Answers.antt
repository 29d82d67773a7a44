use Rattle.str0m_sdp.proofs.Common.{List, [], ◌∷◌, map, filter_map, ap, ◌∙◌, take_all, map-append}
use Rattle.str0m_sdp.proofs.section.MappingLaws.{mapping_more, mapping_other}
use Rattle.str0m_sdp.proofs.section.mappings.mappings.Goals as goal
use Rattle.str0m_sdp.specs.declared.attribute.MediaAttribute.{MediaAttribute}
use Rattle.str0m_sdp.specs.section.Mappings.{codec_of_type, mapping}

pub loop-attr-preserved : goal.loop-attr-preserved
loop-attr-preserved c =
    let attrs = c.args.attrs.now in
    let i = c.loop-attr.attr-index in
    let attr = c.attr-item.result in
    let lt = c.loop-attr-test.true in
    elim c.match-attr.branch [
      | goal.in-RtpMap+in_ok-push w ↦
          rw (
            w.types-is,
            w.in_ok-push.ensures.items,
            map-append codec_of_type c.loop-attr.types.items (w.new.result ∷ []),
            w.new.ensures,
            w.from.ensures,
          )
          (mapping_more attrs (map codec_of_type c.loop-attr.types.items) i _ _ attr lt c.attr-item.is w.in-RtpMap.is c.loop-attr.invariant)
      | goal.in_default w ↦
          rw w.types-is (mapping_other attrs (map codec_of_type c.loop-attr.types.items) i attr lt c.attr-item.is w.in_default.not-RtpMap
          c.loop-attr.invariant)
    ]

pub returns : goal.returns
returns c =
    c.loop-attr.invariant ∙ ap (λ (attrs : List MediaAttribute). filter_map mapping attrs)
    (take_all c.loop-attr.attr-index c.args.attrs.now c.loop-attr-test.false)
