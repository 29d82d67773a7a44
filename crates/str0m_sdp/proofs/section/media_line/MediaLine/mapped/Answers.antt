use Rattle.str0m_sdp.proofs.Common.{◌≡◌, ◌==◌, ◌++◌, ℕ, List, take, map, filter_map, nat_eq, ap, sym, ◌∙◌, append_assoc, list_any}
use Rattle.str0m_sdp.proofs.Common.{append-nil}
use Rattle.str0m_sdp.proofs.Common.{length-set, take_all, CodecSpec, option_to_list}
use Rattle.str0m_sdp.proofs.section.MappingLaws.{any_mapped, mapping_statics_new, mapping_statics_seen, mapping_mark_new, mapping_mark_seen}
use Rattle.str0m_sdp.proofs.section.MappingsFilterMap.{any_of_mapped}
use Rattle.str0m_sdp.proofs.section.SectionRowsParts.{rows_or_false}
use Rattle.str0m_sdp.proofs.section.media_line.MediaLine.mapped.Goals as goal
use Rattle.str0m_sdp.specs.Common.{distinct}
use Rattle.str0m_sdp.specs.declared.attribute.MediaAttribute.{MediaAttribute}
use Rattle.str0m_sdp.specs.declared.section.mappings.MappedType.{MappedType}
use Rattle.str0m_sdp.specs.section.Consistency.{maps}
use Rattle.str0m_sdp.specs.section.Mappings.{codec_of_type, mapping, unmapped_type, mapped, static_type}

pub loop-pt-init : goal.loop-pt-init
loop-pt-init c =
    let attrs = c.args.self.now.attrs in
    let rows : map codec_of_type c.in_ok-mapped.mapped.items ≡ filter_map mapping attrs =
    c.in_ok-mapped.ensures ∙ ap (λ (attrs : List MediaAttribute). filter_map mapping attrs) c.as_slice-attrs.ensures in
    record {
      rows = rows ∙ sym (append-nil (filter_map mapping attrs));
      whole = c.mapped_types-seen.ensures.whole;
      seen = λ pt lt. c.mapped_types-seen.ensures.rows pt lt
          ∙ ap (λ (rows : List MappedType). list_any (λ row. row.pt == pt) rows) c.as_slice.ensures.value
          ∙ sym (any_of_mapped (λ row. row.0 == pt) codec_of_type c.in_ok-mapped.mapped.items)
          ∙ ap (λ (rows : List (ℕ × CodecSpec)). list_any (λ row. row.0 == pt) rows) rows
          ∙ any_mapped pt attrs ∙ sym (rows_or_false (list_any (maps pt) attrs));
    }

pub loop-pt-preserved : goal.loop-pt-preserved
loop-pt-preserved c =
    let attrs = c.args.self.now.attrs in
    let pts = c.as_slice-pt-items.result.now in
    let i = c.loop-pt.pt-index in
    let pt = c.pt-item.result in
    let seen = c.loop-pt.seen in
    let lines = filter_map mapping attrs in
    let before = filter_map (unmapped_type attrs) (distinct nat_eq (take i pts)) in
    let lt = c.loop-pt-test.true in
    let is = c.pt-item.is in
    let row = rw (c.place-place.ensures.is, ← c.loop-pt.invariant.whole) at c.place-place.ensures.within in
    let so_far = c.loop-pt.invariant.seen pt (rw c.place-place.ensures.is at c.place-place.ensures.within) in
    elim c.if-not-seen-place.branch [
      | goal.then-not-seen-place+in_ok-push_static_mapping w ↦
          let new = rw c.place-place.ensures.is at w.if-not-seen-place.true in
          rw (w.mapped-is, w.seen-is, c.place-place.ensures.is) (record {
            rows = w.in_ok-push_static_mapping.ensures
                ∙ ap (λ (rows : List (ℕ × CodecSpec)). rows ++ option_to_list (static_type pt)) c.loop-pt.invariant.rows
                ∙ append_assoc lines before (option_to_list (static_type pt))
                ∙ sym (ap (λ (rows : List (ℕ × CodecSpec)). lines ++ rows) (mapping_statics_new attrs pts i pt lt is (sym so_far ∙ new)));
            whole = length-set seen pt _ ∙ c.loop-pt.invariant.whole;
            seen = λ n small. mapping_mark_new seen pts i pt n (list_any (maps n) attrs) lt is row (c.loop-pt.invariant.seen n small);
          })
      | goal.else-not-seen-place w ↦
          let old = rw c.place-place.ensures.is at w.if-not-seen-place.false in
          rw (w.mapped-is, w.seen-is) (record {
            rows = c.loop-pt.invariant.rows
                ∙ sym (ap (λ (rows : List (ℕ × CodecSpec)). lines ++ rows) (mapping_statics_seen attrs pts i pt lt is (sym so_far ∙ old)));
            whole = c.loop-pt.invariant.whole;
            seen = λ n small. mapping_mark_seen seen pts i pt n (list_any (maps n) attrs) lt is old (c.loop-pt.invariant.seen n small);
          })
    ]

pub returns : goal.returns
unfolding mapped
returns c =
    let attrs = c.args.self.now.attrs in
    let pts = c.as_slice-pt-items.result.now in
    c.loop-pt.invariant.rows
    ∙ ap (λ (ns : List ℕ). filter_map mapping attrs ++ filter_map (unmapped_type attrs) (distinct nat_eq ns))
    (take_all c.loop-pt.pt-index pts c.loop-pt-test.false ∙ c.as_slice-pt-items.ensures)
