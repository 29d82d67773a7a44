use Rattle.str0m_sdp.proofs.Common.{◌++◌, ◌==◌, ℕ, List, map, replicate, filter, filter_map, option_to_list, rules, tests, sym, ap}
use Rattle.str0m_sdp.proofs.Common.{◌∙◌}
use Rattle.str0m_sdp.proofs.Common.{Bor, list_any, take_all, All-same, format_line_values, FormatParam, CodecSpec, PayloadParams, IsBounded}
use Rattle.str0m_sdp.proofs.section.MappingsFilterMap.{filter_map_kept, filter_map_left_out, kept_of_mapped}
use Rattle.str0m_sdp.proofs.section.SectionRowsBoundLaws.{rows_bounded}
use Rattle.str0m_sdp.proofs.section.SectionRowsGatherLaws.{TypeMarks, row_nothing_gathered, row_all_gathered}
use Rattle.str0m_sdp.proofs.section.media_line.MediaLine.rows_of.Goals as goal
use Rattle.str0m_sdp.specs.declared.attribute.feedback.Feedback.{Feedback}
use Rattle.str0m_sdp.specs.declared.section.mappings.MappedType.{MappedType}
use Rattle.str0m_sdp.specs.section.FmtpLines.{fmtp_lines_with}
use Rattle.str0m_sdp.specs.section.Mappings.{codec_of_type}
use Rattle.str0m_sdp.specs.section.SectionRows.{is_kept, row, rows}

pub gather-requires : goal.gather-requires
gather-requires c = row_nothing_gathered (map codec_of_type c.args.types.now) _ c.none.ensures.whole c.none-2.ensures.whole
    c.none.ensures.none c.none-2.ensures.none (ap (λ (f : Feedback). replicate 256 f) c.none-3.ensures)

pub loop-mapped-init : goal.loop-mapped-init
loop-mapped-init c =
    let m = c.args.self.now in
    let all = rw (c.as_slice-2.ensures, c.requires) at c.in_ok-lines.ensures.words in (
      c.in_ok-groups.ensures m.attrs
          (λ pt. ap (λ (ls : List (ℕ × Bor (List FormatParam))). format_line_values (fmtp_lines_with pt ls)) c.as_slice-3.ensures.value
          ∙ all.gathered pt),
      search (rules, tests),
    )

pub loop-mapped-preserved : goal.loop-mapped-preserved
loop-mapped-preserved c =
    let m = c.args.self.now in
    let types = c.args.types.now in
    let i = c.loop-mapped.mapped-index in
    let item = c.mapped-item.result in
    let kept = λ (it : MappedType). is_kept m (codec_of_type it) in
    let row_of = λ (it : MappedType). row m (codec_of_type it) in
    let known = c.loop-mapped.invariant.0 in
    let in_m_line : TypeMarks c.gather.new.self.in_m_line (λ pt. list_any (λ n. n == pt) m.pts) =
    rw (c.in_ok-lines.ensures.in_m_line, ← c.as_slice.ensures) c.types_in.ensures in
    let all = rw (c.as_slice-2.ensures, c.requires) at c.in_ok-lines.ensures.words in
    let say = row_all_gathered m c.gather.new.self c.in_ok-lines.lines.items in_m_line all in
    elim c.if-is_kept.branch [
      | goal.then-is_kept+in_ok-format+in_ok-push_row w ↦
          let pt = item.pt in
          let own =
          ap (λ (ls : List (ℕ × Bor (List FormatParam))). format_line_values (fmtp_lines_with pt ls)) w.as_slice-lines.ensures.value
          ∙ all.gathered pt in (
            rw w.groups-is (w.in_ok-format.ensures.known m.attrs known),
            rw w.rows-is (
                w.in_ok-push_row.ensures m say (w.in_ok-format.ensures.format m.attrs known own)
                ∙ ap (λ (rows : List PayloadParams). rows ++ option_to_list (row_of item)) c.loop-mapped.invariant.1
                ∙ sym (filter_map_kept kept row_of types i item c.loop-mapped-test.true c.mapped-item.is
                (sym (c.is_kept.ensures m say) ∙ w.if-is_kept.true))
                ),
          )
      | goal.else-is_kept w ↦ (
        rw w.groups-is known,
        rw w.rows-is (
            c.loop-mapped.invariant.1
            ∙ sym (filter_map_left_out kept row_of types i item c.loop-mapped-test.true c.mapped-item.is
            (sym (c.is_kept.ensures m say) ∙ w.if-is_kept.false))
            ),
      )
    ]

pub returns-clause-rows : goal.returns-clause-rows
unfolding rows
returns-clause-rows c =
    let m = c.args.self.now in
    c.loop-mapped.invariant.1
    ∙ ap (λ (types : List MappedType). filter_map (λ it. row m (codec_of_type it)) (filter (λ it. is_kept m (codec_of_type it)) types))
    (take_all c.loop-mapped.mapped-index c.args.types.now c.loop-mapped-test.false)
    ∙ sym (kept_of_mapped (row m) (is_kept m) codec_of_type c.args.types.now)
    ∙ ap (λ (types : List (ℕ × CodecSpec)). filter_map (row m) (filter (is_kept m) types)) c.requires

pub returns-clause-bounded : goal.returns-clause-bounded
returns-clause-bounded c = λ keeps.
    All-same IsBounded c.loop-mapped.rows.items (rows c.args.self.now) (returns-clause-rows c) (rows_bounded c.args.self.now keeps)
