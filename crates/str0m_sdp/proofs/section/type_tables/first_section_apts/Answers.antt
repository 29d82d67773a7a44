use Rattle.str0m_sdp.proofs.section.TypeTableLaws.{table_first_apt_other, table_first_apt_noted}
use Rattle.str0m_sdp.proofs.section.type_tables.first_section_apts.Goals as goal
use Rattle.str0m_sdp.specs.section.TypeTables.{type_in_table}

pub loop-attr-preserved : goal.loop-attr-preserved
loop-attr-preserved c =
    let attrs = c.args.attrs.now in
    let firsts = c.loop-attr.firsts in
    let i = c.loop-attr.attr-index in
    let whole = c.loop-attr.invariant.0 in
    elim c.match-attr.branch [
      | goal.in-Fmtp w ↦
          let variant = rw (← w.as_slice.ensures) at w.in-Fmtp.is in
          rw w.firsts-is (
            w.note_section_apt.ensures.whole whole,
            λ pt. table_first_apt_noted attrs (type_in_table firsts pt) _ i _ _ c.attr-item.result c.loop-attr-test.true c.attr-item.is
                variant pt
                (w.note_section_apt.ensures.noted whole pt) (c.loop-attr.invariant.1 pt),
          )
      | goal.in_default w ↦
          rw w.firsts-is (
            whole,
            λ pt. table_first_apt_other attrs _ i c.attr-item.result c.loop-attr-test.true c.attr-item.is w.in_default.not-Fmtp pt
                (c.loop-attr.invariant.1 pt),
          )
    ]
