use Rattle.str0m_sdp.proofs.Common.{◌≡◌, ◌++◌, ◌∙◌, Option, Some, None, option_to_list, sym, ap, append-nil, CodecSpec, PayloadParams}
use Rattle.str0m_sdp.proofs.Common.{format_of_fmtp}
use Rattle.str0m_sdp.proofs.section.SectionRowLaws.{row_is, no_row, row_pushed}
use Rattle.str0m_sdp.proofs.section.section_rows.TypeFacts.push_row.Goals as goal
use Rattle.str0m_sdp.specs.section.Mappings.{codec_of_type}
use Rattle.str0m_sdp.specs.section.SectionRows.{fmtps_of}
use Rattle.str0m_sdp.specs.section.SectionRowsFacts.{row_of}

pub returns-in-Some : goal.returns-in-Some
returns-in-Some c = λ m say own.
    let mapped = c.args.mapped.now in
    let pt = mapped.pt in
    let spec = (codec_of_type mapped).1 in
    let read : Some c.in-Some.format ≡ format_of_fmtp spec.codec (fmtps_of m.attrs pt) =
    sym c.in-Some.is ∙ own in
    row_pushed c.extend_from_slice.result c.args.rows.now.items c.extend_from_slice.new.self.items c.row_of.result _
    c.extend_from_slice.ensures.items
    (row_is m c.args.self.now pt spec c.in-Some.format say c.row_of.ensures.within read
    ∙ ap (λ (r : PayloadParams). Some r)
    (sym (c.row_of.ensures.row ∙ ap (λ (spec : CodecSpec). row_of c.args.self.now pt spec) c.spec.ensures)))

pub returns-in-None : goal.returns-in-None
returns-in-None c = λ m say own.
    let rows = c.args.rows.now.items in
    let mapped = c.args.mapped.now in
    let read : None ≡ format_of_fmtp mapped.codec (fmtps_of m.attrs mapped.pt) =
    sym c.in-None.is ∙ own in
    sym (ap (λ (o : Option PayloadParams). rows ++ option_to_list o) (no_row m mapped.pt (codec_of_type mapped).1 read) ∙ append-nil rows)
