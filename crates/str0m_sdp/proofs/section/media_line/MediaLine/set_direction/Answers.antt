use Rattle.str0m_sdp.proofs.Common.{ap, ◌∙◌, position_or_len, slice_set}
use Rattle.str0m_sdp.proofs.section.SectionDirectionHolders.{direction_read_back}
use Rattle.str0m_sdp.proofs.section.media_line.MediaLine.set_direction.Goals as goal
use Rattle.str0m_sdp.specs.declared.attribute.MediaAttribute.{MediaAttribute}
use Rattle.str0m_sdp.specs.declared.section.media_line.MediaLine.{MediaLine}
use Rattle.str0m_sdp.specs.section.Consistency.{is_direction}
use Rattle.str0m_sdp.specs.section.SectionDirection.{section_direction}

pub returns-clause-set : goal.returns-clause-set
returns-clause-set c =
    let attrs = c.args.self.now.attrs in
    let place = c.direction_place-place.ensures.first ∙ ap (position_or_len is_direction) c.as_slice.ensures in
    ap (λ (m : MediaLine). section_direction m.attrs) c.put.ensures
    ∙ ap (λ k. section_direction (slice_set attrs k c.from.result)) place
    ∙ ap (λ (attr : MediaAttribute). section_direction (slice_set attrs (position_or_len is_direction attrs) attr)) c.from.ensures
    ∙ direction_read_back attrs c.args.dir c.requires
