use Rattle.str0m_sdp.proofs.section.SectionDirectionHolders.{mid_counted}
use Rattle.str0m_sdp.proofs.section.media_line.MediaLine.mid.Goals as goal

pub unwrap-requires : goal.unwrap-requires
unwrap-requires c = let some = (mid_counted c.args.self.now.attrs).1 c.requires in rw (c.first_mid.ensures.mid, c.as_slice.ensures) some
