use Rattle.str0m_sdp.proofs.Common.{◌≡◌, ◌<◌, ◌++◌, ◌==◌, ◌||◌, ℕ, false, nat_eq, get_or, length, take, map, filter_map, list_any}
use Rattle.str0m_sdp.proofs.section.media_line.MediaLine.mapped.Given as goal
use Rattle.str0m_sdp.specs.Common.{distinct}
use Rattle.str0m_sdp.specs.section.Consistency.{maps}
use Rattle.str0m_sdp.specs.section.Mappings.{codec_of_type, mapping, unmapped_type}

-- the rows of the types so far, and which types have an rtpmap line or were seen
abbrev pub invariant-loop-pt : goal.invariant-loop-pt
invariant-loop-pt l = record {
  rows : map codec_of_type l.mapped.items ≡ filter_map mapping l.self.attrs ++ filter_map (unmapped_type l.self.attrs)
      (distinct nat_eq (take l.pt-index l.pt-items));
  whole : length l.seen ≡ 256;
  seen : (pt : ℕ) → pt < 256 → get_or l.seen pt false
      ≡ (list_any (maps pt) l.self.attrs || list_any (λ n. n == pt) (take l.pt-index l.pt-items));
}
