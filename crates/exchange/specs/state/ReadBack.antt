-- A description whose text is read to its end as this very description.
use Rattle.exchange.specs.Prelude.{Alike, MediaAttribute, MediaLine, Reading, Sdp}
use Rattle.std.specs.List.{AllZip}
use Rattle.std.specs.Prelude.{◌≡◌, ℕ, Bool, true, false, List, []}
use Rattle.str0m_sdp.specs.declared.attribute.MediaAttribute.TheVariants.{Fmtp, Simulcast as SimulcastLine}

-- the same m-line (RFC 8866, section 5.14): type, port 0 or not, protocol and payload types
pub record IsSameReadHead (said read : MediaLine) : Type 0 where
  pub typ : read.typ ≡ said.typ
  pub disabled : read.disabled ≡ said.disabled
  pub proto : read.proto ≡ said.proto
  pub types : read.pts ≡ said.pts

-- lines that differ may be alike: fmtp lines, and those of layers
abbrev pub read_back_may_differ : MediaAttribute → Bool
read_back_may_differ (Fmtp pt values) = true
read_back_may_differ (SimulcastLine layers) = true
read_back_may_differ _ = false

-- a section with the same m-line and the same bandwidth, whose attributes are alike one by one
pub record IsSectionReadAs (said read : MediaLine) : Type 0 where
  pub head : IsSameReadHead said read
  pub bandwidth : read.bw ≡ said.bw
  pub attributes : AllZip Alike said.attrs read.attrs

-- the same session, and as many sections, one by one
pub record IsWholeReadAs (said read : Sdp) : Type 0 where
  pub session : read.session ≡ said.session
  pub sections : AllZip IsSectionReadAs said.media_lines read.media_lines

-- the text has a reading with nothing left, which is that of what was said (RFC 8866, section 5)
abbrev pub IsReadBack : Sdp → List ℕ → Type 0
IsReadBack said text = (read : Sdp) × Reading text (read, []) × IsWholeReadAs said read
