-- Values whose numbers and texts fit the types of their fields. Every value that a program holds does; definitions speak of
-- numbers and bytes without a limit, so what is promised of every value is promised of those that fit.
use Rattle.std.specs.Prelude.{◌<◌, ◌≤◌, ◌^◌, ℕ, List, length, All, IfSome, IsUtf8}
use Rattle.str0m_formats.specs.declared.format.format_param.FormatParam.TheVariants as param
use Rattle.str0m_sdp.specs.Prelude.{Candidate, Fingerprint, FitsType, FormatParam, IsByte, IsCandidateSocketInRange, entry, kind}
use Rattle.str0m_sdp.specs.declared.attribute.bandwidth.Bandwidth.{Bandwidth}
use Rattle.str0m_sdp.specs.declared.attribute.rtp_map.RtpMap.{RtpMap}
use Rattle.str0m_sdp.specs.declared.attribute.simulcast.SimulcastLayer.{SimulcastLayer}

-- ---- numbers and texts

-- of a source, 32 bits (RFC 3550, section 5.1)
abbrev pub IsSourceNumber : ℕ → Type 0
IsSourceNumber n = n < 2 ^ 32

-- of a rate in Hz, 32 bits and not zero
abbrev pub IsRateNumber : ℕ → Type 0
IsRateNumber n = (0 < n) × (n < 2 ^ 32)

-- of a port, 16 bits
abbrev pub IsPortNumber : ℕ → Type 0
IsPortNumber n = n < 2 ^ 16

-- a name of sections has at most sixteen bytes
abbrev pub IsMidText : List ℕ → Type 0
IsMidText name = (length name ≤ 16) × IsUtf8 name

-- a name and a value
abbrev pub AreAttributeTexts : List ℕ × List ℕ → Type 0
AreAttributeTexts pair = IsUtf8 pair.0 × IsUtf8 pair.1

-- ---- what lines hold

abbrev pub FitsBandwidth : Bandwidth → Type 0
FitsBandwidth bw = IsUtf8 bw.typ × IsUtf8 bw.val

abbrev pub FitsFingerprint : Fingerprint → Type 0
FitsFingerprint f = IsUtf8 f.hash_func × All IsByte f.bytes

pub record FitsCandidate (c : Candidate) : Type 0 where
  pub foundation : IsUtf8 c.foundation
  pub component_id : c.component_id < 2 ^ 16
  pub prio : c.prio < 2 ^ 32
  pub addr : IsCandidateSocketInRange c.addr
  pub raddr : IfSome c.raddr IsCandidateSocketInRange
  pub ufrag : IfSome c.ufrag IsUtf8

abbrev pub FitsRtpMap : RtpMap → Type 0
FitsRtpMap map = IsRateNumber map.clock_rate × IfSome map.channels IsByte

-- a value after a key by the key's kind
abbrev pub FitsParam : FormatParam → Type 0
FitsParam (param.TelephoneEvents n) = IsByte n
FitsParam (param.BareRange n) = IsByte n
FitsParam (param.BarePtList pt) = IsByte pt
FitsParam (param.Red pt) = IsByte pt
FitsParam param = IfSome (entry param) (λ e. FitsType (kind e.0) e.1)

abbrev pub FitsLayer : SimulcastLayer → Type 0
FitsLayer layer = IsUtf8 layer.restriction_id.0 × IfSome layer.attributes (All AreAttributeTexts)
