-- The form of an rtpmap line.
use Rattle.std.specs.Prelude.{◌≡◌, ◌<◌, ◌++◌, ℕ, List, [], Option, Some, None, codes}
use Rattle.str0m_sdp.specs.declared.attribute.rtp_map.RtpMap.{RtpMap as Mapping}
use Rattle.str0m_sdp.specs.declared.label.TheConstants as label
use Rattle.str0m_signal.specs.Prelude.{IsNum, IsPt, IsReadAsCodec, IsWithout}

-- the channels after a clock rate: none, or `/` and a number
abbrev pub IsChannels : List ℕ → Option ℕ → Type 0
IsChannels text None = text ≡ []
IsChannels text (Some n) = (number : List ℕ) × (text ≡ codes "/" ++ number) × IsNum 255 number n

-- `rtpmap:` pt SP codec `/` clock [`/` channels]  (RFC 8866, section 6.6)
pub record IsRtpMap (text : List ℕ) (pt : ℕ) (value : Mapping) : Type 0 where
  pub number : List ℕ
  pub codec : List ℕ
  pub clock : List ℕ
  pub channels : List ℕ
  pub joined : text ≡ label.RTPMAP.now ++ (number ++ (codes " " ++ (codec ++ (codes "/" ++ (clock ++ channels)))))
  pub number_is : IsPt number pt
  pub codec_is : IsWithout 47 codec × IsReadAsCodec codec value.codec
  pub clock_is : IsWithout 47 clock × IsNum 4294967295 clock value.clock_rate × (0 < value.clock_rate)
  pub channels_is : IsChannels channels value.channels
