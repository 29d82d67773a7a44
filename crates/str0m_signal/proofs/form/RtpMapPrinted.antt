-- Printed mappings and feedback have their forms.
use Rattle.str0m_formats.specs.codec.Codec.{codec_of}
use Rattle.str0m_sdp.specs.declared.attribute.rtp_map.RtpMap.{RtpMap as Mapping}
use Rattle.str0m_sdp.specs.declared.label.TheConstants as label
use Rattle.str0m_signal.proofs.Common.{◌≡◌, ◌<◌, ◌≤◌, ℕ, List, ◌++◌, Option, Some, None, IfSome, refl, subst, arith, lit<, lit≤, inl, inr}
use Rattle.str0m_signal.proofs.Common.{codes, decimal, decimal_nonempty, Lacks, IsRest, IsPt, codec_printed_and_read, Codec, codec_read_as}
use Rattle.str0m_signal.proofs.Common.{media_attribute_text, RtcpFb, rtp_map_channels_text, rtp_map_text, RtpMap, codec_text, IsReadAsCodec}
use Rattle.str0m_signal.proofs.line.AttributesPrinted.{HoldsNoEnd, no_ends, no_end, attribute_num_is, attribute_decimal_lacks}
use Rattle.str0m_signal.proofs.line.AttributesPrinted.{decimal_no_end}
use Rattle.str0m_signal.proofs.line.AttributesPrinted.{attribute_printed}
use Rattle.str0m_signal.specs.back.Writable.{IsReadBackLine}
use Rattle.str0m_signal.specs.form.Forms.{Behind, IsText, TwoFormParts}
use Rattle.str0m_signal.specs.form.MediaAttribute.{IsMediaLine}
use Rattle.str0m_signal.specs.form.RtpMap.{IsChannels, IsRtpMap}

-- ---- the name of a codec

printed_codec : (c : Codec) → codec_of (codec_text c) ≡ codec_printed_and_read c
unfolding codec_of
printed_codec c = grind arith

-- the name of a codec reads as it, but for Null
pub mapped_codec_read_as : (c : Codec) → IsReadAsCodec (codec_text c) (codec_printed_and_read c)
mapped_codec_read_as c = subst (IsReadAsCodec (codec_text c)) (printed_codec c) (codec_read_as (codec_text c))

pub record IsMappingName (name : List ℕ) : Type 0 where
  pub filled : IsRest name
  pub no_slash : Lacks 47 name
  pub quiet : HoldsNoEnd name

pub mapped_codec_has_name : (c : Codec) → IsMappingName (codec_text c)
mapped_codec_has_name c = grind arith

-- ---- mappings

rtpmap_channels_are : (channels : Option ℕ) → IfSome channels (λ n. n ≤ 255) → IsChannels (rtp_map_channels_text channels) channels
rtpmap_channels_are None small = refl
rtpmap_channels_are (Some n) small = (decimal n, refl, attribute_num_is 255 n small (lit< tt))

channels_no_end : (channels : Option ℕ) → IfSome channels (λ n. n ≤ 255) → HoldsNoEnd (rtp_map_channels_text channels)
channels_no_end channels small = grind (arith, no_ends, no_end, decimal_no_end)

-- a mapping as it is read: Null by its name is Unknown
abbrev pub mapping_as_read : Mapping → Mapping
mapping_as_read value = record value { codec = codec_printed_and_read value.codec }

-- numbers as an rtpmap line holds them
pub record KeepsToMapping (value : Mapping) : Type 0 where
  pub clock : (0 < value.clock_rate) × (value.clock_rate ≤ 4294967295)
  pub channels : IfSome value.channels (λ n. n ≤ 255)

pub mapping_printed : (pt : ℕ) (value : Mapping) → pt ≤ 127 → KeepsToMapping value
    → IsReadBackLine IsMediaLine (media_attribute_text (RtpMap pt value)) (RtpMap pt (mapping_as_read value))
mapping_printed pt value small keeps = attribute_printed text (RtpMap pt (mapping_as_read value)) quiet
    (inl ((pt, mapping_as_read value), is, refl)) where
      clock : HoldsNoEnd (decimal value.clock_rate)
      clock = let limit = keeps.clock.1 in decimal_no_end value.clock_rate (omega arith)

      name : IsMappingName (codec_text value.codec)
      name = mapped_codec_has_name value.codec

      text : List ℕ
      text = label.RTPMAP.now ++ (decimal pt ++ (codes " " ++ rtp_map_text value))

      quiet : HoldsNoEnd text
      quiet =
          no_ends label.RTPMAP.now _ (no_end label.RTPMAP.now refl refl)
          (no_ends (decimal pt) _ (decimal_no_end pt (omega arith))
          (no_ends (codes " ") _ (no_end (codes " ") refl refl)
          (no_ends (codec_text value.codec) _ name.quiet
          (no_ends (codes "/") _ (no_end (codes "/") refl refl)
          (no_ends (decimal value.clock_rate) (rtp_map_channels_text value.channels) clock
          (channels_no_end value.channels keeps.channels))))))

      is : IsRtpMap text pt (mapping_as_read value)
      is =
          let limit = keeps.clock.1 in
          record {
            number = decimal pt;
            codec = codec_text value.codec;
            clock = decimal value.clock_rate;
            channels = rtp_map_channels_text value.channels;
            joined = refl;
            number_is = attribute_num_is 127 pt small (lit< tt);
            codec_is = ((name.filled, name.no_slash), mapped_codec_read_as value.codec);
            clock_is = (
              (decimal_nonempty value.clock_rate (omega arith), attribute_decimal_lacks 47 value.clock_rate (lit≤ tt) (omega arith)),
              attribute_num_is 4294967295 value.clock_rate limit (lit< tt),
              keeps.clock.0,
            );
            channels_is = rtpmap_channels_are value.channels keeps.channels;
          }

-- ---- feedback

pub feedback_printed : (pt : ℕ) (value : List ℕ) → pt ≤ 127 → IsRest value → HoldsNoEnd value
    → IsReadBackLine IsMediaLine (media_attribute_text (RtcpFb pt value)) (RtcpFb pt value)
feedback_printed pt value small filled quiet =
    attribute_printed (label.RTCP_FB.now ++ (decimal pt ++ (codes " " ++ value))) (RtcpFb pt value)
    (no_ends label.RTCP_FB.now _ (no_end label.RTCP_FB.now refl refl)
    (no_ends (decimal pt) _ (decimal_no_end pt (omega arith)) (no_ends (codes " ") value (no_end (codes " ") refl refl) quiet)))
    (inr (inr (inl ((pt, value), is, refl))))
  where
    is : Behind label.RTCP_FB.now (TwoFormParts 32 IsPt IsText) (label.RTCP_FB.now ++ (decimal pt ++ (codes " " ++ value))) (pt, value)
    is = (
      decimal pt ++ (codes " " ++ value),
      refl,
      (
        decimal pt,
        value,
        refl,
        attribute_decimal_lacks 32 pt (lit≤ tt) (omega arith),
        attribute_num_is 127 pt small (lit< tt),
        (filled, refl),
      ),
    )
