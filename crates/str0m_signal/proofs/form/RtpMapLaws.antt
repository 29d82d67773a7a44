-- An rtpmap line is read exactly where its form holds.
use Rattle.str0m_sdp.specs.declared.attribute.rtp_map.RtpMap.{RtpMap as Mapping}
use Rattle.str0m_sdp.specs.declared.label.TheConstants as label
use Rattle.str0m_signal.proofs.Common.{◌≡◌, ℕ, ◌<◌, List, ◌∷◌, ◌++◌, length, Option, Some, None, refl, ap, subst, ◌∙◌, arith, ltb-true}
use Rattle.str0m_signal.proofs.Common.{lt-ltb, append-nil, some_pair_parts, Lacks, IsNum, ◌>>=◌, cut, strip, when, is_rest, num, cut_none}
use Rattle.str0m_signal.proofs.Common.{cut_none_lacks, cut_at, cut_found, strip_found, cuts_when_some, num_found, num_reads, number_lacks}
use Rattle.str0m_signal.proofs.Common.{num_rest_true, cuts_bind_some, cuts_some_is, Codec, codec_of, codec_read_as, Reads, IsReadAsCodec}
use Rattle.str0m_signal.proofs.Common.{IsWithout, codec_read_only}
use Rattle.str0m_signal.specs.form.RtpMap.{IsChannels, IsRtpMap}
use Rattle.str0m_signal.specs.form.RtpMapReading.{frequency_read, clock_read, mapping_read, rtpmap_fields_read}

pub clock_frequency_sound : (text : List ℕ) (hertz : ℕ) → frequency_read text ≡ Some hertz → IsNum 4294967295 text hertz × (0 < hertz)
clock_frequency_sound text hertz e = grind (arith, cuts_bind_some, cuts_when_some, ltb-true, num_found)

pub clock_frequency_complete : (text : List ℕ) (hertz : ℕ) → IsNum 4294967295 text hertz → 0 < hertz → frequency_read text ≡ Some hertz
clock_frequency_complete text hertz h positive = rw (num_reads 4294967295 text hertz h, lt-ltb 0 hertz positive) refl

-- a clock rate and the channels after it
record IsClock (text : List ℕ) (hertz : ℕ) (channels : Option ℕ) : Type 0 where
  number : List ℕ
  more : List ℕ
  joined : text ≡ number ++ more
  number_is : IsWithout 47 number × IsNum 4294967295 number hertz × (0 < hertz)
  more_is : IsChannels more channels

clock_rate_without : (text : List ℕ) (hertz : ℕ) → Lacks 47 text → IsNum 4294967295 text hertz → IsWithout 47 text
clock_rate_without text hertz h n = grind arith

clock_sound : (text : List ℕ) (hertz : ℕ) (channels : Option ℕ) (o : Option (List ℕ × List ℕ)) → cut 47 text ≡ o
    → clock_read text o ≡ Some (hertz, channels) → IsClock text hertz channels
clock_sound text hertz channels None cut-is e = grind (
  arith,
  cuts_bind_some,
  some_pair_parts,
  clock_frequency_sound,
  append-nil,
  cut_none_lacks,
)
clock_sound text hertz channels (Some p) cut-is e =
    let a = cuts_bind_some (frequency_read p.0) (λ hz. num 255 p.1 >>= λ n. Some (hz, Some n)) (hertz, channels) e in
    let b = cuts_bind_some (num 255 p.1) (λ n. Some (a.0, Some n)) (hertz, channels) a.2 in
    let pair = some_pair_parts a.0 hertz (Some b.0) channels b.2 in
    let f = clock_frequency_sound p.0 hertz (a.1 ∙ ap (λ (n : ℕ). Some n) pair.0) in
    let found = cut_found 47 text p.0 p.1 cut-is in
    rw (← pair.1) (record {
      number = p.0;
      more = 47 ∷ p.1;
      joined = found.0;
      number_is = (clock_rate_without p.0 hertz found.1 f.0, f.0, f.1);
      more_is = (p.1, refl, num_found 255 p.1 b.0 b.1);
    })

rtpmap_clock_complete : (text : List ℕ) (hertz : List ℕ) (channels : Option ℕ) (rate : ℕ) → IsWithout 47 hertz → IsNum 4294967295 hertz rate
    → 0 < rate → IsChannels text channels → clock_read (hertz ++ text) (cut 47 (hertz ++ text)) ≡ Some (rate, channels)
rtpmap_clock_complete text hertz channels rate w n positive h = grind
    (arith, append-nil, cut_none, clock_frequency_complete, cut_at, num_reads)

abbrev made_mapping : ℕ → Codec → Mapping → Option (ℕ × Mapping)
made_mapping pt codec value = Some (pt, record { codec = codec; clock_rate = value.clock_rate; channels = value.channels })

-- a rate that stands alone is no part of another
pub clock_whole : (text : List ℕ) (hertz : ℕ) → frequency_read text ≡ Some hertz → clock_read text (cut 47 text) ≡ Some (hertz, None)
clock_whole text hertz e =
    let number = (clock_frequency_sound text hertz e).0.numeral in
    rw (cut_none 47 text (number_lacks 47 text (omega arith) (λ e. absurd (omega arith)) number), e) refl

rtpmap_found : (text : List ℕ) (fields : ℕ × Mapping) → rtpmap_fields_read text ≡ Some fields → IsRtpMap text fields.0 fields.1
rtpmap_found text fields e =
    let a = cuts_bind_some (strip label.RTPMAP.now text) (λ body. cut 32 body >>= λ fields. num 127 fields.0 >>= λ pt. mapping_read fields.1
    >>= λ value. Some (pt, value)) fields e in
    let b = cuts_bind_some (cut 32 a.0) (λ fields. num 127 fields.0 >>= λ pt. mapping_read fields.1 >>= λ value. Some (pt, value)) fields
    a.2 in
    let n = cuts_bind_some (num 127 b.0.0) (λ pt. mapping_read b.0.1 >>= λ value. Some (pt, value)) fields b.2 in
    let m = cuts_bind_some (mapping_read b.0.1) (λ value. Some (n.0, value)) fields n.2 in
    let c = cuts_bind_some (cut 47 b.0.1) (λ codec. when (is_rest codec.0) codec.0 >>= λ name. clock_read codec.1 (cut 47 codec.1)
    >>= λ clock. Some (record { codec = codec_of name; clock_rate = clock.0; channels = clock.1 })) m.0 m.1 in
    let w = cuts_bind_some (when (is_rest c.0.0) c.0.0) (λ name. clock_read c.0.1 (cut 47 c.0.1)
    >>= λ clock. Some (record { codec = codec_of name; clock_rate = clock.0; channels = clock.1 })) m.0 c.2 in
    let k = cuts_bind_some (clock_read c.0.1 (cut 47 c.0.1))
    (λ clock. Some (record { codec = codec_of w.0; clock_rate = clock.0; channels = clock.1 })) m.0 w.2 in
    let name = cuts_when_some (is_rest c.0.0) c.0.0 w.0 w.1 in
    let clock = clock_sound c.0.1 k.0.0 k.0.1 (cut 47 c.0.1) refl k.1 in
    let head = strip_found label.RTPMAP.now text a.0 a.1 in
    let cut_at_space = cut_found 32 a.0 b.0.0 b.0.1 b.1 in
    let codec = cut_found 47 b.0.1 c.0.0 c.0.1 c.1 in
    let value : Mapping = record { codec = codec_of w.0; clock_rate = k.0.0; channels = k.0.1 } in
    let made : IsRtpMap text n.0 value = record {
      number = b.0.0;
      codec = c.0.0;
      clock = clock.number;
      channels = clock.more;
      joined = head ∙ ap (λ (t : List ℕ). label.RTPMAP.now ++ t) (cut_at_space.0
          ∙ ap (λ (t : List ℕ). b.0.0 ++ (32 ∷ t)) (codec.0 ∙ ap (λ (t : List ℕ). c.0.0 ++ (47 ∷ t)) clock.joined));
      number_is = num_found 127 b.0.0 n.0 n.1;
      codec_is = (
        (ltb-true 0 (length c.0.0) name.0, codec.1),
        subst (λ (t : List ℕ). IsReadAsCodec c.0.0 (codec_of t)) name.1
            (codec_read_as c.0.0),
      );
      clock_is = clock.number_is;
      channels_is = clock.more_is;
    } in
    subst (λ (f : ℕ × Mapping). IsRtpMap text f.0 f.1) (cuts_some_is (n.0, m.0) fields m.2)
    (subst (IsRtpMap text n.0) (cuts_some_is value m.0 k.2) made)

rtpmap_given : (text : List ℕ) (fields : ℕ × Mapping) → IsRtpMap text fields.0 fields.1 → rtpmap_fields_read text ≡ Some fields
rtpmap_given text fields h =
    grind (
      arith,
      number_lacks 32 h.number,
      rtpmap_clock_complete h.channels h.clock,
      cut_at 47 h.codec,
      cut_at 32 h.number,
      num_rest_true h.codec h.codec_is.0.0,
      codec_read_only h.codec,
      num_reads 127 h.number,
    )

pub rtpmap_fields_both : Reads (λ text fields. IsRtpMap text fields.0 fields.1) rtpmap_fields_read
rtpmap_fields_both = record { sound = rtpmap_found; complete = rtpmap_given }
