-- The printed lines of a row have their forms, and read as the row's lines.
use Rattle.str0m_formats.proofs.{IsFormatLineOf, params_print}
use Rattle.str0m_formats.specs.codec.CodecSpec.{codec_rtp_rate}
use Rattle.str0m_formats.specs.declared.codec.Codec.TheVariants as codec
use Rattle.str0m_formats.specs.declared.format.format_params.FormatParams.{FormatParams}
use Rattle.str0m_formats.specs.format.FormatParams.{params_of}
use Rattle.str0m_sdp.specs.declared.attribute.rtp_map.RtpMap.{RtpMap as Mapping}
use Rattle.str0m_signal.proofs.Common.{◌≡◌, ◌≢◌, ◌<◌, ◌≤◌, ℕ, Bool, List, [], ◌∷◌, ◌++◌, map, Option, Some, None, IfSome, refl, sym, ap}
use Rattle.str0m_signal.proofs.Common.{subst, arith, lit<, AllByRecursion, flat_map, IsRest, param_text, telephone_max, Codec, FormatParam}
use Rattle.str0m_signal.proofs.Common.{TelephoneEvents, BareRange, BarePtList, Red, PayloadParams, IsSolidPair, joined_pair}
use Rattle.str0m_signal.proofs.Common.{media_attribute_text, row_attrs, MediaAttribute, Fmtp, reads, feedback_line, feedback_attrs}
use Rattle.str0m_signal.proofs.Common.{fmtp_line, format_values, format_attrs, rtx_lines, rtx_attrs, red_lines, red_attrs, map_of_spec}
use Rattle.str0m_signal.proofs.Common.{section_pairs_line_read, fmtp_lines, red_reads, RtpMap, format_linked_texts, TRANSPORT_CC, REMB, FIR}
use Rattle.str0m_signal.proofs.Common.{NACK}
use Rattle.str0m_signal.proofs.Common.{PLI}
use Rattle.str0m_signal.proofs.form.FmtpPrinted.{AreFmtpPairsShown, apt_printed, list_printed, range_printed, pairs_printed}
use Rattle.str0m_signal.proofs.form.RtpMapPrinted.{KeepsToMapping, mapping_printed, feedback_printed}
use Rattle.str0m_signal.proofs.line.AttributesPrinted.{LinesReadAs, one_read, both_read, HoldsNoEnd, no_end}
use Rattle.str0m_signal.specs.back.Writable.{IsReadBackLine}
use Rattle.str0m_signal.specs.form.MediaAttribute.{IsMediaLine}

-- the attributes print lines that read as these
abbrev pub ReadAs : List MediaAttribute → List MediaAttribute → Type 0
ReadAs = LinesReadAs media_attribute_text IsMediaLine

pub read_as_joined : (xs ys reads more : List MediaAttribute) → ReadAs xs reads → ReadAs ys more → ReadAs (xs ++ ys) (reads ++ more)
read_as_joined = both_read media_attribute_text IsMediaLine

pub read_as_one : (x a : MediaAttribute) → IsReadBackLine IsMediaLine (media_attribute_text x) a → ReadAs (x ∷ []) (a ∷ [])
read_as_one x a h = one_read media_attribute_text IsMediaLine x a [] [] h refl

-- ---- mappings of codecs that have a name

pub named_mapping_read_back : (pt : ℕ) (value : Mapping) → pt ≤ 127 → KeepsToMapping value → value.codec ≢ codec.Null
    → IsReadBackLine IsMediaLine (media_attribute_text (RtpMap pt value)) (RtpMap pt value)
named_mapping_read_back pt value small keeps other = grind (arith, mapping_printed pt value small keeps)

abbrev pub IsRowRateInRange : ℕ → Type 0
IsRowRateInRange rate = (0 < rate) × (rate ≤ 4294967295)

row_rate_keeps : (c : Codec) (rate : ℕ) → IsRowRateInRange rate → IsRowRateInRange (codec_rtp_rate c rate)
row_rate_keeps c rate h = grind arith

-- ---- rows

-- a codec with a name, types of seven bits, a clock rate of 32 bits that isn't zero, channels of eight
pub record KeepsToRow (row : PayloadParams) : Type 0 where
  pub pt : row.pt ≤ 127
  pub resend : IfSome row.resend (λ n. n ≤ 127)
  pub red : IfSome row.red (λ n. n ≤ 127)
  pub named : row.spec.codec ≢ codec.Null
  pub rate : IsRowRateInRange row.spec.clock_rate
  pub channels : IfSome row.spec.channels (λ n. n ≤ 255)

module _ (row : PayloadParams) (keeps : KeepsToRow row) where
  row_rate : IsRowRateInRange (codec_rtp_rate row.spec.codec row.spec.clock_rate)
  row_rate = row_rate_keeps row.spec.codec row.spec.clock_rate keeps.rate

  row_type_small : row.pt ≤ 127
  row_type_small = keeps.pt

  feedback : (w : List ℕ) (b : Bool) → IsRest w → HoldsNoEnd w → ReadAs (feedback_line row.pt w b) (feedback_line row.pt w b)
  feedback w b filled quiet = grind (arith, feedback_printed, row_type_small)

  pub feedback_read : ReadAs (feedback_attrs row) (feedback_attrs row)
  feedback_read =
      read_as_joined _ _ _ _ (feedback TRANSPORT_CC.now row.fb_transport_cc (lit< tt) (no_end TRANSPORT_CC.now refl refl))
      (read_as_joined _ _ _ _ (feedback REMB.now row.fb_remb (lit< tt) (no_end REMB.now refl refl))
      (read_as_joined _ _ _ _ (feedback FIR.now row.fb_fir (lit< tt) (no_end FIR.now refl refl))
      (read_as_joined _ _ _ _ (feedback NACK.now row.fb_nack (lit< tt) (no_end NACK.now refl refl))
      (feedback PLI.now row.fb_pli (lit< tt) (no_end PLI.now refl refl)))))

  rtx_read_back : (o : Option ℕ) → IfSome o (λ n. n ≤ 127) → ReadAs (rtx_lines row o) (rtx_lines row o)
  rtx_read_back None h = refl
  rtx_read_back (Some n) h = grind (arith, read_as_joined, named_mapping_read_back n, apt_printed n row.pt h, row_type_small)

  red_read_back : (o : Option ℕ) → IfSome o (λ n. n ≤ 127) → ReadAs (red_lines row o) (red_reads row o)
  red_read_back None h = refl
  red_read_back (Some n) h =
      let clock = codec_rtp_rate row.spec.codec row.spec.clock_rate in
      let map : Mapping = record { codec = codec.Red; clock_rate = clock; channels = row.spec.channels } in
      let twice = Fmtp n (Red row.pt ∷ []) in
      let list = Fmtp n (BarePtList row.pt ∷ []) in
      read_as_joined (RtpMap n map ∷ []) (twice ∷ []) (RtpMap n map ∷ []) (list ∷ [])
      (read_as_one (RtpMap n map) (RtpMap n map)
      (named_mapping_read_back n map h (record { clock = row_rate; channels = keeps.channels }) (λ e. cc)))
      (read_as_one twice list (list_printed n row.pt (Red row.pt) refl h (omega (arith, row_type_small))))

  -- the lines of a row, where its format's lines read as these values
  pub row_read : (values : List (List FormatParam)) → ReadAs (format_attrs row) (fmtp_lines row.pt values)
      → ReadAs (row_attrs row) (reads row values)
  row_read values format =
      read_as_joined (RtpMap row.pt (map_of_spec row.spec) ∷ []) _ (RtpMap row.pt (map_of_spec row.spec) ∷ []) _
      (read_as_one (RtpMap row.pt (map_of_spec row.spec)) (RtpMap row.pt (map_of_spec row.spec))
      (named_mapping_read_back row.pt (map_of_spec row.spec) row_type_small (record { clock = row_rate; channels = keeps.channels })
      keeps.named))
      (read_as_joined (feedback_attrs row) _ (feedback_attrs row) _ feedback_read
      (read_as_joined (format_attrs row) _ (fmtp_lines row.pt values) _ format
      (read_as_joined (rtx_attrs row) (red_attrs row) (rtx_lines row row.resend) (red_reads row row.red)
      (rtx_read_back row.resend keeps.resend)
      (red_read_back row.red keeps.red))))

-- ---- the lines of a format

pub params_read_back : (pt : ℕ) (params : List FormatParam) (pairs : List (List ℕ × List ℕ)) → pt ≤ 127 → AreFmtpPairsShown params
    → AllByRecursion IsSolidPair pairs → format_linked_texts (map param_text params) ≡ format_linked_texts (map joined_pair pairs)
    → (params ≢ [] → pairs ≢ []) → (params ≡ [] → pairs ≡ [])
    → ReadAs (fmtp_line pt params) (fmtp_lines pt (section_pairs_line_read pairs))
params_read_back pt params pairs small shown plain e some none = grind (arith, pairs_printed)

-- ---- rows of each codec

-- telephone events: a range up to the highest
pub events_read : (row : PayloadParams) → KeepsToRow row → row.spec.codec ≡ codec.Tele → telephone_max row.spec.format ≤ 255
    → ReadAs (row_attrs row) (reads row ((BareRange (telephone_max row.spec.format) ∷ []) ∷ []))
events_read row keeps tele fits =
    let values = (BareRange (telephone_max row.spec.format) ∷ []) ∷ [] in
    let range = TelephoneEvents (telephone_max row.spec.format) ∷ [] in
    row_read row keeps values
    (subst (λ (params : List FormatParam). ReadAs (fmtp_line row.pt params) (fmtp_lines row.pt values))
    (sym (ap (λ (c : Codec). format_values c row.spec.format) tele))
    (read_as_one (Fmtp row.pt range) (Fmtp row.pt (BareRange (telephone_max row.spec.format) ∷ []))
    (range_printed row.pt (telephone_max row.spec.format) (TelephoneEvents (telephone_max row.spec.format)) refl keeps.pt fits)))

row_format_of : (c : Codec) (p : FormatParams) → c ≢ codec.Tele → format_values c p ≡ params_of p
row_format_of c p other = grind arith

-- any other codec, whose format prints as solid pairs: what these read as together
pub pairs_row_read : (row : PayloadParams) → KeepsToRow row → row.spec.codec ≢ codec.Tele → (pairs : List (List ℕ × List ℕ))
    → IsFormatLineOf row.spec.format pairs
    → ReadAs (row_attrs row) (reads row (section_pairs_line_read pairs))
pairs_row_read row keeps other pairs line =
    let values = section_pairs_line_read pairs in
    row_read row keeps values
    (subst (λ (params : List FormatParam). ReadAs (fmtp_line row.pt params) (fmtp_lines row.pt values))
    (sym (row_format_of row.spec.codec row.spec.format other))
    (params_read_back row.pt (params_of row.spec.format) pairs keeps.pt (params_print row.spec.format) line.plain line.text line.some
    line.none))

-- ---- rows one after another

pub rows_read : (rows : List PayloadParams) (values : PayloadParams → List (List FormatParam))
    → AllByRecursion (λ row. ReadAs (row_attrs row) (reads row (values row))) rows
    → ReadAs (flat_map row_attrs rows) (flat_map (λ row. reads row (values row)) rows)
rows_read [] values h = refl
rows_read (row ∷ rows) values h = grind (arith, read_as_joined, rows_read rows values h.1)
