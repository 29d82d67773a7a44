-- What the lines of a row read as, and what holds of each of them.
use Rattle.str0m_formats.specs.declared.codec.Codec.TheVariants as codec
use Rattle.str0m_sdp.proofs.Common.{arith, ◌≡◌, ℕ, Bool, List, [], ◌∷◌, ◌++◌, Option, Some, None, refl, ap, ◌∙◌, AllByRecursion}
use Rattle.str0m_sdp.proofs.Common.{filter_map-append, codec_rtp_rate, FormatParam, Apt, BarePtList, PayloadParams, filter_map}
use Rattle.str0m_sdp.proofs.Common.{format_all_of_both}
use Rattle.str0m_sdp.specs.attribute.RtpMap.{map_of_spec}
use Rattle.str0m_sdp.specs.declared.attribute.MediaAttribute.{MediaAttribute}
use Rattle.str0m_sdp.specs.declared.attribute.MediaAttribute.TheVariants.{RtpMap, RtcpFb, Fmtp}
use Rattle.str0m_sdp.specs.declared.attribute.rtp_map.RtpMap.{RtpMap as Mapping}
use Rattle.str0m_sdp.specs.section.RowAttributes.{feedback_line, feedback_attrs, rtx_lines}

abbrev pub fmtp_lines : ℕ → List (List FormatParam) → List MediaAttribute
fmtp_lines pt [] = []
fmtp_lines pt (v ∷ vs) = Fmtp pt v ∷ fmtp_lines pt vs

abbrev pub red_reads : PayloadParams → Option ℕ → List MediaAttribute
red_reads row None = []
red_reads row (Some pt) =
    RtpMap pt (record { codec = codec.Red; clock_rate = codec_rtp_rate row.spec.codec row.spec.clock_rate; channels = row.spec.channels })
    ∷ (Fmtp pt (BarePtList row.pt ∷ []) ∷ [])

-- what the lines of a row read as, where its format's lines read as these values
abbrev pub reads : PayloadParams → List (List FormatParam) → List MediaAttribute
reads row values =
    RtpMap row.pt (map_of_spec row.spec)
    ∷ (feedback_attrs row ++ (fmtp_lines row.pt values ++ (rtx_lines row row.resend ++ red_reads row row.red)))

-- ---- what holds of each of them

module _ (P : MediaAttribute → Type 0) (row : PayloadParams) where
  one_feedback : (w : List ℕ) (b : Bool) → P (RtcpFb row.pt w) → AllByRecursion P (feedback_line row.pt w b)
  one_feedback w b h = grind arith

  pub all_feedback : ((w : List ℕ) → P (RtcpFb row.pt w)) → AllByRecursion P (feedback_attrs row)
  all_feedback h = grind arith

  pub all_fmtp : (vs : List (List FormatParam)) → AllByRecursion (λ v. P (Fmtp row.pt v)) vs → AllByRecursion P (fmtp_lines row.pt vs)
  all_fmtp [] h = tt
  all_fmtp (v ∷ vs) h = (h.0, all_fmtp vs h.1)

  pub all_rtx : (o : Option ℕ) → ((n : ℕ) → o ≡ Some n → ((m : Mapping) → P (RtpMap n m)) × P (Fmtp n (Apt row.pt ∷ [])))
      → AllByRecursion P (rtx_lines row o)
  all_rtx o h = grind arith

  pub all_red : (o : Option ℕ) → ((n : ℕ) → o ≡ Some n → ((m : Mapping) → P (RtpMap n m)) × P (Fmtp n (BarePtList row.pt ∷ [])))
      → AllByRecursion P (red_reads row o)
  all_red o h = grind arith

  pub row_lines_each : (vs : List (List FormatParam)) → ((m : Mapping) → P (RtpMap row.pt m)) → ((w : List ℕ) → P (RtcpFb row.pt w))
      → AllByRecursion (λ v. P (Fmtp row.pt v)) vs
      → ((n : ℕ) → row.resend ≡ Some n → ((m : Mapping) → P (RtpMap n m)) × P (Fmtp n (Apt row.pt ∷ [])))
      → ((n : ℕ) → row.red ≡ Some n → ((m : Mapping) → P (RtpMap n m)) × P (Fmtp n (BarePtList row.pt ∷ [])))
      → AllByRecursion P (reads row vs)
  row_lines_each vs map feedback format rtx red = grind (arith, format_all_of_both, all_feedback, all_fmtp, all_rtx, all_red)

-- ---- questions

pub row_lines_quiet : {X Y : Type 0} (q : X → Option Y) (xs : List X) → AllByRecursion (λ x. q x ≡ None) xs → filter_map q xs ≡ []
row_lines_quiet q [] h = refl
row_lines_quiet q (x ∷ xs) h = rw h.0 (row_lines_quiet q xs h.1)

pub row_append_said : {X Y : Type 0} (q : X → Option Y) (xs ys : List X) (vs ws : List Y)
    → filter_map q xs ≡ vs → filter_map q ys ≡ ws → filter_map q (xs ++ ys) ≡ vs ++ ws
row_append_said q xs ys vs ws e f = filter_map-append q xs ys ∙ ap (λ zs. zs ++ filter_map q ys) e ∙ ap (λ zs. vs ++ zs) f

-- a question that the mapping leaves open, asked of the parts of a row's lines
pub row_parts_said : {Y : Type 0} (q : MediaAttribute → Option Y) (row : PayloadParams) (vs : List (List FormatParam))
    (fmtp rtx red : List Y)
    → q (RtpMap row.pt (map_of_spec row.spec)) ≡ None → ((w : List ℕ) → q (RtcpFb row.pt w) ≡ None)
    → filter_map q (fmtp_lines row.pt vs) ≡ fmtp → filter_map q (rtx_lines row row.resend) ≡ rtx
    → filter_map q (red_reads row row.red) ≡ red
    → filter_map q (reads row vs) ≡ fmtp ++ (rtx ++ red)
row_parts_said q row vs fmtp rtx red map feedback a b c = grind (arith, row_append_said, row_lines_quiet)
