-- What the fmtp lines of one row answer: to questions on its own types exactly its own, to those on other types nothing.
use Rattle.str0m_sdp.proofs.Common.{◌≡◌, ◌==◌, Option, ℕ, false, List, [], ◌∷◌, Some, None, refl, ap, ◌∙◌, append-nil, has, types_of}
use Rattle.str0m_sdp.proofs.Common.{FormatParam, PayloadParams, filter_map}
use Rattle.str0m_sdp.proofs.section.RowAttributesAnswers.{row_eq_false_flipped}
use Rattle.str0m_sdp.proofs.section.RowAttributesReads.{fmtp_lines, red_reads, reads, row_lines_each, all_fmtp, all_rtx, all_red}
use Rattle.str0m_sdp.proofs.section.RowAttributesReads.{row_lines_quiet, row_parts_said}
use Rattle.str0m_sdp.proofs.section.SectionRowsApart.{RowRoles, row_type_is_itself, pt_apart, rtx_apart, red_apart}
use Rattle.str0m_sdp.proofs.section.SectionRowsParts.{rows_all_always}
use Rattle.str0m_sdp.specs.declared.attribute.MediaAttribute.{MediaAttribute}
use Rattle.str0m_sdp.specs.declared.attribute.MediaAttribute.TheVariants.{RtpMap, RtcpFb, Fmtp}
use Rattle.str0m_sdp.specs.declared.attribute.rtp_map.RtpMap.{RtpMap as Mapping}
use Rattle.str0m_sdp.specs.section.Consistency.{section_apt_in}
use Rattle.str0m_sdp.specs.section.RowAttributes.{rtx_lines}
use Rattle.str0m_sdp.specs.section.SectionRows.{fmtp_values_in}

-- a question of fmtp lines alone, on a type that the row doesn't have
fmtp_apart : {Y : Type 0} (q : MediaAttribute → Option Y) (row : PayloadParams) (vs : List (List FormatParam)) (t : ℕ)
    → ((n : ℕ) (m : Mapping) → q (RtpMap n m) ≡ None) → ((w : List ℕ) → q (RtcpFb row.pt w) ≡ None)
    → ((n : ℕ) (v : List FormatParam) → (n == t) ≡ false → q (Fmtp n v) ≡ None)
    → has (types_of row) t ≡ false → filter_map q (reads row vs) ≡ []
fmtp_apart q row vs t map feedback fmtp h =
    row_lines_quiet q (reads row vs)
    (row_lines_each (λ a. q a ≡ None) row vs (map row.pt) feedback (rows_all_always _ (λ v. fmtp row.pt v (pt_apart row t h)) vs)
    (λ n e. (map n, fmtp n _ (rtx_apart row t n h e))) (λ n e. (map n, fmtp n _ (red_apart row t n h e))))

-- ---- fmtp values

-- of a type that the row doesn't have
pub fmtp_values_apart : (row : PayloadParams) (vs : List (List FormatParam)) (t : ℕ) → has (types_of row) t ≡ false
    → filter_map (fmtp_values_in t) (reads row vs) ≡ []
fmtp_values_apart row vs t h = fmtp_apart (fmtp_values_in t) row vs t (λ n m. refl) (λ w. refl) (λ n v e. rw e refl) h

own_fmtp : (t : ℕ) (vs : List (List FormatParam)) → filter_map (fmtp_values_in t) (fmtp_lines t vs) ≡ vs
own_fmtp t [] = refl
own_fmtp t (v ∷ vs) = rw (row_type_is_itself t) (ap (λ ws. v ∷ ws) (own_fmtp t vs))

-- of the row's own primary type
pub fmtp_values_own : (row : PayloadParams) (vs : List (List FormatParam)) → RowRoles row
    → filter_map (fmtp_values_in row.pt) (reads row vs) ≡ vs
fmtp_values_own row vs r =
    row_parts_said (fmtp_values_in row.pt) row vs vs [] [] refl (λ w. refl) (own_fmtp row.pt vs)
    (row_lines_quiet (fmtp_values_in row.pt) (rtx_lines row row.resend)
    (all_rtx (λ a. fmtp_values_in row.pt a ≡ None) row row.resend (λ n e. (λ m. refl, rw (r.rtx n e) refl))))
    (row_lines_quiet (fmtp_values_in row.pt) (red_reads row row.red)
    (all_red (λ a. fmtp_values_in row.pt a ≡ None) row row.red (λ n e. (λ m. refl, rw (r.red n e) refl))))
    ∙ append-nil vs

-- ---- the primary type that a line of RTX names

pub row_apt_apart : (row : PayloadParams) (vs : List (List FormatParam)) (t : ℕ) → has (types_of row) t ≡ false
    → filter_map (section_apt_in t) (reads row vs) ≡ []
row_apt_apart row vs t h = fmtp_apart (section_apt_in t) row vs t (λ n m. refl) (λ w. refl) (λ n v e. rw e refl) h

pub row_apt_own : (row : PayloadParams) (vs : List (List FormatParam)) (t : ℕ) → RowRoles row → row.resend ≡ Some t
    → filter_map (section_apt_in t) (reads row vs) ≡ row.pt ∷ []
row_apt_own row vs t r is =
    row_parts_said (section_apt_in t) row vs [] (row.pt ∷ []) [] refl (λ w. refl)
    (row_lines_quiet (section_apt_in t) (fmtp_lines row.pt vs)
    (all_fmtp (λ a. section_apt_in t a ≡ None) row vs (rows_all_always _ (λ v. rw (row_eq_false_flipped t row.pt (r.rtx t is)) refl) vs)))
    (ap (λ o. filter_map (section_apt_in t) (rtx_lines row o)) is ∙ here)
    (row_lines_quiet (section_apt_in t) (red_reads row row.red)
    (all_red (λ a. section_apt_in t a ≡ None) row row.red (λ n e. (λ m. refl, rw (row_eq_false_flipped t n (r.rtx_red t n is e)) refl))))
  where
    here : filter_map (section_apt_in t) (rtx_lines row (Some t)) ≡ row.pt ∷ []
    here = rw (row_type_is_itself t) refl
