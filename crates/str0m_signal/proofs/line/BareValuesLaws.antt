-- The values without keys of an fmtp line are read exactly where they stand.
use Rattle.str0m_signal.proofs.Common.{ℕ, List, [], ◌∷◌, Option, Some, refl, sym, ap, ◌∙◌, arith, codes, FormatParam, BareRange, BarePtList}
use Rattle.str0m_signal.proofs.Common.{◌>>=◌, strip, num, FirstFit, PartedAddress, Lacks, IsNum, cuts_bind_some, cuts_some_is}
use Rattle.str0m_signal.proofs.Common.{cuts_reads_first, cut_at}
use Rattle.str0m_signal.proofs.Common.{strip_found, number_lacks, num_reads, candidate_num_both, Reads, IsEventRange, Unknown}
use Rattle.str0m_signal.proofs.form.FormLaws.{digits_both, form_two_both, form_behind_both}
use Rattle.str0m_signal.proofs.line.PartLaws.{parted_both}
use Rattle.str0m_signal.specs.form.Fmtp.{IsListForm, IsRangeForm, IsAnyFmtp}
use Rattle.str0m_signal.specs.form.FmtpReading.{first_number_read, range_read, list_form_read, range_form_read, bare_read}
use Rattle.str0m_signal.specs.form.FormReading.{behind, digits_read, two_read, parted_read}
use Rattle.str0m_signal.specs.form.Forms.{TwoFormParts}

-- ---- lists

bare_num_lacks : (text : List ℕ) (n : ℕ) → IsNum 255 text n → Lacks 47 text
bare_num_lacks text n h = number_lacks 47 text (omega arith) (λ e. absurd (omega arith)) h.numeral

bare_slashed_both : Reads (PartedAddress 47 (IsNum 255)) (parted_read 47 (num 255))
bare_slashed_both = parted_both 47 (candidate_num_both 255) bare_num_lacks

-- two or more numbers, by the first of them
abbrev IsFirstNumber : List ℕ → ℕ → Type 0
IsFirstNumber text first = (second : ℕ) × (others : List ℕ) × PartedAddress 47 (IsNum 255) text (first ∷ second ∷ others)

bare_first_both : Reads IsFirstNumber first_number_read
bare_first_both = record {
  sound = λ text first e.
      let a = cuts_bind_some (two_read 47 (num 255) (parted_read 47 (num 255)) text) (λ numbers. Some numbers.0) first e in
      rw (← cuts_some_is a.0.0 first a.2)
      (listed text a.0.0 a.0.1 ((form_two_both 47 (candidate_num_both 255) bare_slashed_both).sound text a.0 a.1));
  complete = λ text first h.
      ap first_number_read h.2.2 ∙ rw (
        cut_at 47 h.2.0 h.2.1 (bare_num_lacks h.2.0 first h.2.3),
        num_reads 255 h.2.0 first h.2.3,
        bare_slashed_both.complete h.2.1 (h.0 ∷ h.1) h.2.4,
      ) refl;
}
  where
    listed : (text : List ℕ) (first : ℕ) (others : List ℕ) → TwoFormParts 47 (IsNum 255) (PartedAddress 47 (IsNum 255)) text (first, others)
        → IsFirstNumber text first
    listed text first [] h = absurd h.5
    listed text first (x ∷ xs) h = (x, xs, (h.0, h.1, h.2, h.4, h.5))

-- ---- ranges

bare_range_both : Reads IsEventRange range_read
bare_range_both = record {
  sound = λ text n e.
      let a = cuts_bind_some (strip (codes "0-") text) (digits_read 255) n e in
      let is = (digits_both 255).sound a.0 n a.2 in
      record { range = (a.0, strip_found (codes "0-") text a.0 a.1, is.0, is.1); fits = is.2 };
  complete = λ text n h. ap range_read h.range.1 ∙ (digits_both 255).complete h.range.0 n (h.range.2, h.range.3, h.fits);
}

-- ---- the forms

list_form_both : Reads IsListForm list_form_read
list_form_both = record {
  sound = λ more values e.
      let a = cuts_bind_some (behind (codes " ") first_number_read more) (λ first. Some (BarePtList first ∷ [])) values e in
      let is = (form_behind_both (codes " ") bare_first_both).sound more a.0 a.1 in
      (a.0, is.2.0, is.2.1, (is.0, is.1, is.2.2), sym (cuts_some_is (BarePtList a.0 ∷ []) values a.2));
  complete = λ more values h.
      ap (λ (o : Option ℕ). o >>= λ first. Some (BarePtList first ∷ []))
      ((form_behind_both (codes " ") bare_first_both).complete more h.0 (h.3.0, h.3.1, (h.1, h.2, h.3.2)))
      ∙ ap (λ (t : List FormatParam). Some t) (sym h.4);
}

range_form_both : Reads IsRangeForm range_form_read
range_form_both = record {
  sound = λ more values e.
      let a = cuts_bind_some (behind (codes " ") range_read more) (λ last. Some (BareRange last ∷ [])) values e in
      (a.0, (form_behind_both (codes " ") bare_range_both).sound more a.0 a.1, sym (cuts_some_is (BareRange a.0 ∷ []) values a.2));
  complete = λ more values h.
      ap (λ (o : Option ℕ). o >>= λ last. Some (BareRange last ∷ [])) ((form_behind_both (codes " ") bare_range_both).complete more h.0 h.1)
      ∙ ap (λ (t : List FormatParam). Some t) (sym h.2);
}

bare_anything_both : Reads IsAnyFmtp (λ more. Some (Unknown ∷ []))
bare_anything_both = grind arith

pub bare_both : Reads (FirstFit IsListForm (FirstFit IsRangeForm IsAnyFmtp)) bare_read
bare_both = cuts_reads_first list_form_both (cuts_reads_first range_form_both bare_anything_both)
