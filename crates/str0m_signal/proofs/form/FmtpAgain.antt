-- An fmtp line is printed with the values that it was read as and that print something, and is read as these again.
use Rattle.str0m_formats.proofs.{IsKeyed, IsPairsLine, keyed_line, keyed_shown, pairs_again}
use Rattle.str0m_signal.proofs.Common.{rules, ◌≡◌, ◌≢◌, ◌⊎◌, ◌≤◌, ℕ, List, [], ◌∷◌, map, filter, refl, subst, arith, inl, inr}
use Rattle.str0m_signal.proofs.Common.{AllByRecursion, join_with_byte, cases_Bool, ltb-true, param_text, params_read, FormatParam}
use Rattle.str0m_signal.proofs.Common.{BarePtList, BareRange, IsSolidPair, joined_pair, media_attribute_text, is_fmtp_shown}
use Rattle.str0m_signal.proofs.Common.{shown_fmtp_line}
use Rattle.str0m_signal.proofs.Common.{Fmtp}
use Rattle.str0m_signal.proofs.Common.{IsRest}
use Rattle.str0m_signal.proofs.form.FmtpPrinted.{AreFmtpPairsShown, FmtpValues, fmtp_all_shown, fmtp_list_shown, list_printed}
use Rattle.str0m_signal.proofs.form.FmtpPrinted.{range_printed, pairs_printed}
use Rattle.str0m_signal.specs.back.Writable.{IsReadBackLine}
use Rattle.str0m_signal.specs.form.Fmtp.{IsFmtp}
use Rattle.str0m_signal.specs.form.MediaAttribute.{IsMediaLine}

-- the values that print something do
fmtp_shown_are : (values : List FormatParam) → AreFmtpPairsShown (filter is_fmtp_shown values)
fmtp_shown_are [] = tt
fmtp_shown_are (v ∷ vs) = grind (arith, cases_Bool, ltb-true, fmtp_shown_are vs)

-- the line of values that are all shown is read as these
abbrev IsShownLine : ℕ → List FormatParam → Type 0
IsShownLine pt shown = IsReadBackLine IsMediaLine (shown_fmtp_line pt shown) (Fmtp pt shown)

line_of_pairs_read : (pt : ℕ) (v : FormatParam) (vs : List FormatParam) (pairs : List (List ℕ × List ℕ)) → pt ≤ 127
    → AreFmtpPairsShown (v ∷ vs)
    → AllByRecursion IsSolidPair pairs → join_with_byte 59 (map param_text (v ∷ vs)) ≡ join_with_byte 59 (map joined_pair pairs)
    → params_read pairs ≡ v ∷ vs → pairs ≢ [] → IsReadBackLine IsMediaLine (media_attribute_text (Fmtp pt (v ∷ vs))) (Fmtp pt (v ∷ vs))
line_of_pairs_read pt v vs [] small shows plain text read some = absurd (some refl)
line_of_pairs_read pt v vs (p ∷ ps) small shows plain text read some =
    subst (λ (values : List FormatParam). IsReadBackLine IsMediaLine (media_attribute_text (Fmtp pt (v ∷ vs))) (Fmtp pt values)) read
    (pairs_printed pt v vs p ps small shows plain text)

fmtp_of_pairs : (pt : ℕ) (v : FormatParam) (vs : List FormatParam) (pairs : List (List ℕ × List ℕ)) → pt ≤ 127 → AreFmtpPairsShown (v ∷ vs)
    → AllByRecursion IsSolidPair pairs → join_with_byte 59 (map param_text (v ∷ vs)) ≡ join_with_byte 59 (map joined_pair pairs)
    → params_read pairs ≡ v ∷ vs → pairs ≢ [] → IsShownLine pt (v ∷ vs)
fmtp_of_pairs pt v vs pairs small shows plain text read some =
    subst (λ (values : List FormatParam). IsReadBackLine IsMediaLine (shown_fmtp_line pt values) (Fmtp pt (v ∷ vs)))
    (fmtp_all_shown (v ∷ vs) shows)
    (line_of_pairs_read pt v vs pairs small shows plain text read some)

of_line : (pt : ℕ) (shown : List FormatParam) → pt ≤ 127 → AreFmtpPairsShown shown → IsPairsLine shown → IsShownLine pt shown ⊎ (shown ≡ [])
of_line pt [] small shows line = inr refl
of_line pt (v ∷ vs) small shows line = grind (arith, fmtp_of_pairs pt v vs line.pairs small shows line.plain line.text line.read)

-- one value that prints something
fmtp_one_shown : (pt : ℕ) (v : FormatParam) → IsRest (param_text v)
    → IsReadBackLine IsMediaLine (media_attribute_text (Fmtp pt (v ∷ []))) (Fmtp pt (v ∷ []))
    → IsShownLine pt (filter is_fmtp_shown (v ∷ []))
fmtp_one_shown pt v shown line = grind arith

values_again : (pt : ℕ) (more : List ℕ) (values : List FormatParam) → pt ≤ 127 → FmtpValues more values
    → IsShownLine pt (filter is_fmtp_shown values) ⊎ (filter is_fmtp_shown values ≡ [])
values_again pt more values small (inl (blanks, text, pairs, joined, are_blanks, are_pairs, read)) =
    search (rules, of_line, fmtp_shown_are, pairs_again)
values_again pt more values small (inr (no_pairs, inl (first, second, others, (body, e, parts), is))) =
    rw is (inl (fmtp_one_shown pt (BarePtList first) (fmtp_list_shown first parts.3.fits)
    (list_printed pt first (BarePtList first) refl small parts.3.fits)))
values_again pt more values small (inr (no_pairs, inr (no_list, inl (last, (body, e, range), is)))) =
    rw is (inl (fmtp_one_shown pt (BareRange last) (omega arith) (range_printed pt last (BareRange last) refl small range.fits)))
values_again pt more values small (inr (no_pairs, inr (no_list, inr (no_range, is)))) = rw is (inr refl)

pub fmtp_again : (text : List ℕ) (pt : ℕ) (values : List FormatParam) → IsFmtp text pt values
    → IsReadBackLine IsMediaLine (media_attribute_text (Fmtp pt values)) (Fmtp pt (filter is_fmtp_shown values)) ⊎
    (filter is_fmtp_shown values ≡ [])
fmtp_again text pt values h = values_again pt h.more values h.number_is.fits h.values_are

-- ---- values that each have a key

keyed_all_shown : (values : List FormatParam) → AllByRecursion IsKeyed values → AreFmtpPairsShown values
keyed_all_shown [] keyed = tt
keyed_all_shown (v ∷ vs) keyed = (keyed_shown v keyed.0, keyed_all_shown vs keyed.1)

-- one or more values of the table of keys, each in its range
pub keyed_values_read : (pt : ℕ) (v : FormatParam) (vs : List FormatParam) → pt ≤ 127 → AllByRecursion IsKeyed (v ∷ vs)
    → IsReadBackLine IsMediaLine (media_attribute_text (Fmtp pt (v ∷ vs))) (Fmtp pt (v ∷ vs))
keyed_values_read pt v vs small keyed =
    let line = keyed_line (v ∷ vs) keyed in
    line_of_pairs_read pt v vs line.pairs small (keyed_all_shown (v ∷ vs) keyed) line.plain line.text line.read (line.some (λ e. cc))
