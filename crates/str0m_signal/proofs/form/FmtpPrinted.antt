-- Printed fmtp lines have their forms: pairs, `apt=N`, `N/N` and `0-N`.
use Rattle.str0m_formats.proofs.{parsed_param, IsSolid, solid_lacks}
use Rattle.str0m_formats.specs.format.FormatParamReading.{param_of}
use Rattle.str0m_formats.specs.format.Pairs.{has_triple_mark}
use Rattle.str0m_formats.specs.format.PairsReading.{params_read}
use Rattle.str0m_sdp.specs.declared.label.TheConstants as label
use Rattle.str0m_signal.proofs.Common.{◌≡◌, ◌≤◌, ℕ, List, [], ◌∷◌, ◌++◌, map, filter, length, length-append, refl, sym, ap, ◌∙◌, subst}
use Rattle.str0m_signal.proofs.Common.{arith, lit<, lit≤, inl, inr, codes, AllByRecursion, join_with_byte, join_by, decimal, IsNumeral}
use Rattle.str0m_signal.proofs.Common.{digits_value, lt-ltb, decimal_is_IsNumeral, decimal_nonempty, append_assoc, append-nil, FirstFit}
use Rattle.str0m_signal.proofs.Common.{Lacks, IsRest, IsNum, param_text, FormatParam, BareRange, BarePtList, Apt, pairs_read_is}
use Rattle.str0m_signal.proofs.Common.{IsSolidPair, joined_pair, media_attribute_text, is_fmtp_shown, shown_fmtp_line, attribute_line, Fmtp}
use Rattle.str0m_signal.proofs.Common.{address_lacks_both, param_decimal_solid, parsed_param_printed}
use Rattle.str0m_signal.proofs.form.FmtpLaws.{fmtp_key_starts}
use Rattle.str0m_signal.proofs.line.AttributesPrinted.{HoldsNoEnd, no_ends, no_end, attribute_num_is, attribute_decimal_lacks}
use Rattle.str0m_signal.proofs.line.AttributesPrinted.{decimal_no_end}
use Rattle.str0m_signal.proofs.line.AttributesPrinted.{attribute_printed}
use Rattle.str0m_signal.specs.back.Writable.{IsReadBackLine}
use Rattle.str0m_signal.specs.form.Fmtp.{IsFmtpKey, IsFmtpValue, StartsWithoutFmtpBlank, AreFmtpPairs, IsPairsForm, IsListForm, IsRangeForm}
use Rattle.str0m_signal.specs.form.Fmtp.{IsAnyFmtp, IsFmtp}
use Rattle.str0m_signal.specs.form.MediaAttribute.{IsMediaLine}

-- the first of the four forms that holds
abbrev pub FmtpValues : List ℕ → List FormatParam → Type 0
FmtpValues = FirstFit IsPairsForm (FirstFit IsListForm (FirstFit IsRangeForm IsAnyFmtp))

-- the line of a type and a text whose form reads as these values
pub fmtp_line_printed : (pt : ℕ) (body : List ℕ) (values : List FormatParam) → pt ≤ 127 → HoldsNoEnd body
    → FmtpValues (codes " " ++ body) values
    → IsReadBackLine IsMediaLine (attribute_line (label.FMTP.now ++ (decimal pt ++ (codes " " ++ body)))) (Fmtp pt values)
fmtp_line_printed pt body values small quiet are =
    attribute_printed (label.FMTP.now ++ (decimal pt ++ (codes " " ++ body))) (Fmtp pt values)
    (no_ends label.FMTP.now _ (no_end label.FMTP.now refl refl)
    (no_ends (decimal pt) _ (decimal_no_end pt (omega arith)) (no_ends (codes " ") body (no_end (codes " ") refl refl) quiet)))
    (inr (inl ((pt, values), is, refl)))
  where
    is : IsFmtp (label.FMTP.now ++ (decimal pt ++ (codes " " ++ body))) pt values
    is = record {
      number = decimal pt;
      more = codes " " ++ body;
      joined = refl;
      number_is = attribute_num_is 127 pt small (lit< tt);
      word_ends = inr (body, refl);
      values_are = are;
    }

-- ---- which earlier forms don't hold

fmtp_lacks_not_at : (c : ℕ) (a b : List ℕ) → Lacks c (a ++ (c ∷ b)) → ⊥
fmtp_lacks_not_at c [] b h = h.0 refl
fmtp_lacks_not_at c (x ∷ xs) b h = fmtp_lacks_not_at c xs b h.1

pub fmtp_behind_lacks : (c : ℕ) (a b : List ℕ) → Lacks c (a ++ b) → Lacks c b
fmtp_behind_lacks c [] b h = h
fmtp_behind_lacks c (x ∷ xs) b h = fmtp_behind_lacks c xs b h.1

-- pairs hold `=`
fmtp_pairs_hold : (text : List ℕ) (pairs : List (List ℕ × List ℕ)) → AreFmtpPairs text pairs → Lacks 61 text → ⊥
fmtp_pairs_hold text [] h lacks = h
fmtp_pairs_hold text (p ∷ []) h lacks = fmtp_lacks_not_at 61 p.0 (p.1 ++ (h.0 ++ h.1)) (subst (Lacks 61) h.2 lacks)
fmtp_pairs_hold text (p ∷ (q ∷ qs)) h lacks = fmtp_lacks_not_at 61 p.0 (p.1 ++ (h.1.0 ++ (59 ∷ (h.1.1 ++ h.0))))
    (subst (Lacks 61) h.1.2 lacks)

pub fmtp_no_pairs : (text : List ℕ) → Lacks 61 text → (values : List FormatParam) → IsPairsForm (codes " " ++ text) values → ⊥
fmtp_no_pairs text lacks values h = grind (arith, fmtp_pairs_hold, fmtp_behind_lacks)

-- lists hold `/`
pub fmtp_no_list : (text : List ℕ) → Lacks 47 text → (values : List FormatParam) → IsListForm (codes " " ++ text) values → ⊥
fmtp_no_list text lacks values (first, second, others, (body, e, parts), made) = grind (arith, fmtp_lacks_not_at)

-- ---- a list of one type twice

pub fmtp_list_is : (n : ℕ) → n ≤ 255 → FmtpValues (codes " " ++ (decimal n ++ (codes "/" ++ decimal n))) (BarePtList n ∷ [])
fmtp_list_is n small = inr (fmtp_no_pairs body no_equals, inl (n, n, [], (body, refl, (decimal n, decimal n, refl, number, number)), refl))
  where
    body : List ℕ
    body = decimal n ++ (codes "/" ++ decimal n)

    number : IsNum 255 (decimal n) n
    number = attribute_num_is 255 n small (lit< tt)

    no_equals : Lacks 61 body
    no_equals =
        address_lacks_both 61 (decimal n) (codes "/" ++ decimal n) (attribute_decimal_lacks 61 n (lit≤ tt) (omega arith))
        ((λ e. absurd (omega (arith, e))), attribute_decimal_lacks 61 n (lit≤ tt) (omega arith))

-- ---- a range of events

pub fmtp_range_is : (n : ℕ) → n ≤ 255 → FmtpValues (codes " " ++ (codes "0-" ++ decimal n)) (BareRange n ∷ [])
fmtp_range_is n small =
    inr (
      fmtp_no_pairs body no_equals,
      inr
          (fmtp_no_list body no_slash, inl (n, (body, refl, record { range = (decimal n, refl, digits.0, digits.1); fits = small }), refl)),
    ) where
      body : List ℕ
      body = codes "0-" ++ decimal n

      digits : IsNumeral 10 (decimal n) × (digits_value 10 (decimal n) ≡ n)
      digits = decimal_is_IsNumeral n (omega arith)

      no_equals : Lacks 61 body
      no_equals = (
        (λ e. absurd (omega (arith, e))),
        ((λ e. absurd (omega (arith, e))), attribute_decimal_lacks 61 n (lit≤ tt) (omega arith)),
      )

      no_slash : Lacks 47 body
      no_slash = (
        (λ e. absurd (omega (arith, e))),
        ((λ e. absurd (omega (arith, e))), attribute_decimal_lacks 47 n (lit≤ tt) (omega arith)),
      )

-- ---- pairs

fmtp_solid_key : (pair : List ℕ × List ℕ) → IsSolidPair pair → IsFmtpKey pair.0
fmtp_solid_key pair h = (h.2, solid_lacks 61 pair.0 refl h.0, solid_lacks 32 pair.0 refl h.0, solid_lacks 9 pair.0 refl h.0)

fmtp_solid_value : (pair : List ℕ × List ℕ) → IsSolidPair pair → IsFmtpValue pair.1
fmtp_solid_value pair h = (h.3, solid_lacks 59 pair.1 refl h.1, solid_lacks 32 pair.1 refl h.1, solid_lacks 9 pair.1 refl h.1)

fmtp_starts_joined : (q : List ℕ × List ℕ) (qs : List (List ℕ × List ℕ)) → IsSolidPair q
    → StartsWithoutFmtpBlank (join_with_byte 59 (map joined_pair (q ∷ qs)))
fmtp_starts_joined q [] h = fmtp_key_starts q.0 (61 ∷ q.1) (fmtp_solid_key q h)
fmtp_starts_joined q (r ∷ qs) h =
    rw (append_assoc q.0 (61 ∷ q.1) (59 ∷ join_with_byte 59 (map joined_pair (r ∷ qs))))
    (fmtp_key_starts q.0 ((61 ∷ q.1) ++ (59 ∷ join_with_byte 59 (map joined_pair (r ∷ qs)))) (fmtp_solid_key q h))

-- solid pairs, joined, are read as these pairs
pub fmtp_are_pairs : (p : List ℕ × List ℕ) (ps : List (List ℕ × List ℕ)) → AllByRecursion IsSolidPair (p ∷ ps)
    → AreFmtpPairs (join_with_byte 59 (map joined_pair (p ∷ ps))) (p ∷ ps)
fmtp_are_pairs p [] h = (
  [],
  [],
  ap (λ (t : List ℕ). p.0 ++ (61 ∷ t)) (sym (append-nil p.1)),
  fmtp_solid_key p h.0,
  fmtp_solid_value p h.0,
  tt,
  inl refl,
)
fmtp_are_pairs p (q ∷ qs) h = grind (arith, append_assoc, fmtp_solid_key, fmtp_solid_value, fmtp_starts_joined, fmtp_are_pairs q qs h.1)

pub fmtp_pairs_are : (p : List ℕ × List ℕ) (ps : List (List ℕ × List ℕ)) → AllByRecursion IsSolidPair (p ∷ ps)
    → FmtpValues (codes " " ++ join_with_byte 59 (map joined_pair (p ∷ ps))) (params_read (p ∷ ps))
fmtp_pairs_are p ps h = inl (
  [],
  join_with_byte 59 (map joined_pair (p ∷ ps)),
  p ∷ ps,
  refl,
  tt,
  fmtp_are_pairs p ps h,
  pairs_read_is (p ∷ ps),
)

solid_no_end : (text : List ℕ) → IsSolid text → HoldsNoEnd text
solid_no_end text h = (solid_lacks 10 text refl h, solid_lacks 13 text refl h)

pair_no_end : (pair : List ℕ × List ℕ) → IsSolidPair pair → HoldsNoEnd (joined_pair pair)
pair_no_end pair h = grind (arith, no_ends, solid_no_end, no_end)

pub pairs_no_end : (p : List ℕ × List ℕ) (ps : List (List ℕ × List ℕ)) → AllByRecursion IsSolidPair (p ∷ ps)
    → HoldsNoEnd (join_with_byte 59 (map joined_pair (p ∷ ps)))
pairs_no_end p [] h = pair_no_end p h.0
pairs_no_end p (q ∷ qs) h = grind (arith, no_ends, pair_no_end, no_end, pairs_no_end q qs h.1)

-- ---- the primary type of retransmissions

abbrev pub apt_pair : ℕ → List ℕ × List ℕ
apt_pair n = (codes "apt", decimal n)

apt_solid : (n : ℕ) → n ≤ 255 → IsSolidPair (apt_pair n)
apt_solid n small = ((refl, (refl, (refl, tt))), param_decimal_solid n (omega arith), lit< tt, decimal_nonempty n (omega arith))

apt_read : (n : ℕ) → n ≤ 255 → params_read (apt_pair n ∷ []) ≡ Apt n ∷ []
unfolding params_read has_triple_mark
apt_read n small =
    ap (λ (p : FormatParam). p ∷ [])
    (parsed_param_printed (codes "apt") (decimal n) (param_of (apt_pair n)) (parsed_param (codes "apt") (decimal n)) (Apt n)
    (refl, refl, small))

pub apt_value_is : (n : ℕ) → n ≤ 255 → FmtpValues (codes " " ++ (codes "apt=" ++ decimal n)) (Apt n ∷ [])
apt_value_is n small = grind (arith, apt_read n small, fmtp_pairs_are (apt_pair n) [], apt_solid n small)

-- ---- the lines of values

-- the values as they print: each shows something
abbrev pub AreFmtpPairsShown : List FormatParam → Type 0
AreFmtpPairsShown values = AllByRecursion (λ v. IsRest (param_text v)) values

pub fmtp_all_shown : (values : List FormatParam) → AreFmtpPairsShown values → filter is_fmtp_shown values ≡ values
fmtp_all_shown [] h = refl
fmtp_all_shown (v ∷ vs) h = rw (lt-ltb 0 (length (param_text v)) h.0) (ap (λ (ws : List FormatParam). v ∷ ws) (fmtp_all_shown vs h.1))

pub fmtp_shown_join_same : (values : List FormatParam) → join_by param_text (codes ";") values ≡ join_with_byte 59 (map param_text values)
fmtp_shown_join_same [] = refl
fmtp_shown_join_same (v ∷ []) = append-nil (param_text v)
fmtp_shown_join_same (v ∷ (w ∷ ws)) = ap (λ (t : List ℕ). param_text v ++ (59 ∷ t)) (fmtp_shown_join_same (w ∷ ws))

-- a line of values whose joined text reads as others
pub line_values_printed : (pt : ℕ) (v : FormatParam) (vs : List FormatParam) (body : List ℕ) (read : List FormatParam) → pt ≤ 127
    → AreFmtpPairsShown (v ∷ vs)
    → join_with_byte 59 (map param_text (v ∷ vs)) ≡ body → HoldsNoEnd body → FmtpValues (codes " " ++ body) read
    → IsReadBackLine IsMediaLine (media_attribute_text (Fmtp pt (v ∷ vs))) (Fmtp pt read)
line_values_printed pt v vs body read small shown e quiet are =
    grind (
      arith,
      shown_fmtp_line pt,
      fmtp_all_shown (v ∷ vs) shown,
      fmtp_shown_join_same (v ∷ vs),
      fmtp_line_printed pt body read small quiet are,
    )

pub apt_printed : (pt n : ℕ) → pt ≤ 127 → n ≤ 255
    → IsReadBackLine IsMediaLine (media_attribute_text (Fmtp pt (Apt n ∷ []))) (Fmtp pt (Apt n ∷ []))
apt_printed pt n small fits =
    line_values_printed pt (Apt n) [] (codes "apt=" ++ decimal n) (Apt n ∷ []) small (omega arith, tt) refl
    (no_ends (codes "apt=") (decimal n) (no_end (codes "apt=") refl refl) (decimal_no_end n (omega arith))) (apt_value_is n fits)

pub fmtp_list_shown : (n : ℕ) → n ≤ 255 → IsRest ((decimal n ++ codes "/") ++ decimal n)
fmtp_list_shown n small = omega (arith, length-append (decimal n ++ codes "/") (decimal n), decimal_nonempty n (omega arith))

list_no_end : (n : ℕ) → n ≤ 255 → HoldsNoEnd (decimal n ++ (codes "/" ++ decimal n))
list_no_end n small = grind (arith, no_ends, decimal_no_end, no_end)

-- `N/N`, however it came about, is read as a list
pub list_printed : (pt n : ℕ) (v : FormatParam) → param_text v ≡ (decimal n ++ codes "/") ++ decimal n → pt ≤ 127 → n ≤ 255
    → IsReadBackLine IsMediaLine (media_attribute_text (Fmtp pt (v ∷ []))) (Fmtp pt (BarePtList n ∷ []))
list_printed pt n v text small fits =
    line_values_printed pt v [] (decimal n ++ (codes "/" ++ decimal n)) (BarePtList n ∷ []) small
    (subst IsRest (sym text) (fmtp_list_shown n fits), tt)
    (text ∙ append_assoc (decimal n) (codes "/") (decimal n)) (list_no_end n fits) (fmtp_list_is n fits)

range_no_end : (n : ℕ) → n ≤ 255 → HoldsNoEnd (codes "0-" ++ decimal n)
range_no_end n small = no_ends (codes "0-") (decimal n) (no_end (codes "0-") refl refl) (decimal_no_end n (omega arith))

-- `0-N`, however it came about, is read as a range
pub range_printed : (pt n : ℕ) (v : FormatParam) → param_text v ≡ codes "0-" ++ decimal n → pt ≤ 127 → n ≤ 255
    → IsReadBackLine IsMediaLine (media_attribute_text (Fmtp pt (v ∷ []))) (Fmtp pt (BareRange n ∷ []))
range_printed pt n v text small fits =
    let shown : IsRest (codes "0-" ++ decimal n) = omega arith in
    line_values_printed pt v [] (codes "0-" ++ decimal n) (BareRange n ∷ []) small (subst IsRest (sym text) shown, tt) text
    (range_no_end n fits) (fmtp_range_is n fits)

-- a line whose text is that of solid pairs reads as what these read as together
pub pairs_printed : (pt : ℕ) (v : FormatParam) (vs : List FormatParam) (p : List ℕ × List ℕ) (ps : List (List ℕ × List ℕ))
    → pt ≤ 127 → AreFmtpPairsShown (v ∷ vs)
    → AllByRecursion IsSolidPair (p ∷ ps) → join_with_byte 59 (map param_text (v ∷ vs)) ≡ join_with_byte 59 (map joined_pair (p ∷ ps))
    → IsReadBackLine IsMediaLine (media_attribute_text (Fmtp pt (v ∷ vs))) (Fmtp pt (params_read (p ∷ ps)))
pairs_printed pt v vs p ps small shown plain e =
    line_values_printed pt v vs (join_with_byte 59 (map joined_pair (p ∷ ps))) (params_read (p ∷ ps)) small shown e
    (pairs_no_end p ps plain) (fmtp_pairs_are p ps plain)
