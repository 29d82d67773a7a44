-- The pairs of an fmtp line are read exactly where they stand.
use Rattle.str0m_sdp.specs.declared.label.TheConstants as label
use Rattle.str0m_signal.proofs.Common.{◌≡◌, ◌⊎◌, ℕ, suc, ◌<◌, Bool, true, false, List, [], ◌∷◌, ◌++◌, length, Option, Some, None, refl, sym}
use Rattle.str0m_signal.proofs.Common.{ap, subst, ◌∙◌, arith, inl, inr, length-append, codes, ne_eqb, ltb-true, lt-ltb, cases_eq, both_ways}
use Rattle.str0m_signal.proofs.Common.{append-nil, some_pair_parts, FormatParam, Lacks, IsRest, Bor, pair_texts, pairs_read_is, params_read}
use Rattle.str0m_signal.proofs.Common.{FirstFit, ◌>>=◌, cut, strip, when, is_rest, num, before, cut_at, cut_found, strip_found}
use Rattle.str0m_signal.proofs.Common.{strip_at, cuts_when_some, lacks_cut_true, lacks_cut_from, LacksCut-append, cuts_bind_some}
use Rattle.str0m_signal.proofs.Common.{cuts_some_is, cuts_if_some, cuts_reads_first}
use Rattle.str0m_signal.proofs.Common.{num_rest_true, number_lacks, num_found, num_reads, cut_before_front, Reads, ArePairsRead}
use Rattle.str0m_signal.proofs.Common.{pairs_read_only}
use Rattle.str0m_signal.proofs.Common.{front, Fmtp, MediaAttribute}
use Rattle.str0m_signal.proofs.Common.{cut_before_lacks}
use Rattle.str0m_signal.proofs.line.BareValuesLaws.{bare_both}
use Rattle.str0m_signal.proofs.line.PairLaws.{pair_value_given, EndsValue, pair_blanks_skipped}
use Rattle.str0m_signal.proofs.line.PairsOneByOne.{all_pairs_found, all_pairs_given}
use Rattle.str0m_signal.specs.form.Fmtp.{IsFmtpBlank, AreFmtpBlanks, IsFmtpKey, IsFmtpValue, IsFmtpEnd, StartsWithoutFmtpBlank, IsFmtpPair}
use Rattle.str0m_signal.specs.form.Fmtp.{AreFmtpPairs}
use Rattle.str0m_signal.specs.form.Fmtp.{IsPairsForm}
use Rattle.str0m_signal.specs.form.Fmtp.{IsListForm, IsRangeForm, IsAnyFmtp, IsFmtp}
use Rattle.str0m_signal.specs.form.FmtpReading.{fmtp_value_read, skip_pair_blanks, fmtp_next_read, fmtp_key_read, pair_read, pairs_read}
use Rattle.str0m_signal.specs.form.FmtpReading.{pair_values_read, pairs_form_read, fmtp_values_read, fmtp_fields_read}
use Rattle.str0m_signal.specs.form.MediaAttribute.{fmtp}
use Rattle.str0m_signal.specs.line.FrontReading.{number_in_front_read}

-- ---- the parts of a pair

fmtp_before_keeps : (c d : ℕ) (text : List ℕ) → Lacks d text → Lacks d (before c text)
fmtp_before_keeps c d text h = go (cut c text) refl
  where
    go : (o : Option (List ℕ × List ℕ)) → cut c text ≡ o → Lacks d (front text o)
    go None e = h
    go (Some p) e = LacksCut-append d p.0 (c ∷ p.1) (rw (cut_found c text p.0 p.1 e).0 at h)

pub fmtp_value_found : (text value rest : List ℕ) → fmtp_value_read text ≡ Some (value, rest) → (text ≡ value ++ rest) × IsFmtpValue value
fmtp_value_found text value rest e = grind (
  arith,
  cuts_bind_some,
  cuts_when_some,
  some_pair_parts,
  fmtp_before_keeps,
  cut_before_lacks,
  ltb-true,
  strip_found,
)

pub fmtp_key_found : (text key : List ℕ) → Lacks 61 text → fmtp_key_read text ≡ Some key → (text ≡ key) × IsFmtpKey key
fmtp_key_found text key equals e = grind (arith, cuts_if_some, cuts_when_some, ltb-true, lacks_cut_from)

pub fmtp_key_given : (key : List ℕ) → IsFmtpKey key → fmtp_key_read key ≡ Some key
fmtp_key_given key h = rw (lacks_cut_true 32 key h.2, lacks_cut_true 9 key h.3, num_rest_true key h.0) refl

-- blanks, and then nothing or another character
pub record SkipsFmtpBlanks (text : List ℕ) : Type 0 where
  pub blanks : List ℕ
  pub joined : text ≡ blanks ++ skip_pair_blanks text
  pub are : AreFmtpBlanks blanks
  pub plain : IsRest (skip_pair_blanks text) → StartsWithoutFmtpBlank (skip_pair_blanks text)

fmtp_skips_blanks_more : (b : ℕ) (xs : List ℕ) → IsFmtpBlank b → skip_pair_blanks (b ∷ xs) ≡ skip_pair_blanks xs → SkipsFmtpBlanks xs
    → SkipsFmtpBlanks (b ∷ xs)
fmtp_skips_blanks_more b xs is e more = record {
  blanks = b ∷ more.blanks;
  joined = ap (λ (t : List ℕ). b ∷ t) more.joined ∙ ap (λ (t : List ℕ). b ∷ (more.blanks ++ t)) (sym e);
  are = (is, more.are);
  plain = λ h. subst StartsWithoutFmtpBlank (sym e) (more.plain (subst IsRest e h));
}

pub fmtp_skips_blanks : (text : List ℕ) → SkipsFmtpBlanks text
fmtp_skips_blanks [] = record { blanks = []; joined = refl; are = tt; plain = λ h. absurd (omega (arith, h)) }
fmtp_skips_blanks (x ∷ xs) = grind (arith, cases_eq, fmtp_skips_blanks_more, fmtp_skips_blanks xs, ne_eqb)

pub fmtp_start_kept : (text : List ℕ) → StartsWithoutFmtpBlank text → skip_pair_blanks text ≡ text
fmtp_start_kept text h = grind arith

fmtp_start_filled : (text : List ℕ) → StartsWithoutFmtpBlank text → IsRest text
fmtp_start_filled text h = grind arith

fmtp_blanks_gone : (blanks : List ℕ) → AreFmtpBlanks blanks → skip_pair_blanks blanks ≡ []
fmtp_blanks_gone blanks h = ap skip_pair_blanks (sym (append-nil blanks)) ∙ pair_blanks_skipped blanks [] h

-- ---- one pair

-- a text after a value goes on so
abbrev FollowsFmtpValue : List ℕ → Option (List ℕ) → Type 0
FollowsFmtpValue text None = IsFmtpEnd text
FollowsFmtpValue text (Some more) = (after : List ℕ) × (text ≡ codes ";" ++ (after ++ more)) × AreFmtpBlanks after
    × StartsWithoutFmtpBlank more

rest_empty : (u : List ℕ) → is_rest u ≡ false → u ≡ []
rest_empty [] e = refl
rest_empty (y ∷ ys) e = absurd (both_ways (is_rest (y ∷ ys)) e (lt-ltb 0 (length (y ∷ ys)) (omega arith)))

fmtp_next_found : (text : List ℕ) (next : Option (List ℕ)) → fmtp_next_read text ≡ Some next → FollowsFmtpValue text next
fmtp_next_found [] next e = subst (FollowsFmtpValue []) (cuts_some_is None next e) (inl refl)
fmtp_next_found (x ∷ xs) next e =
    let filled : is_rest (x ∷ xs) ≡ true = num_rest_true (x ∷ xs) (omega arith) in
    let e' : (strip (codes ";") (x ∷ xs) >>= λ t. Some (when (is_rest (skip_pair_blanks t)) (skip_pair_blanks t))) ≡ Some next =
    rw filled at e in
    let a = cuts_bind_some (strip (codes ";") (x ∷ xs)) (λ t. Some (when (is_rest (skip_pair_blanks t)) (skip_pair_blanks t))) next e' in
    let behind = strip_found (codes ";") (x ∷ xs) a.0 a.1 in
    let s = fmtp_skips_blanks a.0 in
    subst (FollowsFmtpValue (x ∷ xs)) (cuts_some_is (when (is_rest (skip_pair_blanks a.0)) (skip_pair_blanks a.0)) next a.2)
    (go (x ∷ xs) a.0 behind s (is_rest (skip_pair_blanks a.0)) refl)
  where
    go : (text t : List ℕ) → text ≡ codes ";" ++ t → (s : SkipsFmtpBlanks t) (b : Bool) → is_rest (skip_pair_blanks t) ≡ b
        → FollowsFmtpValue text (when b (skip_pair_blanks t))
    go text t behind s true e = (
      s.blanks,
      behind ∙ ap (λ (u : List ℕ). codes ";" ++ u) s.joined,
      s.are,
      s.plain (ltb-true 0 (length (skip_pair_blanks t)) e),
    )
    go text t behind s false e = inr (
      s.blanks,
      behind ∙ ap (λ (u : List ℕ). codes ";" ++ u) (s.joined
          ∙ ap (λ (u : List ℕ). s.blanks ++ u) (rest_empty (skip_pair_blanks t) e) ∙ append-nil s.blanks),
      s.are,
    )

fmtp_pair_stands : (text : List ℕ) (pair : List ℕ × List ℕ) (next : Option (List ℕ)) (tail : List ℕ)
    → text ≡ pair.0 ++ (codes "=" ++ (pair.1 ++ tail)) → IsFmtpKey pair.0 → IsFmtpValue pair.1
    → FollowsFmtpValue (skip_pair_blanks tail) next
    → IsFmtpPair text pair next
fmtp_pair_stands text pair None tail e key value h = grind (arith, fmtp_skips_blanks tail)
fmtp_pair_stands text pair (Some more) tail e key value h = grind (arith, fmtp_skips_blanks tail)

pub fmtp_pair_found : (text : List ℕ) (pair : List ℕ × List ℕ) (next : Option (List ℕ)) → pair_read text ≡ Some (pair, next)
    → IsFmtpPair text pair next
fmtp_pair_found text pair next e =
    let a = cuts_bind_some (cut 61 text) (λ fields. fmtp_key_read fields.0 >>= λ key. fmtp_value_read fields.1
    >>= λ value. fmtp_next_read (skip_pair_blanks value.1) >>= λ next. Some ((key, value.0), next)) (pair, next) e in
    let k = cuts_bind_some (fmtp_key_read a.0.0) (λ key. fmtp_value_read a.0.1 >>= λ value. fmtp_next_read (skip_pair_blanks value.1)
    >>= λ next. Some ((key, value.0), next)) (pair, next) a.2 in
    let v = cuts_bind_some (fmtp_value_read a.0.1) (λ value. fmtp_next_read (skip_pair_blanks value.1)
    >>= λ next. Some ((k.0, value.0), next))
    (pair, next) k.2 in
    let n = cuts_bind_some (fmtp_next_read (skip_pair_blanks v.0.1)) (λ next. Some ((k.0, v.0.0), next)) (pair, next) v.2 in
    let fields = cut_found 61 text a.0.0 a.0.1 a.1 in
    let key = fmtp_key_found a.0.0 k.0 fields.1 k.1 in
    let value = fmtp_value_found a.0.1 v.0.0 v.0.1 v.1 in
    let same = some_pair_parts (k.0, v.0.0) pair n.0 next n.2 in
    let whole : text ≡ k.0 ++ (codes "=" ++ (v.0.0 ++ v.0.1)) =
    fields.0 ∙ ap (λ (t : List ℕ). t ++ (61 ∷ a.0.1)) key.0 ∙ ap (λ (t : List ℕ). k.0 ++ (61 ∷ t)) value.0 in
    let made = fmtp_pair_stands text (k.0, v.0.0) n.0 v.0.1 whole key.1 value.1 (fmtp_next_found (skip_pair_blanks v.0.1) n.0 n.1) in
    subst (λ (p : List ℕ × List ℕ). IsFmtpPair text p next) same.0 (subst (IsFmtpPair text (k.0, v.0.0)) same.1 made)

pub fmtp_pair_shorter : (text : List ℕ) (pair : List ℕ × List ℕ) (more : List ℕ) → pair_read text ≡ Some (pair, Some more)
    → length more < length text
fmtp_pair_shorter text pair more e = grind (
  arith,
  fmtp_pair_found text pair (Some more) e,
  length-append,
  length-append pair.1,
  length-append pair.0,
)

pub texts_push : (pairs : List (Bor (List ℕ) × Bor (List ℕ))) (key value : Bor (List ℕ))
    → pair_texts (pairs ++ (key, value) ∷ []) ≡ pair_texts pairs ++ (key.now, value.now) ∷ []
texts_push [] key value = refl
texts_push (pair ∷ pairs) key value = ap (λ (t : List (List ℕ × List ℕ)). (pair.0.now, pair.1.now) ∷ t) (texts_push pairs key value)

-- ---- what stands so is read

blanks_end : (blanks tail : List ℕ) → AreFmtpBlanks blanks → EndsValue tail → EndsValue (blanks ++ tail)
blanks_end [] tail h e = e
blanks_end (x ∷ xs) tail h e = inr h.0

end_ends : (end : List ℕ) → IsFmtpEnd end → EndsValue end
end_ends end h = elim h [ inl e ↦ subst EndsValue (sym e) tt | inr k ↦ subst EndsValue (sym k.1) (inl refl) ]

end_read : (end : List ℕ) → IsFmtpEnd end → fmtp_next_read (skip_pair_blanks end) ≡ Some None
end_read end h = grind (arith, num_rest_true, fmtp_blanks_gone)

fmtp_next_more : (after more : List ℕ) → AreFmtpBlanks after → StartsWithoutFmtpBlank more
    → fmtp_next_read (59 ∷ (after ++ more)) ≡ Some (Some more)
fmtp_next_more after more h starts =
    rw (
      num_rest_true (59 ∷ (after ++ more)) (omega arith),
      pair_blanks_skipped after more h,
      fmtp_start_kept more starts,
      num_rest_true more (fmtp_start_filled more starts),
    ) refl

pub fmtp_pair_given : (text : List ℕ) (pair : List ℕ × List ℕ) (next : Option (List ℕ)) → IsFmtpPair text pair next
    → pair_read text ≡ Some (pair, next)
fmtp_pair_given text pair None h =
    let tail = h.0 ++ h.1 in
    let key = h.3 in
    let value = h.4 in
    ap pair_read h.2 ∙ rw (
      cut_at 61 pair.0 (pair.1 ++ tail) key.1,
      fmtp_key_given pair.0 key,
      pair_value_given pair.1 tail value.0 value.1 value.2 value.3 (blanks_end h.0 h.1 h.5 (end_ends h.1 h.6)),
      pair_blanks_skipped h.0 h.1 h.5,
      end_read h.1 h.6,
    ) refl
fmtp_pair_given text pair (Some more) h =
    let behind = 59 ∷ (h.1 ++ more) in
    let tail = h.0 ++ behind in
    let key = h.3 in
    let value = h.4 in
    ap pair_read h.2 ∙ rw (
      cut_at 61 pair.0 (pair.1 ++ tail) key.1,
      fmtp_key_given pair.0 key,
      pair_value_given pair.1 tail value.0 value.1 value.2 value.3 (blanks_end h.0 behind h.5 (inl refl)),
      pair_blanks_skipped h.0 behind h.5,
      fmtp_next_more h.1 more h.6 h.7,
    ) refl

pub fmtp_pairs_found : (text : List ℕ) (pairs : List (List ℕ × List ℕ)) → pairs_read text ≡ Some pairs → AreFmtpPairs text pairs
fmtp_pairs_found text pairs e = all_pairs_found pair_read fmtp_pair_shorter IsFmtpPair fmtp_pair_found fmtp_pair_given (suc (length text))
    text
    pairs e

pub fmtp_pairs_given : (text : List ℕ) (pairs : List (List ℕ × List ℕ)) → AreFmtpPairs text pairs → pairs_read text ≡ Some pairs
fmtp_pairs_given text pairs h = all_pairs_given pair_read fmtp_pair_shorter IsFmtpPair fmtp_pair_found fmtp_pair_given pairs
    (suc (length text))
    text h
    (omega arith)

-- ---- the forms of an fmtp line

pub fmtp_key_starts : (key rest : List ℕ) → IsFmtpKey key → StartsWithoutFmtpBlank (key ++ rest)
fmtp_key_starts [] rest h = absurd (omega (arith, h.0))
fmtp_key_starts (x ∷ xs) rest h = λ (b : IsFmtpBlank x). elim b [ inl e ↦ h.2.0 e | inr e ↦ h.3.0 e ]

fmtp_pairs_start : (pairs : List (List ℕ × List ℕ)) (text : List ℕ) → AreFmtpPairs text pairs → StartsWithoutFmtpBlank text
fmtp_pairs_start [] text h = absurd h
fmtp_pairs_start (p ∷ []) text h = subst StartsWithoutFmtpBlank (sym h.2) (fmtp_key_starts p.0 (61 ∷ (p.1 ++ (h.0 ++ h.1))) h.3)
fmtp_pairs_start (p ∷ (q ∷ qs)) text h = subst StartsWithoutFmtpBlank (sym h.1.2)
    (fmtp_key_starts p.0 (61 ∷ (p.1 ++ (h.1.0 ++ (59 ∷ (h.1.1 ++ h.0))))) h.1.3)

fmtp_pairs_both : Reads IsPairsForm pairs_form_read
fmtp_pairs_both = record {
  sound = λ more values e.
      let a = cuts_bind_some (strip (codes " ") more) (λ t. pairs_read (skip_pair_blanks t) >>= λ pairs. Some (params_read pairs)) values e
      in
      let p = cuts_bind_some (pairs_read (skip_pair_blanks a.0)) (λ pairs. Some (params_read pairs)) values a.2 in
      let s = fmtp_skips_blanks a.0 in
      let r = fmtp_pairs_found (skip_pair_blanks a.0) p.0 p.1 in
      let values_are : ArePairsRead p.0 values =
      subst (ArePairsRead p.0) (cuts_some_is (params_read p.0) values p.2) (pairs_read_is p.0) in (
        s.blanks,
        skip_pair_blanks a.0,
        p.0,
        strip_found (codes " ") more a.0 a.1 ∙ ap (λ (t : List ℕ). codes " " ++ t) s.joined,
        s.are,
        r,
        values_are,
      );
  complete = λ more values h.
      let kept : skip_pair_blanks (h.0 ++ h.1) ≡ h.1 = pair_blanks_skipped h.0 h.1 h.4
      ∙ fmtp_start_kept h.1 (fmtp_pairs_start h.2 h.1 h.5) in
      let read : pairs_read (skip_pair_blanks (h.0 ++ h.1)) ≡ Some h.2 = ap pairs_read kept ∙ fmtp_pairs_given h.1 h.2 h.5 in
      ap pairs_form_read h.3 ∙ ap (λ (o : Option (List (List ℕ × List ℕ))). o >>= λ pairs. Some (params_read pairs)) read
      ∙ ap (λ (t : List FormatParam). Some t) (sym (pairs_read_only h.2 values h.6));
}

pub pair_values_of : (text : List ℕ) (pairs : List (List ℕ × List ℕ)) (values : List FormatParam) → Some pairs ≡ pairs_read text
    → ArePairsRead pairs values → Some values ≡ pair_values_read text
pair_values_of text pairs values read are = grind (arith, pairs_read_only)

fmtp_values_both : Reads (FirstFit IsPairsForm (FirstFit IsListForm (FirstFit IsRangeForm IsAnyFmtp))) fmtp_values_read
fmtp_values_both = cuts_reads_first fmtp_pairs_both bare_both

-- what the parts of a line are joined to
abbrev fmtp_line_made : ℕ × List FormatParam → Option MediaAttribute
fmtp_line_made p = Some (Fmtp p.0 p.1)

abbrev fmtp_parts : ℕ → List FormatParam → Option (ℕ × List FormatParam)
fmtp_parts pt values = Some (pt, values)

abbrev fmtp_front : ℕ → List ℕ → Option (ℕ × List ℕ)
fmtp_front pt more = Some (pt, more)

fmtp_made : (pt : ℕ) (o : Option (List FormatParam))
    → ((o >>= λ values. fmtp_parts pt values) >>= fmtp_line_made) ≡ (o >>= λ values. fmtp_line_made (pt, values))
fmtp_made pt None = refl
fmtp_made pt (Some values) = refl

fmtp_bound : (o : Option ℕ) (rest : Option (List ℕ))
    → ((o >>= λ pt. rest >>= λ more. fmtp_values_read more >>= λ values. fmtp_parts pt values) >>= fmtp_line_made)
    ≡ ((o >>= λ pt. rest >>= λ more. fmtp_front pt more) >>= λ found. fmtp_values_read found.1
    >>= λ values. fmtp_line_made (found.0, values))
fmtp_bound None rest = refl
fmtp_bound (Some pt) None = refl
fmtp_bound (Some pt) (Some more) = fmtp_made pt (fmtp_values_read more)

-- a line by the number in its front
pub fmtp_by_number : (text : List ℕ) → fmtp.read text ≡ (strip label.FMTP.now text >>= λ body. number_in_front_read 127 body
    >>= λ found. fmtp_values_read found.1 >>= λ values. Some (Fmtp found.0 values))
fmtp_by_number text = go (strip label.FMTP.now text)
  where
    go : (o : Option (List ℕ)) → ((o >>= λ body. num 127 (before 32 body) >>= λ pt. strip (before 32 body) body
        >>= λ more. fmtp_values_read more >>= λ values. fmtp_parts pt values) >>= fmtp_line_made)
        ≡ (o >>= λ body. number_in_front_read 127 body >>= λ found. fmtp_values_read found.1 >>= λ values. fmtp_line_made (found.0, values))
    go None = refl
    go (Some body) = fmtp_bound (num 127 (before 32 body)) (strip (before 32 body) body)

fmtp_behind_cut : (c : ℕ) (text more : List ℕ) → strip (before c text) text ≡ Some more
    → (more ≡ []) ⊎ ((rest : List ℕ) × (more ≡ c ∷ rest))
fmtp_behind_cut c text more e = go (cut c text) refl e
  where
    go : (o : Option (List ℕ × List ℕ)) → cut c text ≡ o → strip (front text o) text ≡ Some more
        → (more ≡ []) ⊎ ((rest : List ℕ) × (more ≡ c ∷ rest))
    go None cut-is e = inl (cuts_some_is more [] (sym e ∙ ap (strip text) (sym (append-nil text)) ∙ strip_at text []))
    go (Some p) cut-is e =
        let found = cut_found c text p.0 p.1 cut-is in
        inr (p.1, cuts_some_is more (c ∷ p.1) (sym e ∙ ap (strip p.0) found.0 ∙ strip_at p.0 (c ∷ p.1)))

fmtp_before_word : (number more : List ℕ) → Lacks 32 number → (more ≡ []) ⊎ ((rest : List ℕ) × (more ≡ codes " " ++ rest))
    → before 32 (number ++ more) ≡ number
fmtp_before_word number more h ends = grind (arith, cut_before_front, append-nil)

pub fmtp_fields_both : Reads (λ text fields. IsFmtp text fields.0 fields.1) fmtp_fields_read
fmtp_fields_both = record { sound = found; complete = given }
  where
    found : (text : List ℕ) (fields : ℕ × List FormatParam) → fmtp_fields_read text ≡ Some fields → IsFmtp text fields.0 fields.1
    found text fields e =
        let a = cuts_bind_some (strip label.FMTP.now text) (λ body. num 127 (before 32 body) >>= λ pt. strip (before 32 body) body
        >>= λ more. fmtp_values_read more >>= λ values. Some (pt, values)) fields e in
        let n = cuts_bind_some (num 127 (before 32 a.0)) (λ pt. strip (before 32 a.0) a.0 >>= λ more. fmtp_values_read more
        >>= λ values. Some (pt, values)) fields a.2 in
        let m = cuts_bind_some (strip (before 32 a.0) a.0) (λ more. fmtp_values_read more >>= λ values. Some (n.0, values)) fields n.2 in
        let v = cuts_bind_some (fmtp_values_read m.0) (λ values. Some (n.0, values)) fields m.2 in
        let made : IsFmtp text n.0 v.0 = record {
          number = before 32 a.0;
          more = m.0;
          joined = strip_found label.FMTP.now text a.0 a.1 ∙ ap (λ (t : List ℕ). label.FMTP.now ++ t)
              (strip_found (before 32 a.0) a.0 m.0 m.1);
          number_is = num_found 127 (before 32 a.0) n.0 n.1;
          word_ends = fmtp_behind_cut 32 a.0 m.0 m.1;
          values_are = fmtp_values_both.sound m.0 v.0 v.1;
        } in
        subst (λ (f : ℕ × List FormatParam). IsFmtp text f.0 f.1) (cuts_some_is (n.0, v.0) fields v.2) made

    given : (text : List ℕ) (fields : ℕ × List FormatParam) → IsFmtp text fields.0 fields.1 → fmtp_fields_read text ≡ Some fields
    given text fields h =
        let lacks = number_lacks 32 h.number (omega arith) (λ e. absurd (omega arith)) h.number_is.numeral in
        ap fmtp_fields_read h.joined ∙ rw (
          fmtp_before_word h.number h.more lacks h.word_ends,
          num_reads 127 h.number fields.0 h.number_is,
          strip_at h.number h.more,
          fmtp_values_both.complete h.more fields.1 h.values_are,
        ) refl
