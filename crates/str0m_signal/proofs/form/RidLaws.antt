-- The line of a stream that may be restricted is read exactly where its form holds.
use Rattle.str0m_signal.proofs.Common.{◌≡◌, ℕ, suc, ◌<◌, List, [], ◌∷◌, ◌++◌, length, Option, Some, None, refl, sym, ap, subst, ◌∙◌, arith}
use Rattle.str0m_signal.proofs.Common.{inl, inr, length-append, codes, some_pair_parts, none-some, append-nil, ◌>>=◌, cut, strip}
use Rattle.str0m_signal.proofs.Common.{PartedAddress}
use Rattle.str0m_signal.proofs.Common.{Lacks, IsPt, cuts_bind_some, cuts_some_is, cut_none, cut_at, cut_found, strip_at, strip_found}
use Rattle.str0m_signal.proofs.Common.{cuts_when_some}
use Rattle.str0m_signal.proofs.Common.{number_lacks, num_rest_true, candidate_num_both, Reads, append_assoc, strip_none, Pairs}
use Rattle.str0m_signal.proofs.form.FmtpLaws.{fmtp_value_found, fmtp_key_found, fmtp_key_given, fmtp_skips_blanks, fmtp_start_kept}
use Rattle.str0m_signal.proofs.form.FmtpLaws.{fmtp_key_starts}
use Rattle.str0m_signal.proofs.form.FormLaws.{form_two_both}
use Rattle.str0m_signal.proofs.form.SimulcastLaws.{simulcast_stream_name_from, simulcast_stream_name_true, simulcast_parted_lacks}
use Rattle.str0m_signal.proofs.line.PairLaws.{EndsValue, pair_value_given, pair_blanks_skipped}
use Rattle.str0m_signal.proofs.line.PairsOneByOne.{all_pairs_found, all_pairs_given}
use Rattle.str0m_signal.proofs.line.PartLaws.{parted_both}
use Rattle.str0m_signal.specs.form.Fmtp.{AreFmtpBlanks, IsFmtpKey, IsFmtpValue, AreFmtpPairsOneByOne}
use Rattle.str0m_signal.specs.form.FmtpReading.{fmtp_value_read, skip_pair_blanks, fmtp_key_read, fmtp_pairs_at, key_and_rest_read}
use Rattle.str0m_signal.specs.form.Rid.{IsActiveRid, IsRestriction, AreRestrictions, AreTyped, AreRidLists, IsRidMore, IsDirection}
use Rattle.str0m_signal.specs.form.Rid.{IsDirectedRid}
use Rattle.str0m_signal.specs.form.Rid.{IsRid}
use Rattle.str0m_signal.specs.form.RidReading.{active_read, next_read, restriction_read, restrictions_read, restricted_read, pts_read}
use Rattle.str0m_signal.specs.form.RidReading.{typed_after, typed_read, rid_lists_after, lists_read, more_read, direction_read}
use Rattle.str0m_signal.specs.form.RidReading.{directed_read}
use Rattle.str0m_signal.specs.form.RidReading.{rid_fields_read}

-- ---- one restriction

-- a restriction, and after it the end, or `;` and more
abbrev pub RidPairStands : List ℕ → List ℕ × List ℕ → Option (List ℕ) → Type 0
RidPairStands text pair None = IsRestriction text pair
RidPairStands text pair (Some more) = (part : List ℕ) × (text ≡ part ++ (59 ∷ more)) × IsRestriction part pair

-- what stands after a value
abbrev rid_tail_of : Option (List ℕ) → List ℕ
rid_tail_of None = []
rid_tail_of (Some more) = 59 ∷ more

rid_next_found : (text : List ℕ) (next : Option (List ℕ)) → next_read text ≡ Some next → text ≡ rid_tail_of next
rid_next_found [] next e = ap rid_tail_of (cuts_some_is None next e)
rid_next_found (x ∷ xs) next e =
    let e' : (strip (codes ";") (x ∷ xs) >>= λ more. Some (Some more)) ≡ Some next = rw (num_rest_true (x ∷ xs) (omega arith)) at e in
    let a = cuts_bind_some (strip (codes ";") (x ∷ xs)) (λ more. Some (Some more)) next e' in
    strip_found (codes ";") (x ∷ xs) a.0 a.1 ∙ ap rid_tail_of (cuts_some_is (Some a.0) next a.2)

rid_next_given : (next : Option (List ℕ)) → next_read (rid_tail_of next) ≡ Some next
rid_next_given next = grind arith

tail_ends : (next : Option (List ℕ)) → EndsValue (rid_tail_of next)
tail_ends next = grind arith

-- blanks, key, `=` and value, and what stands after them
regroup_rid_pair : (blanks key value tail : List ℕ) → (blanks ++ (key ++ (61 ∷ value))) ++ tail ≡ blanks ++ (key ++ (61 ∷ (value ++ tail)))
regroup_rid_pair blanks key value tail = grind (arith, append_assoc)

rid_pair_stands : (text blanks : List ℕ) (pair : List ℕ × List ℕ) (next : Option (List ℕ))
    → text ≡ (blanks ++ (pair.0 ++ (61 ∷ pair.1))) ++ rid_tail_of next → AreFmtpBlanks blanks → IsFmtpKey pair.0 → IsFmtpValue pair.1
    → RidPairStands text pair next
rid_pair_stands text blanks pair next e are key value = grind (arith, append-nil)

-- one is read by its key, its value, and what stands behind
pub restriction_by_key : (text : List ℕ) → restriction_read text ≡ (key_and_rest_read (skip_pair_blanks text) >>= λ k. fmtp_value_read k.1
    >>= λ value. next_read value.1 >>= λ next. Some ((k.0, value.0), next))
restriction_by_key text = grind arith

pub restriction_found : (text : List ℕ) (pair : List ℕ × List ℕ) (next : Option (List ℕ)) → restriction_read text ≡ Some (pair, next)
    → RidPairStands text pair next
restriction_found text pair next e =
    let a = cuts_bind_some (cut 61 (skip_pair_blanks text)) (λ fields. fmtp_key_read fields.0 >>= λ key. fmtp_value_read fields.1
    >>= λ value. next_read value.1 >>= λ next. Some ((key, value.0), next)) (pair, next) e in
    let k = cuts_bind_some (fmtp_key_read a.0.0) (λ key. fmtp_value_read a.0.1 >>= λ value. next_read value.1
    >>= λ next. Some ((key, value.0), next)) (pair, next) a.2 in
    let v = cuts_bind_some (fmtp_value_read a.0.1) (λ value. next_read value.1 >>= λ next. Some ((k.0, value.0), next)) (pair, next) k.2 in
    let n = cuts_bind_some (next_read v.0.1) (λ next. Some ((k.0, v.0.0), next)) (pair, next) v.2 in
    let s = fmtp_skips_blanks text in
    let fields = cut_found 61 (skip_pair_blanks text) a.0.0 a.0.1 a.1 in
    let key = fmtp_key_found a.0.0 k.0 fields.1 k.1 in
    let value = fmtp_value_found a.0.1 v.0.0 v.0.1 v.1 in
    let same = some_pair_parts (k.0, v.0.0) pair n.0 next n.2 in
    let plain : skip_pair_blanks text ≡ k.0 ++ (61 ∷ (v.0.0 ++ rid_tail_of n.0)) =
    fields.0 ∙ ap (λ (t : List ℕ). t ++ (61 ∷ a.0.1)) key.0
    ∙ ap (λ (t : List ℕ). k.0 ++ (61 ∷ t)) (value.0 ∙ ap (λ (t : List ℕ). v.0.0 ++ t) (rid_next_found v.0.1 n.0 n.1)) in
    let whole : text ≡ (s.blanks ++ (k.0 ++ (61 ∷ v.0.0))) ++ rid_tail_of n.0 =
    s.joined ∙ ap (λ (t : List ℕ). s.blanks ++ t) plain ∙ sym (regroup_rid_pair s.blanks k.0 v.0.0 (rid_tail_of n.0)) in
    let made = rid_pair_stands text s.blanks (k.0, v.0.0) n.0 whole s.are key.1 value.1 in
    subst (λ (p : List ℕ × List ℕ). RidPairStands text p next) same.0 (subst (RidPairStands text (k.0, v.0.0)) same.1 made)

pair_read_so : (text blanks : List ℕ) (pair : List ℕ × List ℕ) (next : Option (List ℕ))
    → text ≡ (blanks ++ (pair.0 ++ (61 ∷ pair.1))) ++ rid_tail_of next → AreFmtpBlanks blanks → IsFmtpKey pair.0 → IsFmtpValue pair.1
    → restriction_read text ≡ Some (pair, next)
pair_read_so text blanks pair next e are key value =
    let body = pair.0 ++ (61 ∷ (pair.1 ++ rid_tail_of next)) in
    let plain : skip_pair_blanks text ≡ body =
    ap skip_pair_blanks (e ∙ regroup_rid_pair blanks pair.0 pair.1 (rid_tail_of next)) ∙ pair_blanks_skipped blanks body are
    ∙ fmtp_start_kept body (fmtp_key_starts pair.0 (61 ∷ (pair.1 ++ rid_tail_of next)) key) in
    rw (
      plain,
      cut_at 61 pair.0 (pair.1 ++ rid_tail_of next) key.1,
      fmtp_key_given pair.0 key,
      pair_value_given pair.1 (rid_tail_of next) value.0 value.1 value.2 value.3 (tail_ends next),
      rid_next_given next,
    ) refl

pub restriction_given : (text : List ℕ) (pair : List ℕ × List ℕ) (next : Option (List ℕ)) → RidPairStands text pair next
    → restriction_read text ≡ Some (pair, next)
restriction_given text pair None h = pair_read_so text h.0 pair None (h.1 ∙ sym (append-nil (h.0 ++ (pair.0 ++ (61 ∷ pair.1))))) h.2 h.3 h.4
restriction_given text pair (Some more) h = grind (arith, pair_read_so text h.2.0 pair (Some more))

pub restriction_shorter : (text : List ℕ) (pair : List ℕ × List ℕ) (more : List ℕ) → restriction_read text ≡ Some (pair, Some more)
    → length more < length text
restriction_shorter text pair more e = grind (arith, restriction_found text pair (Some more) e, length-append)

-- ---- restrictions

rid_found_parted : (pairs : Pairs) (text : List ℕ) → AreFmtpPairsOneByOne RidPairStands text pairs
    → PartedAddress 59 IsRestriction text pairs
rid_found_parted [] text h = h
rid_found_parted (p ∷ []) text h = h
rid_found_parted (p ∷ (q ∷ qs)) text h = (h.1.0, h.0, h.1.1, h.1.2, rid_found_parted (q ∷ qs) h.0 h.2)

rid_parted_stands : (pairs : Pairs) (text : List ℕ) → PartedAddress 59 IsRestriction text pairs
    → AreFmtpPairsOneByOne RidPairStands text pairs
rid_parted_stands [] text h = h
rid_parted_stands (p ∷ []) text h = h
rid_parted_stands (p ∷ (q ∷ qs)) text h = (h.1, (h.0, h.2, h.3), rid_parted_stands (q ∷ qs) h.1 h.4)

restrictions_found : (text : List ℕ) (pairs : Pairs) → restrictions_read text ≡ Some pairs → PartedAddress 59 IsRestriction text pairs
restrictions_found text pairs e =
    rid_found_parted pairs text (all_pairs_found restriction_read restriction_shorter RidPairStands restriction_found restriction_given
    (suc (length text))
    text pairs e)

restrictions_given : (text : List ℕ) (pairs : Pairs) → PartedAddress 59 IsRestriction text pairs → restrictions_read text ≡ Some pairs
restrictions_given text pairs h =
    all_pairs_given restriction_read restriction_shorter RidPairStands restriction_found restriction_given pairs (suc (length text)) text
    (rid_parted_stands pairs text h) (omega arith)

rid_none_restrict : restrictions_read [] ≡ None
unfolding fmtp_pairs_at
rid_none_restrict = refl

restricted_both : Reads AreRestrictions restricted_read
restricted_both = record { sound = found; complete = given }
  where
    some_of : (text : List ℕ) (pairs : Pairs) → PartedAddress 59 IsRestriction text pairs → AreRestrictions text pairs
    some_of text [] h = absurd h
    some_of text (p ∷ ps) h = h

    found : (text : List ℕ) (pairs : Pairs) → restricted_read text ≡ Some pairs → AreRestrictions text pairs
    found [] pairs e = subst (AreRestrictions []) (cuts_some_is [] pairs e) refl
    found (x ∷ xs) pairs e =
        let e' : restrictions_read (x ∷ xs) ≡ Some pairs = rw (num_rest_true (x ∷ xs) (omega arith)) at e in
        some_of (x ∷ xs) pairs (restrictions_found (x ∷ xs) pairs e')

    given : (text : List ℕ) (pairs : Pairs) → AreRestrictions text pairs → restricted_read text ≡ Some pairs
    given text [] h = rw h refl
    given [] (p ∷ ps) h = absurd (none-some (p ∷ ps) (sym rid_none_restrict ∙ restrictions_given [] (p ∷ ps) h))
    given (x ∷ xs) (p ∷ ps) h = rw (num_rest_true (x ∷ xs) (omega arith)) (restrictions_given (x ∷ xs) (p ∷ ps) h)

-- ---- payload types

rid_pts_both : Reads (PartedAddress 44 IsPt) pts_read
rid_pts_both = parted_both 44 (candidate_num_both 127)
    (λ text n h. number_lacks 44 text (omega arith) (λ e. absurd (omega arith)) h.numeral)

types_semicolon : (text types : List ℕ) → PartedAddress 44 IsPt text types → Lacks 59 text
types_semicolon text types h = grind (arith, simulcast_parted_lacks, number_lacks)

-- ---- the lists

typed_found : (text : List ℕ) (lists : List ℕ × Pairs) (o : Option (List ℕ × List ℕ)) → cut 59 text ≡ o → typed_after text o ≡ Some lists
    → AreTyped text lists
typed_found text lists None is e = grind (arith, cuts_bind_some, cuts_some_is, rid_pts_both)
typed_found text lists (Some p) is e =
    let a = cuts_bind_some (pts_read p.0) (λ types. restricted_read p.1 >>= λ pairs. Some (types, pairs)) lists e in
    let b = cuts_bind_some (restricted_read p.1) (λ pairs. Some (a.0, pairs)) lists a.2 in
    let found = cut_found 59 text p.0 p.1 is in
    rw (← cuts_some_is (a.0, b.0) lists b.2)
    (inr (p.0, p.1, found.0, found.1, rid_pts_both.sound p.0 a.0 a.1, restricted_both.sound p.1 b.0 b.1))

typed_both : Reads AreTyped typed_read
typed_both = grind (arith, typed_found, cut_none, types_semicolon, rid_pts_both, cut_at, restricted_both)

rid_lists_found : (text : List ℕ) (lists : List ℕ × Pairs) (o : Option (List ℕ)) → strip (codes "pt=") text ≡ o
    → rid_lists_after text o ≡ Some lists → AreRidLists text lists
rid_lists_found text lists None is e = grind (arith, cuts_bind_some, none-some, strip_at, cuts_some_is, restricted_both)
rid_lists_found text lists (Some typed) is e = inl (typed, strip_found (codes "pt=") text typed is, typed_both.sound typed lists e)

rid_lists_both : Reads AreRidLists lists_read
rid_lists_both = record {
  sound = λ text lists e. rid_lists_found text lists (strip (codes "pt=") text) refl e;
  complete = λ text lists h.
      elim h [
        | inl k ↦ ap lists_read k.1 ∙ typed_both.complete k.0 lists k.2
        | inr k ↦ rw (strip_none (codes "pt=") text k.0, restricted_both.complete text lists.1 k.2)
            (ap (λ (types : List ℕ). Some (types, lists.1)) (sym k.1))
      ];
}

rid_more_found : (text : List ℕ) (lists : List ℕ × Pairs) → more_read text ≡ Some lists → IsRidMore text lists
rid_more_found text lists e = grind (arith, cuts_some_is, num_rest_true, cuts_bind_some, strip_found, rid_lists_both)

rid_more_both : Reads IsRidMore more_read
rid_more_both = record {
  sound = rid_more_found;
  complete = λ text lists h.
      elim h [
        | inl k ↦ rw k.0 (ap (λ (l : List ℕ × Pairs). Some l) (sym k.1))
        | inr k ↦ ap more_read k.1 ∙ rw (num_rest_true (32 ∷ k.0) (omega arith)) (rid_lists_both.complete k.0 lists k.2)
      ];
}

-- ---- the line

active_rid_both : Reads IsActiveRid active_read
active_rid_both = grind (arith, cuts_when_some, simulcast_stream_name_from, simulcast_stream_name_true)

direction_found : (text word behind : List ℕ) → direction_read text ≡ Some (word, behind) → (text ≡ word ++ behind) × IsDirection word
direction_found text word behind e = grind arith

direction_given : (word behind : List ℕ) → IsDirection word → direction_read (word ++ behind) ≡ Some (word, behind)
direction_given word behind h = elim h [ inl e ↦ rw e refl | inr e ↦ rw e refl ]

directed_rid_both : Reads IsDirectedRid directed_read
directed_rid_both = record {
  sound = λ text fields e.
      let a = cuts_bind_some (direction_read text) (λ parts. more_read parts.1 >>= λ lists. Some (parts.0, lists)) fields e in
      let b = cuts_bind_some (more_read a.0.1) (λ lists. Some (a.0.0, lists)) fields a.2 in
      let found = direction_found text a.0.0 a.0.1 a.1 in
      rw (← cuts_some_is (a.0.0, b.0) fields b.2) (a.0.1, found.0, found.1, rid_more_both.sound a.0.1 b.0 b.1);
  complete = λ text fields h.
      ap directed_read h.1 ∙ rw (direction_given fields.0 h.0 h.2, rid_more_both.complete h.0 fields.1 h.3) refl;
}

pub rid_fields_both : Reads IsRid rid_fields_read
rid_fields_both = form_two_both 32 active_rid_both directed_rid_both
