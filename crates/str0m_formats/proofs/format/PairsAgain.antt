-- What pairs were read as prints as pairs that are read as the same, but for what prints nothing.
use Rattle.str0m_formats.proofs.Common.{◌≡◌, ◌≢◌, ◌≤◌, ℕ, Bool, true, false, List, [], ◌∷◌, ◌++◌, length, map, filter, Some, refl, sym, ap}
use Rattle.str0m_formats.proofs.Common.{◌∙◌, subst, arith, inl, inr, codes, MatchBool, decimal, AllByRecursion, IsDistinct, cons_option}
use Rattle.str0m_formats.proofs.Common.{join_with_byte, keys_of, bytes_eq, lt-ltb, false_from_ne_true, append_assoc, IsDistinct-cons}
use Rattle.str0m_formats.proofs.Common.{IsDistinct-head, IsDistinct-tail, bytes_eq-Decides, ProfileTierLevel, decimal_nonempty}
use Rattle.str0m_formats.proofs.format.FormatKeyAgain.{IsKeyed, AreKeyed, pair_of, key_param_prints, key_unmarked, own_key, keyed_or_hidden}
use Rattle.str0m_formats.proofs.format.FormatKeyAgain.{keyed_shown, shown_keyed, keyed_params, keyed_texts, keyed_pairs, keyed_unmarked}
use Rattle.str0m_formats.proofs.format.FormatLineAgain.{format_pairs_unmarked, format_pairs_marked}
use Rattle.str0m_formats.proofs.format.FormatParamsShown.{IsSolidPair, joined_pair, param_decimal_solid}
use Rattle.str0m_formats.proofs.format.MergedPairsKeys.{IsLowKey, AreLowKeys, AreKeysApart, merged_apart, merged_others_all}
use Rattle.str0m_formats.proofs.format.MergedPairsKeys.{merged_others_apart, merged_others_other}
use Rattle.str0m_formats.proofs.format.MergedPairsKeys.{merged_others_same, merged_same}
use Rattle.str0m_formats.proofs.format.PairsSolid.{solid_from}
use Rattle.str0m_formats.proofs.format.PairsTripleLaws.{AreTripleBytes, triple_texts_shown, h265_small, h266_small, h265_again, h266_again}
use Rattle.str0m_formats.specs.declared.format.format_key.TheConstants.{PROFILE_ID, TIER_FLAG, LEVEL_ID}
use Rattle.str0m_formats.specs.declared.format.format_param.FormatParam.{FormatParam}
use Rattle.str0m_formats.specs.declared.format.format_param.FormatParam.TheVariants.{H265ProfileTierLevel, H266ProfileTierLevel}
use Rattle.str0m_formats.specs.format.FormatParam.{IsParsedParam, AreParsedParams, triple_text, param_text}
use Rattle.str0m_formats.specs.format.FormatParamReading.{param_of}
use Rattle.str0m_formats.specs.format.Pairs.{has_triple_mark, pairs_merged, other_pairs, is_triple_key, AreJoinedPairs, ArePairsRead}
use Rattle.str0m_formats.specs.format.PairsReading.{ProfileTables, h265_tables, h266_tables, params_read, triple_read}

-- the parameters print as pairs that are read as them
pub record IsPairsLine (shown : List FormatParam) : Type 0 where
  pub pairs : List (List ℕ × List ℕ)
  pub plain : AllByRecursion IsSolidPair pairs
  pub text : join_with_byte 59 (map param_text shown) ≡ join_with_byte 59 (map joined_pair pairs)
  pub read : params_read pairs ≡ shown
  pub some : shown ≢ [] → pairs ≢ []

-- ---- parameters of the table alone

pub keyed_line : (params : List FormatParam) → AreKeyed params → IsPairsLine params
keyed_line params keyed = grind (arith, keyed_pairs, keyed_texts, format_pairs_unmarked, keyed_unmarked, keyed_params)

pairs_read_alone : (pairs : List (List ℕ × List ℕ)) (params : List FormatParam) → AreParsedParams pairs params
    → IsPairsLine (filter key_param_prints params)
pairs_read_alone pairs params are = keyed_line (filter key_param_prints params) (shown_keyed pairs params are)

-- ---- keys that stand once

-- what is read of a pair in lower case prints the pair's key
same_key : (pair : List ℕ × List ℕ) (param : FormatParam) → IsLowKey pair.0 → IsParsedParam pair param → IsKeyed param
    → (pair_of param).0 ≡ pair.0
same_key pair param low o keyed = grind (arith, own_key, key_unmarked)

-- what all keys of pairs have, all keys of what is printed have
all_keys : (P : List ℕ → Type 0) (pairs : List (List ℕ × List ℕ)) (params : List FormatParam) → AreLowKeys pairs
    → AreParsedParams pairs params
    → AllByRecursion P (keys_of pairs) → AllByRecursion P (keys_of (map pair_of (filter key_param_prints params)))
all_keys P [] [] low are all = tt
all_keys P [] (param ∷ params) low are all = absurd are
all_keys P (pair ∷ pairs) [] low are all = absurd are
all_keys P (pair ∷ pairs) (param ∷ params) low are all =
    elim (keyed_or_hidden pair param are.0) [
      | inl keyed ↦
          rw (lt-ltb 0 (length (param_text param)) (keyed_shown param keyed))
          (subst P (sym (same_key pair param low.0 are.0 keyed)) all.0, all_keys P pairs params low.1 are.1 all.1)
      | inr hidden ↦ rw hidden (all_keys P pairs params low.1 are.1 all.1)
    ]

distinct_keys : (pairs : List (List ℕ × List ℕ)) (params : List FormatParam) → AreLowKeys pairs → AreParsedParams pairs params
    → IsDistinct bytes_eq (keys_of pairs) → IsDistinct bytes_eq (keys_of (map pair_of (filter key_param_prints params)))
distinct_keys [] [] low are all = all
distinct_keys [] (param ∷ params) low are all = absurd are
distinct_keys (pair ∷ pairs) [] low are all = absurd are
distinct_keys (pair ∷ pairs) (param ∷ params) low are all =
    let more = distinct_keys pairs params low.1 are.1 (IsDistinct-tail bytes_eq pair.0 (keys_of pairs) all) in
    elim (keyed_or_hidden pair param are.0) [
      | inl keyed ↦
          rw (lt-ltb 0 (length (param_text param)) (keyed_shown param keyed))
          (IsDistinct-cons bytes_eq (pair_of param).0 (keys_of (map pair_of (filter key_param_prints params)))
          (all_keys (λ k. bytes_eq (pair_of param).0 k ≡ false) pairs params low.1 are.1
          (subst (λ (k : List ℕ). AllByRecursion (λ j. bytes_eq k j ≡ false) (keys_of pairs)) (sym (same_key pair param low.0 are.0 keyed))
          (IsDistinct-head bytes_eq pair.0 (keys_of pairs) all)))
          more)
      | inr hidden ↦ rw hidden more
    ]

-- ---- a profile, tier and level before them

abbrev triple_pairs : List ℕ → List ℕ → List ℕ → List (List ℕ × List ℕ)
triple_pairs a b c = (PROFILE_ID.now, a) ∷ (TIER_FLAG.now, b) ∷ (LEVEL_ID.now, c) ∷ []

abbrev triple_joined : List ℕ → List ℕ → List ℕ → List ℕ
triple_joined a b c = codes "profile-id=" ++ (a ++ (codes ";tier-flag=" ++ (b ++ (codes ";level-id=" ++ c))))

-- parameters whose keys differ, and are none of the triple's
record AreOtherPairs (params : List FormatParam) : Type 0 where
  keyed : AreKeyed params
  low : AreLowKeys (map pair_of params)
  apart : AreKeysApart (map pair_of params)
  other : AllByRecursion (λ k. is_triple_key k ≡ false) (keys_of (map pair_of params))

-- a key that is no part differs from each part
no_triple_key : (P : List ℕ → Type 0) (ks : List (List ℕ)) → ((k : List ℕ) → is_triple_key k ≡ false → P k)
    → AllByRecursion (λ k. is_triple_key k ≡ false) ks → AllByRecursion P ks
no_triple_key P [] each none = tt
no_triple_key P (k ∷ ks) each none = (each k none.0, no_triple_key P ks each none.1)

pairs_triple_part_differs : (part k : List ℕ) → is_triple_key part ≡ true → is_triple_key k ≡ false → bytes_eq part k ≡ false
pairs_triple_part_differs part k is other = grind (arith, false_from_ne_true, bytes_eq-Decides)

triple_key_apart : (part : List ℕ) (params : List FormatParam) → is_triple_key part ≡ true → AreOtherPairs params
    → AllByRecursion (λ k. bytes_eq part k ≡ false) (keys_of (map pair_of params))
triple_key_apart part params is h = grind (arith, no_triple_key, pairs_triple_part_differs)

pairs_whole_triple_apart : (a b c : List ℕ) (params : List FormatParam) → AreOtherPairs params
    → AreKeysApart (triple_pairs a b c ++ map pair_of params)
pairs_whole_triple_apart a b c params h =
    IsDistinct-cons bytes_eq PROFILE_ID.now _ (refl, (refl, triple_key_apart PROFILE_ID.now params refl h))
    (IsDistinct-cons bytes_eq TIER_FLAG.now _ (refl, triple_key_apart TIER_FLAG.now params refl h)
    (IsDistinct-cons bytes_eq LEVEL_ID.now _ (triple_key_apart LEVEL_ID.now params refl h) h.apart))

pairs_whole_triple_marked : (a b c : List ℕ) (pairs : List (List ℕ × List ℕ)) → has_triple_mark (triple_pairs a b c ++ pairs) ≡ true
unfolding has_triple_mark
pairs_whole_triple_marked a b c pairs = refl

pairs_whole_triple_text : (q : FormatParam) (a b c : List ℕ) (params : List FormatParam) → AreKeyed params
    → param_text q ≡ triple_joined a b c
    → join_with_byte 59 (map param_text (q ∷ params)) ≡ join_with_byte 59 (map joined_pair (triple_pairs a b c ++ map pair_of params))
pairs_whole_triple_text q a b c [] keyed e = e
pairs_whole_triple_text q a b c (param ∷ params) keyed e =
    ap (λ (t : List ℕ). t ++ (59 ∷ join_with_byte 59 (map param_text (param ∷ params)))) e
    ∙ ap (λ (ts : List (List ℕ)). triple_joined a b c ++ (59 ∷ join_with_byte 59 ts)) (keyed_texts (param ∷ params) keyed)
    ∙ simp append_assoc

triple_line : (q : FormatParam) (a b c : List ℕ) (params : List FormatParam) → param_text q ≡ triple_joined a b c
    → AllByRecursion IsSolidPair (triple_pairs a b c) → triple_read (Some a, Some b, Some c) ≡ Some q → AreOtherPairs params
    → IsPairsLine (q ∷ params)
triple_line q a b c params text plain read h = record {
  pairs = pairs;
  plain = (plain.0, (plain.1.0, (plain.1.1.0, keyed_pairs params h.keyed)));
  text = pairs_whole_triple_text q a b c params h.keyed text;
  read =
      format_pairs_marked pairs (pairs_whole_triple_marked a b c (map pair_of params))
      (merged_same pairs (refl, (refl, (refl, h.low))) (pairs_whole_triple_apart a b c params h))
      ∙ (λ i. cons_option (read i) (map param_of (merged_others_same (map pair_of params) h.other i)))
      ∙ ap (λ (ps : List FormatParam). q ∷ ps) (keyed_params params h.keyed);
  some = λ some e. absurd cc;
}
  where
    pairs : List (List ℕ × List ℕ)
    pairs = triple_pairs a b c ++ map pair_of params

triple_numbers_solid : (k m n : ℕ) → k ≤ 255 → m ≤ 255 → n ≤ 255
    → AllByRecursion IsSolidPair (triple_pairs (decimal k) (decimal m) (decimal n))
triple_numbers_solid k m n p q r = grind (arith, solid_from, param_decimal_solid, decimal_nonempty)

shows_triple : {P T L : Type 0} (tables : ProfileTables P T L) (q : FormatParam) (t : ProfileTierLevel P T L) (params : List FormatParam)
    → param_text q ≡ triple_text (tables.profile_id t.profile) (tables.tier_flag t.tier) (tables.level_id t.level)
    → AreTripleBytes tables t → triple_read (triple_texts_shown tables t) ≡ Some q → AreOtherPairs params → IsPairsLine (q ∷ params)
shows_triple tables q t params text small read h = grind (arith, triple_line, triple_numbers_solid)

-- ---- all pairs

pairs_others_of : (pairs : List (List ℕ × List ℕ)) (params : List FormatParam) → AreParsedParams (other_pairs (pairs_merged pairs)) params
    → AreOtherPairs (filter key_param_prints params)
pairs_others_of pairs params are =
    let kept = other_pairs (pairs_merged pairs) in
    let all = merged_apart pairs in
    let low = merged_others_all IsLowKey (pairs_merged pairs) all.1 in
    record {
      keyed = shown_keyed kept params are;
      low = all_keys IsLowKey kept params low are low;
      apart = distinct_keys kept params low are (merged_others_apart (pairs_merged pairs) all.0);
      other = all_keys (λ k. is_triple_key k ≡ false) kept params low are (merged_others_other (pairs_merged pairs));
    }

pairs_joined_line : (pairs : List (List ℕ × List ℕ)) (params : List FormatParam) → AreJoinedPairs (pairs_merged pairs) params
    → IsPairsLine (filter key_param_prints params)
pairs_joined_line pairs params (triple, rest, inl (t, h265, is), are, joined) =
    rw (joined, is, lt-ltb 0 (length (param_text (H265ProfileTierLevel t))) (omega arith))
    (shows_triple h265_tables (H265ProfileTierLevel t) t (filter key_param_prints rest) refl (h265_small t) (h265_again t)
    (pairs_others_of pairs rest are))
pairs_joined_line pairs params (triple, rest, inr (no_h265, inl (t, h266, is)), are, joined) =
    rw (joined, is, lt-ltb 0 (length (param_text (H266ProfileTierLevel t))) (omega arith))
    (shows_triple h266_tables (H266ProfileTierLevel t) t (filter key_param_prints rest) refl (h266_small t) (h266_again t)
    (pairs_others_of pairs rest are))
pairs_joined_line pairs params (triple, rest, inr (no_h265, inr (no_h266, is)), are, joined) = grind (arith, pairs_read_alone)

pub pairs_again : (pairs : List (List ℕ × List ℕ)) (params : List FormatParam) → ArePairsRead pairs params
    → IsPairsLine (filter key_param_prints params)
pairs_again pairs params read = go (has_triple_mark pairs) read
  where
    go : (marked : Bool) → MatchBool marked (AreJoinedPairs (pairs_merged pairs) params) (AreParsedParams pairs params)
        → IsPairsLine (filter key_param_prints params)
    go true h = pairs_joined_line pairs params h
    go false h = pairs_read_alone pairs params h
