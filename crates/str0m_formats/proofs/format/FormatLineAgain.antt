-- A format that is printed, and read by its line, is itself.
use Rattle.str0m_formats.proofs.Common.{rules, ◌≡◌, ◌<◌, ◌≤◌, ◌⊎◌, inl, inr, ℕ, Bool, true, false, cond, List, [], ◌∷◌, ◌++◌, length, drop}
use Rattle.str0m_formats.proofs.Common.{map, filter, Option, Some, None, IfSome, Result, option_map, refl, sym, ap, subst, ◌∙◌, arith}
use Rattle.str0m_formats.proofs.Common.{codes, decimal, AllByRecursion, AllZip, cons_option, flat_map, join_with_byte, list_all}
use Rattle.str0m_formats.proofs.Common.{digits_value, and_parts, false_from_ne_true, decimal_is_IsNumeral, append_assoc, append-nil}
use Rattle.str0m_formats.proofs.Common.{map-append, filter_map-append, none-some, IfOk, lacks, filter_map, address_lacks_both, cut_at}
use Rattle.str0m_formats.proofs.Common.{cut_none}
use Rattle.str0m_formats.proofs.Common.{lacks_cut_true, lacks_cut_from, H265ProfileTierLevel as h265_triple}
use Rattle.str0m_formats.proofs.Common.{H266ProfileTierLevel as h266_triple}
use Rattle.str0m_formats.proofs.format.FormatLineLaws.{set_all-append}
use Rattle.str0m_formats.proofs.format.FormatParamsSet.{format_fields_filled, are_format_fields_fresh, set_each}
use Rattle.str0m_formats.proofs.format.FormatParamsShown.{shown_slots_at, bare_params_at, joined_pair, shown_pieces_at, IsSolidPair}
use Rattle.str0m_formats.proofs.format.FormatParamsShown.{IsShown}
use Rattle.str0m_formats.proofs.format.FormatParamsShown.{format_field_shows}
use Rattle.str0m_formats.proofs.format.FormatParamsShown.{shown_is_single, format_field_reads}
use Rattle.str0m_formats.proofs.format.PairsJoined.{AreParamTextsFreeOf, slice_split-join}
use Rattle.str0m_formats.proofs.format.PairsLaws.{pairs_read_only}
use Rattle.str0m_formats.proofs.format.PairsRows.{PairSlots, given_pair_slots, given_pair_slots-append, pair_slot_look_given}
use Rattle.str0m_formats.proofs.format.PairsRows.{mark_given_pair_slots}
use Rattle.str0m_formats.proofs.format.PairsRows.{others_given_pair_slots}
use Rattle.str0m_formats.proofs.format.PairsRows.{merged_given_pair_slots}
use Rattle.str0m_formats.proofs.format.PairsSolid.{IsSolid, solid_lacks, pair_text_lacks_free, trim_solid}
use Rattle.str0m_formats.proofs.format.PairsTripleLaws.{h265_again, h266_again}
use Rattle.str0m_formats.specs.declared.format.format_key.FormatKey.TheVariants as key
use Rattle.str0m_formats.specs.declared.format.format_key.TheConstants.{PROFILE_ID, TIER_FLAG, LEVEL_ID}
use Rattle.str0m_formats.specs.declared.format.format_param.FormatParam.{FormatParam}
use Rattle.str0m_formats.specs.declared.format.format_param.FormatParam.TheVariants.{H265ProfileTierLevel, H266ProfileTierLevel}
use Rattle.str0m_formats.specs.declared.format.format_param.FormatParam.TheVariants.{TelephoneEvents}
use Rattle.str0m_formats.specs.declared.format.format_params.Field.{Field}
use Rattle.str0m_formats.specs.declared.format.format_params.Field.TheVariants as field
use Rattle.str0m_formats.specs.declared.format.format_params.FormatParams.{FormatParams}
use Rattle.str0m_formats.specs.declared.format.format_params.TheConstants.{FIELDS}
use Rattle.str0m_formats.specs.format.FormatLine.{pieces, pair_in, bare_param_in, pairs_in, bare_params_in, IsFormatOfLine}
use Rattle.str0m_formats.specs.format.FormatParam.{IsBareParam, param_text}
use Rattle.str0m_formats.specs.format.FormatParamReading.{param_of}
use Rattle.str0m_formats.specs.format.FormatParams.{empty, get, set_all, param_at, params_of, params_text, IsFormatFieldWithin}
use Rattle.str0m_formats.specs.format.FormatParams.{CanFormatBeReadBack}
use Rattle.str0m_formats.specs.format.Pairs.{has_triple_mark, pairs_merged, other_pairs, triple_texts_of}
use Rattle.str0m_formats.specs.format.PairsReading.{triple_read, joined_pairs_read, params_read}

-- ---- lists of fields

abbrev pub format_pieces_of_fields : List Field → FormatParams → List (List ℕ)
format_pieces_of_fields [] p = []
format_pieces_of_fields (f ∷ fs) p = shown_pieces_at f p ++ format_pieces_of_fields fs p

abbrev pub all_pairs : List Field → FormatParams → List (List ℕ × List ℕ)
all_pairs [] p = []
all_pairs (f ∷ fs) p = given_pair_slots (shown_slots_at f p) ++ all_pairs fs p

-- the pairs that a format prints
abbrev pub printed_pairs : FormatParams → List (List ℕ × List ℕ)
printed_pairs p = all_pairs FIELDS p

abbrev pub format_slots_of_fields : List Field → FormatParams → PairSlots
format_slots_of_fields [] p = []
format_slots_of_fields (f ∷ fs) p = shown_slots_at f p ++ format_slots_of_fields fs p

abbrev format_bare_params_of_fields : List Field → FormatParams → List (List ℕ)
format_bare_params_of_fields [] p = []
format_bare_params_of_fields (f ∷ fs) p = bare_params_at f p ++ format_bare_params_of_fields fs p

pairs_slots : (fs : List Field) (p : FormatParams) → all_pairs fs p ≡ given_pair_slots (format_slots_of_fields fs p)
pairs_slots [] p = refl
pairs_slots (f ∷ fs) p = grind (arith, pairs_slots fs p, given_pair_slots-append)

-- the values of all fields read back
abbrev pub AllFormatFieldsWithin : FormatParams → Type 0
AllFormatFieldsWithin p = (f : Field) → IfSome (get f p) (IsFormatFieldWithin f)

-- ---- the text is the pieces, joined

abbrev pub format_linked_texts : List (List ℕ) → List ℕ
format_linked_texts texts = join_with_byte 59 texts

format_linked_texts_cons : (text : List ℕ) (texts : List (List ℕ)) → 0 < length texts
    → format_linked_texts (text ∷ texts) ≡ text ++ (59 ∷ format_linked_texts texts)
format_linked_texts_cons text texts some = grind arith

format_linked_texts_append : (first : List ℕ) (more ys : List (List ℕ)) → 0 < length ys
    → format_linked_texts ((first ∷ more) ++ ys) ≡ format_linked_texts (first ∷ more) ++ (59 ∷ format_linked_texts ys)
format_linked_texts_append first [] ys some = format_linked_texts_cons first ys some
format_linked_texts_append first (next ∷ more) ys some = grind (arith, format_linked_texts_append next more ys some, append_assoc)

abbrev pub AreFormatTextsAlike : List (List ℕ) → List (List ℕ) → Type 0
AreFormatTextsAlike texts pieces = ((texts ≡ []) × (pieces ≡ [])) ⊎
    ((0 < length texts) × (0 < length pieces) × (format_linked_texts texts ≡ format_linked_texts pieces))

format_texts_alike_step : (o : Option FormatParam) (qs : List FormatParam) (own rest : List (List ℕ)) → IsShown o own
    → AreFormatTextsAlike (map param_text qs) rest
    → AreFormatTextsAlike (map param_text (cons_option o qs)) (own ++ rest)
format_texts_alike_step o qs own rest shown alike = grind (arith, append-nil, format_linked_texts_cons, format_linked_texts_append)

pub format_texts_alike : (fs : List Field) (p : FormatParams) → AllFormatFieldsWithin p
    → AreFormatTextsAlike (map param_text (filter_map (λ f. param_at f p) fs)) (format_pieces_of_fields fs p)
format_texts_alike [] p h = inl (refl, refl)
format_texts_alike (f ∷ fs) p h = grind (arith, format_texts_alike_step, format_field_shows, format_texts_alike fs p h)

-- ---- and is cut into them

format_texts_free_append : (xs ys : List (List ℕ)) → AreParamTextsFreeOf 59 xs → AreParamTextsFreeOf 59 ys
    → AreParamTextsFreeOf 59 (xs ++ ys)
format_texts_free_append [] ys h k = k
format_texts_free_append (x ∷ xs) ys h k = (h.0, format_texts_free_append xs ys h.1 k)

free_pairs : (pairs : List (List ℕ × List ℕ)) → AllByRecursion IsSolidPair pairs → AreParamTextsFreeOf 59 (map joined_pair pairs)
free_pairs [] h = tt
free_pairs (pair ∷ pairs) h =
    grind (
      arith,
      pair_text_lacks_free 59 (joined_pair pair),
      address_lacks_both 59 pair.0 (61 ∷ pair.1),
      solid_lacks 59 pair.1,
      solid_lacks 59 pair.0,
      free_pairs pairs h.1,
    )

format_bare_params_free : (texts : List (List ℕ)) → AllByRecursion IsSolid texts → AreParamTextsFreeOf 59 texts
format_bare_params_free [] h = tt
format_bare_params_free (text ∷ texts) h = (pair_text_lacks_free 59 text (solid_lacks 59 text refl h.0), format_bare_params_free texts h.1)

format_pieces_free : (fs : List Field) (p : FormatParams) → AllFormatFieldsWithin p → AreParamTextsFreeOf 59 (format_pieces_of_fields fs p)
format_pieces_free [] p h = tt
format_pieces_free (f ∷ fs) p h =
    let own = format_field_shows f p (h f) in
    format_texts_free_append (shown_pieces_at f p) (format_pieces_of_fields fs p)
    (format_texts_free_append (map joined_pair (given_pair_slots (shown_slots_at f p))) (bare_params_at f p)
    (free_pairs (given_pair_slots (shown_slots_at f p)) own.plain)
    (format_bare_params_free (bare_params_at f p) own.bare)) (format_pieces_free fs p h)

format_line_cut_pieces : (texts : List (List ℕ)) (all : List (List ℕ)) → AreFormatTextsAlike texts all → AreParamTextsFreeOf 59 all
    → (pieces (format_linked_texts texts) ≡ all) ⊎ ((all ≡ []) × (pieces (format_linked_texts texts) ≡ [] ∷ []))
format_line_cut_pieces texts [] alike free = elim alike
    [ inl none ↦ inr (refl, rw none.0 refl) | inr some ↦ absurd (omega (arith, some.1)) ]
format_line_cut_pieces texts (first ∷ more) alike free = elim alike
    [ inl none ↦ absurd cc | inr some ↦ inl (ap pieces some.2 ∙ slice_split-join 59 first more free) ]

-- ---- keys and values of pieces

piece_pair_found : (pair : List ℕ × List ℕ) → IsSolidPair pair → pair_in (joined_pair pair) ≡ Some pair
piece_pair_found pair h = grind (arith, cut_none, solid_lacks, cut_at, trim_solid)

no_bare_param : (pair : List ℕ × List ℕ) → IsSolidPair pair → bare_param_in (joined_pair pair) ≡ None
no_bare_param pair h =
    let free : lacks 61 (joined_pair pair) ≡ false =
    false_from_ne_true (lacks 61 (joined_pair pair))
    (λ t. none-some (pair.0, pair.1) (sym (cut_none 61 (joined_pair pair) (lacks_cut_from 61 (joined_pair pair) t))
    ∙ cut_at 61 pair.0 pair.1 (solid_lacks 61 pair.0 refl h.0))) in
    rw free refl

no_pair : (text : List ℕ) → IsSolid text → pair_in text ≡ None
no_pair text h = rw (cut_none 61 text (solid_lacks 61 text refl h)) refl

bare_param_found : (text : List ℕ) → IsSolid text → bare_param_in text ≡ Some text
bare_param_found text h = rw (lacks_cut_true 61 text (solid_lacks 61 text refl h), trim_solid text h) refl

piece_pairs_found : (pairs : List (List ℕ × List ℕ)) → AllByRecursion IsSolidPair pairs
    → (filter_map pair_in (map joined_pair pairs) ≡ pairs) × (filter_map bare_param_in (map joined_pair pairs) ≡ [])
piece_pairs_found [] h = (refl, refl)
piece_pairs_found (pair ∷ pairs) h = grind (arith, piece_pairs_found pairs h.1, piece_pair_found, no_bare_param)

bare_params_found : (texts : List (List ℕ)) → AllByRecursion IsSolid texts
    → (filter_map pair_in texts ≡ []) × (filter_map bare_param_in texts ≡ texts)
bare_params_found [] h = (refl, refl)
bare_params_found (text ∷ texts) h = grind (arith, bare_params_found texts h.1, no_pair, bare_param_found)

format_pieces_found : (fs : List Field) (p : FormatParams) → AllFormatFieldsWithin p
    → (pairs_in (format_pieces_of_fields fs p) ≡ all_pairs fs p)
    × (bare_params_in (format_pieces_of_fields fs p) ≡ format_bare_params_of_fields fs p)
unfolding pairs_in bare_params_in
format_pieces_found [] p h = (refl, refl)
format_pieces_found (f ∷ fs) p h =
    let own = format_field_shows f p (h f) in
    let keyed = map joined_pair (given_pair_slots (shown_slots_at f p)) in
    let pairs = piece_pairs_found (given_pair_slots (shown_slots_at f p)) own.plain in
    let bares = bare_params_found (bare_params_at f p) own.bare in
    let rest = format_pieces_found fs p h in (
      filter_map-append pair_in (keyed ++ bare_params_at f p) (format_pieces_of_fields fs p)
          ∙ ap (λ (t : List (List ℕ × List ℕ)). t ++ filter_map pair_in (format_pieces_of_fields fs p))
          (filter_map-append pair_in keyed (bare_params_at f p)
          ∙ ap (λ (t : List (List ℕ × List ℕ)). t ++ filter_map pair_in (bare_params_at f p))
          pairs.0 ∙ ap (λ (t : List (List ℕ × List ℕ)). given_pair_slots (shown_slots_at f p) ++ t) bares.0
          ∙ append-nil (given_pair_slots (shown_slots_at f p)))
          ∙ ap (λ (t : List (List ℕ × List ℕ)). given_pair_slots (shown_slots_at f p) ++ t) rest.0,
      filter_map-append bare_param_in (keyed ++ bare_params_at f p) (format_pieces_of_fields fs p)
          ∙ ap (λ (t : List (List ℕ)). t ++ filter_map bare_param_in (format_pieces_of_fields fs p))
          (filter_map-append bare_param_in keyed (bare_params_at f p)
          ∙ ap (λ (t : List (List ℕ)). t ++ filter_map bare_param_in (bare_params_at f p)) pairs.1
          ∙ bares.1)
          ∙ ap (λ (t : List (List ℕ)). bare_params_at f p ++ t) rest.1,
    )

-- ---- what the pairs read as

abbrev single_format_fields : List Field
single_format_fields = filter shown_is_single FIELDS

-- the fields with one key that may stand beside a profile, tier and level: all but the profile
abbrev is_format_field_beside_triple : Field → Bool
is_format_field_beside_triple (field.Key key.ProfileId) = false
is_format_field_beside_triple f = shown_is_single f

abbrev format_fields_beside_triple : List Field
format_fields_beside_triple = filter is_format_field_beside_triple FIELDS

format_option_append : {A : Type 0} (o : Option A) (xs : List A) → cons_option o [] ++ xs ≡ cons_option o xs
format_option_append o xs = grind arith

format_fields_all_read : (fs : List Field) (p : FormatParams) → AllFormatFieldsWithin p → list_all shown_is_single fs ≡ true
    → map param_of (all_pairs fs p) ≡ filter_map (λ f. param_at f p) fs
format_fields_all_read [] p h single = refl
format_fields_all_read (f ∷ fs) p h single =
    let k = and_parts (shown_is_single f) (list_all shown_is_single fs) single in
    map-append param_of (given_pair_slots (shown_slots_at f p)) (all_pairs fs p)
    ∙ ap (λ (t : List FormatParam). t ++ map param_of (all_pairs fs p)) (format_field_reads f p k.0 (h f))
    ∙ ap (λ (t : List FormatParam). cons_option (param_at f p) [] ++ t) (format_fields_all_read fs p h k.1)
    ∙ format_option_append (param_at f p) (filter_map (λ f. param_at f p) fs)

pub format_pairs_unmarked : (pairs : List (List ℕ × List ℕ)) → has_triple_mark pairs ≡ false → params_read pairs ≡ map param_of pairs
unfolding params_read
format_pairs_unmarked pairs e = rw e refl

pub format_pairs_marked : (pairs : List (List ℕ × List ℕ)) → has_triple_mark pairs ≡ true → pairs_merged pairs ≡ pairs
    → params_read pairs ≡ joined_pairs_read pairs
unfolding params_read
format_pairs_marked pairs e same = rw (e, same) refl

without_triple : (p : FormatParams) → AllFormatFieldsWithin p → p.h265_profile_tier_level ≡ None → p.h266_profile_tier_level ≡ None
    → params_read (all_pairs FIELDS p) ≡ filter_map (λ f. param_at f p)
    (field.H265ProfileTierLevel ∷ field.H266ProfileTierLevel ∷ single_format_fields)
without_triple p h e5 e6 =
    grind (
      arith,
      pairs_slots single_format_fields p,
      mark_given_pair_slots (format_slots_of_fields single_format_fields p),
      format_pairs_unmarked (all_pairs single_format_fields p),
      format_fields_all_read single_format_fields p h,
    )

abbrev triple_first : List Field
triple_first = field.H265ProfileTierLevel ∷ field.H266ProfileTierLevel ∷ field.Key key.ProfileId ∷ format_fields_beside_triple

-- ---- with a triple

-- the keys of a triple in the place of H265's, among those of the other fields
abbrev format_slots_beside_triple : List ℕ → List ℕ → List ℕ → FormatParams → Field → PairSlots
format_slots_beside_triple a b c p field.H265ProfileTierLevel = (PROFILE_ID.now, Some a) ∷ (TIER_FLAG.now, Some b) ∷ (LEVEL_ID.now, Some c)
    ∷ []
format_slots_beside_triple a b c p f = cond (is_format_field_beside_triple f) (shown_slots_at f p) []

abbrev format_slots_with_triple : List ℕ → List ℕ → List ℕ → FormatParams → PairSlots
format_slots_with_triple a b c p = flat_map (format_slots_beside_triple a b c p) FIELDS

with_triple : (q : FormatParam) (a b c : List ℕ) (p : FormatParams) → AllFormatFieldsWithin p
    → all_pairs FIELDS p ≡ given_pair_slots (format_slots_with_triple a b c p)
    → triple_read (Some a, Some b, Some c) ≡ Some q → params_read (all_pairs FIELDS p) ≡ q
    ∷ filter_map (λ f. param_at f p) format_fields_beside_triple
with_triple q a b c p h own read =
    let rows = format_slots_with_triple a b c p in
    let texts : triple_texts_of (given_pair_slots rows) ≡ (Some a, Some b, Some c) =
    λ i. (pair_slot_look_given PROFILE_ID.now rows i, pair_slot_look_given TIER_FLAG.now rows i, pair_slot_look_given LEVEL_ID.now rows i)
    in
    let others_are : map param_of (other_pairs (given_pair_slots rows)) ≡ filter_map (λ f. param_at f p) format_fields_beside_triple =
    ap (map param_of) (others_given_pair_slots rows ∙ sym (pairs_slots format_fields_beside_triple p))
    ∙ format_fields_all_read format_fields_beside_triple p h refl in
    ap params_read own ∙ format_pairs_marked (given_pair_slots rows) (mark_given_pair_slots rows) (merged_given_pair_slots rows refl)
    ∙ ap (λ (o : Option FormatParam). cons_option o (map param_of (other_pairs (given_pair_slots rows)))) (ap triple_read texts ∙ read)
    ∙ ap (λ (qs : List FormatParam). q ∷ qs) others_are

with_h265 : (p : FormatParams) (t : h265_triple) → AllFormatFieldsWithin p → p.h265_profile_tier_level ≡ Some t
    → p.h266_profile_tier_level ≡ None
    → p.profile_id ≡ None → params_read (all_pairs FIELDS p) ≡ filter_map (λ f. param_at f p) triple_first
with_h265 p t h e5 e6 ei = grind (arith, with_triple (H265ProfileTierLevel t), pairs_slots FIELDS p, h265_again t)

with_h266 : (p : FormatParams) (t : h266_triple) → AllFormatFieldsWithin p → p.h266_profile_tier_level ≡ Some t
    → p.h265_profile_tier_level ≡ None
    → p.profile_id ≡ None → params_read (all_pairs FIELDS p) ≡ filter_map (λ f. param_at f p) triple_first
with_h266 p t h e6 e5 ei = grind (arith, with_triple (H266ProfileTierLevel t), pairs_slots FIELDS p, h266_again t)

-- ---- values without a key

bare_param_is : (n : ℕ) (param : FormatParam) → n ≤ 255 → IsBareParam (codes "0-" ++ decimal n) param → param ≡ TelephoneEvents n
bare_param_is n param small h =
    let digits = decimal_is_IsNumeral n (omega arith) in
    elim h [
      | inl events ↦
          let same : decimal n ≡ events.2.range.0 = ap (drop 2) events.2.range.1 in
          let value : events.0 ≡ n = sym events.2.range.3 ∙ ap (digits_value 10) (sym same) ∙ digits.1 in
          events.1 ∙ ap (λ (k : ℕ). TelephoneEvents k) value
      | inr none ↦ absurd (none.0 (TelephoneEvents n) (n, refl, record { range = (decimal n, refl, digits.0, digits.1); fits = small }))
    ]

bares_set : (o : Option ℕ) (bares : List FormatParam) → IfSome o (λ n. n ≤ 255)
    → AllZip IsBareParam (cons_option (option_map (λ n. codes "0-" ++ decimal n) o) []) bares
    → bares ≡ cons_option (option_map (λ n. TelephoneEvents n) o) []
bares_set None [] h are = refl
bares_set None (b ∷ bares) h are = absurd are
bares_set (Some n) [] h are = absurd are
bares_set (Some n) (b ∷ []) h are = ap (λ (q : FormatParam). q ∷ []) (bare_param_is n b h are.0)
bares_set (Some n) (b ∷ (c ∷ bares)) h are = absurd are.1

nothing_set : (bares : List FormatParam) → AllZip IsBareParam ([] ∷ []) bares → set_all empty bares ≡ empty
nothing_set bares are = grind arith

no_events : (o : Option ℕ) → cons_option (option_map (λ n. codes "0-" ++ decimal n) o) [] ≡ [] → o ≡ None
no_events o e = grind arith

-- ---- the whole

format_some_not_none : {A C : Type 0} (o : Option A) (x : A) → o ≡ Some x → o ≡ None → C
format_some_not_none o x e f = absurd (none-some x (sym f ∙ e))

format_concluded : (order : List Field) (p r : FormatParams) (bares params : List FormatParam)
    → are_format_fields_fresh (field.TelephoneEvents ∷ order) p empty ≡ true
    → format_fields_filled (field.TelephoneEvents ∷ order) p empty ≡ p
    → set_all empty bares ≡ set_all empty (cons_option (param_at field.TelephoneEvents p) [])
    → params ≡ filter_map (λ f. param_at f p) order → r ≡ set_all empty (bares ++ params) → r ≡ p
format_concluded order p r bares params fresh whole first second e = grind (arith, set_all-append, format_option_append, set_each)

-- the order in which the parameters of a printed line are set
pub record FormatFieldOrder (p : FormatParams) : Type 0 where
  pub order : List Field
  pub fresh : are_format_fields_fresh (field.TelephoneEvents ∷ order) p empty ≡ true
  pub whole : format_fields_filled (field.TelephoneEvents ∷ order) p empty ≡ p
  pub read : params_read (all_pairs FIELDS p) ≡ filter_map (λ f. param_at f p) order

pub format_field_order_of : (p : FormatParams) → CanFormatBeReadBack p → (o5 : Option h265_triple) (o6 : Option h266_triple)
    → p.h265_profile_tier_level ≡ o5
    → p.h266_profile_tier_level ≡ o6 → FormatFieldOrder p
format_field_order_of p h None None e5 e6 = search (rules, without_triple p h.values e5 e6)
format_field_order_of p h (Some t) None e5 e6 = record {
  order = triple_first;
  fresh = refl;
  whole = refl;
  read = with_h265 p t h.values e5 e6
      (elim h.profile [ inl e ↦ e | inr both ↦ format_some_not_none p.h265_profile_tier_level t e5 both.0 ]);
}
format_field_order_of p h None (Some u) e5 e6 = record {
  order = triple_first;
  fresh = refl;
  whole = refl;
  read = with_h266 p u h.values e6 e5
      (elim h.profile [ inl e ↦ e | inr both ↦ format_some_not_none p.h266_profile_tier_level u e6 both.1 ]);
}
format_field_order_of p h (Some t) (Some u) e5 e6 = grind arith

-- the values without a key that are printed
bare_params_printed : (p : FormatParams) → format_bare_params_of_fields FIELDS p ≡ bare_params_at field.TelephoneEvents p
bare_params_printed p = append-nil (bare_params_at field.TelephoneEvents p)

format_params_text_linked : (p : FormatParams) → params_text p
    ≡ format_linked_texts (map param_text (filter_map (λ f. param_at f p) FIELDS))
unfolding params_text params_of
format_params_text_linked p = refl

no_piece_pairs : pairs_in ([] ∷ []) ≡ []
unfolding pairs_in
no_piece_pairs = refl

one_bare_param : bare_params_in ([] ∷ []) ≡ [] ∷ []
unfolding bare_params_in
one_bare_param = rw (trim_solid [] tt) refl

pub format_itself : (line : List ℕ) (p r : FormatParams) → CanFormatBeReadBack p → line ≡ params_text p → IsFormatOfLine line r → r ≡ p
unfolding pairs_in bare_params_in
format_itself line p r h printed reading =
    let order = format_field_order_of p h p.h265_profile_tier_level p.h266_profile_tier_level refl refl in
    let is = format_pieces_found FIELDS p h.values in
    let events = h.values field.TelephoneEvents in
    let params_are : pairs_in (pieces line) ≡ all_pairs FIELDS p → reading.params ≡ filter_map (λ f. param_at f p) order.order =
    λ same. pairs_read_only (pairs_in (pieces line)) reading.params reading.params_are ∙ ap params_read same ∙ order.read in
    elim (format_line_cut_pieces (map param_text (filter_map (λ f. param_at f p) FIELDS)) (format_pieces_of_fields FIELDS p)
    (format_texts_alike FIELDS p h.values)
    (format_pieces_free FIELDS p h.values)) [
      | inl same ↦
          let whole : pieces line ≡ format_pieces_of_fields FIELDS p = ap pieces (printed ∙ format_params_text_linked p) ∙ same in
          let bares_are = bares_set p.telephone_event_max reading.bares events
          (subst (λ (ts : List (List ℕ)). AllZip IsBareParam ts reading.bares) (ap bare_params_in whole ∙ is.1 ∙ bare_params_printed p)
          reading.bares_are) in
          format_concluded order.order p r reading.bares reading.params order.fresh order.whole (ap (set_all empty) bares_are)
          (params_are (ap pairs_in whole ∙ is.0)) reading.format
      | inr empty_text ↦
          let whole : pieces line ≡ [] ∷ [] = ap pieces (printed ∙ format_params_text_linked p) ∙ empty_text.1 in
          let none : p.telephone_event_max ≡ None =
          no_events p.telephone_event_max (sym (bare_params_printed p) ∙ sym is.1 ∙ ap bare_params_in empty_text.0) in
          let pairs_are : pairs_in (pieces line) ≡ all_pairs FIELDS p =
          ap pairs_in whole ∙ no_piece_pairs ∙ sym (ap pairs_in empty_text.0) ∙ is.0 in
          let bares_are = nothing_set reading.bares
          (subst (λ (ts : List (List ℕ)). AllZip IsBareParam ts reading.bares) (ap bare_params_in whole ∙ one_bare_param) reading.bares_are)
          in
          format_concluded order.order p r reading.bares reading.params order.fresh order.whole
          (bares_are ∙ ap (λ (o : Option ℕ). set_all empty (cons_option (option_map (λ n. TelephoneEvents n) o) [])) (sym none))
          (params_are pairs_are) reading.format
    ]

pub format_line_itself : {E : Type 0} (line : List ℕ) (answer : Result FormatParams E) → IfOk answer (IsFormatOfLine line)
    → (p : FormatParams)
    → CanFormatBeReadBack p → line ≡ params_text p → IfOk answer (λ r. r ≡ p)
format_line_itself line answer h p can printed = grind (arith, format_itself)
