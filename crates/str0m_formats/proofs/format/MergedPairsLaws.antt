-- Laws of the places of keys among entries.
use Rattle.std.proofs.lemmas.Map.Text.{is_eq-slice_cmp}
use Rattle.std.specs.BTreeMap.{BTreeMap, Updates, get_by}
use Rattle.std.specs.Ordering.{nat_cmp}
use Rattle.str0m_formats.proofs.Common.{◌≡◌, ◌<◌, ◌+◌, ℕ, Bool, true, false, cond, List, [], ◌∷◌, ◌++◌, length, get_or, take, Option, Some}
use Rattle.str0m_formats.proofs.Common.{None, refl, sym, ap, ◌∙◌, subst, arith, Bor, lookup, bytes_eq, map-append, take_more}
use Rattle.str0m_formats.proofs.Common.{bytes_eq-Decides, insert_entry, zero, suc, set, slice_cmp, set_value_at}
use Rattle.str0m_formats.proofs.format.MergedPairsKeys.{pair_key_bytes_turned}
use Rattle.str0m_formats.specs.format.FormatParam.{pair_texts}
use Rattle.str0m_formats.specs.format.MergedPairs.{IsPairPlace, HasPairPlaces}

-- ---- one entry

module _ {K X : Type 0} (eq : K → K → Bool) (k : K) (v : X) where
  -- a key that stands there takes the value
  pub entry_there : (es : List (K × X)) (i : ℕ) → IsPairPlace (eq k) es (Some i) → insert_entry eq es k v ≡ set_value_at es i v
  entry_there [] i h = absurd h
  entry_there (e ∷ es) zero h = ap (λ (b : Bool). cond b ((e.0, v) ∷ es) (e ∷ insert_entry eq es k v)) h
  entry_there (e ∷ es) (suc i) h = grind (arith, entry_there es i h.1)

  -- one that doesn't comes last
  pub entry_new : (es : List (K × X)) → IsPairPlace (eq k) es None → insert_entry eq es k v ≡ es ++ (k, v) ∷ []
  entry_new [] h = refl
  entry_new (e ∷ es) h = grind (arith, entry_new es h.1)

module _ {K X : Type 0} (t : K → Bool) where
  -- another value moves no key
  pub pair_place_stays : (es : List (K × X)) (i : ℕ) (v : X) (place : Option ℕ) → IsPairPlace t es place
      → IsPairPlace t (set_value_at es i v) place
  pair_place_stays [] i v place h = h
  pair_place_stays (e ∷ es) zero v None h = h
  pair_place_stays (e ∷ es) zero v (Some zero) h = h
  pair_place_stays (e ∷ es) zero v (Some (suc n)) h = h
  pair_place_stays (e ∷ es) (suc i) v None h = (h.0, pair_place_stays es i v None h.1)
  pair_place_stays (e ∷ es) (suc i) v (Some zero) h = h
  pair_place_stays (e ∷ es) (suc i) v (Some (suc n)) h = (h.0, pair_place_stays es i v (Some n) h.1)

  -- nor does an entry more at the end, whose key is another
  pub pair_place_push : (es : List (K × X)) (e : K × X) (place : Option ℕ) → IsPairPlace t es place → t e.0 ≡ false
      → IsPairPlace t (es ++ e ∷ []) place
  pair_place_push [] e None h other = (other, tt)
  pair_place_push [] e (Some i) h other = absurd h
  pair_place_push (x ∷ es) e None h other = (h.0, pair_place_push es e None h.1 other)
  pair_place_push (x ∷ es) e (Some zero) h other = h
  pair_place_push (x ∷ es) e (Some (suc i)) h other = (h.0, pair_place_push es e (Some i) h.1 other)

  -- its own place is the last
  pub pair_place_last : (es : List (K × X)) (e : K × X) → IsPairPlace t es None → t e.0 ≡ true
      → IsPairPlace t (es ++ e ∷ []) (Some (length es))
  pair_place_last [] e h is = is
  pair_place_last (x ∷ es) e h is = (h.0, pair_place_last es e h.1 is)

-- ---- places of texts

pair_key_bytes_same : (a b : List ℕ) → bytes_eq a b ≡ true → a ≡ b
pair_key_bytes_same a b is = (bytes_eq-Decides a b).0 is

pub pair_key_bytes_itself : (a : List ℕ) → bytes_eq a a ≡ true
pair_key_bytes_itself a = (bytes_eq-Decides a a).1 refl

-- places stay known where a value changes
pub pair_places_stay : (places : BTreeMap (Bor (List ℕ)) ℕ) (es after : List (List ℕ × List ℕ)) (i : ℕ) (v : List ℕ)
    → HasPairPlaces places es → after ≡ set_value_at es i v → HasPairPlaces places after
pair_places_stay places es after i v known is key =
    let place = get_by (λ known. slice_cmp nat_cmp key known.now) places in
    subst (λ (entries : List (List ℕ × List ℕ)). IsPairPlace (bytes_eq key) entries place) (sym is)
    (pair_place_stays (bytes_eq key) es i v place (known key))

-- and where a new key comes last
pub pair_places_grow : (old new : BTreeMap (Bor (List ℕ)) ℕ) (es after : List (List ℕ × List ℕ)) (k : Bor (List ℕ)) (v : List ℕ) (n : ℕ)
    → HasPairPlaces old es → Updates (λ x y. slice_cmp nat_cmp x.now y.now) old new k (Some n) → n ≡ length es
    → IsPairPlace (bytes_eq k.now) es None
    → after ≡ es ++ (k.now, v) ∷ [] → HasPairPlaces new after
pair_places_grow old new es after k v n known more last none is key =
    subst (λ (entries : List (List ℕ × List ℕ)). IsPairPlace (bytes_eq key) entries (get_by (λ known. slice_cmp nat_cmp key known.now) new))
    (sym is)
    (subst (λ (place : Option ℕ). IsPairPlace (bytes_eq key) grown place) (sym found) (by (bytes_eq k.now key) refl))
  where
    grown : List (List ℕ × List ℕ)
    grown = es ++ (k.now, v) ∷ []

    before : Option ℕ
    before = get_by (λ known. slice_cmp nat_cmp key known.now) old

    found : get_by (λ known. slice_cmp nat_cmp key known.now) new ≡ cond (bytes_eq k.now key) (Some n) before
    found = more.0 (record { ref_ptr = (0, 0); now = key }) ∙ ap (λ (b : Bool). cond b (Some n) before) (is_eq-slice_cmp k.now key)

    own : bytes_eq k.now key ≡ true → IsPairPlace (bytes_eq key) grown (Some n)
    own same =
        subst (λ (text : List ℕ). IsPairPlace (bytes_eq text) grown (Some n)) (pair_key_bytes_same k.now key same)
        (subst (λ (place : ℕ). IsPairPlace (bytes_eq k.now) grown (Some place)) (sym last)
        (pair_place_last (bytes_eq k.now) es (k.now, v) none (pair_key_bytes_itself k.now)))

    by : (b : Bool) → bytes_eq k.now key ≡ b → IsPairPlace (bytes_eq key) grown (cond b (Some n) before)
    by true same = own same
    by false other = pair_place_push (bytes_eq key) es (k.now, v) before (known key) (pair_key_bytes_turned k.now key other)

-- ---- by a look at each

-- no key so far, and not this one
pub merged_no_key_more : (key : List ℕ) (entries : List (Bor (List ℕ) × Bor (List ℕ))) (i : ℕ) (d : Bor (List ℕ) × Bor (List ℕ))
    → i < length entries
    → IsPairPlace (bytes_eq key) (pair_texts (take i entries)) None → bytes_eq key (get_or entries i d).0.now ≡ false
    → IsPairPlace (bytes_eq key) (pair_texts (take (i + 1) entries)) None
merged_no_key_more key entries i d lt none other =
    let e = get_or entries i d in
    subst (λ (es : List (List ℕ × List ℕ)). IsPairPlace (bytes_eq key) es None)
    (sym (map-append (λ p. (p.0.now, p.1.now)) (take i entries) (e ∷ [])) ∙ ap (λ es. pair_texts es) (sym (take_more entries i d lt)))
    (pair_place_push (bytes_eq key) (pair_texts (take i entries)) (e.0.now, e.1.now) None none other)

-- no key so far, but this one
pub merged_first_key_here : (key : List ℕ) (entries : List (Bor (List ℕ) × Bor (List ℕ))) (i : ℕ) (d : Bor (List ℕ) × Bor (List ℕ))
    → i < length entries
    → IsPairPlace (bytes_eq key) (pair_texts (take i entries)) None → bytes_eq key (get_or entries i d).0.now ≡ true
    → IsPairPlace (bytes_eq key) (pair_texts entries) (Some i)
merged_first_key_here key [] i d lt none is = absurd (omega (arith, lt))
merged_first_key_here key (e ∷ es) zero d lt none is = is
merged_first_key_here key (e ∷ es) (suc i) d lt none is = (none.0, merged_first_key_here key es i d (omega (arith, lt)) none.1 is)

-- ---- entries as they lie in memory

-- the place is within the list
pub pair_place_within : (key : List ℕ) (entries : List (Bor (List ℕ) × Bor (List ℕ))) (i : ℕ)
    → IsPairPlace (bytes_eq key) (pair_texts entries) (Some i) → i < length entries
pair_place_within key [] i h = absurd h
pair_place_within key (e ∷ es) zero h = omega arith
pair_place_within key (e ∷ es) (suc i) h = let below = pair_place_within key es i h.1 in omega (arith, below)

-- the value there, and that there is none
pub merged_key_value_there : (key : List ℕ) (entries : List (Bor (List ℕ) × Bor (List ℕ))) (i : ℕ) (d : Bor (List ℕ) × Bor (List ℕ))
    → IsPairPlace (bytes_eq key) (pair_texts entries) (Some i)
    → lookup (bytes_eq key) (pair_texts entries) ≡ Some (get_or entries i d).1.now
merged_key_value_there key [] i d h = absurd h
merged_key_value_there key (e ∷ es) zero d h = ap (λ (b : Bool). cond b (Some e.1.now) (lookup (bytes_eq key) (pair_texts es))) h
merged_key_value_there key (e ∷ es) (suc i) d h = grind (arith, merged_key_value_there key es i d h.1)

pub merged_key_without_value : (key : List ℕ) (es : List (List ℕ × List ℕ)) → IsPairPlace (bytes_eq key) es None
    → lookup (bytes_eq key) es ≡ None
merged_key_without_value key [] h = refl
merged_key_without_value key (e ∷ es) h = ap (λ (b : Bool). cond b (Some e.1) (lookup (bytes_eq key) es)) h.0
    ∙ merged_key_without_value key es h.1

-- the place in a list is that in one like it
pub pair_placed_alike : (key : List ℕ) (slice entries : List (Bor (List ℕ) × Bor (List ℕ))) (answer place : Option ℕ) → slice ≡ entries
    → answer ≡ place
    → IsPairPlace (bytes_eq key) (pair_texts slice) answer → IsPairPlace (bytes_eq key) (pair_texts entries) place
pair_placed_alike key slice entries answer place same is h = grind arith

pub pair_pushed : (entries after : List (Bor (List ℕ) × Bor (List ℕ))) (e : Bor (List ℕ) × Bor (List ℕ)) → after ≡ entries ++ e ∷ []
    → pair_texts after ≡ pair_texts entries ++ (e.0.now, e.1.now) ∷ []
pair_pushed entries after e is = ap (λ es. pair_texts es) is ∙ map-append (λ p. (p.0.now, p.1.now)) entries (e ∷ [])

pub as_many_pairs : (entries : List (Bor (List ℕ) × Bor (List ℕ))) → length (pair_texts entries) ≡ length entries
as_many_pairs [] = refl
as_many_pairs (e ∷ es) = ap suc (as_many_pairs es)

-- ---- another value in its place

pub value_set : (entries : List (Bor (List ℕ) × Bor (List ℕ))) (i : ℕ) (v : Bor (List ℕ)) (d : Bor (List ℕ) × Bor (List ℕ))
    → i < length entries
    → pair_texts (set entries i ((get_or entries i d).0, v)) ≡ set_value_at (pair_texts entries) i v.now
value_set [] i v d lt = absurd (omega (arith, lt))
value_set (e ∷ es) zero v d lt = refl
value_set (e ∷ es) (suc i) v d lt = grind (arith, value_set es i v d)

-- ---- one pair more
