-- Laws of sources and their places.
use Rattle.std.specs.BTreeMap.{Updates}
use Rattle.std.specs.Map.{values_of}
use Rattle.str0m_sdp.proofs.Common.{◌≡◌, ◌<◌, ◌++◌, ℕ, zero, suc, Bool, true, false, cond, nat_eq, List, [], ◌∷◌, length, get_or, Option}
use Rattle.str0m_sdp.proofs.Common.{None, Some, refl, ap, ◌∙◌, arith, option_map, slice_get, slice_set, get, nat_eq_equiv, nat_cmp}
use Rattle.str0m_sdp.proofs.Common.{insert_entry, eqb-true, unsigned_tied, get_or_from_slice_get, BTreeMap}
use Rattle.str0m_sdp.specs.declared.section.ssrc_info.SsrcInfo.{SsrcInfo}
use Rattle.str0m_sdp.specs.section.Sources.{source_entries_of, source_place_in}
use Rattle.str0m_sdp.specs.section.SsrcInfo.{empty_info}
use Rattle.str0m_sdp.specs.section.SsrcInfoReading.{source_so_far, source_with_value}

-- ---- where a source stands, and where it doesn't

abbrev IsSourcePlace : ℕ → List SsrcInfo → ℕ → Type 0
IsSourcePlace s [] place = ⊥
IsSourcePlace s (e ∷ es) zero = nat_eq s e.ssrc ≡ true
IsSourcePlace s (e ∷ es) (suc place) = (nat_eq s e.ssrc ≡ false) × IsSourcePlace s es place

abbrev IsSourceAbsent : ℕ → List SsrcInfo → Type 0
IsSourceAbsent s [] = Unit {0}
IsSourceAbsent s (e ∷ es) = (nat_eq s e.ssrc ≡ false) × IsSourceAbsent s es

source_none_before : (o : Option ℕ) → option_map suc o ≡ None → o ≡ None
source_none_before o is = grind arith

source_absent : (s : ℕ) (es : List SsrcInfo) → source_place_in s es ≡ None → IsSourceAbsent s es
source_absent s [] is = tt
source_absent s (e ∷ es) is = grind (arith, source_absent s es, source_none_before)

first_source_place : (s : ℕ) (es : List SsrcInfo) (place : ℕ) → source_place_in s es ≡ Some place → IsSourcePlace s es place
first_source_place s [] place is = absurd cc
first_source_place s (e ∷ es) place is = by (nat_eq s e.ssrc) refl place is (first_source_place s es)
  where
    later : (o : Option ℕ) (place : ℕ) → source_place_in s es ≡ o → nat_eq s e.ssrc ≡ false → option_map suc o ≡ Some place
        → ((place : ℕ) → source_place_in s es ≡ Some place → IsSourcePlace s es place) → IsSourcePlace s (e ∷ es) place
    later None place at other is rest = absurd cc
    later (Some n) zero at other is rest = absurd cc
    later (Some n) (suc place) at other is rest = (other, rest place (at ∙ (let same : n ≡ place = cc in ap Some same)))

    by : (b : Bool) → nat_eq s e.ssrc ≡ b → (place : ℕ) → cond (nat_eq s e.ssrc) (Some 0) (option_map suc (source_place_in s es))
        ≡ Some place
        → ((place : ℕ) → source_place_in s es ≡ Some place → IsSourcePlace s es place) → IsSourcePlace s (e ∷ es) place
    by true here zero is rest = here
    by true here (suc place) is rest = absurd (let no = rw here at is in cc)
    by false other place is rest = later (source_place_in s es) place refl other (rw other at is) rest

source_place_within : (s : ℕ) (es : List SsrcInfo) (place : ℕ) → IsSourcePlace s es place → place < length es
source_place_within s [] place is = absurd is
source_place_within s (e ∷ es) zero is = omega arith
source_place_within s (e ∷ es) (suc place) is = omega (arith, source_place_within s es place is.1)

-- ---- what is said of it

source_entry_found : (s : ℕ) (es : List SsrcInfo) (place : ℕ) → IsSourcePlace s es place
    → slice_get es place ≡ Some (source_so_far (source_entries_of es) s)
source_entry_found s [] place is = absurd is
source_entry_found s (e ∷ es) zero is = rw is refl
source_entry_found s (e ∷ es) (suc place) is = rw is.0 (source_entry_found s es place is.1)

source_unsaid : (s : ℕ) (es : List SsrcInfo) → IsSourceAbsent s es → source_so_far (source_entries_of es) s ≡ empty_info s
source_unsaid s [] is = refl
source_unsaid s (e ∷ es) is = rw is.0 (source_unsaid s es is.1)

last_source_said : (s : ℕ) (es : List SsrcInfo) → slice_get (es ++ empty_info s ∷ []) (length es) ≡ Some (empty_info s)
last_source_said s [] = refl
last_source_said s (e ∷ es) = last_source_said s es

source_said : (s : ℕ) (es : List SsrcInfo) → (source_so_far (source_entries_of es) s).ssrc ≡ s
source_said s [] = refl
source_said s (e ∷ es) = grind (arith, source_said s es, eqb-true)

-- ---- what is written there

source_put_first : (s : ℕ) (es : List SsrcInfo) (place : ℕ) (x : SsrcInfo) → x.ssrc ≡ s → IsSourcePlace s es place
    → source_entries_of (slice_set es place x) ≡ insert_entry nat_eq (source_entries_of es) s x
source_put_first s [] place x same is = absurd is
source_put_first s (e ∷ es) zero x same is = grind arith
source_put_first s (e ∷ es) (suc place) x same is = grind (arith, source_put_first s es place x same is.1)

source_put_last : (s : ℕ) (es : List SsrcInfo) (new x : SsrcInfo) → x.ssrc ≡ s → IsSourceAbsent s es
    → source_entries_of (slice_set (es ++ new ∷ []) (length es) x) ≡ insert_entry nat_eq (source_entries_of es) s x
source_put_last s [] new x same is = ap (λ (n : ℕ). (n, x) ∷ []) same
source_put_last s (e ∷ es) new x same is = grind (arith, source_put_last s es new x same is.1)

-- ---- where the sources stand then

source_stays : (s : ℕ) (es : List SsrcInfo) (place : ℕ) (x : SsrcInfo) → x.ssrc ≡ s → IsSourcePlace s es place → (q : ℕ)
    → source_place_in q (slice_set es place x) ≡ source_place_in q es
source_stays s [] place x same is q = absurd is
source_stays s (e ∷ es) zero x same is q = grind arith
source_stays s (e ∷ es) (suc place) x same is q = grind (arith, source_stays s es place x same is.1 q)

source_comes_last : (s : ℕ) (es : List SsrcInfo) (new x : SsrcInfo) → x.ssrc ≡ s → IsSourceAbsent s es → (q : ℕ)
    → source_place_in q (slice_set (es ++ new ∷ []) (length es) x) ≡ cond (nat_eq s q) (Some (length es)) (source_place_in q es)
source_comes_last s [] new x same is q = grind arith
source_comes_last s (e ∷ es) new x same is q = grind (arith, source_comes_last s es new x same is.1 q, nat_eq_equiv)

-- ---- as answers

-- a source that is found
module _ (s place : ℕ) (es : List SsrcInfo) (is : source_place_in s es ≡ Some place) where
  pub source_found_within : place < length es
  source_found_within = source_place_within s es place (first_source_place s es place is)

  pub source_found_said : slice_get es place ≡ Some (source_so_far (source_entries_of es) s)
  source_found_said = source_entry_found s es place (first_source_place s es place is)

  pub source_found_put : (x : SsrcInfo) → x.ssrc ≡ s → source_entries_of (slice_set es place x)
      ≡ insert_entry nat_eq (source_entries_of es) s x
  source_found_put x same = source_put_first s es place x same (first_source_place s es place is)

  pub source_found_stays : (x : SsrcInfo) → x.ssrc ≡ s → (q : ℕ) → source_place_in q (slice_set es place x) ≡ source_place_in q es
  source_found_stays x same = source_stays s es place x same (first_source_place s es place is)

-- one that joins the others
module _ (s place : ℕ) (es more : List SsrcInfo) (new : SsrcInfo) (is : source_place_in s es ≡ None) (at : place ≡ length es)
    (last : more ≡ es ++ new ∷ []) where
  pub new_source_said : new ≡ empty_info s → slice_get more place ≡ Some (source_so_far (source_entries_of es) s)
  new_source_said empty = grind (arith, last_source_said, source_unsaid, source_absent)

  pub new_source_put : (x : SsrcInfo) → x.ssrc ≡ s → source_entries_of (slice_set more place x)
      ≡ insert_entry nat_eq (source_entries_of es) s x
  new_source_put x same = (λ i. source_entries_of (slice_set (last i) (at i) x)) ∙ source_put_last s es new x same (source_absent s es is)

  pub new_source_place : (old placed : BTreeMap ℕ ℕ) (k : ℕ) → k ≡ s → Updates nat_cmp old placed k (Some place)
      → ((q : ℕ) → get nat_cmp old q ≡ source_place_in q es)
      → (x : SsrcInfo) → x.ssrc ≡ s → (q : ℕ) → get nat_cmp placed q ≡ source_place_in q (slice_set more place x)
  new_source_place old placed k key update places x same q = grind (arith, unsigned_tied, source_comes_last, source_absent)

-- what is written at the place of a source follows from what was said of it
pub source_written : (s place : ℕ) (es infos : List SsrcInfo) (x old : SsrcInfo) (f : SsrcInfo → SsrcInfo)
    → ((info : SsrcInfo) → (f info).ssrc ≡ info.ssrc)
    → slice_get infos place ≡ Some (source_so_far (source_entries_of es) s) → old ≡ get_or infos place old → x ≡ f old
    → (x ≡ f (source_so_far (source_entries_of es) s)) × (x.ssrc ≡ s)
source_written s place es infos x old f keeps said here is = grind (arith, get_or_from_slice_get, source_said)

-- the value of an attribute says nothing of the number
pub source_value_keeps : (name value : List ℕ) (info : SsrcInfo) → (source_with_value name value info).ssrc ≡ info.ssrc
source_value_keeps name value info = grind arith

-- each source is said of by itself
pub source_values_stand : (es : List SsrcInfo) → es ≡ values_of (source_entries_of es)
source_values_stand [] = refl
source_values_stand (e ∷ es) = ap (λ (rest : List SsrcInfo). e ∷ rest) (source_values_stand es)
