-- What each field of a format prints: keys with values, and the range of events.
use Rattle.std.specs.Fmt.{digits}
use Rattle.str0m_formats.proofs.Common.{◌≡◌, ◌≤◌, ℕ, replicate, Bool, true, false, List, [], ◌∷◌, ◌++◌, map, Option, Some, None}
use Rattle.str0m_formats.proofs.Common.{IfSome, option_map, refl, sym, ap, ◌∙◌, arith, lit≤, lit<, codes, decimal, AllByRecursion}
use Rattle.str0m_formats.proofs.Common.{cons_option, join_with_byte, list_all, false≢true, append_assoc, length-append, none-some, IsRest}
use Rattle.str0m_formats.proofs.Common.{decimal_is_IsNumeral, digits_is_IsNumeral, ProfileTierLevel, zero, suc}
use Rattle.str0m_formats.proofs.format.FormatParamAgain.{param_is_kind_small, key_small, param_limit_small, modes_filled, key_reads}
use Rattle.str0m_formats.proofs.format.FormatParamsSet.{param_is}
use Rattle.str0m_formats.proofs.format.PairsRows.{PairSlots, given_pair_slots}
use Rattle.str0m_formats.proofs.format.PairsSolid.{IsSolid, is_solid, solid_from, solid_append, digits_solid, pair_bytes_pass_below}
use Rattle.str0m_formats.proofs.format.PairsSolid.{pair_bytes_pass_below_at}
use Rattle.str0m_formats.proofs.format.PairsTripleLaws.{AreTripleBytes, h265_small, h266_small}
use Rattle.str0m_formats.specs.declared.format.format_key.FormatKey.{FormatKey}
use Rattle.str0m_formats.specs.declared.format.format_key.FormatKey.TheVariants as key
use Rattle.str0m_formats.specs.declared.format.format_key.TheConstants.{PROFILE_ID, TIER_FLAG, LEVEL_ID}
use Rattle.str0m_formats.specs.declared.format.format_param.FormatParam.{FormatParam}
use Rattle.str0m_formats.specs.declared.format.format_param.FormatParam.TheVariants.{H265ProfileTierLevel, H266ProfileTierLevel}
use Rattle.str0m_formats.specs.declared.format.format_param.FormatParam.TheVariants.{TelephoneEvents, BareRange, BarePtList, Red}
use Rattle.str0m_formats.specs.declared.format.format_params.Field.{Field}
use Rattle.str0m_formats.specs.declared.format.format_params.Field.TheVariants as field
use Rattle.str0m_formats.specs.declared.format.format_params.FormatParams.{FormatParams}
use Rattle.str0m_formats.specs.format.FormatKey.{key_text}
use Rattle.str0m_formats.specs.format.FormatParam.{Kind, flag, number, hex, modes, exactly, anything, HeldParamValue, kind, keyed, entry}
use Rattle.str0m_formats.specs.format.FormatParam.{IsParamInRange}
use Rattle.str0m_formats.specs.format.FormatParam.{param_value_text, entry_text, param_six_digits, mode_list, triple_text, param_text}
use Rattle.str0m_formats.specs.format.FormatParamReading.{param_of}
use Rattle.str0m_formats.specs.format.FormatParams.{get, param_in, param_at, IsFormatFieldWithin}
use Rattle.str0m_formats.specs.format.PairsReading.{ProfileTables, h265_tables, h266_tables}

-- ---- solid values

pub param_decimal_solid : (n : ℕ) → n ≤ 4294967295 → IsSolid (decimal n)
param_decimal_solid n small = digits_solid 10 (decimal n) (lit≤ tt) (decimal_is_IsNumeral n (omega arith)).0.1

param_zeros_solid : (k : ℕ) → IsSolid (replicate k 48)
param_zeros_solid zero = tt
param_zeros_solid (suc k) = (refl, param_zeros_solid k)

param_six_digits_solid : (n : ℕ) → n ≤ 4294967295 → IsSolid (param_six_digits n)
param_six_digits_solid n le = grind (arith, solid_append, param_zeros_solid, digits_solid, digits_is_IsNumeral)

modes_solid : pair_bytes_pass_below (λ mask. list_all is_solid (mode_list mask)) 512 ≡ true
unfolding pair_bytes_pass_below digits
modes_solid = refl

shown_value_solid : (k : Kind) (x : HeldParamValue k) → param_is_kind_small k ≡ true → IsParamInRange k x → IsSolid (param_value_text k x)
shown_value_solid flag true small h = solid_from (codes "1") refl
shown_value_solid flag false small h = solid_from (codes "0") refl
shown_value_solid (number limit) n small h = param_decimal_solid n (param_limit_small limit n small h)
shown_value_solid hex n small h = param_six_digits_solid n h
shown_value_solid modes mask small h = solid_from (mode_list mask)
    (pair_bytes_pass_below_at (λ mask. list_all is_solid (mode_list mask)) 512 mask modes_solid (omega (arith, h.1)))
shown_value_solid (exactly own) x small h = absurd h
shown_value_solid anything x small h = absurd h

key_solid : (k : FormatKey) → list_all is_solid (key_text k) ≡ true
key_solid k = grind arith

-- ---- and not empty

key_filled : (k : FormatKey) → IsRest (key_text k)
key_filled k = grind arith

param_decimal_filled : (n : ℕ) → n ≤ 4294967295 → IsRest (decimal n)
param_decimal_filled n small = (decimal_is_IsNumeral n (omega arith)).0.0

shown_value_filled : (k : Kind) (x : HeldParamValue k) → param_is_kind_small k ≡ true → IsParamInRange k x → IsRest (param_value_text k x)
shown_value_filled flag true small h = lit< tt
shown_value_filled flag false small h = lit< tt
shown_value_filled (number limit) n small h = param_decimal_filled n (param_limit_small limit n small h)
shown_value_filled hex n small h = grind (arith, digits_is_IsNumeral, length-append)
shown_value_filled modes mask small h = modes_filled mask h
shown_value_filled (exactly own) x small h = absurd h
shown_value_filled anything x small h = absurd h

-- ---- keys with their values

abbrev pub joined_pair : List ℕ × List ℕ → List ℕ
joined_pair pair = pair.0 ++ (61 ∷ pair.1)

-- a key and a value of solid characters, one or more each
abbrev pub IsSolidPair : List ℕ × List ℕ → Type 0
IsSolidPair pair = IsSolid pair.0 × IsSolid pair.1 × IsRest pair.0 × IsRest pair.1

abbrev pub Entry : Type 0
Entry = (k : FormatKey) × HeldParamValue (kind k)

abbrev pub HasParamInRange : Entry → Type 0
HasParamInRange e = IsParamInRange (kind e.0) e.1

abbrev pub pair_of_entry : Entry → List ℕ × List ℕ
pair_of_entry e = (key_text e.0, param_value_text (kind e.0) e.1)

pub pair_solid : (e : Entry) → HasParamInRange e → IsSolidPair (pair_of_entry e)
pair_solid e h = grind (arith, solid_from, key_solid, shown_value_solid, key_small, key_filled, shown_value_filled)

entry_joined : (e : Entry) → entry_text (Some e) ≡ joined_pair (pair_of_entry e)
entry_joined e = simp append_assoc

-- what a parameter of the table prints
pub shown_entry_text_of : (param : FormatParam) (e : Entry) → entry param ≡ Some e → param_text param ≡ joined_pair (pair_of_entry e)
shown_entry_text_of (H265ProfileTierLevel t) e is = absurd (none-some e is)
shown_entry_text_of (H266ProfileTierLevel t) e is = absurd (none-some e is)
shown_entry_text_of (TelephoneEvents n) e is = absurd (none-some e is)
shown_entry_text_of (BareRange n) e is = absurd (none-some e is)
shown_entry_text_of (BarePtList pt) e is = absurd (none-some e is)
shown_entry_text_of (Red pt) e is = absurd (none-some e is)
shown_entry_text_of param e is = ap entry_text is ∙ entry_joined e

-- ---- keys with what may stand for them

abbrev pub shown_key_slot : (k : FormatKey) → Option (HeldParamValue (kind k)) → PairSlots
shown_key_slot k o = (key_text k, option_map (param_value_text (kind k)) o) ∷ []

abbrev pub triple_slots : {P T L : Type 0} → ProfileTables P T L → Option (ProfileTierLevel P T L) → PairSlots
triple_slots tables o =
    (PROFILE_ID.now, option_map (λ t. decimal (tables.profile_id t.profile)) o)
    ∷ (TIER_FLAG.now, option_map (λ t. decimal (tables.tier_flag t.tier)) o)
    ∷ (LEVEL_ID.now, option_map (λ t. decimal (tables.level_id t.level)) o) ∷ []

-- the keys of a field, with their values
abbrev pub shown_slots_at : Field → FormatParams → PairSlots
shown_slots_at (field.Key k) p = shown_key_slot k (get (field.Key k) p)
shown_slots_at field.H265ProfileTierLevel p = triple_slots h265_tables p.h265_profile_tier_level
shown_slots_at field.H266ProfileTierLevel p = triple_slots h266_tables p.h266_profile_tier_level
shown_slots_at field.TelephoneEvents p = []

-- the texts of a field that have no key
abbrev pub bare_params_at : Field → FormatParams → List (List ℕ)
bare_params_at field.TelephoneEvents p = cons_option (option_map (λ n. codes "0-" ++ decimal n) p.telephone_event_max) []
bare_params_at f p = []

-- the pieces that a field prints
abbrev pub shown_pieces_at : Field → FormatParams → List (List ℕ)
shown_pieces_at f p = map joined_pair (given_pair_slots (shown_slots_at f p)) ++ bare_params_at f p

-- the text of one field: nothing, or its pieces joined
abbrev pub IsShown : Option FormatParam → List (List ℕ) → Type 0
IsShown None pieces = pieces ≡ []
IsShown (Some param) pieces = (first : List ℕ) × (more : List (List ℕ)) × (pieces ≡ first ∷ more)
    × (param_text param ≡ join_with_byte 59 (first ∷ more))

pub record ShowsFormatField (f : Field) (p : FormatParams) : Type 0 where
  pub shown : IsShown (param_at f p) (shown_pieces_at f p)
  pub plain : AllByRecursion IsSolidPair (given_pair_slots (shown_slots_at f p))
  pub bare : AllByRecursion IsSolid (bare_params_at f p)

-- the pairs of a field read as its parameter
abbrev pub ReadsFormatField : Field → FormatParams → Type 0
ReadsFormatField f p = map param_of (given_pair_slots (shown_slots_at f p)) ≡ cons_option (param_at f p) []

-- what holds of each value holds of one that may be there
pub each_some_param : {A : Type 0} (P : A → Type 0) (o : Option A) → ((x : A) → P x) → IfSome o P
each_some_param P o each = grind arith

-- what a key's field holds is of the table
pub entry_at : (k : FormatKey) (p : FormatParams) → IfSome (get (field.Key k) p) (λ x. entry (keyed k x) ≡ Some (k, x))
entry_at key.Apt p = tt
entry_at key.Crc p = tt
entry_at key.RobustSorting p = tt
entry_at key.ModeChangePeriod p = tt
entry_at key.Interleaving p = tt
entry_at k p = each_some_param (λ x. entry (keyed k x) ≡ Some (k, x)) (get (field.Key k) p) (λ x. refl)

key_shown : (k : FormatKey) (o : Option (HeldParamValue (kind k))) → IfSome o (λ x. entry (keyed k x) ≡ Some (k, x))
    → IsShown (option_map (keyed k) o) (map joined_pair (given_pair_slots (shown_key_slot k o)) ++ [])
key_shown k None is = refl
key_shown k (Some x) is = (joined_pair (pair_of_entry (k, x)), [], refl, shown_entry_text_of (keyed k x) (k, x) is)

pairs_solid : (k : FormatKey) (o : Option (HeldParamValue (kind k))) → IfSome o (IsParamInRange (kind k))
    → AllByRecursion IsSolidPair (given_pair_slots (shown_key_slot k o))
pairs_solid k None h = tt
pairs_solid k (Some x) h = (pair_solid (k, x) h, tt)

pair_slot_reads : (k : FormatKey) (o : Option (HeldParamValue (kind k))) → IfSome o (IsParamInRange (kind k))
    → map param_of (given_pair_slots (shown_key_slot k o)) ≡ cons_option (option_map (keyed k) o) []
pair_slot_reads k o h = grind (arith, key_reads)

triple_parts : (a b c : List ℕ) → codes "profile-id=" ++ (a ++ (codes ";tier-flag=" ++ (b ++ (codes ";level-id=" ++ c))))
    ≡ join_with_byte 59 (joined_pair (PROFILE_ID.now, a) ∷ joined_pair (TIER_FLAG.now, b) ∷ joined_pair (LEVEL_ID.now, c) ∷ [])
triple_parts a b c = refl

-- a field with a profile, tier and level
module _ {P T L : Type 0} (tables : ProfileTables P T L) (make : ProfileTierLevel P T L → FormatParam) (small : (t : ProfileTierLevel P T L)
    → AreTripleBytes tables t)
    (text : (t : ProfileTierLevel P T L)
    → param_text (make t) ≡ triple_text (tables.profile_id t.profile) (tables.tier_flag t.tier) (tables.level_id t.level)) where
  triple_shown : (o : Option (ProfileTierLevel P T L))
      → IsShown (option_map make o) (map joined_pair (given_pair_slots (triple_slots tables o)) ++ [])
  triple_shown None = refl
  triple_shown (Some t) =
      let profile = decimal (tables.profile_id t.profile) in
      let tier = decimal (tables.tier_flag t.tier) in
      let level = decimal (tables.level_id t.level) in (
        joined_pair (PROFILE_ID.now, profile),
        joined_pair (TIER_FLAG.now, tier) ∷ joined_pair (LEVEL_ID.now, level) ∷ [],
        refl,
        text t
            ∙ triple_parts profile tier level,
      )

  triple_solid : (o : Option (ProfileTierLevel P T L)) → AllByRecursion IsSolidPair (given_pair_slots (triple_slots tables o))
  triple_solid None = tt
  triple_solid (Some t) =
      let k = small t in (
        (
          solid_from PROFILE_ID.now refl,
          param_decimal_solid (tables.profile_id t.profile) (omega (arith, k.0)),
          lit< tt,
          param_decimal_filled (tables.profile_id t.profile) (omega (arith, k.0)),
        ),
        (
          (
            solid_from TIER_FLAG.now refl,
            param_decimal_solid (tables.tier_flag t.tier) (omega (arith, k.1)),
            lit< tt,
            param_decimal_filled (tables.tier_flag t.tier) (omega (arith, k.1)),
          ),
          (
            (
              solid_from LEVEL_ID.now refl,
              param_decimal_solid (tables.level_id t.level) (omega (arith, k.2)),
              lit< tt,
              param_decimal_filled (tables.level_id t.level) (omega (arith, k.2)),
            ),
            tt,
          ),
        ),
      )

events_shown : (o : Option ℕ)
    → IsShown (option_map (λ n. TelephoneEvents n) o) (cons_option (option_map (λ n. codes "0-" ++ decimal n) o) [])
events_shown o = grind arith

events_solid : (o : Option ℕ) → IfSome o (λ n. n ≤ 255)
    → AllByRecursion IsSolid (cons_option (option_map (λ n. codes "0-" ++ decimal n) o) [])
events_solid o h = grind (arith, solid_append, solid_from, param_decimal_solid)

shown_at : (f : Field) (p : FormatParams) → IsShown (option_map (param_in f) (get f p)) (shown_pieces_at f p)
shown_at (field.Key k) p = key_shown k (get (field.Key k) p) (entry_at k p)
shown_at field.H265ProfileTierLevel p = triple_shown h265_tables (λ t. H265ProfileTierLevel t) h265_small (λ t. refl)
    p.h265_profile_tier_level
shown_at field.H266ProfileTierLevel p = triple_shown h266_tables (λ t. H266ProfileTierLevel t) h266_small (λ t. refl)
    p.h266_profile_tier_level
shown_at field.TelephoneEvents p = events_shown p.telephone_event_max

shown_solid_at : (f : Field) (p : FormatParams) → IfSome (get f p) (IsFormatFieldWithin f)
    → AllByRecursion IsSolidPair (given_pair_slots (shown_slots_at f p))
shown_solid_at (field.Key k) p h = pairs_solid k (get (field.Key k) p) h
shown_solid_at field.H265ProfileTierLevel p h = triple_solid h265_tables (λ t. H265ProfileTierLevel t) h265_small (λ t. refl)
    p.h265_profile_tier_level
shown_solid_at field.H266ProfileTierLevel p h = triple_solid h266_tables (λ t. H266ProfileTierLevel t) h266_small (λ t. refl)
    p.h266_profile_tier_level
shown_solid_at field.TelephoneEvents p h = tt

bare_params_solid : (f : Field) (p : FormatParams) → IfSome (get f p) (IsFormatFieldWithin f) → AllByRecursion IsSolid (bare_params_at f p)
bare_params_solid field.TelephoneEvents p h = events_solid p.telephone_event_max h
bare_params_solid f p h = tt

pub format_field_shows : (f : Field) (p : FormatParams) → IfSome (get f p) (IsFormatFieldWithin f) → ShowsFormatField f p
format_field_shows f p h = grind (arith, param_is, shown_at, shown_solid_at, bare_params_solid)

-- whether the field has one key
abbrev pub shown_is_single : Field → Bool
shown_is_single (field.Key k) = true
shown_is_single f = false

pub format_field_reads : (f : Field) (p : FormatParams) → shown_is_single f ≡ true → IfSome (get f p) (IsFormatFieldWithin f)
    → ReadsFormatField f p
format_field_reads (field.Key k) p single h = pair_slot_reads k (get (field.Key k) p) h
    ∙ ap (λ o. cons_option o []) (sym (param_is (field.Key k) p))
format_field_reads field.H265ProfileTierLevel p single h = absurd (false≢true single)
format_field_reads field.H266ProfileTierLevel p single h = absurd (false≢true single)
format_field_reads field.TelephoneEvents p single h = absurd (false≢true single)
