-- The triple of three values is read both ways.
use Rattle.str0m_formats.proofs.Common.{◌≡◌, ◌≤◌, ℕ, List, Option, Some, None, refl, sym, subst, ◌∙◌, inl, inr, arith, rules, Bor, decimal}
use Rattle.str0m_formats.proofs.Common.{none-some, IsTheOnly, ◌<|>◌, ProfileTierLevel, num_found, num_reads, only_read, cuts_bind_some}
use Rattle.str0m_formats.proofs.Common.{cuts_some_is}
use Rattle.str0m_formats.proofs.Common.{cuts_reads_none, option_map, IsGivenNumber, part_text_of, cuts_none_reads, Reads}
use Rattle.str0m_formats.proofs.format.FormatParamAgain.{param_decimal_reads}
use Rattle.str0m_formats.proofs.format.FormatParamOnly.{only_same}
use Rattle.str0m_formats.specs.declared.format.format_param.FormatParam.{FormatParam}
use Rattle.str0m_formats.specs.declared.format.format_param.FormatParam.TheVariants.{H265ProfileTierLevel, H266ProfileTierLevel}
use Rattle.str0m_formats.specs.format.PairsReading.{triple_number_read, triple_table_read, h265_tables, h266_tables, read_triple}
use Rattle.str0m_formats.specs.format.PairsReading.{triple_read}
use Rattle.str0m_formats.specs.format.PairsTriple.{TripleTexts, IsTripleParam}
use Rattle.str0m_values.specs.H265 as h265
use Rattle.str0m_values.specs.H265.{H265ProfileTierLevel as h265_triple}
use Rattle.str0m_values.specs.H266 as h266
use Rattle.str0m_values.specs.H266.{H266ProfileTierLevel as h266_triple}
use Rattle.str0m_values.specs.ProfileTierLevel.{HasGivenNumbers, HasNumbersOfTexts, ProfileTables, profile_table_value}
use Rattle.str0m_values.specs.declared.h266.H266Level.{H266Level}

triple_number_both : (default : ℕ) → Reads (IsGivenNumber 255 default) (triple_number_read default)
triple_number_both default = grind (arith, cuts_some_is, num_found, num_reads)

-- beside each number stands the only value that has it
record IsTripleTable {A : Type 0} (number_of : A → ℕ) (rows : List (A × ℕ)) : Type 0 where
  only : (n : ℕ) → IsTheOnly (λ value. number_of value ≡ n) (profile_table_value rows n)
  byte : (value : A) → number_of value ≤ 255

triple_table_value_both : {A : Type 0} {id : A → ℕ} {rows : List (A × ℕ)} (default : ℕ) → IsTripleTable id rows
    → Reads (λ text a. IsGivenNumber 255 default text (id a)) (triple_table_read rows default)
triple_table_value_both {A} {id} {rows} default table = grind (arith, cuts_bind_some, triple_number_both default)

-- ---- a codec's triples, by its tables

record AreTripleTables {P T L : Type 0} (tables : ProfileTables P T L) : Type 0 where
  profiles : IsTripleTable tables.profile_id tables.profiles
  tiers : IsTripleTable tables.tier_flag tables.tiers
  levels : IsTripleTable tables.level_id tables.levels

h265_are : AreTripleTables h265_tables
h265_are = search rules

h266_are : AreTripleTables h266_tables
h266_are = grind arith

-- the numbers of a triple, as they print
abbrev pub AreTripleBytes : {P T L : Type 0} → ProfileTables P T L → ProfileTierLevel P T L → Type 0
AreTripleBytes tables t = (tables.profile_id t.profile ≤ 255) × (tables.tier_flag t.tier ≤ 255) × (tables.level_id t.level ≤ 255)

abbrev pub triple_texts_shown : {P T L : Type 0} → ProfileTables P T L → ProfileTierLevel P T L → TripleTexts
triple_texts_shown tables t = (
  Some (decimal (tables.profile_id t.profile)),
  Some (decimal (tables.tier_flag t.tier)),
  Some (decimal (tables.level_id t.level)),
)

module _ {P T L : Type 0} (tables : ProfileTables P T L) (are : AreTripleTables tables) where
  abbrev IsTripleOfTables : TripleTexts → ProfileTierLevel P T L → Type 0
  IsTripleOfTables texts = HasGivenNumbers tables.profile_id tables.tier_flag tables.level_id tables.defaults texts.0 texts.1 texts.2

  triple_both : Reads IsTripleOfTables (read_triple tables)
  unfolding read_triple
  triple_both = record {
    sound = λ texts t e.
        let a = cuts_bind_some (triple_table_read tables.profiles tables.defaults.0 texts.0) _ t e in
        let b = cuts_bind_some (triple_table_read tables.tiers tables.defaults.1 texts.1) _ t a.2 in
        let c = cuts_bind_some (triple_table_read tables.levels tables.defaults.2 texts.2) _ t b.2 in
        let made : ProfileTierLevel P T L = record { profile = a.0; tier = b.0; level = c.0 } in
        subst (IsTripleOfTables texts) (cuts_some_is made t c.2) (record {
          profile_is = (triple_table_value_both tables.defaults.0 are.profiles).sound texts.0 a.0 a.1;
          tier_is = (triple_table_value_both tables.defaults.1 are.tiers).sound texts.1 b.0 b.1;
          level_is = (triple_table_value_both tables.defaults.2 are.levels).sound texts.2 c.0 c.1;
        });
    complete = λ texts t k. rw (
      (triple_table_value_both tables.defaults.0 are.profiles).complete texts.0 t.profile k.profile_is,
      (triple_table_value_both tables.defaults.1 are.tiers).complete texts.1 t.tier k.tier_is,
      (triple_table_value_both tables.defaults.2 are.levels).complete texts.2 t.level k.level_is,
    ) refl;
  }

  triple_of_texts : (profile tier level : Option (Bor (List ℕ))) (answer : Option (ProfileTierLevel P T L))
      → IsTheOnly (HasNumbersOfTexts tables.profile_id tables.tier_flag tables.level_id tables.defaults profile tier level) answer
      → answer ≡ read_triple tables (part_text_of profile, part_text_of tier, part_text_of level)
  triple_of_texts profile tier level answer h = only_same answer _ h
      (only_read triple_both (part_text_of profile, part_text_of tier, part_text_of level) _ refl)

  triple_small : (t : ProfileTierLevel P T L) → AreTripleBytes tables t
  triple_small t = (are.profiles.byte t.profile, are.tiers.byte t.tier, are.levels.byte t.level)

  triple_shown_again : (t : ProfileTierLevel P T L) → read_triple tables (triple_texts_shown tables t) ≡ Some t
  triple_shown_again t =
      let small = triple_small t in
      triple_both.complete (triple_texts_shown tables t) t (record {
        profile_is = param_decimal_reads 255 (tables.profile_id t.profile) small.0 (omega (arith, small.0));
        tier_is = param_decimal_reads 255 (tables.tier_flag t.tier) small.1 (omega (arith, small.1));
        level_is = param_decimal_reads 255 (tables.level_id t.level) small.2 (omega (arith, small.2));
      })

  -- what has no triple names none, as a parameter
  no_triple_made : (make : ProfileTierLevel P T L → FormatParam) (texts : TripleTexts) → read_triple tables texts ≡ None
      → (param : Option FormatParam) → ((t : ProfileTierLevel P T L) × IsTripleOfTables texts t × (param ≡ Some (make t))) → ⊥
  no_triple_made make texts e param h = cuts_none_reads triple_both texts e h.0 h.1

  no_triple_read : (make : ProfileTierLevel P T L → FormatParam) (texts : TripleTexts)
      → ((param : Option FormatParam) → ((t : ProfileTierLevel P T L) × IsTripleOfTables texts t × (param ≡ Some (make t))) → ⊥)
      → read_triple tables texts ≡ None
  no_triple_read make texts none = cuts_reads_none triple_both texts (λ t is. none (Some (make t)) (t, is, refl))

-- ---- each codec

pub h265_is : (profile tier level : Option (Bor (List ℕ))) (answer : Option h265_triple)
    → IsTheOnly (HasNumbersOfTexts h265.profile_id h265.tier_flag h265.level_id h265.h265_defaults profile tier level) answer
    → answer ≡ read_triple h265_tables (part_text_of profile, part_text_of tier, part_text_of level)
h265_is = triple_of_texts h265_tables h265_are

pub h266_is : (profile tier level : Option (Bor (List ℕ))) (answer : Option h266_triple)
    → IsTheOnly (HasNumbersOfTexts h266.profile_id h266.tier_flag h266.level_id h266.h266_defaults profile tier level) answer
    → answer ≡ read_triple h266_tables (part_text_of profile, part_text_of tier, part_text_of level)
h266_is = triple_of_texts h266_tables h266_are

pub h265_small : (t : h265_triple) → AreTripleBytes h265_tables t
h265_small = triple_small h265_tables h265_are

pub h266_small : (t : h266_triple) → AreTripleBytes h266_tables t
h266_small = triple_small h266_tables h266_are

-- no level has one number in both tables
levels_apart : (b : H266Level) → profile_table_value h265_tables.levels (h266.level_id b) ≡ None
levels_apart b = grind arith

no_h265 : (t : h266_triple) → read_triple h265_tables (triple_texts_shown h266_tables t) ≡ None
no_h265 t =
    let small = (h266_small t).2 in
    let printed = param_decimal_reads 255 (h266.level_id t.level) small (omega (arith, small)) in
    cuts_reads_none (triple_both h265_tables h265_are) (triple_texts_shown h266_tables t) (λ u is.
    let same : h265.level_id u.level ≡ h266.level_id t.level = sym is.level_is.value ∙ printed.value in
    none-some u.level (sym (levels_apart t.level) ∙ (h265_are.levels.only (h266.level_id t.level)).only u.level same))

pub h265_again : (t : h265_triple) → triple_read (triple_texts_shown h265_tables t) ≡ Some (H265ProfileTierLevel t)
h265_again t = rw (triple_shown_again h265_tables h265_are t) refl

pub h266_again : (t : h266_triple) → triple_read (triple_texts_shown h266_tables t) ≡ Some (H266ProfileTierLevel t)
h266_again t = rw (no_h265 t, triple_shown_again h266_tables h266_are t) refl

-- ---- the triple of either codec

pub triple_is : (texts : TripleTexts) → IsTripleParam texts (triple_read texts)
triple_is texts = go (read_triple h265_tables texts) (read_triple h266_tables texts) refl refl
  where
    go : (o : Option h265_triple) (p : Option h266_triple) → read_triple h265_tables texts ≡ o → read_triple h266_tables texts ≡ p
        → IsTripleParam texts (option_map (λ t. H265ProfileTierLevel t) o <|> option_map (λ t. H266ProfileTierLevel t) p)
    go (Some t) p e f = inl (t, (triple_both h265_tables h265_are).sound texts t e, refl)
    go None (Some u) e f = inr (
      no_triple_made h265_tables h265_are (λ t. H265ProfileTierLevel t) texts e,
      inl (u, (triple_both h266_tables h266_are).sound texts u f, refl),
    )
    go None None e f =
        inr (
          no_triple_made h265_tables h265_are (λ t. H265ProfileTierLevel t) texts e,
          inr (no_triple_made h266_tables h266_are (λ t. H266ProfileTierLevel t) texts f, refl),
        )

pub triple_only : (texts : TripleTexts) (param : Option FormatParam) → IsTripleParam texts param → param ≡ triple_read texts
triple_only texts param (inl (t, is, e)) = rw (e, (triple_both h265_tables h265_are).complete texts t is) refl
triple_only texts param (inr (none, inl (u, is, e))) =
    rw (
      e,
      no_triple_read h265_tables h265_are (λ t. H265ProfileTierLevel t) texts none,
      (triple_both h266_tables h266_are).complete texts u is,
    )
    refl
triple_only texts param (inr (none5, inr (none6, e))) =
    rw (
      e,
      no_triple_read h265_tables h265_are (λ t. H265ProfileTierLevel t) texts none5,
      no_triple_read h266_tables h266_are (λ t. H266ProfileTierLevel t) texts none6,
    ) refl
