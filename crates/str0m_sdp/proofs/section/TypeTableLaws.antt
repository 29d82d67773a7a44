-- Tables by payload type, one attribute more.
use Rattle.str0m_sdp.proofs.Common.{arith, ◌≡◌, ◌<◌, ◌+◌, ◌++◌, ℕ, true, false, List, [], ◌∷◌, length, take, get_or, Bool, Option, Some}
use Rattle.str0m_sdp.proofs.Common.{None, count_by, cond, when, ◌==◌, replicate, zero, suc}
use Rattle.str0m_sdp.proofs.Common.{refl, sym, ap, ◌∙◌, inl, inr, cases_eq, eq-eqb, ne_eqb, take_at_read, get_or-set_same, get_or-set_other}
use Rattle.str0m_sdp.proofs.Common.{FormatParam, ◌<|>◌, set, count_by_more_no, count_by_more_yes}
use Rattle.str0m_sdp.specs.declared.attribute.MediaAttribute.{MediaAttribute}
use Rattle.str0m_sdp.specs.declared.attribute.MediaAttribute.TheVariants.{RtpMap, Fmtp}
use Rattle.str0m_sdp.specs.declared.attribute.rtp_map.RtpMap.{RtpMap as Mapping}
use Rattle.str0m_sdp.specs.declared.section.type_tables.TypeTable.{TypeTable}
use Rattle.str0m_sdp.specs.section.Consistency.{maps, section_apt_in, first_section_apt}
use Rattle.str0m_sdp.specs.section.TypeTables.{IsWholeTable, type_in_table}

-- ---- mappings

pub maps_none : (pt : ℕ) (attr : MediaAttribute) → ((n : ℕ) (value : Mapping) → attr ≡ RtpMap n value → ⊥) → maps pt attr ≡ false
maps_none pt attr other = grind arith

-- an attribute that maps no type changes no count
pub table_maps_count_same : (attrs : List MediaAttribute) (counts : List ℕ) (i : ℕ) (attr : MediaAttribute)
    → i < length attrs → attr ≡ get_or attrs i attr → ((n : ℕ) (value : Mapping) → attr ≡ RtpMap n value → ⊥)
    → (pt : ℕ) → get_or counts pt 0 ≡ count_by (maps pt) (take i attrs)
    → get_or counts pt 0 ≡ count_by (maps pt) (take (i + 1) attrs)
table_maps_count_same attrs counts i attr lt is other pt so_far = grind (arith, count_by_more_no, maps_none)

-- a mapping counts for its own type alone
pub table_maps_count_more : (attrs : List MediaAttribute) (counts : List ℕ) (i n : ℕ) (value : Mapping) (attr : MediaAttribute)
    → i < length attrs → n < length counts → attr ≡ get_or attrs i attr → attr ≡ RtpMap n value
    → (pt : ℕ) → get_or counts pt 0 ≡ count_by (maps pt) (take i attrs)
    → get_or (set counts n (get_or counts n 0 + 1)) pt 0 ≡ count_by (maps pt) (take (i + 1) attrs)
table_maps_count_more attrs counts i n value attr lt row is variant pt so_far =
    grind (arith, cases_eq, get_or-set_same, count_by_more_yes, eq-eqb, get_or-set_other, count_by_more_no, ne_eqb)

-- ---- primary types

table_or_else_none : (o : Option ℕ) → (o <|> None) ≡ o
table_or_else_none o = grind arith

type_or_else_assoc : (a b c : Option ℕ) → ((a <|> b) <|> c) ≡ (a <|> (b <|> c))
type_or_else_assoc a b c = grind arith

first_section_apt-append : (pt : ℕ) (xs ys : List MediaAttribute)
    → first_section_apt pt (xs ++ ys) ≡ (first_section_apt pt xs <|> first_section_apt pt ys)
first_section_apt-append pt [] ys = refl
first_section_apt-append pt (x ∷ xs) ys = grind (arith, first_section_apt-append pt xs ys, type_or_else_assoc)

table_first_apt_more : (pt : ℕ) (attrs : List MediaAttribute) (i : ℕ) (attr : MediaAttribute) → i < length attrs
    → attr ≡ get_or attrs i attr
    → first_section_apt pt (take (i + 1) attrs) ≡ (first_section_apt pt (take i attrs) <|> section_apt_in pt attr)
table_first_apt_more pt attrs i attr lt is = grind (arith, take_at_read, first_section_apt-append, table_or_else_none)

section_apt_none : (pt : ℕ) (attr : MediaAttribute) → ((n : ℕ) (values : List FormatParam) → attr ≡ Fmtp n values → ⊥)
    → section_apt_in pt attr ≡ None
section_apt_none pt attr other = grind arith

-- what is no fmtp line names none
pub table_first_apt_other : (attrs : List MediaAttribute) (first : Option ℕ) (i : ℕ) (attr : MediaAttribute)
    → i < length attrs → attr ≡ get_or attrs i attr → ((n : ℕ) (values : List FormatParam) → attr ≡ Fmtp n values → ⊥)
    → (pt : ℕ) → first ≡ first_section_apt pt (take i attrs) → first ≡ first_section_apt pt (take (i + 1) attrs)
table_first_apt_other attrs first i attr lt is other pt so_far =
    grind (
      arith,
      table_first_apt_more pt attrs i attr lt is,
      section_apt_none pt attr other,
      table_or_else_none (first_section_apt pt (take i attrs)),
    )

-- an fmtp line's own is the first where none is named yet
pub table_first_apt_noted : (attrs : List MediaAttribute) (first then : Option ℕ) (i n : ℕ) (values : List FormatParam)
    (attr : MediaAttribute)
    → i < length attrs → attr ≡ get_or attrs i attr → attr ≡ Fmtp n values
    → (pt : ℕ) → then ≡ (first <|> section_apt_in pt (Fmtp n values)) → first ≡ first_section_apt pt (take i attrs)
    → then ≡ first_section_apt pt (take (i + 1) attrs)
table_first_apt_noted attrs first then i n values attr lt is variant pt noted so_far =
    noted ∙ ap (λ (a : MediaAttribute). first <|> section_apt_in pt a) (sym variant)
    ∙ ap (λ (o : Option ℕ). o <|> section_apt_in pt attr) so_far ∙ sym (table_first_apt_more pt attrs i attr lt is)

-- ---- tables of types

type_absent : (there : Bool) (pt : ℕ) → there ≡ false → when there pt ≡ None
type_absent there pt is = grind arith

none_is_there : (count pt : ℕ) → get_or (replicate count false) pt false ≡ false
none_is_there zero pt = refl
none_is_there (suc count) zero = refl
none_is_there (suc count) (suc pt) = none_is_there count pt

-- a table that is cleared has no type for any
pub type_cleared : (pts : List ℕ) (pt : ℕ) → when (get_or (replicate 256 false) pt false) (get_or pts pt 0) ≡ None
type_cleared pts pt = type_absent _ (get_or pts pt 0) (none_is_there 256 pt)

-- a type that is set is that of its place, and of no other
pub type_set : (table : TypeTable) (pt one n : ℕ) → pt < 256 → IsWholeTable table
    → when (get_or (set table.is_there pt true) n false) (get_or (set table.pts pt one) n 0)
    ≡ cond (pt == n) (Some one) (type_in_table table n)
type_set table pt one n small whole =
    elim (cases_eq pt n) [
      | inl same ↦ rw (
        ← same,
        get_or-set_same table.is_there pt true false (rw (← whole.is_there) at small),
        get_or-set_same table.pts pt one 0 (rw (← whole.pts) at small),
        eq-eqb pt pt refl,
      ) refl
      | inr apart ↦ rw (
        get_or-set_other table.is_there pt n true false (λ same. apart (sym same)),
        get_or-set_other table.pts pt n one 0 (λ same. apart (sym same)),
        ne_eqb pt n apart,
      ) refl
    ]
