-- The types of a section with their codecs, one type more.
use Rattle.str0m_sdp.proofs.Common.{arith, ◌≡◌, ◌<◌, ◌+◌, ◌++◌, ◌==◌, ℕ, Bool, true, false, cond, ◌||◌, List, [], ◌∷◌, length, take, get_or}
use Rattle.str0m_sdp.proofs.Common.{Option, None, nat_eq, filter_map, option_to_list, refl, sym, ap, ◌∙◌, inl, inr, list_any, cases_eq}
use Rattle.str0m_sdp.proofs.Common.{eq-eqb, ne_eqb, or_right, take_at_read, append-nil, filter_map-append, CodecSpec, set}
use Rattle.str0m_sdp.proofs.section.MappingsFilterMap.{map_more}
use Rattle.str0m_sdp.proofs.section.SectionRowsParts.{rows_or_false}
use Rattle.str0m_sdp.proofs.section.TypeTablesMarks.{mark_any_more, set_marked}
use Rattle.str0m_sdp.proofs.session.DistinctCandidatesLaws.{distinct_push}
use Rattle.str0m_sdp.specs.Common.{distinct}
use Rattle.str0m_sdp.specs.attribute.RtpMap.{spec_of_map}
use Rattle.str0m_sdp.specs.declared.attribute.MediaAttribute.{MediaAttribute}
use Rattle.str0m_sdp.specs.declared.attribute.MediaAttribute.TheVariants.{RtpMap}
use Rattle.str0m_sdp.specs.declared.attribute.rtp_map.RtpMap.{RtpMap as Mapping}
use Rattle.str0m_sdp.specs.section.Consistency.{maps}
use Rattle.str0m_sdp.specs.section.Mappings.{mapping, static_type, unmapped_type}

-- a type that was seen adds no row; else it adds what it stands for
one_type_more : {X Y : Type 0} (f : X → Option Y) (x : X) (o : Option Y) (a b : Bool) → f x ≡ cond a None o
    → filter_map f (cond b [] (x ∷ [])) ≡ cond (a || b) [] (option_to_list o)
one_type_more f x o a b is = grind arith

-- the rows of the m-line's types, one type more
pub mapping_statics_more : (attrs : List MediaAttribute) (pts : List ℕ) (i pt : ℕ) → i < length pts → pt ≡ get_or pts i pt
    → filter_map (unmapped_type attrs) (distinct nat_eq (take (i + 1) pts))
    ≡ filter_map (unmapped_type attrs) (distinct nat_eq (take i pts))
    ++ cond (list_any (maps pt) attrs || list_any (λ n. n == pt) (take i pts)) [] (option_to_list (static_type pt))
mapping_statics_more attrs pts i pt lt is = grind (arith, take_at_read, distinct_push, filter_map-append, one_type_more)

-- a type that is new adds what it stands for
pub mapping_statics_new : (attrs : List MediaAttribute) (pts : List ℕ) (i pt : ℕ) → i < length pts → pt ≡ get_or pts i pt
    → (list_any (maps pt) attrs || list_any (λ n. n == pt) (take i pts)) ≡ false
    → filter_map (unmapped_type attrs) (distinct nat_eq (take (i + 1) pts))
    ≡ filter_map (unmapped_type attrs) (distinct nat_eq (take i pts)) ++ option_to_list (static_type pt)
mapping_statics_new attrs pts i pt lt is new = grind (arith, mapping_statics_more)

-- one that was seen adds nothing
pub mapping_statics_seen : (attrs : List MediaAttribute) (pts : List ℕ) (i pt : ℕ) → i < length pts → pt ≡ get_or pts i pt
    → (list_any (maps pt) attrs || list_any (λ n. n == pt) (take i pts)) ≡ true
    → filter_map (unmapped_type attrs) (distinct nat_eq (take (i + 1) pts))
    ≡ filter_map (unmapped_type attrs) (distinct nat_eq (take i pts))
mapping_statics_seen attrs pts i pt lt is seen = grind (arith, mapping_statics_more, append-nil)

mapping_bools_assoc : (a b c : Bool) → ((a || b) || c) ≡ (a || (b || c))
mapping_bools_assoc a b c = grind arith

-- a new type is marked
pub mapping_mark_new : (marks : List Bool) (pts : List ℕ) (i new pt : ℕ) (a : Bool) → i < length pts → new ≡ get_or pts i new
    → new < length marks
    → get_or marks pt false ≡ (a || list_any (λ n. n == pt) (take i pts))
    → get_or (set marks new true) pt false ≡ (a || list_any (λ n. n == pt) (take (i + 1) pts))
mapping_mark_new marks pts i new pt a lt is row so_far =
    let before = list_any (λ n. n == pt) (take i pts) in
    set_marked marks new pt (a || before) row so_far ∙ mapping_bools_assoc a before (new == pt)
    ∙ sym (ap (λ (b : Bool). a || b) (mark_any_more (λ n. n == pt) pts i new lt is))

-- one that is marked stays so
pub mapping_mark_seen : (marks : List Bool) (pts : List ℕ) (i seen pt : ℕ) (a : Bool) → i < length pts → seen ≡ get_or pts i seen
    → get_or marks seen false ≡ true
    → get_or marks pt false ≡ (a || list_any (λ n. n == pt) (take i pts))
    → get_or marks pt false ≡ (a || list_any (λ n. n == pt) (take (i + 1) pts))
mapping_mark_seen marks pts i seen pt a lt is marked so_far =
    let before = list_any (λ n. n == pt) (take i pts) in
    let more = mark_any_more (λ n. n == pt) pts i seen lt is in
    elim (cases_eq seen pt) [
      | inl same ↦
          (rw same at marked) ∙ sym (ap (λ (b : Bool). a || b) more
          ∙ or_right a (before || (seen == pt)) (or_right before (seen == pt) (eq-eqb seen pt same)))
      | inr apart ↦
          so_far ∙ sym (ap (λ (b : Bool). a || b) (more ∙ ap (λ (b : Bool). before || b) (ne_eqb seen pt apart) ∙ rows_or_false before))
    ]

-- the mappings of the lines, one line more: it is one, or none
pub mapping_more : (attrs : List MediaAttribute) (rows : List (ℕ × CodecSpec)) (i n : ℕ) (value : Mapping) (attr : MediaAttribute)
    → i < length attrs → attr ≡ get_or attrs i attr → attr ≡ RtpMap n value → rows ≡ filter_map mapping (take i attrs)
    → rows ++ (n, spec_of_map value) ∷ [] ≡ filter_map mapping (take (i + 1) attrs)
mapping_more attrs rows i n value attr lt is variant so_far = grind (arith, map_more mapping attrs i attr lt is)

no_mapping : (attr : MediaAttribute) → ((n : ℕ) (value : Mapping) → attr ≡ RtpMap n value → ⊥) → mapping attr ≡ None
no_mapping attr other = grind arith

pub mapping_other : (attrs : List MediaAttribute) (rows : List (ℕ × CodecSpec)) (i : ℕ) (attr : MediaAttribute)
    → i < length attrs → attr ≡ get_or attrs i attr → ((n : ℕ) (value : Mapping) → attr ≡ RtpMap n value → ⊥)
    → rows ≡ filter_map mapping (take i attrs) → rows ≡ filter_map mapping (take (i + 1) attrs)
mapping_other attrs rows i attr lt is other so_far =
    grind (arith, map_more mapping attrs i attr lt is, no_mapping attr other, append-nil (filter_map mapping (take i attrs)))

-- a type is among the mappings where a line maps it
pub any_mapped : (pt : ℕ) (attrs : List MediaAttribute) → list_any (λ row. row.0 == pt) (filter_map mapping attrs)
    ≡ list_any (maps pt) attrs
any_mapped pt [] = refl
any_mapped pt (RtpMap n value ∷ attrs) = ap (λ (b : Bool). n == pt || b) (any_mapped pt attrs)
any_mapped pt (_ ∷ attrs) = any_mapped pt attrs
