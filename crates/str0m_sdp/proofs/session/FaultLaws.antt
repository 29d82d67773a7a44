-- Laws of the first fault of a section: there is none where the section is consistent, and only there.
use Rattle.str0m_sdp.proofs.Common.{◌≡◌, ℕ, ◌<◌, ◌≤◌, Bool, true, false, not, List, [], ◌∷◌, Option, Some, None, length, filter_map}
use Rattle.str0m_sdp.proofs.Common.{count_by, All, refl, arith, ◌↔◌, nat_lt, AllByRecursion, cons_option, ne_eqb, lt-ltb}
use Rattle.str0m_sdp.proofs.Common.{All-from_recursion, recursion_from_All, FormatParam, ◌<|>◌, when, ◌⊎◌, ◌==◌, ◌&&◌, ◌≢◌, is_some, Ok}
use Rattle.str0m_sdp.proofs.Common.{Err, IfSome, cases_lt, static_needs_none}
use Rattle.str0m_sdp.proofs.section.SectionDirectionHolders.{mid_counted}
use Rattle.str0m_sdp.specs.Common.{first}
use Rattle.str0m_sdp.specs.declared.attribute.MediaAttribute.{MediaAttribute}
use Rattle.str0m_sdp.specs.declared.attribute.proto.Proto.{Proto}
use Rattle.str0m_sdp.specs.declared.attribute.proto.Proto.TheVariants.{Srtp, Sctp}
use Rattle.str0m_sdp.specs.declared.section.media_line.MediaLine.{MediaLine}
use Rattle.str0m_sdp.specs.declared.session.fault.Fault.{Fault}
use Rattle.str0m_sdp.specs.declared.session.fault.Fault.TheVariants.{SecondSetup}
use Rattle.str0m_sdp.specs.section.Consistency.{Consistent, NeedsNoMapping, NamesNoOtherSectionApt, AgreesOnSectionApt, IsMapped, FitsProto}
use Rattle.str0m_sdp.specs.section.Consistency.{section_apt_of}
use Rattle.str0m_sdp.specs.section.Consistency.{is_direction, is_mid, is_setup, maps as maps_to, mid_of}
use Rattle.str0m_sdp.specs.session.Fault.{after_mid, apt_fault, apt_clash_fault, err_if_fault, fault_beside, first_fault, map_fault}
use Rattle.str0m_sdp.specs.session.Fault.{mapping_fault}
use Rattle.str0m_sdp.specs.session.Fault.{one_mid}
use Rattle.str0m_sdp.specs.session.Fault.{proto_fault, setup_fault, value_fault, values_fault}

-- ---- the first of several

-- what was asked first found nothing
pub fault_earlier_passed : {E : Type 0} (o p : Option E) → Ok tt ≡ err_if_fault o → o <|> p ≡ p
fault_earlier_passed o p is = grind arith

pub no_fault_if_ok : {E : Type 0} (o : Option E) → Ok tt ≡ err_if_fault o → o ≡ None
no_fault_if_ok o ok = grind arith

pub fault_or_none : {E : Type 0} (o p : Option E) → (o <|> p ≡ None) ↔ ((o ≡ None) × (p ≡ None))
fault_or_none o p = grind arith

pub fault_when_none : {E : Type 0} (test : Bool) (x : E) → (when test x ≡ None) ↔ (test ≡ false)
fault_when_none test x = grind arith

-- no item has a fault
pub no_first_fault : {E : Type 0} (o : Option E) (os : List E) → (first (cons_option o os) ≡ None) ↔ ((o ≡ None) × (first os ≡ None))
no_first_fault o os = grind arith

module _ {X E : Type 0} (f : X → Option E) (P : X → Type 0) (each : (x : X) → (f x ≡ None) ↔ P x) where
  fault_by_items : (xs : List X) → (first (filter_map f xs) ≡ None) ↔ AllByRecursion P xs
  fault_by_items [] = ((λ is. tt), λ all. refl)
  fault_by_items (x ∷ xs) = grind (arith, no_first_fault, fault_by_items xs)

  pub no_fault_among : (xs : List X) → (first (filter_map f xs) ≡ None) ↔ All P xs
  no_fault_among xs =
      let each = fault_by_items xs in
      ((λ is. All-from_recursion P xs (each.0 is)), λ all. each.1 (recursion_from_All P xs all))

-- ---- the questions

mids : (count : ℕ) (o : Option (List ℕ)) → ((is_some o ≡ true) ↔ (0 < count)) → (beside : List ℕ → Option Fault) (P : Type 0)
    → ((mid : List ℕ) → (beside mid ≡ None) ↔ P) → (after_mid (one_mid count o) beside ≡ None) ↔ ((count ≡ 1) × P)
mids count o held beside p none = grind arith

fault_count_at_most_one : {E : Type 0} (count : ℕ) (fault : E) → (when (nat_lt 1 count) fault ≡ None) ↔ (count ≤ 1)
fault_count_at_most_one count fault = grind arith

fault_unmapped_none : {E : Type 0} (known : Bool) (fault : E) (P : Type 0) → ((known ≡ true) ↔ P)
    → (when (not known) fault <|> None ≡ None) ↔ P
fault_unmapped_none known fault P is = grind arith

mapping_none : (mid : List ℕ) (pt count : ℕ) → (mapping_fault count mid pt ≡ None) ↔ ((count ≡ 1) ⊎ ((count ≡ 0) × NeedsNoMapping pt))
mapping_none mid pt count = grind (arith, cases_lt, lt-ltb, ne_eqb, static_needs_none)

fault_not_one : (count : ℕ) → (not (count == 1) ≡ false) ↔ (count ≡ 1)
fault_not_one count = grind arith

has_some_type : (disabled : Bool) (pts : List ℕ) → ((not disabled && length pts == 0) ≡ false) ↔ (disabled ≡ false → pts ≢ [])
has_some_type true pts = ((λ is enabled. absurd cc), λ some. refl)
has_some_type false [] = ((λ is. absurd cc), λ some. absurd (some refl refl))
has_some_type false (pt ∷ pts) = rw (ne_eqb (length (pt ∷ pts)) 0 (λ same. omega (arith, same))) ((λ is enabled same. cc), λ some. refl)

proto_fits : (m : MediaLine) (mid : List ℕ) (proto : Proto)
    → (proto_fault m mid proto ≡ None) ↔ (proto ≡ Srtp → (count_by is_direction m.attrs ≡ 1) × (m.disabled ≡ false → m.pts ≢ []))
proto_fits m mid Sctp = ((λ is same. absurd cc), λ fits. refl)
proto_fits m mid Srtp = grind (arith, fault_when_none, fault_or_none, fault_not_one, has_some_type)

fault_apts_clash : (mid : List ℕ) (pt named : ℕ) (other : Option ℕ)
    → (apt_clash_fault mid pt named other ≡ None) ↔ IfSome other (λ other. named ≡ other)
fault_apts_clash mid pt named other = grind arith

fault_values_agree : (mid : List ℕ) (pt : ℕ) (values : List FormatParam) (o : Option ℕ)
    → (values_fault mid pt values o ≡ None) ↔ IfSome o (λ named. All (NamesNoOtherSectionApt named) values)
fault_values_agree mid pt values None = ((λ is. tt), λ is. refl)
fault_values_agree mid pt values (Some named) =
    no_fault_among (value_fault mid pt named) (NamesNoOtherSectionApt named) (λ value. fault_apts_clash mid pt named (section_apt_of value))
    values

fault_apts_agree : (attrs : List MediaAttribute) (mid : List ℕ) (attr : MediaAttribute)
    → (apt_fault attrs mid attr ≡ None) ↔ AgreesOnSectionApt attrs attr
fault_apts_agree attrs mid attr = grind (arith, fault_values_agree)

-- ---- all of them

-- what a consistent section has beside its mid
abbrev ConsistentBesideMid : MediaLine → Type 0
ConsistentBesideMid m = (count_by is_setup m.attrs ≤ 1)
    × (FitsProto m × (All (IsMapped m.attrs) m.pts × All (AgreesOnSectionApt m.attrs) m.attrs))

fault_beside_none : (m : MediaLine) (mid : List ℕ) → (fault_beside m mid ≡ None) ↔ ConsistentBesideMid m
fault_beside_none m mid =
    let maps = first (filter_map (map_fault m.attrs mid) m.pts) in
    let apts = first (filter_map (apt_fault m.attrs mid) m.attrs) in
    let a = fault_or_none (setup_fault m.attrs mid) (proto_fault m mid m.proto <|> (maps <|> apts)) in
    let b = fault_or_none (proto_fault m mid m.proto) (maps <|> apts) in
    let d = fault_or_none maps apts in
    let setup = fault_count_at_most_one (count_by is_setup m.attrs) (SecondSetup mid) in
    let proto = proto_fits m mid m.proto in
    let mapping = no_fault_among (map_fault m.attrs mid) (IsMapped m.attrs) (λ pt. mapping_none mid pt (count_by (maps_to pt) m.attrs))
    m.pts in
    let apt = no_fault_among (apt_fault m.attrs mid) (AgreesOnSectionApt m.attrs) (fault_apts_agree m.attrs mid) m.attrs in (
      (λ is. let p = a.0 is in let q = b.0 p.1 in let r = d.0 q.1 in (setup.0 p.0, (proto.0 q.0, (mapping.0 r.0, apt.0 r.1)))),
      λ holds. a.1 (setup.1 holds.0, b.1 (proto.1 holds.1.0, d.1 (mapping.1 holds.1.1.0, apt.1 holds.1.1.1))),
    )

pub no_fault : (m : MediaLine) → (first_fault m ≡ None) ↔ Consistent m
no_fault m =
    let held = mid_counted m.attrs in
    let all = mids (count_by is_mid m.attrs) (first (filter_map mid_of m.attrs)) held (fault_beside m) (ConsistentBesideMid m)
    (fault_beside_none m) in (
      (λ is. let holds = all.0 is in
          record { mid = holds.0; setup = holds.1.0; proto = holds.1.1.0; mapped = holds.1.1.1.0; apt = holds.1.1.1.1 }),
      λ is. all.1 (is.mid, (is.setup, (is.proto, (is.mapped, is.apt)))),
    )

-- as the answer of what looks for a fault
pub consistent_if_ok : (m : MediaLine) → Ok tt ≡ err_if_fault (first_fault m) → Consistent m
consistent_if_ok m ok = (no_fault m).0 (no_fault_if_ok (first_fault m) ok)

pub consistent_not_err : (m : MediaLine) (fault : Fault) → Err fault ≡ err_if_fault (first_fault m) → Consistent m → ⊥
consistent_not_err m fault err is = let none = (no_fault m).1 is in absurd (let no = rw none at err in cc)
