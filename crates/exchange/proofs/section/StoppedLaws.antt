-- Sections that a group names.
use Rattle.exchange.proofs.Common.{arith, ◌≡◌, ◌↔◌, ◌||◌, ℕ, Bool, true, false, List, [], ◌∷◌, get_or, Option, Some, None, IfSome, IsTrue}
use Rattle.exchange.proofs.Common.{bytes_eq, refl, subst, sym, ap, ◌∙◌, false≢true, Contains-append_right, list_any_at, bytes_eq-Decides}
use Rattle.exchange.proofs.Common.{BTreeSet, Bor, Contains, MediaLine, Sdp, HoldsMids, is_group_listed}
use Rattle.exchange.specs.answer.InBundle.{bundle_names, bundle_names_or_none}
use Rattle.exchange.specs.section.Places.{HoldsGroup}
use Rattle.exchange.specs.section.Stopped.{IsBundled, bundle_group, name_of}

-- ---- names in a list

stopped_name_contained : (names : List (List ℕ)) (mid : List ℕ) → is_group_listed names (Some mid) ≡ true → Contains names mid
stopped_name_contained [] mid h = absurd (false≢true h)
stopped_name_contained (x ∷ xs) mid h = go (bytes_eq x mid) refl h (stopped_name_contained xs mid) where
  go : (b : Bool) → bytes_eq x mid ≡ b → (b || is_group_listed xs (Some mid)) ≡ true
      → (is_group_listed xs (Some mid) ≡ true → Contains xs mid)
      → Contains (x ∷ xs) mid
  go true e h rec = (0, omega arith, (bytes_eq-Decides x mid).0 e)
  go false e h rec = Contains-append_right (x ∷ []) xs mid (rec h)

stopped_listed_there : (names : List (List ℕ)) (mid : List ℕ) → Contains names mid → is_group_listed names (Some mid) ≡ true
stopped_listed_there names mid there = list_any_at (λ other. bytes_eq other mid) names there.0 mid there.1
    ((bytes_eq-Decides (get_or names there.0 mid) mid).1 there.2)

-- ---- names in a group

stopped_names_some : (group : Option (List (List ℕ))) (name : Option (List ℕ)) → is_group_listed (bundle_names_or_none group) name ≡ true
    → (names : List (List ℕ)) × (mid : List ℕ) × (group ≡ Some names) × (name ≡ Some mid) × Contains names mid
stopped_names_some None None h = absurd (false≢true h)
stopped_names_some None (Some mid) h = absurd (false≢true h)
stopped_names_some (Some names) None h = absurd (false≢true h)
stopped_names_some (Some names) (Some mid) h = (names, mid, refl, refl, stopped_name_contained names mid h)

stopped_one_section_named : (group : Option (List (List ℕ))) (name : Option (List ℕ)) (names : List (List ℕ)) (mid : List ℕ)
    → group ≡ Some names
    → name ≡ Some mid
    → Contains names mid → is_group_listed (bundle_names_or_none group) name ≡ true
stopped_one_section_named group name names mid is named there =
    ap (λ (g : Option (List (List ℕ))). is_group_listed (bundle_names_or_none g) name) is ∙ ap (is_group_listed names) named
    ∙ stopped_listed_there names mid there

-- a test for the name of a section tells whether the group names it
pub bundled_so : (sdp : Sdp) (m : MediaLine) (b : Bool) → b ≡ is_group_listed (bundle_names sdp) (name_of m) → IsTrue b ↔ IsBundled sdp m
bundled_so sdp m b is = (λ yes. stopped_names_some (bundle_group sdp) (name_of m) (sym is ∙ yes), λ so. is ∙ again so) where
  again : IsBundled sdp m → is_group_listed (bundle_names sdp) (name_of m) ≡ true
  again (names, mid, grouped, named, there) = stopped_one_section_named (bundle_group sdp) (name_of m) names mid grouped named there

-- ---- the other side's group

-- where it has said a description
pub held_group : (remote : Option Sdp) (group : BTreeSet (Bor (List ℕ))) (sdp : Sdp) → remote ≡ Some sdp → HoldsGroup remote group
    → HoldsMids group (bundle_names sdp)
held_group remote group sdp is holds = subst (λ (o : Option Sdp). IfSome o (λ it. HoldsMids group (bundle_names it))) is holds
