-- Tables that mark types, one item more.
use Rattle.str0m_sdp.proofs.Common.{arith, ◌≡◌, ◌<◌, ◌+◌, ◌==◌, ℕ, Bool, true, false, ◌&&◌, ◌||◌, List, length, take, get_or, sym, ap, ◌∙◌}
use Rattle.str0m_sdp.proofs.Common.{list_any, cases_eq, eq-eqb, ne_eqb, or_right, get_or-set_same, get_or-set_other, set, list_any_more}
use Rattle.str0m_sdp.proofs.section.SectionRowsParts.{rows_or_false}

pub mark_and_when : (a b : Bool) → b ≡ true → (a && b) ≡ a
mark_and_when a b is = grind arith

-- some item passes so far, or the one that is read
pub mark_any_more : {X : Type 0} (p : X → Bool) (xs : List X) (i : ℕ) (x : X) → i < length xs → x ≡ get_or xs i x
    → list_any p (take (i + 1) xs) ≡ (list_any p (take i xs) || p x)
mark_any_more p xs i x lt is = list_any_more p xs i x lt ∙ ap (λ (b : Bool). list_any p (take i xs) || b) (ap p (sym is))

-- an item that doesn't pass marks nothing
pub mark_any_same : {X : Type 0} (p : X → Bool) (xs : List X) (i : ℕ) (x : X) → i < length xs → x ≡ get_or xs i x → p x ≡ false
    → list_any p (take (i + 1) xs) ≡ list_any p (take i xs)
mark_any_same p xs i x lt is fails = grind (arith, mark_any_more p xs i x lt is, rows_or_false (list_any p (take i xs)))

-- a type that is marked is marked on its own
pub set_marked : (marks : List Bool) (n pt : ℕ) (so_far : Bool) → n < length marks → get_or marks pt false ≡ so_far
    → get_or (set marks n true) pt false ≡ (so_far || n == pt)
set_marked marks n pt so_far row is = grind (arith, cases_eq, get_or-set_same, or_right, eq-eqb, get_or-set_other, ne_eqb, rows_or_false)
