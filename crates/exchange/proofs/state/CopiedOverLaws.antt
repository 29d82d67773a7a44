-- Items that are in a relation with those in their places, mended one after another.
use Rattle.exchange.proofs.Common.{arith, ◌≡◌, ◌<◌, ◌+◌, ◌≤◌, false, ℕ, List, get_or, length, set, subst, sym, true≢false, get_or-set_other}
use Rattle.exchange.proofs.Common.{MediaAttribute, Fmtp, Alike}
use Rattle.exchange.specs.state.ReadBack.{read_back_may_differ}
use Rattle.str0m_sdp.specs.declared.attribute.MediaAttribute.TheVariants.{Simulcast as SimulcastLine}

-- those from a place on
abbrev pub CopiedFromOn : {X : Type 0} → (X → X → Type 0) → List X → List X → ℕ → Type 0
CopiedFromOn {X} R xs ys i = (k : ℕ) (d e : X) → i ≤ k → k < length xs → R (get_or xs k d) (get_or ys k e)

pub copied_from_on_at : {X : Type 0} (R : X → X → Type 0) (xs ys : List X) (i : ℕ) (x y : X) → i < length xs → x ≡ get_or xs i x
    → y ≡ get_or ys i y → CopiedFromOn R xs ys i → R x y
copied_from_on_at {X} R xs ys i x y lt isx isy rest =
    subst (λ (z : X). R z y) (sym isx) (subst (λ (z : X). R (get_or xs i x) z) (sym isy) (rest i x y (omega arith) lt))

-- a change at a place leaves those behind it
pub copied_behind_place : {X : Type 0} (R : X → X → Type 0) (xs ys : List X) (i : ℕ) (y : X) → CopiedFromOn R xs ys i
    → CopiedFromOn R xs (set ys i y) (i + 1)
copied_behind_place {X} R xs ys i y rest = λ k d e le lt.
    let other : k ≡ i → ⊥ = λ same. omega (arith, same, le) in
    subst (λ (z : X). R (get_or xs k d) z) (sym (get_or-set_other ys i k y e other)) (rest k d e (omega (arith, le)) lt)

-- lines that are alike are the same where they have no values and no layers
pub copied_same_if_alike : (a b : MediaAttribute) → read_back_may_differ a ≡ false → Alike a b → b ≡ a
copied_same_if_alike (Fmtp n values) b plain alike = absurd (true≢false plain)
copied_same_if_alike (SimulcastLine layers) b plain alike = absurd (true≢false plain)
copied_same_if_alike _ b plain alike = sym alike
