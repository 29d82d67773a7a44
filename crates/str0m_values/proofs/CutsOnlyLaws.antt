-- What a function reads is the only value of its relation.
use Rattle.str0m_values.proofs.Common.{arith, ◌≡◌, Option}
use Rattle.str0m_values.proofs.CutsBothWays.{Reads}
use Rattle.str0m_values.specs.Cuts.{IsTheOnly}

pub only_read : {A B : Type 0} {F : A → B → Type 0} {f : A → Option B} → Reads F f → (a : A) (answer : Option B) → answer ≡ f a
    → IsTheOnly (F a) answer
only_read reads a o e = grind arith
