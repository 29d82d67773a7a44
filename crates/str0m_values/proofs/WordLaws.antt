-- A value that a whole text stands for.
use Rattle.str0m_values.proofs.Common.{arith, ℕ, List, bytes_eq, bytes_eq-Decides}
use Rattle.str0m_values.proofs.CutsBothWays.{IsSoundCut}
use Rattle.str0m_values.proofs.CutsNumLaws.{cuts_when_some}
use Rattle.str0m_values.specs.Cuts.{when}

pub word_sound : {B : Type 0} {F : List ℕ → B → Type 0} (word : List ℕ) (x : B) → F word x
    → IsSoundCut F (λ text. when (bytes_eq text word) x)
word_sound {B} {F} word x holds = grind (arith, cuts_when_some, bytes_eq-Decides)
