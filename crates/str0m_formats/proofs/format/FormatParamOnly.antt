-- Readings that answer an Option.
use Rattle.str0m_formats.proofs.Common.{arith, ◌≡◌, Option, Some, IfSome, IsTheOnly, option_map}

-- two answers to one question are the same
pub only_same : {A : Type 0} {P : A → Type 0} (a b : Option A) → IsTheOnly P a → IsTheOnly P b → a ≡ b
only_same a b p q = grind arith

-- what is read of something that is there
pub mapped_only : {A B : Type 0} {P : A → Type 0} (o : Option A) (f : A → B) (Q : B → Type 0) (y : B) → IfSome o P → option_map f o ≡ Some y
    → ((x : A) → P x → Q (f x)) → Q y
mapped_only o f Q y found e then = grind arith
