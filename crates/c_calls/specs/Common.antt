-- What is so of what a handle owns.
use Rattle.std.specs.Prelude.{Option, Some, None}

-- there is something, and it is so of it
abbrev pub OfHandle : {X : Type 0} → Option X → (X → Type 0) → Type 0
OfHandle None P = ⊥
OfHandle (Some x) P = P x
