-- Functions on lists.
use Rattle.std.specs.Option.{option_or}
use Rattle.std.specs.Prelude.{Bool, not, List, [], ◌∷◌, filter, Option, Some, None}

-- the first item, and the last
abbrev pub first : {X : Type 0} → List X → Option X
first [] = None
first (x ∷ xs) = Some x

abbrev pub last : {X : Type 0} → List X → Option X
last [] = None
last (x ∷ xs) = option_or (last xs) (Some x)

-- the items without those that are the same as one before them, in order
abbrev pub distinct : {X : Type 0} → (X → X → Bool) → List X → List X
distinct same [] = []
distinct same (x ∷ xs) = x ∷ filter (λ y. not (same x y)) (distinct same xs)
