-- What items say, where some say nothing.
use Rattle.std.proofs.Common.{◌≡◌, ℕ, zero, suc, List, [], ◌∷◌, Option, Some, None, cond, filter, filter_map, is_some, option_and_then}
use Rattle.std.proofs.Common.{refl, slice_get, sym}
use Rattle.std.specs.List.{cons_option}

module _ {X Y : Type 0} (f : X → Option Y) where
  one_text_in_front : (x : X) (o : Option Y) (xs : List X) (i : ℕ) → f x ≡ o
      → ((k : ℕ) → slice_get (filter_map f xs) k ≡ option_and_then f (slice_get (filter (λ y. is_some (f y)) xs) k))
      → slice_get (cons_option o (filter_map f xs)) i
      ≡ option_and_then f (slice_get (cond (is_some o) (x ∷ filter (λ y. is_some (f y)) xs) (filter (λ y. is_some (f y)) xs)) i)
  one_text_in_front x None xs i is rest = rest i
  one_text_in_front x (Some y) xs zero is rest = sym is
  one_text_in_front x (Some y) xs (suc i) is rest = rest i

  -- what is said at a place is what the item there says, among those that say something
  pub line_text_said_at : (xs : List X) (i : ℕ) → slice_get (filter_map f xs) i
      ≡ option_and_then f (slice_get (filter (λ y. is_some (f y)) xs) i)
  line_text_said_at [] i = refl
  line_text_said_at (x ∷ xs) i = one_text_in_front x (f x) xs i refl (line_text_said_at xs)
