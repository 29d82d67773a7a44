-- What is claimed type by type, for the clauses of private functions.
use Rattle.std.specs.Prelude.{◌≡◌, ℕ, true, List, [], ◌∷◌, Result, Ok, Err, if◌then◌else◌}
use Rattle.str0m_formats.specs.declared.round.negotiation_error.NegotiationError.{NegotiationError}
use Rattle.str0m_formats.specs.declared.round.negotiation_error.NegotiationError.TheVariants.{ClaimedTwice}
use Rattle.str0m_formats.specs.round.Claimed.{TypeSet, with_type, either_set}

-- the set with each type of a list, or the first type that it has already
unfoldable pub claim_each : TypeSet → List ℕ → Result TypeSet NegotiationError
claim_each set [] = Ok set
claim_each set (t ∷ types) = if set t then Err (ClaimedTwice t) else claim_each (with_type set t) types

-- how the second pass keeps what is taken: of the types that were open before the round those are claimed that locked
-- rows have, and beside them the claimed types and the taken ones are the same
pub record ClaimsServe (claimed unlocked locked taken : TypeSet) : Type 0 where
  pub locked_is : (t : ℕ) → unlocked t ≡ true → claimed t ≡ locked t
  pub in_use : either_set claimed unlocked ≡ either_set taken unlocked
