-- What is said of why a round is refused.
use Rattle.std.specs.Prelude.{ℕ, List, codes, ◌++◌, decimal}
use Rattle.str0m_formats.specs.declared.round.negotiation_error.NegotiationError.{NegotiationError}
use Rattle.str0m_formats.specs.declared.round.negotiation_error.NegotiationError.TheVariants.{TypeTooLarge, ClaimedTwice, Exhausted, Memory}

abbrev pub negotiation_cause_text : NegotiationError → List ℕ
negotiation_cause_text (TypeTooLarge pt) = codes "payload type " ++ (decimal pt ++ codes " is above 127")
negotiation_cause_text (ClaimedTwice pt) = codes "payload type " ++ (decimal pt ++ codes " is claimed twice")
negotiation_cause_text Exhausted = codes "payload type ranges exhausted"
negotiation_cause_text Memory = codes "out of memory"
