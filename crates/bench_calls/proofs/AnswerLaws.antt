-- An answer has as many sections as the offer that it answers.
use Rattle.bench_calls.specs.Answers.{HasAnswered}
use Rattle.exchange.specs.answer.Offered.{IsOffer}
use Rattle.exchange.specs.offer.Rules.{HasOfferedShape}
use Rattle.exchange.specs.state.Exchange.{EachSection}
use Rattle.std.proofs.Common.{List, ℕ, Option, Some, None, IsSomeAnd, length}
use Rattle.std.proofs.lemmas.Slice.Zip.{AllZip-long}
use Rattle.str0m_sdp.specs.declared.session.Sdp.{Sdp}

pub as_many_sections_answered : (text : List ℕ) (remote : Option Sdp) (answer : Sdp) → IsSomeAnd remote (IsOffer text)
    → EachSection (λ offer. HasOfferedShape) remote answer
    → HasAnswered text (length answer.media_lines)
as_many_sections_answered text None answer is_offer each = absurd is_offer
as_many_sections_answered text (Some offer) answer is_offer each = (
  offer,
  is_offer,
  AllZip-long HasOfferedShape offer.media_lines answer.media_lines each,
)
