-- How a section of an answer answers one that is offered.
use Rattle.exchange.specs.Prelude.{MediaLine, PayloadParams, Sdp}
use Rattle.exchange.specs.answer.Accepted.{AcceptsChannels, AcceptsMedia}
use Rattle.exchange.specs.answer.Choice.{IsSectionChoice}
use Rattle.exchange.specs.answer.RejectedSection.{rejecting}
use Rattle.exchange.specs.declared.answer.choice.Choice.{Choice}
use Rattle.exchange.specs.declared.answer.choice.Choice.TheVariants.{Rejected, Media, Channels}
use Rattle.exchange.specs.declared.state.own_side.OwnSide.{OwnSide}
use Rattle.std.specs.Prelude.{◌≡◌, List}

-- what it says where the offered one is answered with this
abbrev pub SaysSectionChoice : OwnSide → Sdp → MediaLine → Choice → MediaLine → Type 0
SaysSectionChoice own offer offered Rejected answered = answered ≡ rejecting offered
SaysSectionChoice own offer offered (Media mid rows) answered = AcceptsMedia own offer offered mid rows answered
SaysSectionChoice own offer offered (Channels mid channels) answered = AcceptsChannels own offer offered mid channels answered

-- the section answers the offered one, where this side has these rows
pub record AnswersSection (own : OwnSide) (ours : List PayloadParams) (offer : Sdp) (offered answered : MediaLine) : Type 0 where
  pub choice : Choice
  pub is_choice : IsSectionChoice own ours offer offered choice
  pub says : SaysSectionChoice own offer offered choice answered
