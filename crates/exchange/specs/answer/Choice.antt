-- What a section is answered with (RFC 3264, section 6; RFC 8829, section 5.3.1).
use Rattle.exchange.specs.Prelude.{MediaLine, MediaType, PayloadParams, Proto, Sdp}
use Rattle.exchange.specs.answer.Rows.{answered_rows}
use Rattle.exchange.specs.declared.answer.choice.Choice.{Choice}
use Rattle.exchange.specs.declared.answer.choice.Choice.TheVariants.{Rejected, Media, Channels}
use Rattle.exchange.specs.declared.state.own_side.DataChannels.{DataChannels}
use Rattle.exchange.specs.declared.state.own_side.OwnSide.{OwnSide}
use Rattle.exchange.specs.section.Stopped.{IsStopped, name_of}
use Rattle.std.specs.Prelude.{◌≡◌, ℕ, List, [], ◌∷◌, Option, Some, None}
use Rattle.str0m_sdp.specs.declared.attribute.media_type.MediaType.TheVariants.{Audio, Video, Application}
use Rattle.str0m_sdp.specs.declared.attribute.proto.Proto.TheVariants.{Srtp, Sctp}

-- media is accepted with its rows, and rejected where no row is agreed on
abbrev pub rows_or_none : List ℕ → List PayloadParams → Choice
rows_or_none mid [] = Rejected
rows_or_none mid (row ∷ rows) = Media mid (row ∷ rows)

-- data channels are rejected by a side that takes none
abbrev pub channels_choice : List ℕ → Option DataChannels → Choice
channels_choice mid None = Rejected
channels_choice mid (Some channels) = Channels mid channels

-- by what a section carries, and over what: audio and video over RTP, data channels over SCTP, nothing else
abbrev pub choice_by_kind : OwnSide → List PayloadParams → List ℕ → MediaType → Proto → Choice
choice_by_kind own rows mid Audio Srtp = rows_or_none mid rows
choice_by_kind own rows mid Video Srtp = rows_or_none mid rows
choice_by_kind own rows mid Application Sctp = channels_choice mid own.channels
choice_by_kind own rows mid _ _ = Rejected

-- by its name, which each section has that was read
abbrev pub choice_by_name : OwnSide → List PayloadParams → Option (List ℕ) → MediaType → Proto → Choice
choice_by_name own rows None typ proto = Rejected
choice_by_name own rows (Some mid) typ proto = choice_by_kind own rows mid typ proto

-- what a section that isn't stopped is answered with, where this side has these rows
abbrev pub open_choice : OwnSide → List PayloadParams → MediaLine → Choice
open_choice own ours m = choice_by_name own (answered_rows ours m) (name_of m) m.typ m.proto

-- a stopped section is rejected (RFC 3264, section 8.2)
pub record IsSectionChoice (own : OwnSide) (ours : List PayloadParams) (offer : Sdp) (m : MediaLine) (choice : Choice) : Type 0 where
  pub stopped : IsStopped offer m → choice ≡ Rejected
  pub open_so : (IsStopped offer m → ⊥) → choice ≡ open_choice own ours m
