-- Rounds of negotiation over a whole text.
use Rattle.std.specs.Prelude.{◌≡◌, ℕ, List, Option, Some, None, map, filter_map, if◌then◌else◌}
use Rattle.str0m_formats.specs.declared.round.rounds.Round.{Round}
use Rattle.str0m_formats.specs.round.RoundsPromises.{RoundsRunPromises}
use Rattle.str0m_formats.specs.round.RoundsRuns.{OutcomeOfRound, RunReached}
use Rattle.str0m_sdp.specs.section.SectionDirection.{section_direction}
use Rattle.str0m_signal.specs.Prelude.{Direction, MediaLine, PayloadParams, Sdp, is_media, rows}
use Rattle.str0m_signal.specs.session.Reader.{DescribesSession}

-- what an audio or video section brings to a round: its rows, and the direction that it describes
abbrev pub brought_by_section : MediaLine → Option (List PayloadParams × Direction)
brought_by_section m = if is_media m.typ then Some (rows m, section_direction m.attrs) else None

abbrev pub brought_by_round : Round → List PayloadParams × Direction
brought_by_round round = (round.remote.items, round.direction)

-- one round for each audio or video section, in order, disabled ones too
abbrev pub AreRoundsOf : List MediaLine → List Round → Type 0
AreRoundsOf sections rounds = map brought_by_round rounds ≡ filter_map brought_by_section sections

-- the rounds of the sections lead from the rows before them to the rows after them, with these outcomes
pub record Negotiated (sections : List MediaLine) (before : List PayloadParams) (outcomes : List OutcomeOfRound) (after : List PayloadParams) : Type 0 where
  pub rounds : List Round
  pub rounds_are : AreRoundsOf sections rounds
  pub reached : RunReached before rounds outcomes after
  pub promises : RoundsRunPromises before rounds outcomes after

-- the text describes a session, and its sections are negotiated so
abbrev pub NegotiatedText : List ℕ → List PayloadParams → List OutcomeOfRound → List PayloadParams → Type 0
NegotiatedText text before outcomes after =
    (sdp : Sdp) × DescribesSession text sdp × Negotiated sdp.media_lines before outcomes after
