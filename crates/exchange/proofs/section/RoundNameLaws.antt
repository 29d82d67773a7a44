-- One name for each outcome of a text's rounds.
use Rattle.exchange.proofs.Common.{◌≡◌, suc, Bool, true, false, cond, List, [], ◌∷◌, Some, None, filter, filter_map, length, map, refl, sym}
use Rattle.exchange.proofs.Common.{ap, ◌∙◌, cons_option, Round, PayloadParams, OutcomeOfRound, RunReached, is_media, MediaLine, Sdp}
use Rattle.exchange.proofs.Common.{section_direction, rows, Negotiated}
use Rattle.exchange.specs.section.RoundNames.{has_round, negotiated_names}
use Rattle.exchange.specs.section.Stopped.{name_of}
use Rattle.str0m_signal.specs.session.Negotiation.{brought_by_round, brought_by_section}

-- a section has a name there where it brings a round
as_many_named : (ms : List MediaLine) → length (map name_of (filter has_round ms)) ≡ length (filter_map brought_by_section ms)
as_many_named [] = refl
as_many_named (m ∷ ms) = go (is_media m.typ) (as_many_named ms) where
  go : (b : Bool) → length (map name_of (filter has_round ms)) ≡ length (filter_map brought_by_section ms)
      → length (map name_of (cond b (m ∷ filter has_round ms) (filter has_round ms)))
      ≡ length (cons_option (cond b (Some (rows m, section_direction m.attrs)) None) (filter_map brought_by_section ms))
  go true rec = ap suc rec
  go false rec = rec

as_many_round_names_brought : (rounds : List Round) → length (map brought_by_round rounds) ≡ length rounds
as_many_round_names_brought [] = refl
as_many_round_names_brought (round ∷ rounds) = ap suc (as_many_round_names_brought rounds)

rounds_ended : (before : List PayloadParams) (rounds : List Round) (outcomes : List OutcomeOfRound) (after : List PayloadParams)
    → RunReached before rounds outcomes after
    → length rounds ≡ length outcomes
rounds_ended before [] [] after reached = refl
rounds_ended before (round ∷ rounds) (outcome ∷ outcomes) after reached = ap suc (rounds_ended reached.0 rounds outcomes after reached.2)
rounds_ended before [] (outcome ∷ outcomes) after reached = absurd reached
rounds_ended before (round ∷ rounds) [] after reached = absurd reached

pub one_name_each : (sdp : Sdp) (before after : List PayloadParams) (outcomes : List OutcomeOfRound)
    → Negotiated sdp.media_lines before outcomes after
    → length (negotiated_names sdp) ≡ length outcomes
one_name_each sdp before after outcomes negotiated =
    as_many_named sdp.media_lines ∙ sym (ap length negotiated.rounds_are) ∙ as_many_round_names_brought negotiated.rounds
    ∙ rounds_ended before negotiated.rounds outcomes after negotiated.reached
