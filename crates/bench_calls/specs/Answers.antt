-- The numbers that the calls answer.
use Rattle.exchange.specs.answer.Offered.{IsOffer}
use Rattle.std.specs.Prelude.{◌≡◌, ◌≢◌, ◌-◌, ◌^◌, ℕ, List, length}
use Rattle.str0m_formats.specs.declared.row.payload_params.PayloadParams.{PayloadParams}
use Rattle.str0m_formats.specs.round.RoundsRuns.{OutcomeOfRound}
use Rattle.str0m_formats.specs.row.DefaultRows.{usual_rows}
use Rattle.str0m_sdp.specs.declared.session.Sdp.{Sdp}
use Rattle.str0m_sdp.specs.session.Session.{sdp_text}
use Rattle.str0m_signal.specs.session.Negotiation.{NegotiatedText}
use Rattle.str0m_signal.specs.session.Reader.{DescribesSession}

abbrev pub section_count_answer : Sdp → ℕ
section_count_answer sdp = length sdp.media_lines

abbrev pub text_length_answer : Sdp → ℕ
text_length_answer sdp = length (sdp_text sdp)

-- the text describes a session, and the number is what follows from that
abbrev pub HasAnswer : List ℕ → (Sdp → ℕ) → ℕ → Type 0
HasAnswer text answer told = (sdp : Sdp) × DescribesSession text sdp × (told ≡ answer sdp)

-- so many rounds of the default configuration were run with the text
abbrev pub HasRoundsAnswer : List ℕ → ℕ → Type 0
HasRoundsAnswer text told = (outcomes : List OutcomeOfRound) × (after : List PayloadParams)
    × NegotiatedText text usual_rows outcomes after × (told ≡ length outcomes)

-- the text is an offer, which has so many sections
abbrev pub HasAnswered : List ℕ → ℕ → Type 0
HasAnswered text told = (offer : Sdp) × IsOffer text offer × (told ≡ section_count_answer offer)

-- a call tells what is said of its number, or else the greatest of 64 bits: that there is no description, or no memory
abbrev pub TellsAnswer : (ℕ → Type 0) → ℕ → Type 0
TellsAnswer holds told = told ≢ 2 ^ 64 - 1 → holds told
