-- The feedback that a section offers for a payload type (RFC 4585, section 4.2).
use Rattle.exchange.specs.Prelude.{MediaAttribute, MediaLine}
use Rattle.exchange.specs.answer.Rows.{is_offered, row_feedback_value_of_all}
use Rattle.exchange.specs.declared.answer.offered_feedback.OfferedFeedback.{OfferedFeedback}
use Rattle.exchange.specs.declared.answer.offered_feedback.SectionFeedback.{SectionFeedback}
use Rattle.std.specs.Prelude.{◌≡◌, ◌<◌, ◌||◌, ℕ, Bool, false, List, Option, Some, None, bytes_eq, get_or, length}
use Rattle.str0m_sdp.specs.declared.attribute.MediaAttribute.TheVariants.{Unused}
use Rattle.str0m_sdp.specs.declared.label.TheConstants.{TRANSPORT_CC, REMB, FIR, NACK, PLI}

-- the value of a line that offers feedback for all types
abbrev pub feedback_for_all : MediaAttribute → Option (List ℕ)
feedback_for_all (Unused text) = row_feedback_value_of_all text
feedback_for_all _ = None

-- the feedback whose values pass
abbrev pub offered_feedback_by : (List ℕ → Bool) → OfferedFeedback
offered_feedback_by passes = record {
  transport_cc = passes TRANSPORT_CC.now;
  fir = passes FIR.now;
  nack = passes NACK.now;
  pli = passes PLI.now;
  remb = passes REMB.now;
}

abbrev pub none_offered : OfferedFeedback
none_offered = offered_feedback_by (λ words. false)

abbrev pub named_offered : List ℕ → OfferedFeedback
named_offered words = offered_feedback_by (bytes_eq words)

-- what one or the other names
abbrev pub either_offered : OfferedFeedback → OfferedFeedback → OfferedFeedback
either_offered a b = record {
  transport_cc = a.transport_cc || b.transport_cc;
  fir = a.fir || b.fir;
  nack = a.nack || b.nack;
  pli = a.pli || b.pli;
  remb = a.remb || b.remb;
}

-- what a value names besides, where there is one
abbrev pub with_offered : OfferedFeedback → Option (List ℕ) → OfferedFeedback
with_offered a None = a
with_offered a (Some words) = either_offered a (named_offered words)

-- what the lines of a section offer for the type
abbrev pub offered_feedback : List MediaAttribute → ℕ → OfferedFeedback
offered_feedback attrs pt = offered_feedback_by (is_offered attrs pt)

-- what the lines offer for each type is what the table says of it, and what is offered for all
pub record IsFeedbackGathered (attrs : List MediaAttribute) (of_types : List OfferedFeedback) (of_all : OfferedFeedback) : Type 0 where
  pub whole : length of_types ≡ 256
  pub each : (pt : ℕ) → pt < 256 → either_offered (get_or of_types pt none_offered) of_all ≡ offered_feedback attrs pt

abbrev pub TellsFeedbackOf : MediaLine → SectionFeedback → Type 0
TellsFeedbackOf section feedback = IsFeedbackGathered section.attrs feedback.of_types feedback.of_all
