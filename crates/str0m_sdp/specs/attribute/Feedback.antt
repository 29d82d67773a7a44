-- The feedback that a section speaks of (RFC 4585, section 4.2).
use Rattle.std.specs.List.{list_any}
use Rattle.std.specs.Prelude.{ℕ, Bool, false, ◌==◌, ◌&&◌, ◌||◌, List, bytes_eq}
use Rattle.str0m_sdp.specs.Prelude.{PayloadParams}
use Rattle.str0m_sdp.specs.declared.attribute.MediaAttribute.{MediaAttribute}
use Rattle.str0m_sdp.specs.declared.attribute.MediaAttribute.TheVariants.{RtcpFb}
use Rattle.str0m_sdp.specs.declared.attribute.feedback.Feedback.{Feedback}
use Rattle.str0m_sdp.specs.declared.label.TheConstants.{TRANSPORT_CC, REMB, FIR, NACK, PLI}

-- an rtcp-fb line of the type with this value
abbrev pub is_feedback : ℕ → List ℕ → MediaAttribute → Bool
is_feedback pt words (RtcpFb n value) = n == pt && bytes_eq value words
is_feedback pt words _ = false

unfoldable pub has_feedback : List MediaAttribute → ℕ → List ℕ → Bool
has_feedback attrs pt words = list_any (is_feedback pt words) attrs

-- the feedback whose values pass: transport-wide congestion control, full intra requests (RFC 5104, section 4.3.1), NACK and
-- picture loss indication (RFC 4585, section 6), and the receiver's estimate of the bitrate
abbrev pub feedback_by : (List ℕ → Bool) → Feedback
feedback_by passes = record {
  transport_cc = passes TRANSPORT_CC.now;
  fir = passes FIR.now;
  nack = passes NACK.now;
  pli = passes PLI.now;
  remb = passes REMB.now;
}

-- the feedback of a type
abbrev pub feedback_of : List MediaAttribute → ℕ → Feedback
feedback_of attrs pt = feedback_by (has_feedback attrs pt)

abbrev pub empty_feedback : Feedback
empty_feedback = feedback_by (λ words. false)

-- what the value of an rtcp-fb line names
abbrev pub named_feedback : List ℕ → Feedback
named_feedback words = feedback_by (bytes_eq words)

-- what one or the other names
abbrev pub either_feedback : Feedback → Feedback → Feedback
either_feedback a b = record {
  transport_cc = a.transport_cc || b.transport_cc;
  fir = a.fir || b.fir;
  nack = a.nack || b.nack;
  pli = a.pli || b.pli;
  remb = a.remb || b.remb;
}

-- the row with this feedback: transport-wide congestion control exactly where it is spoken of, any other also where the
-- row had it
abbrev pub with_feedback : Feedback → PayloadParams → PayloadParams
with_feedback feedback row = record row {
  fb_transport_cc = feedback.transport_cc;
  fb_fir = row.fb_fir || feedback.fir;
  fb_nack = row.fb_nack || feedback.nack;
  fb_pli = row.fb_pli || feedback.pli;
  fb_remb = row.fb_remb || feedback.remb;
}
