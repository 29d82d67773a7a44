-- What is shown of a text tells that it describes a session.
use Rattle.show.specs.Run.{Prints}
use Rattle.show.specs.declared.run.Shown.{Shown}
use Rattle.show.specs.declared.run.Shown.TheVariants.{Text, Rows, Negotiation}
use Rattle.std.proofs.Common.{ℕ, List}
use Rattle.str0m_sdp.specs.declared.session.Sdp.{Sdp}
use Rattle.str0m_signal.specs.session.Reader.{DescribesSession}

pub shown_described_by : (shown : Shown) (bytes printed : List ℕ) → Prints shown bytes printed → (sdp : Sdp) × DescribesSession bytes sdp
shown_described_by Text bytes printed is = (is.0, is.1)
shown_described_by Rows bytes printed is = (is.0, is.1)
shown_described_by Negotiation bytes printed is = (is.2.0, is.2.1)
