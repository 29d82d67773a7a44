-- The section that rejects an offered one.
use Rattle.exchange.specs.Prelude.{MediaAttribute, MediaLine, MediaType, Proto, is_mid, maps}
use Rattle.std.specs.Prelude.{ℕ, Bool, true, List, [], ◌∷◌, ◌++◌, None, find, option_to_list}
use Rattle.str0m_sdp.specs.declared.attribute.MediaAttribute.TheVariants.{Inactive}
use Rattle.str0m_sdp.specs.declared.attribute.media_type.MediaType.TheVariants.{Application}
use Rattle.str0m_sdp.specs.declared.attribute.proto.Proto.TheVariants.{Srtp, Sctp}

-- the first offered type, or 0, since an m-line lists at least one (RFC 3264, section 6)
abbrev pub first_rejected_type : List ℕ → ℕ
first_rejected_type [] = 0
first_rejected_type (pt ∷ pts) = pt

-- that type alone; none for a data channel, whose m-line lists no types (RFC 8841, section 4.3)
abbrev pub rejected_type_alone : MediaType → List ℕ → List ℕ
rejected_type_alone Application pts = []
rejected_type_alone _ pts = first_rejected_type pts ∷ []

-- over Srtp a section has a direction (RFC 8866, section 6.7)
abbrev pub direction_over : Proto → List MediaAttribute
direction_over Srtp = Inactive ∷ []
direction_over Sctp = []

-- the first line that passes, where one does
abbrev pub first_rejected_line : (MediaAttribute → Bool) → List MediaAttribute → List MediaAttribute
first_rejected_line test lines = option_to_list (find test lines)

-- the offered type, protocol and name after port 0 (RFC 3264, section 6; RFC 8829, section 5.3.1), and a type with its mapping
abbrev pub rejecting : MediaLine → MediaLine
rejecting offered = record {
  typ = offered.typ;
  disabled = true;
  proto = offered.proto;
  pts = rejected_type_alone offered.typ offered.pts;
  bw = None;
  attrs = first_rejected_line is_mid offered.attrs ++ (direction_over offered.proto ++ first_rejected_line (maps (first_rejected_type offered.pts)) offered.attrs);
}
