-- The rows that answer a section, and what it says of each.
use Rattle.exchange.specs.Prelude.{HasVideoFeedback, IsPlain, MediaAttribute, MediaLine, MediaType, PayloadParams, distinct, has, is_carried_by_section, rows, strip, ◌>>=◌}
use Rattle.std.specs.List.{list_any}
use Rattle.std.specs.Prelude.{◌≡◌, ◌≢◌, ◌==◌, ◌&&◌, ℕ, Bool, true, false, List, Option, Some, None, codes, bytes_eq, find, filter_map, map, option_map, is_some, if◌then◌else◌, Contains, IfSome}
use Rattle.str0m_formats.specs.codec.Codec.{codec_content, video}
use Rattle.str0m_formats.specs.round.MatchScore.{score}
use Rattle.str0m_sdp.specs.declared.attribute.MediaAttribute.TheVariants.{RtcpFb, Unused}
use Rattle.str0m_sdp.specs.declared.attribute.media_type.MediaType.TheVariants.{Audio, Video}
use Rattle.str0m_sdp.specs.declared.label.TheConstants.{TRANSPORT_CC, REMB, FIR, NACK, PLI}
use Rattle.str0m_values.specs.declared.media_kind.MediaKind.TheVariants as kind

-- ---- what a section offers

-- the value of an rtcp-fb line of all types, which is kept unread
abbrev pub row_feedback_value_of_all : List ℕ → Option (List ℕ)
row_feedback_value_of_all text = strip (codes "rtcp-fb:* ") text

abbrev pub is_row_feedback_value : List ℕ → Option (List ℕ) → Bool
is_row_feedback_value words (Some others) = bytes_eq others words
is_row_feedback_value words None = false

-- an rtcp-fb line with this value, of the type or of all types (RFC 4585, section 4.2)
abbrev pub offers : ℕ → List ℕ → MediaAttribute → Bool
offers pt words (RtcpFb n value) = n == pt && bytes_eq value words
offers pt words (Unused text) = is_row_feedback_value words (row_feedback_value_of_all text)
offers pt words _ = false

unfoldable pub is_offered : List MediaAttribute → ℕ → List ℕ → Bool
is_offered attrs pt words = list_any (offers pt words) attrs

-- ---- what an answer says of a row

-- a type that this side and the offer have in one role, where the m-line lists it
abbrev pub agreed_row_type : List ℕ → Option ℕ → Option ℕ → Option ℕ
agreed_row_type listed (Some ours) (Some theirs) = if ours == theirs && has listed ours then Some ours else None
agreed_row_type listed _ _ = None

-- this side's row beside the offered one: RTX (RFC 4588, section 8.1) and RED (RFC 2198, section 5) under the offered types
-- alone, and no feedback that isn't offered (RFC 4585, section 4.2). As in all that is said by a section, it isn't locked
unfoldable pub as_answered : MediaLine → PayloadParams → PayloadParams → PayloadParams
as_answered section theirs ours = record ours {
  resend = agreed_row_type section.pts ours.resend theirs.resend;
  red = agreed_row_type section.pts ours.red theirs.red;
  fb_transport_cc = ours.fb_transport_cc && is_offered section.attrs ours.pt TRANSPORT_CC.now;
  fb_fir = ours.fb_fir && is_offered section.attrs ours.pt FIR.now;
  fb_nack = ours.fb_nack && is_offered section.attrs ours.pt NACK.now;
  fb_pli = ours.fb_pli && is_offered section.attrs ours.pt PLI.now;
  fb_remb = ours.fb_remb && is_offered section.attrs ours.pt REMB.now;
  locked = false;
}

-- ---- which rows answer

-- whether sections of this type carry what the row is of
abbrev pub is_row_carried_in : MediaType → PayloadParams → Bool
is_row_carried_in Audio row = is_carried_by_section kind.Audio row
is_row_carried_in Video row = is_carried_by_section kind.Video row
is_row_carried_in _ row = false

-- a row of this side answers an offered one: it is locked, under the same type, of what the section carries, and they match
abbrev pub row_matches : MediaType → PayloadParams → PayloadParams → Bool
row_matches typ theirs ours =
    ours.locked && (ours.pt == theirs.pt && (is_row_carried_in typ ours && is_some (score ours.spec theirs.spec)))

-- what an answer says of an offered row
abbrev pub answer_to : List PayloadParams → MediaLine → PayloadParams → Option PayloadParams
answer_to own section theirs = option_map (as_answered section theirs) (find (row_matches section.typ theirs) own)

-- what it says of a type, by the offered row of that type
unfoldable pub answer_under : List PayloadParams → MediaLine → List PayloadParams → ℕ → Option PayloadParams
answer_under own section offered pt = find (λ row. row.pt == pt) offered >>= answer_to own section

-- the answer: what it says of each type of the m-line, in order (RFC 3264, section 6.1; RFC 8829, section 5.3.1)
unfoldable pub answered_rows : List PayloadParams → MediaLine → List PayloadParams
answered_rows own section = filter_map (answer_under own section (rows section)) (distinct ◌==◌ section.pts)

-- ---- what holds of it

-- the types that have an answer
abbrev pub is_answered : List PayloadParams → MediaLine → ℕ → Bool
is_answered own section pt = is_some (answer_under own section (rows section) pt)

abbrev pub own_types : List PayloadParams → List ℕ
own_types rows = map (λ row. row.pt) rows

-- a locked row of this side and a row that this very section offers, under one type that its m-line lists
pub record IsAgreedRow (own : List PayloadParams) (section : MediaLine) (row : PayloadParams) : Type 0 where
  pub ours : PayloadParams
  pub theirs : PayloadParams
  pub known : Contains own ours
  pub offered : Contains (rows section) theirs
  pub locked : ours.locked ≡ true
  pub carried : is_row_carried_in section.typ ours ≡ true
  pub same_type : theirs.pt ≡ ours.pt
  pub listed : Contains section.pts ours.pt
  pub match : score ours.spec theirs.spec ≢ None
  pub said : row ≡ as_answered section theirs ours

-- such a row of this side belongs in the answer: where the section offers several rows of its type, the first counts
pub record BelongsInAnswer (own : List PayloadParams) (section : MediaLine) (ours : PayloadParams) : Type 0 where
  pub theirs : PayloadParams
  pub known : Contains own ours
  pub offered : find (λ row. row.pt == ours.pt) (rows section) ≡ Some theirs
  pub locked : ours.locked ≡ true
  pub carried : is_row_carried_in section.typ ours ≡ true
  pub listed : Contains section.pts ours.pt
  pub match : score ours.spec theirs.spec ≢ None

-- RTX and RED types stand in the m-line, and each feedback in a line of the type or of all types
pub record SaysWhatIsOffered (section : MediaLine) (row : PayloadParams) : Type 0 where
  pub resend : IfSome row.resend (Contains section.pts)
  pub red : IfSome row.red (Contains section.pts)
  pub transport_cc : row.fb_transport_cc ≡ true → is_offered section.attrs row.pt TRANSPORT_CC.now ≡ true
  pub fir : row.fb_fir ≡ true → is_offered section.attrs row.pt FIR.now ≡ true
  pub nack : row.fb_nack ≡ true → is_offered section.attrs row.pt NACK.now ≡ true
  pub pli : row.fb_pli ≡ true → is_offered section.attrs row.pt PLI.now ≡ true
  pub remb : row.fb_remb ≡ true → is_offered section.attrs row.pt REMB.now ≡ true

-- the row is plain where it still has the feedback that every plain row of video has
abbrev pub KeepsRowPlain : PayloadParams → Type 0
KeepsRowPlain row = (codec_content row.spec.codec ≡ video → HasVideoFeedback row) → IsPlain row
