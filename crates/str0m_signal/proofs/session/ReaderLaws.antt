-- A text has at most one reading.
use Rattle.str0m_signal.proofs.Common.{◌≡◌, ℕ, ◌<◌, List, [], ◌∷◌, length, Option, Some, sym, ap, subst, ◌∙◌, arith, codes, some_pair_parts}
use Rattle.str0m_signal.proofs.Common.{Bandwidth, MediaLine, MediaAttribute, Consistent, Sdp, SessionAttribute, Session}
use Rattle.str0m_signal.proofs.form.MediaAttributeLaws.{media_line_both}
use Rattle.str0m_signal.proofs.form.SessionAttributeAgain.{session_line_both}
use Rattle.str0m_signal.proofs.line.LinesAgain.{head_of}
use Rattle.str0m_signal.proofs.line.LinesChainLaws.{OnlyOneLine, one_line_only, chain_ends, chain_taken_only, chain_one_fewer, chain_fewer}
use Rattle.str0m_signal.proofs.line.LinesChainLaws.{chain_taken_fewer}
use Rattle.str0m_signal.proofs.session.HeaderLaws.{header_exact_line_both, header_info_both, header_opening_given}
use Rattle.str0m_signal.proofs.session.SectionLaws.{section_field_both, bandwidth_both, head_both}
use Rattle.str0m_signal.specs.form.MediaAttribute.{IsMediaLine}
use Rattle.str0m_signal.specs.form.SessionAttribute.{IsSessionLine}
use Rattle.str0m_signal.specs.line.Lines.{Line, OneLine, Chain, StopsLines, Run, TakenLine}
use Rattle.str0m_signal.specs.session.Header.{Header, IsExactHeaderLine, IsHeaderInfo, IsHeader}
use Rattle.str0m_signal.specs.session.HeaderReading.{opening_read}
use Rattle.str0m_signal.specs.session.Reader.{ConsistentSection, Sections, IsSession, IsReading}
use Rattle.str0m_signal.specs.session.Section.{IsSessionField, IsBandwidth, Head, IsHead, IsSection}

-- where two headers of the same lines have their timing
module _ (lines : List Line) (id : ℕ) (l1 l2 l3 : List Line) (infos : List (List ℕ)) (bw : Option Bandwidth)
    (open_is : opening_read lines ≡ Some (id, l1)) (infos_are : Run (OneLine IsHeaderInfo) l1 infos l2)
    (bw_is : TakenLine (OneLine IsBandwidth) l2 bw l3) where
  reader_before_timing : (header : Header) (rest : List Line) (h : IsHeader lines header rest)
      → (id ≡ header.id) × (bw ≡ header.bw) × (l3 ≡ h.after_bandwidth)
  reader_before_timing header rest h =
      let pair = some_pair_parts id header.id l1 h.after_opening (sym open_is
      ∙ header_opening_given lines header.id h.after_opening h.opening_is)
      in
      let run = chain_ends (OneLine IsHeaderInfo) (one_line_only header_info_both) l1 infos h.infos l2 h.after_infos infos_are
      (subst (λ (ls : List Line). Run (OneLine IsHeaderInfo) ls h.infos h.after_infos) (sym pair.1) h.infos_are) in
      let taken = chain_taken_only (OneLine IsBandwidth) (one_line_only bandwidth_both) l2 bw header.bw l3 h.after_bandwidth bw_is
      (subst (λ (ls : List Line). TakenLine (OneLine IsBandwidth) ls header.bw h.after_bandwidth) (sym run.1) h.bandwidth_is) in
      (pair.0, taken.0, taken.1)

  pub reader_no_timing : StopsLines (OneLine (IsExactHeaderLine (codes "t=0 0"))) l3 → (header : Header) (rest : List Line)
      → IsHeader lines header rest → ⊥
  reader_no_timing stops header rest h =
      let same = reader_before_timing header rest h in
      stops (codes "t=0 0") h.after_timing
      (subst (λ (ls : List Line). OneLine (IsExactHeaderLine (codes "t=0 0")) ls (codes "t=0 0") h.after_timing) (sym same.2) h.timing_is)

abbrev header_of : ℕ → Option Bandwidth → Header
header_of id bw = record { id = id; bw = bw }

pub header_only : OnlyOneLine IsHeader
header_only lines a b after after' h k =
    let same = reader_before_timing lines a.id h.after_opening h.after_infos h.after_bandwidth h.infos a.bw
    (header_opening_given lines a.id h.after_opening h.opening_is) h.infos_are h.bandwidth_is b after' k in
    let timing = one_line_only (header_exact_line_both (codes "t=0 0")) h.after_bandwidth (codes "t=0 0") (codes "t=0 0") h.after_timing
    k.after_timing
    h.timing_is (subst (λ (ls : List Line). OneLine (IsExactHeaderLine (codes "t=0 0")) ls (codes "t=0 0") k.after_timing) (sym same.2)
    k.timing_is) in
    let repeats = chain_ends (OneLine (IsSessionField (codes "r="))) (one_line_only (section_field_both (codes "r="))) h.after_timing
    h.repeats
    k.repeats
    after after' h.repeats_are (subst (λ (ls : List Line). Run (OneLine (IsSessionField (codes "r="))) ls k.repeats after') (sym timing.1)
    k.repeats_are) in
    (ap (λ (i : ℕ). header_of i a.bw) same.0 ∙ ap (λ (w : Option Bandwidth). header_of b.id w) same.1, repeats.1)

abbrev section_from : Head → Option Bandwidth → List MediaAttribute → MediaLine
section_from head bw attrs = record { typ = head.typ; disabled = head.disabled; proto = head.proto; pts = head.pts; bw = bw; attrs = attrs }

pub section_only : OnlyOneLine IsSection
section_only lines a b after after' h k =
    let head = one_line_only head_both lines (head_of a) (head_of b) h.after_head k.after_head h.head_is k.head_is in
    let connection = chain_taken_only (OneLine (IsSessionField (codes "c="))) (one_line_only (section_field_both (codes "c="))) h.after_head
    h.connection
    k.connection h.after_connection k.after_connection h.connection_is
    (subst (λ (ls : List Line). TakenLine (OneLine (IsSessionField (codes "c="))) ls k.connection k.after_connection) (sym head.1)
    k.connection_is)
    in
    let bandwidth = chain_taken_only (OneLine IsBandwidth) (one_line_only bandwidth_both) h.after_connection a.bw b.bw h.after_bandwidth
    k.after_bandwidth h.bandwidth_is
    (subst (λ (ls : List Line). TakenLine (OneLine IsBandwidth) ls b.bw k.after_bandwidth) (sym connection.1) k.bandwidth_is) in
    let attributes = chain_ends (OneLine IsMediaLine) (one_line_only media_line_both) h.after_bandwidth a.attrs b.attrs after after'
    h.attributes_are (subst (λ (ls : List Line). Run (OneLine IsMediaLine) ls b.attrs after') (sym bandwidth.1) k.attributes_are) in (
      ap (λ (m : Head). section_from m a.bw a.attrs) head.0 ∙ ap (λ (w : Option Bandwidth). section_from (head_of b) w a.attrs) bandwidth.0
          ∙ ap (λ (xs : List MediaAttribute). section_from (head_of b) b.bw xs) attributes.0,
      attributes.1,
    )

consistent_section_only : OnlyOneLine ConsistentSection
consistent_section_only lines a b after after' h k = section_only lines a b after after' h.0 k.0

-- a section is reached that isn't consistent, so there is no list of consistent ones
pub sections_blocked : (start : List Line) (done : List MediaLine) (now : List Line) (m : MediaLine) (after : List Line)
    → Chain ConsistentSection start done now → IsSection now m after → (Consistent m → ⊥)
    → (sections : List MediaLine) (rest : List Line) → Sections start sections rest → ⊥
sections_blocked start [] now m after h is fault [] rest k =
    k.1 (head_of m) is.after_head (subst (λ (ls : List Line). OneLine IsHead ls (head_of m) is.after_head) (sym h ∙ k.0) is.head_is)
sections_blocked start [] now m after h is fault (s ∷ ss) rest k = grind (arith, section_only start s m k.0.0 after k.0.1.0)
sections_blocked start (d ∷ ds) now m after h is fault [] rest k =
    let head = h.1.0.head_is in
    k.1 (head_of d) h.1.0.after_head (subst (λ (ls : List Line). OneLine IsHead ls (head_of d) h.1.0.after_head) k.0 head)
sections_blocked start (d ∷ ds) now m after h is fault (s ∷ ss) rest k =
    grind (arith, section_only start s d k.0.0 h.0 k.0.1.0 h.1.0, sections_blocked h.0 ds now m after h.2 is fault ss rest)

sections_run : (lines : List Line) (sections : List MediaLine) (rest : List Line) → Sections lines sections rest
    → Run ConsistentSection lines sections rest
sections_run lines sections rest h = (h.0, λ m after is. h.1 (head_of m) is.0.after_head is.0.head_is)

pub sections_only : (lines : List Line) (a b : List MediaLine) (rest rest' : List Line) → Sections lines a rest → Sections lines b rest'
    → (a ≡ b) × (rest ≡ rest')
sections_only lines a b rest rest' h k = chain_ends ConsistentSection consistent_section_only lines a b rest rest'
    (sections_run lines a rest h)
    (sections_run lines b rest' k)

pub session_only : OnlyOneLine IsSession
session_only lines a b rest rest' h k =
    let header = header_only lines (header_of a.id a.bw) (header_of b.id b.bw) h.after_header k.after_header h.header_is k.header_is in
    let attrs = chain_ends (OneLine IsSessionLine) (one_line_only session_line_both) h.after_header a.attrs b.attrs rest rest'
    h.attributes_are (subst (λ (ls : List Line). Run (OneLine IsSessionLine) ls b.attrs rest') (sym header.1) k.attributes_are) in (
      ap (λ (x : Header). made_session x a.attrs) header.0 ∙ ap (λ (x : List SessionAttribute). made_session (header_of b.id b.bw) x)
          attrs.0,
      attrs.1,
    )
  where
    made_session : Header → List SessionAttribute → Session
    made_session header attrs = record { id = header.id; bw = header.bw; attrs = attrs }

pub reading_only : OnlyOneLine IsReading
reading_only lines a b rest rest' h k =
    let session = session_only lines a.session b.session h.after_session k.after_session h.session_is k.session_is in
    let sections = sections_only h.after_session a.media_lines b.media_lines rest rest' h.sections_are
    (subst (λ (ls : List Line). Sections ls b.media_lines rest') (sym session.1) k.sections_are) in
    (ap (λ (x : Session). made_sdp x a.media_lines) session.0 ∙ ap (λ (x : List MediaLine). made_sdp b.session x) sections.0, sections.1)
  where
    made_sdp : Session → List MediaLine → Sdp
    made_sdp session sections = record { session = session; media_lines = sections }

-- ---- measures

pub section_fewer : (lines : List Line) (m : MediaLine) (rest : List Line) → IsSection lines m rest → length rest < length lines
section_fewer lines m rest h = grind (arith, chain_one_fewer, chain_taken_fewer, chain_fewer)

-- ---- what refuses the session or the sections refuses the whole

pub session_at : (lines : List Line) (w : Sdp × List Line) → IsReading lines w.0 w.1 → (v : Session × List Line) × IsSession lines v.0 v.1
session_at lines w is = ((w.0.session, is.after_session), is.session_is)

pub sections_at : (lines rest : List Line) (session : Session) → IsSession lines session rest → (w : Sdp × List Line)
    → IsReading lines w.0 w.1 → (v : List MediaLine × List Line) × Sections rest v.0 v.1
sections_at lines rest session h w is =
    let same = session_only lines session w.0.session rest is.after_session h is.session_is in
    ((w.0.media_lines, w.1), subst (λ (ls : List Line). Sections ls w.0.media_lines w.1) (sym same.1) is.sections_are)
