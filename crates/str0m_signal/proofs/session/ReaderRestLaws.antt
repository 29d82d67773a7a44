-- What a reader leaves of a text begins a line.
use Rattle.str0m_signal.proofs.Common.{◌≡◌, ℕ, List, [], ◌∷◌, ◌++◌, Option, Some, None, Result, Ok, Err, IfOk, sym, ap, subst, ◌∙◌}
use Rattle.str0m_signal.proofs.Common.{append_assoc, codes, Bor, SdpError}
use Rattle.str0m_signal.specs.form.MediaAttribute.{IsMediaLine}
use Rattle.str0m_signal.specs.form.SessionAttribute.{IsSessionLine}
use Rattle.str0m_signal.specs.line.Lines.{Chain, TakenLine, Line, Lines, OneLine, OfText}
use Rattle.str0m_signal.specs.session.Header.{IsExactHeaderLine, IsHeader, IsHeaderInfo, IsOrigin}
use Rattle.str0m_signal.specs.session.Reader.{IsFromLine, ConsistentSection, IsReading, IsSession}
use Rattle.str0m_signal.specs.session.ReaderAnswers.{Answers, unread}
use Rattle.str0m_signal.specs.session.Section.{IsBandwidth, IsSessionField, IsHead}

-- the last of these lines, and those before them
pub record LeavesLines (lines rest : List Line) : Type 0 where
  pub before : List Line
  pub are : lines ≡ before ++ rest

rest_both_leave : {a b c : List Line} → LeavesLines a b → LeavesLines b c → LeavesLines a c
rest_both_leave {c} h k = record {
  before = h.before ++ k.before;
  are = h.are ∙ ap (λ (ls : List Line). h.before ++ ls) k.are ∙ sym (append_assoc h.before k.before c);
}

abbrev ReaderAlwaysLeaves : {A : Type 0} → (List Line → A → List Line → Type 0) → Type 0
ReaderAlwaysLeaves {A} S = (lines : List Line) (a : A) (rest : List Line) → S lines a rest → LeavesLines lines rest

pub rest_one_leaves : {A : Type 0} (F : List ℕ → A → Type 0) → ReaderAlwaysLeaves (OneLine F)
rest_one_leaves F lines a rest h = record { before = h.0 ∷ []; are = h.1 }

chain_leaves : {A : Type 0} (S : List Line → A → List Line → Type 0) → ReaderAlwaysLeaves S
    → (lines : List Line) (values : List A) (rest : List Line)
    → Chain S lines values rest → LeavesLines lines rest
chain_leaves S each lines [] rest h = record { before = []; are = h }
chain_leaves S each lines (a ∷ values) rest h = rest_both_leave (each lines a h.0 h.1) (chain_leaves S each h.0 values rest h.2)

lines_leave : {A : Type 0} (F : List ℕ → A → Type 0) (lines : List Line) (values : List A) (rest : List Line)
    → Chain (OneLine F) lines values rest
    → LeavesLines lines rest
lines_leave F = chain_leaves (OneLine F) (rest_one_leaves F)

rest_taken_leaves : {A : Type 0} (F : List ℕ → A → Type 0) (lines : List Line) (o : Option A) (rest : List Line)
    → TakenLine (OneLine F) lines o rest
    → LeavesLines lines rest
rest_taken_leaves F lines None rest h = record { before = []; are = h.0 }
rest_taken_leaves F lines (Some a) rest h = rest_one_leaves F lines a rest h

header_leaves_rest : ReaderAlwaysLeaves IsHeader
header_leaves_rest lines header rest h =
    let o = h.opening_is in
    rest_both_leave (rest_one_leaves (IsExactHeaderLine (codes "v=0")) lines (codes "v=0") o.after_version o.version_is)
    (rest_both_leave (rest_one_leaves IsOrigin o.after_version header.id o.after_origin o.origin_is)
    (rest_both_leave (rest_one_leaves (IsSessionField (codes "s=")) o.after_origin o.name h.after_opening o.name_is)
    (rest_both_leave (lines_leave IsHeaderInfo h.after_opening h.infos h.after_infos h.infos_are.0)
    (rest_both_leave (rest_taken_leaves IsBandwidth h.after_infos header.bw h.after_bandwidth h.bandwidth_is)
    (rest_both_leave (rest_one_leaves (IsExactHeaderLine (codes "t=0 0")) h.after_bandwidth (codes "t=0 0") h.after_timing h.timing_is)
    (lines_leave (IsSessionField (codes "r=")) h.after_timing h.repeats rest h.repeats_are.0))))))

section_leaves : ReaderAlwaysLeaves ConsistentSection
section_leaves lines m rest h =
    let s = h.0 in
    rest_both_leave
    (rest_one_leaves IsHead lines (record { typ = m.typ; disabled = m.disabled; proto = m.proto; pts = m.pts }) s.after_head s.head_is)
    (rest_both_leave (rest_taken_leaves (IsSessionField (codes "c=")) s.after_head s.connection s.after_connection s.connection_is)
    (rest_both_leave (rest_taken_leaves IsBandwidth s.after_connection m.bw s.after_bandwidth s.bandwidth_is)
    (lines_leave IsMediaLine s.after_bandwidth m.attrs rest s.attributes_are.0)))

pub session_leaves : ReaderAlwaysLeaves IsSession
session_leaves lines session rest h =
    rest_both_leave (header_leaves_rest lines (record { id = session.id; bw = session.bw }) h.after_header h.header_is)
    (lines_leave IsSessionLine h.after_header session.attrs rest h.attributes_are.0)

pub reading_leaves : ReaderAlwaysLeaves IsReading
reading_leaves lines sdp rest h =
    rest_both_leave (session_leaves lines sdp.session h.after_session h.session_is)
    (chain_leaves ConsistentSection section_leaves h.after_session sdp.media_lines rest h.sections_are.0)

-- what is left of the text, where its lines are read so
pub left_from_line : {A : Type 0} (S : List Line → A → List Line → Type 0) → ReaderAlwaysLeaves S → (text : List ℕ)
    (result : Result (A × Bor (List ℕ)) SdpError) → Answers unread result (OfText S text)
    → IfOk result (λ found. IsFromLine text found.1.now)
left_from_line S leaves text (Ok found) h =
    let l = leaves h.0 found.0 h.1 h.3 in
    record { before = l.before; after = h.1; lines_are = subst (Lines text) l.are h.2; rest_is = h.4 }
left_from_line S leaves text (Err e) h = tt
