-- When a session is writable, by what its parts come back as.
use Rattle.std.proofs.lemmas.List.Folds.{list_any_at, list_any_none}
use Rattle.str0m_sdp.proofs.{section_frame_agrees}
use Rattle.str0m_signal.proofs.Common.{◌≡◌, ◌≢◌, ◌<◌, ◌≤◌, ◌+◌, ℕ, Bool, true, false, not, List, [], length, get_or, Option, Some, None}
use Rattle.str0m_signal.proofs.Common.{IfSome, refl, sym, ap, ◌∙◌, true≢false, ◌↔◌, IsTrue, list_any, slice_get, cases_Bool, cases_lt}
use Rattle.str0m_signal.proofs.Common.{none-some, same_Some, slice_get_read, IsTheOnly, session_attribute_text, bandwidth_text, Consistent}
use Rattle.str0m_signal.proofs.Common.{is_of_type, MediaAttribute, SessionAttribute, Bandwidth, MediaLine, Sdp, Srtp, arith, is_some, All}
use Rattle.str0m_signal.proofs.Common.{slice_get_within, NoSectionFaultIff}
use Rattle.str0m_signal.specs.back.Writable.{AreReadAs, HasTypes, IsWritableFrame, IsReadBackLine, IsMediaReadAs, MediaAreReadAs}
use Rattle.str0m_signal.specs.back.Writable.{SessionGoesWith}
use Rattle.str0m_signal.specs.back.Writable.{Writable, writable_frame_of}
use Rattle.str0m_signal.specs.form.SessionAttribute.{IsSessionLine}
use Rattle.str0m_signal.specs.session.Section.{Head, IsBandwidth}

-- ---- the only value that comes back

module _ {A : Type 0} {P : A → Type 0} where
  -- is the one that is asked for, or another one
  pub back_same : (read asked : A) {T : Type 0} → IsTheOnly P (Some read) → T ↔ (read ≡ asked) → T ↔ P asked
  back_same read asked only is = grind arith

  pub writable_lost_same : (asked : A) → IsTheOnly P None → IsTrue false ↔ P asked
  writable_lost_same asked none = (λ h. absurd (true≢false (sym h)), λ p. absurd (none-some asked (none.only asked p)))

  -- stands beside another promise
  pub back_beside : (read : A) {Q T : Type 0} → IsTheOnly P (Some read) → T ↔ Q → T ↔ (((x : A) × P x) × Q)
  back_beside read only is = (λ t. ((read, only.found), is.0 t), λ h. is.1 h.1)

  pub writable_lost_beside : {Q : Type 0} → IsTheOnly P None → IsTrue false ↔ (((x : A) × P x) × Q)
  writable_lost_beside none = (λ h. absurd (true≢false (sym h)), λ h. absurd (none-some h.0.0 (none.only h.0.0 h.0.1)))

-- ---- the m-line

abbrev pub IsLineHead : Head → MediaLine → Type 0
IsLineHead head m = (head.typ ≡ m.typ) × (head.disabled ≡ m.disabled) × (head.proto ≡ m.proto)

module _ (m : MediaLine) (F : Head → Type 0) where
  abbrev pub with_types : List ℕ → Head
  with_types pts = record { typ = m.typ; disabled = m.disabled; proto = m.proto; pts = pts }

  pub head_lost : IsTheOnly F None → IsTheOnly (λ pts. F (with_types pts)) None
  head_lost none = record { found = tt; only = λ pts h. absurd (none-some (with_types pts) (none.only (with_types pts) h)) }

  pub same_head : (head : Head) → IsTheOnly F (Some head) → IsLineHead head m → IsTheOnly (λ pts. F (with_types pts)) (Some head.pts)
  same_head head only same = grind arith

  pub other_head : (head : Head) → IsTheOnly F (Some head) → ¬ IsLineHead head m → IsTheOnly (λ pts. F (with_types pts)) None
  other_head head only other = grind arith

-- ---- a section

abbrev pub BandwidthComesBack : Option Bandwidth → Type 0
BandwidthComesBack bw = IfSome bw (λ bw. IsReadBackLine IsBandwidth (bandwidth_text bw) bw)

module _ (m : MediaLine) where
  pub bandwidth_lost : ¬ BandwidthComesBack m.bw → IsTheOnly (IsMediaReadAs m) None
  bandwidth_lost lost = record { found = tt; only = λ read is. absurd (lost is.bandwidth) }

  pub no_types : IsTheOnly (HasTypes m) None → IsTheOnly (IsMediaReadAs m) None
  no_types none = record { found = tt; only = λ read is. absurd (none-some read.pts (none.only read.pts is.head)) }

  pub whole_section : (pts : List ℕ) (attrs : List MediaAttribute) → BandwidthComesBack m.bw → IsTheOnly (HasTypes m) (Some pts)
      → IsTheOnly (MediaAreReadAs m.attrs) (Some attrs) → IsTheOnly (IsMediaReadAs m) (Some (record m { pts = pts; attrs = attrs }))
  whole_section pts attrs bw types attributes = record {
    found = record { same = refl; head = types.found; bandwidth = bw; attributes = attributes.found };
    only = λ read is.
        let types_are = same_Some pts read.pts (types.only read.pts is.head) in
        let attributes_are = same_Some attrs read.attrs (attributes.only read.attrs is.attributes) in
        ap Some ((λ i. record m { pts = types_are i; attrs = attributes_are i }) ∙ sym is.same);
  }

-- ---- consistency, told by no fault

pub writable_told_by : {A : Type 0} (fault : Option A) (P : Type 0) (answer : Bool) → NoSectionFaultIff fault P → is_some fault ≡ not answer
    → IsTrue answer ↔ P
writable_told_by fault P answer told is = grind arith

-- ---- a frame, by the consistency of a section without payload types

-- the section over Srtp that is disabled and has no payload types
abbrev pub disabled_writable_frame : MediaLine → MediaLine
disabled_writable_frame m = record m { disabled = true; proto = Srtp; pts = [] }

writable_none_of : (attrs : List MediaAttribute) → list_any is_of_type attrs ≡ false → All (λ attr. is_of_type attr ≡ false) attrs
writable_none_of attrs none = grind (arith, cases_Bool, list_any_at)

pub writable_frame_alone : (m : MediaLine) {T : Type 0} → list_any is_of_type m.attrs ≡ false → T ↔ Consistent (disabled_writable_frame m)
    → T ↔ IsWritableFrame m
writable_frame_alone m none is = grind (arith, writable_none_of, section_frame_agrees)

pub no_writable_frame : (m : MediaLine) → list_any is_of_type m.attrs ≡ true → IsTrue false ↔ IsWritableFrame m
no_writable_frame m some = grind (arith, list_any_none)

-- ---- the other sections

abbrev pub FrameComesBack : MediaLine → Type 0
FrameComesBack m = (read : MediaLine) × IsMediaReadAs m read × Consistent read

-- those before a place
abbrev pub OtherLinesBefore : List MediaLine → ℕ → ℕ → Type 0
OtherLinesBefore sections own i = (j : ℕ) (m : MediaLine) → j < i → slice_get sections j ≡ Some m → j ≢ own → FrameComesBack m

-- all
abbrev pub OthersComeBack : List MediaLine → ℕ → Type 0
OthersComeBack sections own = (j : ℕ) (m : MediaLine) → slice_get sections j ≡ Some m → j ≢ own → FrameComesBack m

pub writable_others_more : (sections : List MediaLine) (own i : ℕ) (m : MediaLine) → i < length sections → m ≡ get_or sections i m
    → (i ≢ own → FrameComesBack m)
    → OtherLinesBefore sections own i → OtherLinesBefore sections own (i + 1)
writable_others_more sections own i m lt at back before = grind (arith, cases_lt, slice_get_read, same_Some)

pub writable_one_section_lost : (sections : List MediaLine) (own i : ℕ) (m : MediaLine) → i < length sections → m ≡ get_or sections i m
    → i ≢ own
    → ¬ FrameComesBack m
    → IsTrue false ↔ OthersComeBack sections own
writable_one_section_lost sections own i m lt at other lost = grind (arith, slice_get_read)

pub all_back : (sections : List MediaLine) (own i : ℕ) → length sections ≤ i → OtherLinesBefore sections own i
    → IsTrue true ↔ OthersComeBack sections own
all_back sections own i end before = grind (arith, slice_get_within)

-- ---- all of it

pub writable_with : (sdp : Sdp) (i : ℕ) (section : MediaLine) → slice_get sdp.media_lines i ≡ Some section
    → ((reads : List SessionAttribute) × AreReadAs session_attribute_text IsSessionLine SessionGoesWith sdp.session.attrs reads)
    × BandwidthComesBack sdp.session.bw
    → ((read : MediaLine) × IsMediaReadAs (writable_frame_of section) read × IsWritableFrame read) → {T : Type 0}
    → T ↔ OthersComeBack sdp.media_lines i
    → T ↔ Writable sdp i
writable_with sdp i section at session own is = (
  (λ t. record { section = section; at = at; session = session.0; bandwidth = session.1; others = is.0 t; own = own }),
  (λ writable. is.1 writable.others),
)
