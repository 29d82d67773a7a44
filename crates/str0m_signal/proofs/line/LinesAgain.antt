-- The lines of what was read; m-lines and bandwidths are printed as they were.
use Rattle.str0m_sdp.specs.declared.attribute.media_type.MediaType.TheVariants as typ
use Rattle.str0m_signal.proofs.Common.{◌≡◌, ◌≢◌, ◌⊎◌, ℕ, List, [], ◌∷◌, ◌++◌, Option, Some, None, IfSome, refl, subst, arith, lit<, lit≤}
use Rattle.str0m_signal.proofs.Common.{inl, inr, codes, AllByRecursion, append_assoc, FirstFit, PartedAddress, Lacks, IsWord, IsNum}
use Rattle.str0m_signal.proofs.Common.{LacksCut-append}
use Rattle.str0m_signal.proofs.Common.{bandwidth_text, m_line_pts_text, formats_text, media_type_text, Bandwidth, MediaLine, MediaType}
use Rattle.str0m_signal.proofs.Common.{Proto}
use Rattle.str0m_signal.proofs.Common.{Sctp, ap, cuts_none_reads, is_media, m_line, sym, true}
use Rattle.str0m_signal.proofs.form.FmtpPrinted.{fmtp_behind_lacks}
use Rattle.str0m_signal.proofs.form.FormPiecesAgain.{num_again, parted_again}
use Rattle.str0m_signal.proofs.line.AttributesPrinted.{HoldsNoEnd, no_end}
use Rattle.str0m_signal.proofs.line.WordsCharacterStarts.{StartsWithin, front_starts, behind_starts}
use Rattle.str0m_signal.proofs.session.SectionLaws.{numbers_both}
use Rattle.str0m_signal.proofs.session.SectionLines.{AreTypes, head_line_read, head_printed}
use Rattle.str0m_signal.specs.back.Writable.{IsReadBackLine, HasTypes}
use Rattle.str0m_signal.specs.back.WritableAgain.{FitsKind}
use Rattle.str0m_signal.specs.line.Lines.{Chain, TakenLine, Line, lines_joined, AreLines, OneLine}
use Rattle.str0m_signal.specs.session.Section.{Head, IsMediaKindText, IsHead, IsBandwidth, NoTypes}

-- ---- lines

-- lines of a text in which characters begin close to each other
abbrev pub AreFineLines : List Line → Type 0
AreFineLines lines = AreLines lines × StartsWithin 3 (lines_joined lines)

-- the value has the form on some line
abbrev pub IsOnLine : {A : Type 0} → (List ℕ → A → Type 0) → A → Type 0
IsOnLine F a = (content : List ℕ) × HoldsNoEnd content × StartsWithin 3 content × F content a

pub one_line : {A : Type 0} (F : List ℕ → A → Type 0) (lines : List Line) (a : A) (rest : List Line) → AreFineLines lines
    → OneLine F lines a rest
    → IsOnLine F a × AreFineLines rest
one_line F lines a rest fine h = grind (arith, front_starts, behind_starts)

pub chain_lines : {A : Type 0} (F : List ℕ → A → Type 0) (lines : List Line) (values : List A) (rest : List Line) → AreFineLines lines
    → Chain (OneLine F) lines values rest → AllByRecursion (IsOnLine F) values × AreFineLines rest
chain_lines F lines [] rest fine h = (tt, subst AreFineLines h fine)
chain_lines F lines (a ∷ values) rest fine h = grind (arith, one_line F lines a h.0 fine h.1, chain_lines F h.0 values rest)

pub taken_line : {A : Type 0} (F : List ℕ → A → Type 0) (lines : List Line) (o : Option A) (rest : List Line) → AreFineLines lines
    → TakenLine (OneLine F) lines o rest → IfSome o (IsOnLine F) × AreFineLines rest
taken_line F lines None rest fine h = (tt, subst AreFineLines h.0 fine)
taken_line F lines (Some a) rest fine h = one_line F lines a rest fine h

-- the text after `a=`, as the line
pub record IsBehindLine (text : List ℕ) : Type 0 where
  pub quiet : HoldsNoEnd text
  pub starts : StartsWithin 3 text

pub line_behind_is : (content text : List ℕ) → content ≡ codes "a=" ++ text → HoldsNoEnd content → StartsWithin 3 content
    → IsBehindLine text
line_behind_is content text e quiet starts = grind arith

-- ---- m-lines and bandwidths

pub bandwidth_again : (bw : Option Bandwidth) → IfSome bw (IsOnLine IsBandwidth)
    → IfSome bw (λ bw. IsReadBackLine IsBandwidth (bandwidth_text bw) bw)
bandwidth_again bw h = grind (arith, append_assoc)

-- the formats of an m-line
abbrev AreLineFormats : List ℕ → List ℕ → Type 0
AreLineFormats = FirstFit (PartedAddress 32 (IsNum 255)) NoTypes

types_again : (types pts : List ℕ) → AreLineFormats types pts → pts ≢ [] → HoldsNoEnd types
    → AreLineFormats (m_line_pts_text pts) pts × HoldsNoEnd (m_line_pts_text pts)
types_again types [] are some quiet = absurd (some refl)
types_again types (pt ∷ pts) (inr none) some quiet = absurd (some none.1.0)
types_again types (pt ∷ pts) (inl are) some quiet =
    let again = parted_again (num_again 255 (lit< tt)) 32 in (
      inl (again.form types (pt ∷ pts) are),
      (again.lacks 10 (lit≤ tt) types (pt ∷ pts) are quiet.0, again.lacks 13 (lit≤ tt) types (pt ∷ pts) are quiet.1),
    )

-- what a channel prints is no type
channel_line_is : AreLineFormats (codes "webrtc-datachannel") []
channel_line_is = grind (arith, cuts_none_reads, numbers_both)

-- ---- m-lines that say what they are

abbrev pub head_of : MediaLine → Head
head_of m = record { typ = m.typ; disabled = m.disabled; proto = m.proto; pts = m.pts }

-- the m-line of media with types, or of data channels without any
abbrev pub IsPlainHead : MediaLine → Type 0
IsPlainHead m =
    ((is_media m.typ ≡ true) × (m.pts ≢ []) × AreTypes m.pts)
    ⊎ ((m.typ ≡ typ.Application) × (m.pts ≡ []))

channel_kind_line : (t : MediaType) → t ≡ typ.Application
    → IsWord (media_type_text t) × IsMediaKindText (media_type_text t) t × HoldsNoEnd (media_type_text t)
channel_kind_line t e = grind (arith, no_end)

channel_head_line : (m : MediaLine) → m.typ ≡ typ.Application → m.pts ≡ [] → IsReadBackLine IsHead (m_line m) (head_of m)
channel_head_line m e none =
    head_line_read m (codes "webrtc-datachannel") m.pts (channel_kind_line m.typ e) (ap (λ (t : MediaType). formats_text t m.pts) e)
    (no_end (codes "webrtc-datachannel") refl refl)
    (subst (AreLineFormats (codes "webrtc-datachannel")) (sym none) channel_line_is)

media_head_line : (m : MediaLine) (pts : List ℕ) → m.pts ≡ pts → is_media m.typ ≡ true → pts ≢ [] → AreTypes pts
    → IsReadBackLine IsHead (m_line m) (head_of m)
media_head_line m [] e media some fit = absurd (some refl)
media_head_line m (pt ∷ pts) e media some fit = head_printed m media pt pts e fit

pub plain_head_line : (m : MediaLine) → IsPlainHead m → IsReadBackLine IsHead (m_line m) (head_of m)
plain_head_line m (inl (media, some, fit)) = media_head_line m m.pts refl media some fit
plain_head_line m (inr (channel, none)) = channel_head_line m channel none

-- the formats as they print, and the types that they are read as
record FormatsAgain (t : MediaType) (proto : Proto) (pts : List ℕ) : Type 0 where
  types : List ℕ
  are : AreLineFormats (formats_text t pts) types
  quiet : HoldsNoEnd (formats_text t pts)
  fit : (types ≡ pts) ⊎ ((types ≡ []) × (proto ≡ Sctp))

formats_again : (t : MediaType) (proto : Proto) (pts types : List ℕ) → FitsKind t proto pts → AreLineFormats types pts → HoldsNoEnd types
    → FormatsAgain t proto pts
formats_again typ.Application proto pts types fits are quiet = grind (arith, channel_line_is, no_end)
formats_again typ.Audio proto pts types fits are quiet = grind (arith, types_again)
formats_again typ.Video proto pts types fits are quiet = grind (arith, types_again)
formats_again (typ.Unknown name) proto pts types fits are quiet = grind (arith, types_again)

kind_again : (kind : List ℕ) (t : MediaType) → IsMediaKindText kind t → kind ≡ media_type_text t
kind_again kind t h = grind arith

-- an m-line is read with its own types, or with none where it is of a channel
pub head_again : (m : MediaLine) → FitsKind m.typ m.proto m.pts → IsOnLine IsHead (head_of m)
    → (types : List ℕ) × HasTypes m types × ((types ≡ m.pts) ⊎ ((types ≡ []) × (m.proto ≡ Sctp)))
head_again m fits (content, quiet, starts, h) =
    let front = codes "m=" in
    let behind : (c : ℕ) → Lacks c content → Lacks c h.kind × Lacks c h.types = λ c none.
    let whole = fmtp_behind_lacks c front _ (subst (Lacks c) h.joined none) in
    let port = fmtp_behind_lacks c (codes " ") _ (fmtp_behind_lacks c h.kind _ whole) in
    let protocol = fmtp_behind_lacks c (codes " ") _ (fmtp_behind_lacks c h.port _ port) in
    (LacksCut-append c h.kind _ whole, fmtp_behind_lacks c (codes " ") h.types (fmtp_behind_lacks c h.protocol _ protocol)) in
    let lf = behind 10 quiet.0 in
    let cr = behind 13 quiet.1 in
    let kind = kind_again h.kind m.typ h.kind_is.1 in
    let formats = formats_again m.typ m.proto m.pts h.types fits h.types_are (lf.1, cr.1) in (
      formats.types,
      head_line_read m (formats_text m.typ m.pts) formats.types
          (subst (λ (t : List ℕ). IsWord t × IsMediaKindText t m.typ × HoldsNoEnd t) kind (h.kind_is.0, h.kind_is.1, (lf.0, cr.0)))
          refl formats.quiet formats.are,
      formats.fit,
    )
