-- Printed sections: their m-line, `c=` and `b=` lines, and the whole of them.
use Rattle.str0m_sdp.specs.attribute.Proto.{proto_text}
use Rattle.str0m_signal.proofs.Common.{◌≡◌, ◌≤◌, inl, ℕ, Bool, true, List, [], ◌∷◌, ◌++◌, refl, sym, ap, ◌∙◌, subst, arith, lit<, ◌↔◌}
use Rattle.str0m_signal.proofs.Common.{IsTrue, codes, AllByRecursion, join_by, decimal, append_assoc, append-nil, FirstFit, PartedAddress}
use Rattle.str0m_signal.proofs.Common.{IsWord}
use Rattle.str0m_signal.proofs.Common.{IsNum, printed_line_end, m_line_pts_text, formats_text, m_line, media_type_text, is_media, MediaLine}
use Rattle.str0m_signal.proofs.Common.{MediaType}
use Rattle.str0m_signal.proofs.Common.{Proto, port_text}
use Rattle.str0m_signal.proofs.line.AttributesPrinted.{HoldsNoEnd, no_ends, no_end, attribute_num_is, decimal_no_end}
use Rattle.str0m_signal.specs.back.Writable.{IsReadBackLine}
use Rattle.str0m_signal.specs.session.Section.{IsMediaKindText, IsProto, IsHead, NoTypes}

-- ---- the m-line

kind_line : (t : MediaType) → is_media t ≡ true → IsWord (media_type_text t) × IsMediaKindText (media_type_text t) t
    × HoldsNoEnd (media_type_text t)
kind_line t h = grind arith

section_port_is : (b : Bool) → (IsWord (port_text b) × (IsTrue b ↔ (port_text b ≡ codes "0"))) × HoldsNoEnd (port_text b)
section_port_is b = grind arith

section_proto_is : (p : Proto) → (IsWord (proto_text p) × IsProto (proto_text p) p) × HoldsNoEnd (proto_text p)
section_proto_is p = grind arith

-- types that an m-line holds
abbrev pub AreTypes : List ℕ → Type 0
AreTypes pts = AllByRecursion (λ n. n ≤ 255) pts

types_are : (pt : ℕ) (pts : List ℕ) → AreTypes (pt ∷ pts) → PartedAddress 32 (IsNum 255) (join_by decimal (codes " ") (pt ∷ pts)) (pt ∷ pts)
types_are pt [] h = subst (λ (t : List ℕ). IsNum 255 t pt) (sym (append-nil (decimal pt))) (attribute_num_is 255 pt h.0 (lit< tt))
types_are pt (q ∷ qs) h = (
  decimal pt,
  join_by decimal (codes " ") (q ∷ qs),
  refl,
  attribute_num_is 255 pt h.0 (lit< tt),
  types_are q qs h.1,
)

types_no_end : (pt : ℕ) (pts : List ℕ) → AreTypes (pt ∷ pts) → HoldsNoEnd (join_by decimal (codes " ") (pt ∷ pts))
types_no_end pt [] h = let small = h.0 in no_ends (decimal pt) [] (decimal_no_end pt (omega arith)) (tt, tt)
types_no_end pt (q ∷ qs) h = grind (arith, no_ends, decimal_no_end, no_end, types_no_end q qs h.1)

-- what carries media prints its types
section_formats_are : (t : MediaType) (pts : List ℕ) → is_media t ≡ true → formats_text t pts ≡ m_line_pts_text pts
section_formats_are t pts h = grind arith

abbrev head_text : List ℕ → List ℕ → List ℕ → List ℕ → List ℕ
head_text kind port protocol types = codes "m=" ++ (kind ++ (codes " " ++ (port ++ (codes " " ++ (protocol ++ (codes " " ++ types))))))

head_whole : (kind port protocol types : List ℕ)
    → head_text kind port protocol (types ++ printed_line_end) ≡ head_text kind port protocol types ++ printed_line_end
head_whole kind port protocol types = sym (simp append_assoc)

head_no_end : (kind port protocol types : List ℕ) → HoldsNoEnd kind → HoldsNoEnd port → HoldsNoEnd protocol → HoldsNoEnd types
    → HoldsNoEnd (head_text kind port protocol types)
head_no_end kind port protocol types k p q t = grind (arith, no_ends, no_end)

-- an m-line whose kind and whose types have their forms reads as what it says, with these types
pub head_line_read : (m : MediaLine) (types pts : List ℕ)
    → IsWord (media_type_text m.typ) × IsMediaKindText (media_type_text m.typ) m.typ × HoldsNoEnd (media_type_text m.typ)
    → formats_text m.typ m.pts ≡ types → HoldsNoEnd types → FirstFit (PartedAddress 32 (IsNum 255)) NoTypes types pts
    → IsReadBackLine IsHead (m_line m) (record { typ = m.typ; disabled = m.disabled; proto = m.proto; pts = pts })
head_line_read m types pts kind printed no_end are =
    let port = section_port_is m.disabled in
    let protocol = section_proto_is m.proto in
    let text = head_text (media_type_text m.typ) (port_text m.disabled) (proto_text m.proto) types in
    let quiet = head_no_end (media_type_text m.typ) (port_text m.disabled) (proto_text m.proto) types kind.2 port.1 protocol.1 no_end in (
      text,
      ap (λ (t : List ℕ). head_text (media_type_text m.typ) (port_text m.disabled) (proto_text m.proto) (t ++ printed_line_end)) printed
          ∙ head_whole (media_type_text m.typ) (port_text m.disabled) (proto_text m.proto) types,
      quiet.0,
      quiet.1,
      record {
        kind = media_type_text m.typ;
        port = port_text m.disabled;
        protocol = proto_text m.proto;
        types = types;
        joined = refl;
        kind_is = (kind.0, kind.1);
        port_is = port.0;
        protocol_is = protocol.0;
        types_are = are;
      },
    )

-- an audio or video section with some types: its m-line reads as what it says
pub head_printed : (m : MediaLine) → is_media m.typ ≡ true → (pt : ℕ) (pts : List ℕ) → m.pts ≡ pt ∷ pts → AreTypes (pt ∷ pts)
    → IsReadBackLine IsHead (m_line m) (record { typ = m.typ; disabled = m.disabled; proto = m.proto; pts = m.pts })
head_printed m media pt pts e small =
    let types = join_by decimal (codes " ") (pt ∷ pts) in
    head_line_read m types m.pts (kind_line m.typ media) (section_formats_are m.typ m.pts media ∙ ap m_line_pts_text e)
    (types_no_end pt pts small)
    (inl (subst (λ (ns : List ℕ). PartedAddress 32 (IsNum 255) types ns) (sym e) (types_are pt pts small)))
