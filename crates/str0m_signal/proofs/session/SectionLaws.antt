-- The lines of a section are read exactly where their forms hold.
use Rattle.std.proofs.NetLemmas.Options.{cond_none}
use Rattle.std.proofs.lemmas.Bool.Decides.{same_from_decides}
use Rattle.str0m_sdp.specs.declared.attribute.media_type.MediaType.TheVariants.{Audio, Video, Application, Unknown}
use Rattle.str0m_signal.proofs.Common.{rules, ◌≡◌, ℕ, Bool, false, cond, List, [], ◌∷◌, ◌++◌, length, Option, Some, None, refl, sym, ap}
use Rattle.str0m_signal.proofs.Common.{subst, ◌∙◌, arith, codes, is_some, bytes_eq, ltb-true, both_ways, append-nil, PartedAddress}
use Rattle.str0m_signal.proofs.Common.{bytes_eq-Decides, Bandwidth, AUDIO, VIDEO, MediaType, Proto, IsRest, IsNum, FirstFit, ◌>>=◌, cut}
use Rattle.str0m_signal.proofs.Common.{strip, when, is_rest, cut_at, cut_found, strip_at, strip_found, cuts_when_some, IsSoundCut}
use Rattle.str0m_signal.proofs.Common.{cuts_bind_some, cuts_some_is}
use Rattle.str0m_signal.proofs.Common.{sound_cut_or, cuts_reads_first, number_lacks, num_rest_true, candidate_num_both, Reads}
use Rattle.str0m_signal.proofs.Common.{false_from_ne_true, APPLICATION}
use Rattle.str0m_signal.proofs.line.PartLaws.{parted_both}
use Rattle.str0m_signal.specs.session.Section.{IsSessionField, IsBandwidth, TextBegins, IsMediaKindText, IsProto, NoTypes, Head, IsHead}
use Rattle.str0m_signal.specs.session.SectionReading.{field_read, bandwidth_read, unknown_read, media_kind_read, proto_read, numbers_read}
use Rattle.str0m_signal.specs.session.SectionReading.{no_types_read, types_read, head_read}
use Rattle.str0m_values.proofs.WordLaws.{word_sound}

pub section_field_both : (letter : List ℕ) → Reads (IsSessionField letter) (field_read letter)
section_field_both letter = grind (arith, cuts_bind_some, cuts_when_some, ltb-true, strip_found, strip_at, num_rest_true)

pub bandwidth_both : Reads IsBandwidth bandwidth_read
bandwidth_both = record { sound = found; complete = given }
  where
    found : (content : List ℕ) (bw : Bandwidth) → bandwidth_read content ≡ Some bw → IsBandwidth content bw
    found content bw e =
        let a = cuts_bind_some (strip (codes "b=") content) (λ body. cut 58 body >>= λ fields. when (is_rest fields.0) fields.0
        >>= λ typ. when (is_rest fields.1) fields.1 >>= λ val. Some (record { typ = typ; val = val })) bw e in
        let b = cuts_bind_some (cut 58 a.0) (λ fields. when (is_rest fields.0) fields.0 >>= λ typ. when (is_rest fields.1) fields.1
        >>= λ val. Some (record { typ = typ; val = val })) bw a.2 in
        let t = cuts_bind_some (when (is_rest b.0.0) b.0.0) (λ typ. when (is_rest b.0.1) b.0.1
        >>= λ val. Some (record { typ = typ; val = val }))
        bw b.2 in
        let v = cuts_bind_some (when (is_rest b.0.1) b.0.1) (λ val. Some (record { typ = t.0; val = val })) bw t.2 in
        let typ = cuts_when_some (is_rest b.0.0) b.0.0 t.0 t.1 in
        let val = cuts_when_some (is_rest b.0.1) b.0.1 v.0 v.1 in
        let fields = cut_found 58 a.0 b.0.0 b.0.1 b.1 in
        let made : Bandwidth = record { typ = b.0.0; val = b.0.1 } in
        let same : made ≡ bw = ap (λ (t : List ℕ). let m : Bandwidth = record { typ = t; val = b.0.1 } in m) typ.1
        ∙ ap (λ (x : List ℕ). let m : Bandwidth = record { typ = t.0; val = x } in m) val.1
        ∙ cuts_some_is (record { typ = t.0; val = v.0 }) bw v.2 in
        subst (IsBandwidth content) same (
          strip_found (codes "b=") content a.0 a.1 ∙ ap (λ (x : List ℕ). codes "b=" ++ x) fields.0,
          (ltb-true 0 (length b.0.0) typ.0, fields.1),
          ltb-true 0 (length b.0.1) val.0,
        )

    given : (content : List ℕ) (bw : Bandwidth) → IsBandwidth content bw → bandwidth_read content ≡ Some bw
    given content bw h = ap bandwidth_read h.0 ∙ rw (cut_at 58 bw.typ bw.val h.1.1, num_rest_true bw.typ h.1.0, num_rest_true bw.val h.2)
        refl

-- ---- kinds and protocols

section_not_begun : (front text : List ℕ) → is_some (strip front text) ≡ false → TextBegins front text → ⊥
section_not_begun front text e h = grind (arith, strip_at, both_ways)

section_begun_not : (front text : List ℕ) → (TextBegins front text → ⊥) → is_some (strip front text) ≡ false
section_begun_not front text h = go (strip front text) refl
  where
    go : (o : Option (List ℕ)) → strip front text ≡ o → is_some o ≡ false
    go None e = refl
    go (Some rest) e = absurd (h (rest, strip_found front text rest e))

section_word_begins_not : (front text : List ℕ) → (TextBegins front text → ⊥) → bytes_eq text front ≡ false
section_word_begins_not front text h = false_from_ne_true (bytes_eq text front)
    (λ e. h ([], (bytes_eq-Decides text front).0 e ∙ sym (append-nil front)))

section_unknown_kind_sound : IsSoundCut IsMediaKindText unknown_read
section_unknown_kind_sound = record {
  law = λ text kind e.
      let a = cond_none (is_some (strip AUDIO.now text))
      (cond (is_some (strip VIDEO.now text)) None
      (cond (is_some (strip APPLICATION.now text)) None (when (is_rest text) (Unknown text)))) kind e in
      let v = cond_none (is_some (strip VIDEO.now text))
      (cond (is_some (strip APPLICATION.now text)) None (when (is_rest text) (Unknown text))) kind a.1 in
      let p = cond_none (is_some (strip APPLICATION.now text)) (when (is_rest text) (Unknown text)) kind v.1 in
      let w = cuts_when_some (is_rest text) (Unknown text) kind p.1 in
      subst (IsMediaKindText text) w.1 (
        refl,
        ltb-true 0 (length text) w.0,
        section_not_begun AUDIO.now text a.0,
        section_not_begun VIDEO.now text v.0,
        section_not_begun APPLICATION.now text p.0,
      );
}

media_kind_sound : IsSoundCut IsMediaKindText media_kind_read
media_kind_sound = search (rules, sound_cut_or, word_sound, section_unknown_kind_sound)

media_kind_complete : (text : List ℕ) (kind : MediaType) → IsMediaKindText text kind → media_kind_read text ≡ Some kind
media_kind_complete text Audio h = rw h refl
media_kind_complete text Video h = rw h refl
media_kind_complete text Application h = rw h refl
media_kind_complete text (Unknown name) h = search (rules, section_word_begins_not, section_begun_not, num_rest_true)

section_kind_filled : (text : List ℕ) (kind : MediaType) → IsMediaKindText text kind → IsRest text
section_kind_filled text kind h = grind arith

section_proto_sound : IsSoundCut IsProto proto_read
section_proto_sound = search (rules, sound_cut_or, word_sound)

section_proto_complete : (text : List ℕ) (proto : Proto) → IsProto text proto → proto_read text ≡ Some proto
section_proto_complete text proto h = grind arith

section_proto_filled : (text : List ℕ) (proto : Proto) → IsProto text proto → IsRest text
section_proto_filled text proto h = grind arith

-- ---- types

pub numbers_both : Reads (PartedAddress 32 (IsNum 255)) numbers_read
numbers_both = parted_both 32 (candidate_num_both 255)
    (λ text n h. number_lacks 32 text (omega arith) (λ e. absurd (omega arith)) h.numeral)

no_types_both : Reads NoTypes no_types_read
no_types_both = record {
  sound = λ text ns e. let u = cond_none (is_some (strip (codes " ") text)) (Some []) ns e in
      (sym (cuts_some_is [] ns u.1), section_not_begun (codes " ") text u.0);
  complete = λ text ns h. rw (section_begun_not (codes " ") text h.1) (ap (λ (t : List ℕ). Some t) (sym h.0));
}

types_both : Reads (FirstFit (PartedAddress 32 (IsNum 255)) NoTypes) types_read
types_both = cuts_reads_first numbers_both no_types_both

-- ---- the m-line

abbrev made_head : MediaType → Bool → Proto → List ℕ → Head
made_head typ disabled proto pts = record { typ = typ; disabled = disabled; proto = proto; pts = pts }

head_found : (content : List ℕ) (head : Head) → head_read content ≡ Some head → IsHead content head
head_found content head e =
    let a = cuts_bind_some (strip (codes "m=") content) (λ body. cut 32 body >>= λ kind. cut 32 kind.1 >>= λ port. cut 32 port.1
    >>= λ protocol. media_kind_read kind.0 >>= λ typ. when (is_rest port.0) port.0 >>= λ number. proto_read protocol.0
    >>= λ proto. types_read protocol.1
    >>= λ pts. Some (record { typ = typ; disabled = bytes_eq number (codes "0"); proto = proto; pts = pts })) head e in
    let k = cuts_bind_some (cut 32 a.0) (λ kind. cut 32 kind.1 >>= λ port. cut 32 port.1 >>= λ protocol. media_kind_read kind.0
    >>= λ typ. when (is_rest port.0) port.0 >>= λ number. proto_read protocol.0 >>= λ proto. types_read protocol.1
    >>= λ pts. Some (record { typ = typ; disabled = bytes_eq number (codes "0"); proto = proto; pts = pts })) head a.2 in
    let p = cuts_bind_some (cut 32 k.0.1) (λ port. cut 32 port.1 >>= λ protocol. media_kind_read k.0.0
    >>= λ typ. when (is_rest port.0) port.0
    >>= λ number. proto_read protocol.0 >>= λ proto. types_read protocol.1
    >>= λ pts. Some (record { typ = typ; disabled = bytes_eq number (codes "0"); proto = proto; pts = pts })) head k.2 in
    let r = cuts_bind_some (cut 32 p.0.1) (λ protocol. media_kind_read k.0.0 >>= λ typ. when (is_rest p.0.0) p.0.0
    >>= λ number. proto_read protocol.0 >>= λ proto. types_read protocol.1
    >>= λ pts. Some (record { typ = typ; disabled = bytes_eq number (codes "0"); proto = proto; pts = pts })) head p.2 in
    let t = cuts_bind_some (media_kind_read k.0.0) (λ typ. when (is_rest p.0.0) p.0.0 >>= λ number. proto_read r.0.0
    >>= λ proto. types_read r.0.1
    >>= λ pts. Some (record { typ = typ; disabled = bytes_eq number (codes "0"); proto = proto; pts = pts })) head r.2 in
    let n = cuts_bind_some (when (is_rest p.0.0) p.0.0) (λ number. proto_read r.0.0 >>= λ proto. types_read r.0.1
    >>= λ pts. Some (record { typ = t.0; disabled = bytes_eq number (codes "0"); proto = proto; pts = pts })) head t.2 in
    let o = cuts_bind_some (proto_read r.0.0) (λ proto. types_read r.0.1
    >>= λ pts. Some (record { typ = t.0; disabled = bytes_eq n.0 (codes "0"); proto = proto; pts = pts })) head n.2 in
    let y = cuts_bind_some (types_read r.0.1)
    (λ pts. Some (record { typ = t.0; disabled = bytes_eq n.0 (codes "0"); proto = o.0; pts = pts }))
    head o.2 in
    let number = cuts_when_some (is_rest p.0.0) p.0.0 n.0 n.1 in
    let kind = cut_found 32 a.0 k.0.0 k.0.1 k.1 in
    let port = cut_found 32 k.0.1 p.0.0 p.0.1 p.1 in
    let protocol = cut_found 32 p.0.1 r.0.0 r.0.1 r.1 in
    let kind_is = media_kind_sound.law k.0.0 t.0 t.1 in
    let proto_is = section_proto_sound.law r.0.0 o.0 o.1 in
    let made : IsHead content (record { typ = t.0; disabled = bytes_eq p.0.0 (codes "0"); proto = o.0; pts = y.0 }) = record {
      kind = k.0.0;
      port = p.0.0;
      protocol = r.0.0;
      types = r.0.1;
      joined = strip_found (codes "m=") content a.0 a.1 ∙ ap (λ (x : List ℕ). codes "m=" ++ x)
          (kind.0 ∙ ap (λ (x : List ℕ). k.0.0 ++ (32 ∷ x)) (port.0 ∙ ap (λ (x : List ℕ). p.0.0 ++ (32 ∷ x)) protocol.0));
      kind_is = ((section_kind_filled k.0.0 t.0 kind_is, kind.1), kind_is);
      port_is = ((ltb-true 0 (length p.0.0) number.0, port.1), bytes_eq-Decides p.0.0 (codes "0"));
      protocol_is = ((section_proto_filled r.0.0 o.0 proto_is, protocol.1), proto_is);
      types_are = types_both.sound r.0.1 y.0 y.1;
    } in
    let same = ap (λ (w : List ℕ). made_head t.0 (bytes_eq w (codes "0")) o.0 y.0) number.1
    ∙ cuts_some_is (made_head t.0 (bytes_eq n.0 (codes "0")) o.0 y.0) head y.2 in
    subst (IsHead content) same made

head_given : (content : List ℕ) (head : Head) → IsHead content head → head_read content ≡ Some head
head_given content head h =
    let behind_port = h.protocol ++ (32 ∷ h.types) in
    let behind_kind = h.port ++ (32 ∷ behind_port) in
    let disabled : bytes_eq h.port (codes "0") ≡ head.disabled =
    same_from_decides (bytes_eq h.port (codes "0")) head.disabled (bytes_eq-Decides h.port (codes "0")) h.port_is.1 in
    ap head_read h.joined
    ∙ rw (
      cut_at 32 h.kind behind_kind h.kind_is.0.1,
      cut_at 32 h.port behind_port h.port_is.0.1,
      cut_at 32 h.protocol h.types h.protocol_is.0.1,
      media_kind_complete h.kind head.typ h.kind_is.1,
      num_rest_true h.port h.port_is.0.0,
      section_proto_complete h.protocol head.proto h.protocol_is.1,
      types_both.complete h.types head.pts h.types_are,
    )
    (ap (λ (b : Bool). Some (made_head head.typ b head.proto head.pts)) disabled)

pub head_both : Reads IsHead head_read
head_both = record { sound = head_found; complete = head_given }
