-- A printed header, with a bandwidth or without, and a printed session are read as what they say.
use Rattle.str0m_sdp.specs.declared.session.Session.{Session as TheSession}
use Rattle.str0m_signal.proofs.Common.{◌≡◌, ◌≢◌, ◌<◌, ◌^◌, ℕ, List, [], ◌∷◌, ◌++◌, Option, IfSome, refl, sym, ap, ◌∙◌, subst, arith, lit<}
use Rattle.str0m_signal.proofs.Common.{codes, flat_map, decimal, decimal_is_IsNumeral, append_assoc, Lacks, lacks_cut_from}
use Rattle.str0m_signal.proofs.Common.{session_attribute_text, bandwidth_text, printed_line_end, Bandwidth, SessionAttribute, IsRest}
use Rattle.str0m_signal.proofs.Common.{session_lines, versioned_origin}
use Rattle.str0m_signal.proofs.line.AttributesPrinted.{LinesReadAs, HoldsNoEnd, no_ends, no_end, decimal_no_end}
use Rattle.str0m_signal.proofs.line.LinesPrinted.{printed_line, ArePrinted, lines_joined-append, printed-append, LinesApart}
use Rattle.str0m_signal.proofs.line.LinesPrinted.{printed_lines_apart-append, apart}
use Rattle.str0m_signal.proofs.line.LinesPrinted.{no_field_line, no_attribute, SaidLines, lines_said}
use Rattle.str0m_signal.proofs.session.Sections.{SaidBandwidth, said_bandwidth}
use Rattle.str0m_signal.specs.back.Writable.{IsReadBackLine}
use Rattle.str0m_signal.specs.form.SessionAttribute.{SessionForm, IsSessionLine}
use Rattle.str0m_signal.specs.line.Lines.{StopsLines, Line, lines_joined, OneLine}
use Rattle.str0m_signal.specs.session.Header.{IsHeader, IsOrigin, IsHeaderInfo}
use Rattle.str0m_signal.specs.session.Reader.{IsSession}
use Rattle.str0m_signal.specs.session.Section.{IsBandwidth}

-- the text of a version stands in the origin
abbrev pub session_printed_origin : List ℕ → ℕ → List ℕ
session_printed_origin version id = codes "o=str0m-0.25.0 " ++ (decimal id ++ (codes " " ++ (version ++ codes " IN IP4 0.0.0.0")))

session_address_behind : (version : List ℕ) → IsRest (version ++ codes " IN IP4 0.0.0.0")
session_address_behind [] = lit< tt
session_address_behind (x ∷ xs) = omega arith

origin_is : (version : List ℕ) (id : ℕ) → id < 2 ^ 64 → IsOrigin (session_printed_origin version id) id
origin_is version id small =
    let digits = decimal_is_IsNumeral id small in
    record {
      name = codes "str0m-0.25.0";
      number = decimal id;
      more = version ++ codes " IN IP4 0.0.0.0";
      joined = refl;
      name_is = (lit< tt, word);
      number_is = record { numeral = digits.0; value = digits.1; fits = omega (arith, small) };
      more_is = session_address_behind version;
    }
  where
    word : Lacks 32 (codes "str0m-0.25.0")
    word = lacks_cut_from 32 (codes "str0m-0.25.0") refl

origin_no_end : (version : List ℕ) (id : ℕ) → HoldsNoEnd version → id < 2 ^ 64 → HoldsNoEnd (session_printed_origin version id)
origin_no_end version id quiet small = grind (arith, no_ends, no_end, decimal_no_end)

-- ---- the header

header_infos_stop : (lines : List Line) → ((c : ℕ) → c ≢ 98 → c ≢ 116 → LinesApart c lines) → StopsLines (OneLine IsHeaderInfo) lines
header_infos_stop [] letter k after one = let e = one.1 in absurd cc
header_infos_stop (line ∷ lines) letter k after one = grind arith

abbrev pub timing_lines : Line
timing_lines = printed_line (codes "t=0 0")

session_timing_apart : (c : ℕ) (rest : List Line) → c ≢ 116 → LinesApart c (timing_lines ∷ rest)
session_timing_apart c rest other = apart c 116 (codes "=0 0") timing_lines rest refl other

-- the lines of a header, in front of others
abbrev pub header_lines : List ℕ → ℕ → List Line → List Line
header_lines version id bandwidth =
    printed_line (codes "v=0") ∷ (printed_line (session_printed_origin version id)
    ∷ (printed_line (codes "s=-") ∷ (bandwidth ++ (timing_lines ∷ []))))

pub header_is : (version : List ℕ) (id : ℕ) (bw : Option Bandwidth) → HoldsNoEnd version → id < 2 ^ 64 → (b : SaidBandwidth bw)
    → (rest : List Line)
    → LinesApart 114 rest
    → IsHeader (printed_line (codes "v=0") ∷
    (printed_line (session_printed_origin version id) ∷ (printed_line (codes "s=-") ∷ (b.lines ++ (timing_lines ∷ rest)))))
    (record { id = id; bw = bw }) rest
header_is version id bw plain small b rest no_r =
    let quiet = origin_no_end version id plain small in
    let behind = b.lines ++ (timing_lines ∷ rest) in
    record {
      after_opening = behind;
      after_infos = behind;
      after_bandwidth = timing_lines ∷ rest;
      after_timing = rest;
      infos = [];
      repeats = [];
      opening_is = record {
        after_version = printed_line (session_printed_origin version id) ∷ (printed_line (codes "s=-") ∷ behind);
        after_origin = printed_line (codes "s=-") ∷ behind;
        name = codes "-";
        version_is = (printed_line (codes "v=0"), refl, lacks_cut_from 13 (codes "v=0") refl, (refl, refl));
        origin_is = (printed_line (session_printed_origin version id), refl, quiet.1, origin_is version id small);
        name_is = (printed_line (codes "s=-"), refl, lacks_cut_from 13 (codes "s=-") refl, (refl, lit< tt));
      };
      infos_are = (
        refl,
        header_infos_stop behind (λ c other another. printed_lines_apart-append c b.lines (timing_lines ∷ rest) (b.letter c other)
            (session_timing_apart c rest another)),
      );
      bandwidth_is = b.taken (timing_lines ∷ rest) (session_timing_apart 98 rest (λ e. omega (arith, e)));
      timing_is = (timing_lines, refl, lacks_cut_from 13 (codes "t=0 0") refl, (refl, refl));
      repeats_are = (refl, no_field_line 114 rest no_r);
    }

-- ---- the session

-- what a session prints with a version: its lines, and the session that they are in front of others
pub record SaidSession (version : List ℕ) (session : TheSession) (reads : List SessionAttribute) : Type 0 where
  pub lines : List Line
  pub printed : ArePrinted lines
  pub are : session_lines (versioned_origin version session.id) session ≡ lines_joined lines
  pub session_is : (rest : List Line) → LinesApart 97 rest → LinesApart 114 rest
      → IsSession (lines ++ rest) (record session { attrs = reads }) rest

pub said_session : (version : List ℕ) (session : TheSession) (reads : List SessionAttribute) → HoldsNoEnd version → session.id < 2 ^ 64
    → IfSome session.bw (λ bw. IsReadBackLine IsBandwidth (bandwidth_text bw) bw)
    → LinesReadAs session_attribute_text IsSessionLine session.attrs reads → SaidSession version session reads
said_session version session reads plain small bandwidth attributes = record {
  lines = header_lines version session.id b.lines ++ attrs.lines;
  printed = printed-append (header_lines version session.id b.lines) attrs.lines header_printed attrs.printed;
  are = whole;
  session_is = λ rest no_a no_r. record {
    after_header = attrs.lines ++ rest;
    header_is =
        subst
        (λ (ls : List Line). IsHeader (printed_line (codes "v=0") ∷
        (printed_line (session_printed_origin version session.id) ∷ (printed_line (codes "s=-") ∷ ls)))
        (record { id = session.id; bw = session.bw })
        (attrs.lines ++ rest))
        (placed rest)
        (header_is version session.id session.bw plain small b (attrs.lines ++ rest)
        (printed_lines_apart-append 114 attrs.lines rest (attrs.letter 114 (λ e. omega (arith, e))) no_r));
    attributes_are = (attrs.chain rest, no_attribute SessionForm rest no_a);
  };
}
  where
    b : SaidBandwidth session.bw
    b = said_bandwidth session.bw bandwidth

    attrs : SaidLines session_attribute_text SessionForm session.attrs reads
    attrs = lines_said session_attribute_text SessionForm session.attrs reads attributes

    placed : (rest : List Line) → b.lines ++ (timing_lines ∷ (attrs.lines ++ rest)) ≡ ((b.lines ++ (timing_lines ∷ [])) ++ attrs.lines)
        ++ rest
    placed rest = sym (simp append_assoc)

    header_printed : ArePrinted (header_lines version session.id b.lines)
    header_printed =
        let quiet = origin_no_end version session.id plain small in
        let t = no_end (codes "t=0 0") refl refl in
        let v = no_end (codes "v=0") refl refl in
        let s = no_end (codes "s=-") refl refl in (
          refl,
          v.0,
          v.1,
          (
            refl,
            quiet.0,
            quiet.1,
            (refl, s.0, s.1, printed-append b.lines (timing_lines ∷ []) b.printed (refl, t.0, t.1, tt)),
          ),
        )

    front : List ℕ → List ℕ → List ℕ
    front between more =
        codes "v=0" ++ (printed_line_end ++ (versioned_origin version session.id ++
        (codes "s=-" ++ (printed_line_end ++ (between ++ (codes "t=0 0" ++ (printed_line_end ++ more)))))))

    joined_front : lines_joined (header_lines version session.id b.lines ++ attrs.lines)
        ≡ front (lines_joined b.lines) (lines_joined attrs.lines)
    joined_front =
        lines_joined-append (header_lines version session.id b.lines) attrs.lines
        ∙ ap (λ (t : List ℕ). (codes "v=0" ++
        (printed_line_end ++ (session_printed_origin version session.id ++ (printed_line_end ++ (codes "s=-" ++ (printed_line_end ++ t))))))
        ++ lines_joined attrs.lines)
        (lines_joined-append b.lines (timing_lines ∷ []))
        ∙ simp append_assoc

    whole : session_lines (versioned_origin version session.id) session
        ≡ lines_joined (header_lines version session.id b.lines ++ attrs.lines)
    whole =
        ap (λ (t : List ℕ). front t (flat_map session_attribute_text session.attrs)) b.are
        ∙ ap (front (lines_joined b.lines)) attrs.are
        ∙ sym joined_front
