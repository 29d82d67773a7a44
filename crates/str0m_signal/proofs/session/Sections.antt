-- Printed sections are read as sections, one after another.
use Rattle.str0m_signal.proofs.Common.{◌≡◌, ◌≢◌, ℕ, List, [], ◌∷◌, ◌++◌, Option, Some, None, IfSome, refl, sym, ap, ◌∙◌, subst, arith, lit<}
use Rattle.str0m_signal.proofs.Common.{codes, flat_map, append_assoc, lacks_cut_from, media_attribute_text, bandwidth_text, Consistent}
use Rattle.str0m_signal.proofs.Common.{printed_line_end, m_line, media_line_text, Bandwidth, MediaLine, bandwidth_line}
use Rattle.str0m_signal.proofs.line.AttributesPrinted.{LinesReadAs}
use Rattle.str0m_signal.proofs.line.LinesPrinted.{printed_line, ArePrinted, lines_joined-append, printed-append, LinesApart}
use Rattle.str0m_signal.proofs.line.LinesPrinted.{printed_lines_apart-append, apart}
use Rattle.str0m_signal.proofs.line.LinesPrinted.{no_bandwidth, no_attribute, SaidLines, lines_said}
use Rattle.str0m_signal.specs.back.Writable.{IsReadBackLine}
use Rattle.str0m_signal.specs.form.MediaAttribute.{MediaForm, IsMediaLine}
use Rattle.str0m_signal.specs.line.Lines.{Chain, StopsLines, TakenLine, Line, lines_joined, OneLine}
use Rattle.str0m_signal.specs.session.Reader.{ConsistentSection, Sections}
use Rattle.str0m_signal.specs.session.Section.{IsBandwidth, IsHead, IsSection}

-- ---- a bandwidth

pub record SaidBandwidth (bw : Option Bandwidth) : Type 0 where
  pub lines : List Line
  pub printed : ArePrinted lines
  pub are : bandwidth_line bw ≡ lines_joined lines
  pub taken : (rest : List Line) → LinesApart 98 rest → TakenLine (OneLine IsBandwidth) (lines ++ rest) bw rest
  pub letter : (c : ℕ) → c ≢ 98 → LinesApart c lines

pub said_bandwidth : (bw : Option Bandwidth) → IfSome bw (λ b. IsReadBackLine IsBandwidth (bandwidth_text b) b) → SaidBandwidth bw
said_bandwidth None h =
    record { lines = []; printed = tt; are = refl; taken = λ rest apart. (refl, no_bandwidth rest apart); letter = λ c other. tt }
said_bandwidth (Some b) (content, whole, no_lf, no_cr, form) = record {
  lines = printed_line content ∷ [];
  printed = (refl, no_lf, no_cr, tt);
  are = whole;
  taken = λ rest apart. (printed_line content, refl, no_cr, form);
  letter = λ c other. apart c 98 (61 ∷ (b.typ ++ (codes ":" ++ b.val))) (printed_line content) [] form.0 other;
}

-- ---- one section

-- a section as its lines are read: its types and attributes may be others
pub record SectionReadAs (m read : MediaLine) : Type 0 where
  pub same : read ≡ record m { pts = read.pts; attrs = read.attrs }
  pub head : IsReadBackLine IsHead (m_line m) (record { typ = m.typ; disabled = m.disabled; proto = m.proto; pts = read.pts })
  pub bandwidth : IfSome m.bw (λ bw. IsReadBackLine IsBandwidth (bandwidth_text bw) bw)
  pub attributes : LinesReadAs media_attribute_text IsMediaLine m.attrs read.attrs

abbrev pub connection : Line
connection = printed_line (codes "c=IN IP4 0.0.0.0")

-- what a section prints: its lines, and the section that they are in front of others
pub record SaidSection (m read : MediaLine) : Type 0 where
  pub lines : List Line
  pub printed : ArePrinted lines
  pub are : media_line_text m ≡ lines_joined lines
  pub section : (rest : List Line) → LinesApart 97 rest → LinesApart 98 rest → IsSection (lines ++ rest) read rest
  pub letter : (c : ℕ) → c ≢ 109 → LinesApart c lines

pub said_section : (m read : MediaLine) → SectionReadAs m read → SaidSection m read
said_section m read h = go h.head where
  bw : SaidBandwidth m.bw
  bw = said_bandwidth m.bw h.bandwidth

  attrs : SaidLines media_attribute_text MediaForm m.attrs read.attrs
  attrs = lines_said media_attribute_text MediaForm m.attrs read.attrs h.attributes

  behind : bandwidth_line m.bw ++ flat_map media_attribute_text m.attrs ≡ lines_joined (bw.lines ++ attrs.lines)
  behind =
      ap (λ (t : List ℕ). t ++ flat_map media_attribute_text m.attrs) bw.are ∙ ap (λ (t : List ℕ). lines_joined bw.lines ++ t) attrs.are
      ∙ sym (lines_joined-append bw.lines attrs.lines)

  go : IsReadBackLine IsHead (m_line m) (record { typ = m.typ; disabled = m.disabled; proto = m.proto; pts = read.pts })
      → SaidSection m read
  go (content, whole, no_lf, no_cr, form) =
      let head = printed_line content in
      let made : MediaLine = record m { pts = read.pts; attrs = read.attrs } in
      record {
        lines = head ∷ (connection ∷ (bw.lines ++ attrs.lines));
        printed = (
          refl,
          no_lf,
          no_cr,
          (
            refl,
            lacks_cut_from 10 (codes "c=IN IP4 0.0.0.0") refl,
            lacks_cut_from 13 (codes "c=IN IP4 0.0.0.0") refl,
            printed-append bw.lines attrs.lines bw.printed attrs.printed,
          ),
        );
        are =
            ap (λ (t : List ℕ). t ++ (codes "c=IN IP4 0.0.0.0" ++
            (printed_line_end ++ (bandwidth_line m.bw ++ flat_map media_attribute_text m.attrs)))) whole
            ∙ append_assoc content printed_line_end
            (codes "c=IN IP4 0.0.0.0" ++ (printed_line_end ++ (bandwidth_line m.bw ++ flat_map media_attribute_text m.attrs)))
            ∙ ap (λ (t : List ℕ). content ++ (printed_line_end ++ (codes "c=IN IP4 0.0.0.0" ++ (printed_line_end ++ t)))) behind;
        section = λ rest no_a no_b.
            let is : IsSection (head ∷ (connection ∷ (bw.lines ++ (attrs.lines ++ rest)))) made rest = record {
              after_head = connection ∷ (bw.lines ++ (attrs.lines ++ rest));
              after_connection = bw.lines ++ (attrs.lines ++ rest);
              after_bandwidth = attrs.lines ++ rest;
              connection = Some (codes "IN IP4 0.0.0.0");
              head_is = (head, refl, no_cr, form);
              connection_is = (connection, refl, lacks_cut_from 13 (codes "c=IN IP4 0.0.0.0") refl, (refl, lit< tt));
              bandwidth_is =
                  bw.taken (attrs.lines ++ rest)
                  (printed_lines_apart-append 98 attrs.lines rest (attrs.letter 98 (λ e. absurd (omega (arith, e)))) no_b);
              attributes_are = (attrs.chain rest, no_attribute MediaForm rest no_a);
            } in
            subst (λ (ls : List Line). IsSection (head ∷ (connection ∷ ls)) read rest) (sym (append_assoc bw.lines attrs.lines rest))
            (subst (λ (s : MediaLine). IsSection (head ∷ (connection ∷ (bw.lines ++ (attrs.lines ++ rest)))) s rest) (sym h.same) is);
        letter = λ c other. apart c 109 _ head (connection ∷ (bw.lines ++ attrs.lines)) form.joined other;
      }

-- ---- sections one after another

-- each section is read as the consistent one in its place
abbrev pub AreSectionsRead : List MediaLine → List MediaLine → Type 0
AreSectionsRead [] [] = Unit {0}
AreSectionsRead (m ∷ ms) (read ∷ reads) = SectionReadAs m read × Consistent read × AreSectionsRead ms reads
AreSectionsRead _ _ = ⊥

pub record SaidSections (ms reads : List MediaLine) : Type 0 where
  pub lines : List Line
  pub printed : ArePrinted lines
  pub are : flat_map media_line_text ms ≡ lines_joined lines
  pub chain : (rest : List Line) → LinesApart 97 rest → LinesApart 98 rest → Chain ConsistentSection (lines ++ rest) reads rest
  pub letter : (c : ℕ) → c ≢ 109 → LinesApart c lines

pub said_sections : (ms reads : List MediaLine) → AreSectionsRead ms reads → SaidSections ms reads
said_sections [] [] h = record { lines = []; printed = tt; are = refl; chain = λ rest no_a no_b. refl; letter = λ c other. tt }
said_sections [] (read ∷ reads) h = absurd h
said_sections (m ∷ ms) [] h = absurd h
said_sections (m ∷ ms) (read ∷ reads) h =
    let one = said_section m read h.0 in
    let more = said_sections ms reads h.2 in
    record {
      lines = one.lines ++ more.lines;
      printed = printed-append one.lines more.lines one.printed more.printed;
      are =
          ap (λ (t : List ℕ). t ++ flat_map media_line_text ms) one.are ∙ ap (λ (t : List ℕ). lines_joined one.lines ++ t) more.are
          ∙ sym (lines_joined-append one.lines more.lines);
      chain = λ rest no_a no_b.
          let behind = more.lines ++ rest in
          let a : LinesApart 97 behind =
          printed_lines_apart-append 97 more.lines rest (more.letter 97 (λ e. absurd (omega (arith, e)))) no_a in
          let b : LinesApart 98 behind =
          printed_lines_apart-append 98 more.lines rest (more.letter 98 (λ e. absurd (omega (arith, e)))) no_b in
          subst (λ (ls : List Line). Chain ConsistentSection ls (read ∷ reads) rest) (sym (append_assoc one.lines more.lines rest))
          (behind, (one.section behind a b, h.1), more.chain rest no_a no_b);
      letter = λ c other. printed_lines_apart-append c one.lines more.lines (one.letter c other) (more.letter c other);
    }

no_head : StopsLines (OneLine IsHead) []
no_head a after one = let e = one.1 in absurd cc

-- with nothing after them they are the sections of their lines
pub sections_are : (ms reads : List MediaLine) (all : SaidSections ms reads) → Sections (all.lines ++ []) reads []
sections_are ms reads all = (all.chain [] tt tt, no_head)
