-- Printed texts are their lines, these are read one after another, and a run stops where another letter begins.
use Rattle.str0m_signal.proofs.Common.{arith, ◌≡◌, ◌≢◌, inl, inr, get_or, ℕ, List, [], ◌∷◌, ◌++◌, refl, sym, ap, ◌∙◌, subst, codes}
use Rattle.str0m_signal.proofs.Common.{flat_map, append_assoc, Lacks, printed_line_end}
use Rattle.str0m_signal.proofs.line.AttributesPrinted.{LinesReadAs}
use Rattle.str0m_signal.specs.line.Lines.{Line, lines_joined, AreLines, Lines, OneLine, IsAttributeLine, Chain, StopsLines}
use Rattle.str0m_signal.specs.session.Section.{IsSessionField, IsBandwidth}

-- a line of this content that ends as printed lines do
abbrev pub printed_line : List ℕ → Line
printed_line content = record { content = content; ending = printed_line_end }

-- the lines end as printed lines do, and hold no end within
abbrev pub ArePrinted : List Line → Type 0
ArePrinted [] = Unit {0}
ArePrinted (line ∷ lines) = (line.ending ≡ printed_line_end) × Lacks 10 line.content × Lacks 13 line.content × ArePrinted lines

pub lines_joined-append : (xs ys : List Line) → lines_joined (xs ++ ys) ≡ lines_joined xs ++ lines_joined ys
lines_joined-append [] ys = refl
lines_joined-append (x ∷ xs) ys = grind (arith, lines_joined-append xs ys, append_assoc)

pub printed-append : (xs ys : List Line) → ArePrinted xs → ArePrinted ys → ArePrinted (xs ++ ys)
printed-append [] ys h k = k
printed-append (x ∷ xs) ys h k = (h.0, h.1, h.2, printed-append xs ys h.3 k)

printed_lines : (lines : List Line) → ArePrinted lines → AreLines lines
printed_lines [] h = tt
printed_lines (line ∷ lines) h = (record { inside = h.1; ends = inr (inl h.0) }, printed_lines lines h.3)

-- a text that is joined of such lines has these lines
pub lines_printed : (text : List ℕ) (lines : List Line) → text ≡ lines_joined lines → ArePrinted lines → Lines text lines
lines_printed text lines e h = (e, printed_lines lines h)

-- ---- what stands next

-- the first line is none, or begins with another character
abbrev pub LinesApart : ℕ → List Line → Type 0
LinesApart c [] = Unit {0}
LinesApart c (line ∷ lines) = (text : List ℕ) → line.content ≢ c ∷ text

pub printed_lines_apart-append : (c : ℕ) (xs ys : List Line) → LinesApart c xs → LinesApart c ys → LinesApart c (xs ++ ys)
printed_lines_apart-append c xs ys h k = grind arith

pub apart : (c d : ℕ) (text : List ℕ) (line : Line) (lines : List Line) → line.content ≡ d ∷ text → c ≢ d → LinesApart c (line ∷ lines)
apart c d text line lines e other = λ more f. other (ap (λ (l : List ℕ). get_or l 0 0) (sym f ∙ e))

-- nothing that begins with the character stands there
pub lines_stop : {A : Type 0} (F : List ℕ → A → Type 0) (c : ℕ)
    → ((content : List ℕ) (a : A) → F content a → (text : List ℕ) × (content ≡ c ∷ text)) → (lines : List Line) → LinesApart c lines
    → StopsLines (OneLine F) lines
lines_stop F c begins o h a after one = grind arith

pub no_field_line : (c : ℕ) (lines : List Line) → LinesApart c lines → StopsLines (OneLine (IsSessionField (c ∷ 61 ∷ []))) lines
no_field_line c = lines_stop (IsSessionField (c ∷ 61 ∷ [])) c (λ content a h. (61 ∷ a, h.0))

pub no_bandwidth : (lines : List Line) → LinesApart 98 lines → StopsLines (OneLine IsBandwidth) lines
no_bandwidth = lines_stop IsBandwidth 98 (λ content a h. (61 ∷ (a.typ ++ (codes ":" ++ a.val)), h.0))

pub no_attribute : {A : Type 0} (F : List ℕ → A → Type 0) (lines : List Line) → LinesApart 97 lines
    → StopsLines (OneLine (IsAttributeLine F)) lines
no_attribute F = lines_stop (IsAttributeLine F) 97 (λ content a h. (61 ∷ h.0, h.1))

-- ---- attributes

-- what a list of attributes prints: its lines, and how they are read in front of others
pub record SaidLines {X A : Type 0} (text : X → List ℕ) (F : List ℕ → A → Type 0) (xs : List X) (reads : List A) : Type 0 where
  pub lines : List Line
  pub printed : ArePrinted lines
  pub are : flat_map text xs ≡ lines_joined lines
  pub chain : (rest : List Line) → Chain (OneLine (IsAttributeLine F)) (lines ++ rest) reads rest
  pub letter : (c : ℕ) → c ≢ 97 → LinesApart c lines

pub lines_said : {X A : Type 0} (text : X → List ℕ) (F : List ℕ → A → Type 0) (xs : List X) (reads : List A)
    → LinesReadAs text (IsAttributeLine F) xs reads → SaidLines text F xs reads
lines_said text F [] reads h = record {
  lines = [];
  printed = tt;
  are = refl;
  chain = λ rest. subst (λ rs. Chain (OneLine (IsAttributeLine F)) rest rs rest) (sym h) refl;
  letter = λ c other. tt;
}
lines_said text F (x ∷ xs) reads (inl nothing) = grind (arith, lines_said text F xs reads nothing.1)
lines_said text F (x ∷ xs) reads (inr (a, reads', e, (content, whole, no_lf, no_cr, form), later)) =
    let more = lines_said text F xs reads' later in
    record {
      lines = printed_line content ∷ more.lines;
      printed = (refl, no_lf, no_cr, more.printed);
      are =
          ap (λ (t : List ℕ). t ++ flat_map text xs) whole ∙ append_assoc content printed_line_end (flat_map text xs)
          ∙ ap (λ (t : List ℕ). content ++ (printed_line_end ++ t)) more.are;
      chain = λ rest.
          subst (λ rs. Chain (OneLine (IsAttributeLine F)) (printed_line content ∷ (more.lines ++ rest)) rs rest) (sym e)
          (more.lines ++ rest, (printed_line content, refl, no_cr, form), more.chain rest);
      letter = λ c other. apart c 97 (61 ∷ form.0) (printed_line content) more.lines form.1 other;
    }
