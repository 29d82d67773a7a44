-- What is said of attribute lines, a line at a time.
use Rattle.lint.proofs.Common.{◌≡◌, ◌+◌, ◌≤◌, ℕ, Bool, true, false, List, [], ◌∷◌, ◌++◌, length, map, refl, sym, ap, ◌∙◌, arith, cond}
use Rattle.lint.proofs.Common.{append_assoc, append-nil, Line, lines_of}
use Rattle.lint.proofs.LineLaws.{BeginsWithLine}
use Rattle.lint.specs.Findings.{KeepsUnread, NotesLine, end_lines, lines_kept, is_changed, is_refused}
use Rattle.lint.specs.Kept.{is_unread, kept_at}
use Rattle.lint.specs.Lines.{IsLineNumber, attribute_numbers, begins_attribute}
use Rattle.lint.specs.declared.mark.Mark.{Mark}
use Rattle.lint.specs.declared.notes.Notes.{Notes}

-- the numbers of attributes that are kept unread, of a text after so many lines
abbrev pub unread_numbers : ℕ → List ℕ → List Mark → List ℕ
unread_numbers before text said = kept_at (map is_unread said) (attribute_numbers (before + 1) (lines_of text))

-- from the notes in the beginning, with all lines and attributes before them, to those now, with what is left
pub record AttributesSoFar (old : Notes) (before : ℕ) (text : List ℕ) (said : List Mark) (now : Notes) (passed : ℕ) (rest : List ℕ)
    (left : List Mark) : Type 0 where
  pub lines : passed + length (lines_of rest) ≡ before + length (lines_of text)
  pub kept_are : lines_kept now.findings ++ unread_numbers passed rest left ≡ lines_kept old.findings ++ unread_numbers before text said
  pub ends_stay : end_lines now.findings ≡ end_lines old.findings
  pub refused_stays : is_refused now.findings ≡ is_refused old.findings
  pub changed_stays : is_changed now.findings ≡ is_changed old.findings
  pub last_stays : now.last ≡ old.last

-- the notes are those of the beginning
pub attributes_from_start : (old : Notes) (before : ℕ) (text : List ℕ) (said : List Mark)
    → AttributesSoFar old before text said old before text said
attributes_from_start old before text said = record {
  lines = refl;
  kept_are = refl;
  ends_stay = refl;
  refused_stays = refl;
  changed_stays = refl;
  last_stays = refl;
}

kept_of_none : (flags : List Bool) → kept_at flags [] ≡ []
kept_of_none [] = refl
kept_of_none (flag ∷ flags) = refl

-- the first of the lines is no attribute line
attribute_numbers_skip : (n : ℕ) (content ending : List ℕ) (lines : List Line) → begins_attribute content ≡ false
    → attribute_numbers n (record { content = content; ending = ending } ∷ lines) ≡ attribute_numbers (n + 1) lines
attribute_numbers_skip n content ending lines not_one = rw not_one refl

attribute_numbers_take : (n : ℕ) (content ending : List ℕ) (lines : List Line) → begins_attribute content ≡ true
    → attribute_numbers n (record { content = content; ending = ending } ∷ lines) ≡ n ∷ attribute_numbers (n + 1) lines
attribute_numbers_take n content ending lines one = rw one refl

-- the first attribute stands on the line of this number
kept_take : (flag : Bool) (flags : List Bool) (n : ℕ) (ns : List ℕ)
    → kept_at (flag ∷ flags) (n ∷ ns) ≡ cond flag (n ∷ []) [] ++ kept_at flags ns
kept_take true flags n ns = refl
kept_take false flags n ns = refl

-- the line is no attribute line
pub notes_other : (number : ℕ) (content : List ℕ) (left : List Mark) (old : Notes) → begins_attribute content ≡ false
    → NotesLine number content left left old old
notes_other number content left old not_one = record {
  own = [];
  keeps = record {
    kept_are = sym (append-nil (lines_kept old.findings));
    ends_stay = refl;
    refused_stays = refl;
    changed_stays = refl;
    last_stays = refl;
  };
  rest_are = λ ending lines. ap (kept_at (map is_unread left)) (attribute_numbers_skip number content ending lines not_one);
}

-- no attribute is left
pub notes_none : (number : ℕ) (content : List ℕ) (left : List Mark) (old : Notes) → left ≡ [] → NotesLine number content left left old old
notes_none number content left old none = record {
  own = [];
  keeps = record {
    kept_are = sym (append-nil (lines_kept old.findings));
    ends_stay = refl;
    refused_stays = refl;
    changed_stays = refl;
    last_stays = refl;
  };
  rest_are = λ ending lines. rw none refl;
}

-- the next attribute stands on the line
pub notes_next : (number : ℕ) (content : List ℕ) (one : Mark) (more : List Mark) (old new : Notes) → begins_attribute content ≡ true
    → KeepsUnread (cond (is_unread one) (number ∷ []) []) old new → NotesLine number content (one ∷ more) more old new
notes_next number content one more old new is k = record {
  own = cond (is_unread one) (number ∷ []) [];
  keeps = k;
  rest_are = λ ending lines. ap (kept_at (is_unread one ∷ map is_unread more)) (attribute_numbers_take number content ending lines is)
      ∙ kept_take (is_unread one) (map is_unread more) number (attribute_numbers (number + 1) lines);
}

-- one line further
pub one_line_further : (old : Notes) (before : ℕ) (text : List ℕ) (said : List Mark) (now next : Notes) (passed : ℕ) (rest : List ℕ)
    (left more : List Mark) (content after : List ℕ)
    → AttributesSoFar old before text said now passed rest left → BeginsWithLine rest content after
    → NotesLine (passed + 1) content left more now next
    → AttributesSoFar old before text said next (passed + 1) after more
one_line_further old before text said now next passed rest left more content after h (ending, e) n =
    let later : List ℕ = unread_numbers (passed + 1) after more in
    let here : unread_numbers passed rest left ≡ n.own ++ later =
    ap (λ ls. kept_at (map is_unread left) (attribute_numbers (passed + 1) ls)) e ∙ n.rest_are ending (lines_of after) in
    record {
      lines = omega (arith, h.lines, ap length e);
      kept_are =
          ap (λ (ns : List ℕ). ns ++ later) n.keeps.kept_are ∙ append_assoc (lines_kept now.findings) n.own later
          ∙ ap (λ (ns : List ℕ). lines_kept now.findings ++ ns) (sym here) ∙ h.kept_are;
      ends_stay = n.keeps.ends_stay ∙ h.ends_stay;
      refused_stays = n.keeps.refused_stays ∙ h.refused_stays;
      changed_stays = n.keeps.changed_stays ∙ h.changed_stays;
      last_stays = n.keeps.last_stays ∙ h.last_stays;
    }

-- a line stands there, so its number is that of a line
pub attribute_line_has_number : (old : Notes) (before : ℕ) (text : List ℕ) (said : List Mark) (now : Notes) (passed : ℕ) (rest : List ℕ)
    (left : List Mark)
    (content after : List ℕ)
    → before + length (lines_of text) ≤ old.last → AttributesSoFar old before text said now passed rest left
    → BeginsWithLine rest content after
    → IsLineNumber now.last (passed + 1)
attribute_line_has_number old before text said now passed rest left content after fits h (ending, e) =
    omega (arith, h.lines, ap length e, h.last_stays)

-- no line is left
pub without_lines : (old : Notes) (before : ℕ) (text : List ℕ) (said : List Mark) (now : Notes) (passed : ℕ) (rest : List ℕ)
    (left : List Mark)
    → AttributesSoFar old before text said now passed rest left → lines_of rest ≡ [] → KeepsUnread (unread_numbers before text said) old now
without_lines old before text said now passed rest left h none =
    let nothing : unread_numbers passed rest left ≡ [] =
    ap (λ ls. kept_at (map is_unread left) (attribute_numbers (passed + 1) ls)) none ∙ kept_of_none (map is_unread left) in
    record {
      kept_are = sym (append-nil (lines_kept now.findings)) ∙ ap (λ (ns : List ℕ). lines_kept now.findings ++ ns) (sym nothing)
          ∙ h.kept_are;
      ends_stay = h.ends_stay;
      refused_stays = h.refused_stays;
      changed_stays = h.changed_stays;
      last_stays = h.last_stays;
    }
