-- One attribute line of a run.
use Rattle.str0m_signal.proofs.Common.{◌≡◌, ℕ, List, [], ◌∷◌, ◌++◌, Option, Some, None, codes, refl, ap, ◌∙◌, arith, Lacks, strip}
use Rattle.str0m_signal.proofs.Common.{strip_found, ◌>>=◌}
use Rattle.str0m_signal.proofs.line.LinesEndLaws.{clean_line_cut}
use Rattle.str0m_signal.proofs.line.LinesLaws.{joined_lines}
use Rattle.str0m_signal.specs.line.Lines.{Line, lines_joined}
use Rattle.str0m_signal.specs.line.LinesReading.{behind_end, line_read, lines_of, read_attribute, IsAtEnd, ReadsTo}

-- ---- what follows `a=` in the first line

-- what isn't at the front of the text isn't at the front of its first line
no_content_of : (lines : List Line) → strip (codes "a=") (lines_joined lines) ≡ None → None ≡ line_read (strip (codes "a=")) lines
no_content_of [] e = refl
no_content_of (line ∷ lines) e = grind arith

pub no_attribute_content : (text : List ℕ) → strip (codes "a=") text ≡ None → None ≡ line_read (strip (codes "a=")) (lines_of text)
no_attribute_content text e = no_content_of (lines_of text) (ap (strip (codes "a=")) (joined_lines text) ∙ e)

-- the content goes up to the line's end, and what follows is after that
pub attribute_content_cut : (text body a b : List ℕ) → strip (codes "a=") text ≡ Some body → body ≡ a ++ b → Lacks 10 a → Lacks 13 a
    → IsAtEnd b
    → (behind_end b >>= λ rest. Some (a, lines_of rest)) ≡ line_read (strip (codes "a=")) (lines_of text)
attribute_content_cut text body a b found e feed return stops =
    let whole : text ≡ codes "a=" ++ (a ++ b) = strip_found (codes "a=") text body found ∙ ap (λ t. codes "a=" ++ t) e in
    grind (
      arith,
      clean_line_cut text (codes "a=" ++ a) b whole ((λ x. absurd cc), ((λ x. absurd cc), feed))
          ((λ x. absurd cc), ((λ x. absurd cc), return)) stops,
    )

-- ---- the attribute is what f reads of it

attribute_reads : {A : Type 0} (f : List ℕ → Option A) (lines : List Line)
    → line_read (read_attribute f) lines ≡ (line_read (strip (codes "a=")) lines >>= λ found. f found.0 >>= λ value. Some (value, found.1))
attribute_reads f [] = refl
attribute_reads f (line ∷ lines) = grind arith

pub attribute_taken : {A : Type 0} (f : List ℕ → Option A) (lines after : List Line) (content : List ℕ) (value : A)
    → Some (content, after) ≡ line_read (strip (codes "a=")) lines → f content ≡ Some value → ReadsTo (read_attribute f) lines value after
attribute_taken f lines after content value line read = attribute_reads f lines ∙ rw (← line, read) refl
