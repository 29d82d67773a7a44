-- Parts of a list of lines that stand one after another.
use Rattle.str0m_signal.proofs.Common.{◌≡◌, ℕ, ◌<◌, ◌≤◌, List, [], ◌∷◌, ◌++◌, length, Option, None, refl, sym, ap, subst, ◌∙◌, arith}
use Rattle.str0m_signal.proofs.Common.{none-some, Reads}
use Rattle.str0m_signal.proofs.line.LinesLaws.{line_found, line_given}
use Rattle.str0m_signal.specs.line.Lines.{Line, OneLine, Chain, Run, TakenLine}
use Rattle.str0m_signal.specs.line.LinesReading.{lines_of, line_read, ReadsTo}

-- one more part at the end
pub chain_more : {A : Type 0} (S : List Line → A → List Line → Type 0) (start : List Line) (done : List A) (now : List Line) (a : A)
    (next : List Line) → Chain S start done now → S now a next → Chain S start (done ++ a ∷ []) next
chain_more S start [] now a next h s = (next, subst (λ (ls : List Line). S ls a next) (sym h) s, refl)
chain_more S start (d ∷ ds) now a next h s = (h.0, h.1, chain_more S h.0 ds now a next h.2 s)

-- fewer lines follow
pub chain_one_fewer : {A : Type 0} (F : List ℕ → A → Type 0) (lines : List Line) (a : A) (after : List Line) → OneLine F lines a after
    → length after < length lines
chain_one_fewer F lines a after h = omega (arith, ap length h.1)

pub chain_fewer : {A : Type 0} (F : List ℕ → A → Type 0) (lines : List Line) (as' : List A) (rest : List Line)
    → Chain (OneLine F) lines as' rest → length rest ≤ length lines
chain_fewer F lines [] rest h = omega (arith, ap length h)
chain_fewer F lines (a ∷ as') rest h = omega (arith, chain_one_fewer F lines a h.0 h.1, chain_fewer F h.0 as' rest h.2)

pub chain_taken_fewer : {A : Type 0} (F : List ℕ → A → Type 0) (lines : List Line) (o : Option A) (rest : List Line)
    → TakenLine (OneLine F) lines o rest → length rest ≤ length lines
chain_taken_fewer F lines o rest h = grind arith

-- ---- at most one

abbrev pub OnlyOneLine : {A : Type 0} → (List Line → A → List Line → Type 0) → Type 0
OnlyOneLine S = (lines : List Line) (a b : _) (after after' : List Line) → S lines a after → S lines b after' → (a ≡ b) × (after ≡ after')

pub one_line_only : {A : Type 0} {F : List ℕ → A → Type 0} {f : List ℕ → Option A} → Reads F f → OnlyOneLine (OneLine F)
one_line_only {F} reads lines a b after after' h k = grind arith

pub chain_ends : {A : Type 0} (S : List Line → A → List Line → Type 0) → OnlyOneLine S
    → (lines : List Line) (as' bs : List A) (rest rest' : List Line) → Run S lines as' rest → Run S lines bs rest'
    → (as' ≡ bs) × (rest ≡ rest')
chain_ends S one lines [] [] rest rest' h k = (refl, sym h.0 ∙ k.0)
chain_ends S one lines [] (b ∷ bs) rest rest' h k = absurd (h.1 b k.0.0 (subst (λ (ls : List Line). S ls b k.0.0) h.0 k.0.1))
chain_ends S one lines (a ∷ as') [] rest rest' h k = absurd (k.1 a h.0.0 (subst (λ (ls : List Line). S ls a h.0.0) k.0 h.0.1))
chain_ends {A} S one lines (a ∷ as') (b ∷ bs) rest rest' h k = grind (arith, chain_ends S one h.0.0 as' bs rest rest' (h.0.2, h.1))

pub chain_taken_only : {A : Type 0} (S : List Line → A → List Line → Type 0) → OnlyOneLine S
    → (lines : List Line) (o p : Option A) (rest rest' : List Line) → TakenLine S lines o rest → TakenLine S lines p rest'
    → (o ≡ p) × (rest ≡ rest')
chain_taken_only S one lines o p rest rest' h k = grind arith

pub chain_taken_none : {A : Type 0} {F : List ℕ → A → Type 0} {f : List ℕ → Option A} → Reads F f → (text : List ℕ)
    → None ≡ line_read f (lines_of text) → TakenLine (OneLine F) (lines_of text) None (lines_of text)
chain_taken_none reads text e = (refl, λ a after h. none-some (a, after) (e ∙ line_given reads (lines_of text) a after h))

-- ---- runs of what a function reads

pub read_fewer : {A : Type 0} (f : List ℕ → Option A) (lines : List Line) (a : A) (after : List Line) → ReadsTo f lines a after
    → length after < length lines
read_fewer f [] a after e = absurd (none-some (a, after) e)
read_fewer {A} f (line ∷ lines) a after e = grind arith

module _ {A : Type 0} {F : List ℕ → A → Type 0} {f : List ℕ → Option A} (reads : Reads F f) where
  chain_of : (lines : List Line) (as' : List A) (rest : List Line) → Chain (ReadsTo f) lines as' rest → Chain (OneLine F) lines as' rest
  chain_of lines [] rest h = h
  chain_of lines (a ∷ as') rest h = (h.0, line_found reads lines a h.0 h.1, chain_of h.0 as' rest h.2)

  -- a run of what f reads is a run of lines of its form
  pub run_of : (lines : List Line) (as' : List A) (rest : List Line) → Run (ReadsTo f) lines as' rest → Run (OneLine F) lines as' rest
  run_of lines as' rest h = (chain_of lines as' rest h.0, λ a after is. h.1 a after (line_given reads rest a after is))
