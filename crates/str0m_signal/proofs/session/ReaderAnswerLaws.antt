-- The clauses of a reader.
use Rattle.str0m_sdp.specs.declared.session.error.SdpError.TheVariants.{ParseError, Inconsistent, Memory}
use Rattle.str0m_signal.proofs.Common.{arith, ◌≡◌, ℕ, List, Option, Result, Ok, Err, sym, ap, subst, ◌∙◌, Bor, none-some, SdpError, Reads}
use Rattle.str0m_signal.proofs.Common.{IsErrAnd}
use Rattle.str0m_signal.proofs.line.LinesChainLaws.{OnlyOneLine, one_line_only}
use Rattle.str0m_signal.proofs.line.LinesLaws.{joined_lines, lines_both, lines_only, line_found, line_given, line_pair_is}
use Rattle.str0m_signal.specs.line.Lines.{Line, OneLine, OfText, FirstLine}
use Rattle.str0m_signal.specs.line.LinesReading.{lines_of, line_read, lines_left}
use Rattle.str0m_signal.specs.session.ReaderAnswers.{Answers, AtMostOneAnswer, GivesRead, ReaderRefuses, IsReaderRefusal, unread}

-- what was read of the lines of a text was read of the text
pub text_answers : {A : Type 0} (S : List Line → A → List Line → Type 0) (text : List ℕ) (r : Result (A × Bor (List ℕ)) SdpError)
    → Answers lines_left r (λ v. S (lines_of text) v.0 v.1) → Answers unread r (OfText S text)
text_answers S text (Ok x) h = (lines_of text, lines_of x.1.now, lines_both text, h, sym (joined_lines x.1.now))
text_answers S text (Err (ParseError message)) h = λ v k. h (v.0, k.1)
    (subst (λ (ls : List Line). S ls v.0 k.1) (sym (lines_only text k.0 k.2)) k.3)
text_answers S text (Err (Inconsistent message)) h = absurd h
text_answers S text (Err Memory) h = tt

pub text_one : {A : Type 0} (S : List Line → A → List Line → Type 0) → OnlyOneLine S → (text : List ℕ) → AtMostOneAnswer (OfText S text)
text_one S one text v w h k = grind (arith, lines_only text k.0 k.2, lines_only text h.0 h.2, line_pair_is v w)

-- what was read of the first line, by a function that reads its form
line_answers : {A : Type 0} {F : List ℕ → A → Type 0} {f : List ℕ → Option A} → Reads F f
    → (lines : List Line) (r : Result (A × Bor (List ℕ)) SdpError) → GivesRead lines_left r (line_read f lines)
    → Answers lines_left r (λ v. OneLine F lines v.0 v.1)
line_answers reads lines (Ok x) h = line_found reads lines x.0 (lines_of x.1.now) h
line_answers reads lines (Err (ParseError message)) h = λ v k. none-some (v.0, v.1) (sym h ∙ line_given reads lines v.0 v.1 k)
line_answers reads lines (Err (Inconsistent message)) h = absurd h
line_answers reads lines (Err Memory) h = tt

module _ {A : Type 0} {F : List ℕ → A → Type 0} {f : List ℕ → Option A} (reads : Reads F f) (text : List ℕ) where
  pub first_line : (r : Result (A × Bor (List ℕ)) SdpError) → GivesRead lines_left r (line_read f (lines_of text))
      → Answers unread r (FirstLine F text)
  first_line r h = text_answers (OneLine F) text r (line_answers reads (lines_of text) r h)

  pub first_line_one : AtMostOneAnswer (FirstLine F text)
  first_line_one = text_one (OneLine F) (one_line_only reads) text

-- ---- errors

pub refused : {V : Type 0} (e : SdpError) (P : V → Type 0) → IsReaderRefusal e → ((v : V) → P v → ⊥) → ReaderRefuses e P
refused e P h none = grind arith

-- what a part was refused for refuses the whole
pub reader_passed_on : {V W : Type 0} (e : SdpError) (P : V → Type 0) (Q : W → Type 0) → ReaderRefuses e P → ((w : W) → Q w → (v : V) × P v)
    → ReaderRefuses e Q
reader_passed_on e P Q h of = grind arith

-- an error that `?` hands on
pub reader_handed_on : {X V : Type 0} (view : X → V) (r : Result X SdpError) (e : SdpError) (P : V → Type 0) → IsErrAnd r (λ x. x ≡ e)
    → ReaderRefuses e P → Answers view r P
reader_handed_on view r e P is h = grind arith

-- the value alone, whatever is left
pub one_session_described : {A : Type 0} (P : A × List ℕ → Type 0) → AtMostOneAnswer P
    → AtMostOneAnswer (λ a. (rest : List ℕ) × P (a, rest))
one_session_described {A} P one v w h k = ap (λ (x : A × List ℕ). x.0) (one (v, h.0) (w, k.0) h.1 k.1)
