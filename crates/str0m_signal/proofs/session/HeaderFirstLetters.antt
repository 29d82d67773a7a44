-- What the first letter of a text tells of its first line.
use Rattle.std.specs.Prelude.{if◌then◌else◌, ◌==◌}
use Rattle.str0m_signal.proofs.Common.{◌≡◌, ◌≢◌, ℕ, Bool, true, false, List, [], ◌∷◌, Option, Some, None, refl, eqb, eqb-true}
use Rattle.str0m_signal.proofs.Common.{codes, strip, ◌>>=◌}
use Rattle.str0m_signal.specs.Prelude.{lacks}
use Rattle.str0m_signal.specs.line.Lines.{Line}
use Rattle.str0m_signal.specs.line.LinesReading.{is_crlf, line_behind_first, line_from, line_read, lines_of, longer_line_first}
use Rattle.str0m_signal.specs.session.HeaderReading.{info_read}
use Rattle.str0m_signal.specs.session.SectionReading.{bandwidth_read, field_read}

-- what f reads of no line that goes on with x, it doesn't read of a first line that does
letter_unread : {A : Type 0} (f : List ℕ → Option A) (x : ℕ) (lines : List Line) → ((content : List ℕ) → f (x ∷ content) ≡ None)
    → line_read f (longer_line_first x lines) ≡ None
letter_unread {A} f x lines h = go lines
  where
    value_of : List ℕ × List Line → Option (A × List Line)
    value_of found = f found.0 >>= λ value. let left : A × List Line = (value, found.1) in Some left

    read : (is_clean : Bool) (content : List ℕ) (rest : List Line)
        → let line : List ℕ × List Line = (x ∷ content, rest) in ((if is_clean then Some line else None) >>= value_of) ≡ None
    read true content rest = rw (h content) refl
    read false content rest = refl

    go : (lines : List Line) → line_read f (longer_line_first x lines) ≡ None
    go [] = read (lacks 13 (x ∷ [])) [] []
    go (line ∷ rest) = read (lacks 13 (x ∷ line.content)) line.content rest

-- nor where an empty line may stand there
first_letter_unread : {A : Type 0} (f : List ℕ → Option A) (x : ℕ) (xs : List ℕ) (lines : List Line) → f [] ≡ None
    → ((content : List ℕ) → f (x ∷ content) ≡ None) → line_read f (line_from x xs lines) ≡ None
first_letter_unread {A} f x xs lines none h = go (x == 10) (is_crlf x xs)
  where
    go : (is_feed is_return : Bool) → line_read f (
        if is_feed then record { content = []; ending = 10 ∷ [] } ∷ lines
        else if is_return then record { content = []; ending = 13 ∷ 10 ∷ [] } ∷ line_behind_first lines
        else longer_line_first x lines) ≡ None
    go true is_return = rw none refl
    go false true = rw none refl
    go false false = letter_unread f x lines h

-- what begins with another letter is none of these lines
unread_but_at : {A : Type 0} (f : List ℕ → Option A) (letter : ℕ) (text : List ℕ) → f [] ≡ None
    → ((x : ℕ) (content : List ℕ) → eqb letter x ≡ false → f (x ∷ content) ≡ None) → strip (letter ∷ []) text ≡ None
    → line_read f (lines_of text) ≡ None
unfolding lines_of
unread_but_at f letter [] none h e = refl
unread_but_at f letter (x ∷ xs) none h e = first_letter_unread f x xs (lines_of xs) none (other (eqb letter x) refl)
  where
    other : (is_it : Bool) → eqb letter x ≡ is_it → (content : List ℕ) → f (x ∷ content) ≡ None
    other true is content = absurd cc
    other false is content = h x content is

pub no_bandwidth_there : (text : List ℕ) → strip (codes "b") text ≡ None → line_read bandwidth_read (lines_of text) ≡ None
no_bandwidth_there text e = unread_but_at bandwidth_read 98 text refl (λ x content is. rw is refl) e

pub no_repeat_there : (text : List ℕ) → strip (codes "r") text ≡ None → line_read (field_read (codes "r=")) (lines_of text) ≡ None
no_repeat_there text e = unread_but_at (field_read (codes "r=")) 114 text refl (λ x content is. rw is refl) e

-- what begins as the line of times does is no information
pub no_info_there : (text : List ℕ) → strip (codes "t") text ≢ None → line_read info_read (lines_of text) ≡ None
unfolding lines_of
no_info_there [] e = absurd (e refl)
no_info_there (x ∷ xs) e = first_letter_unread info_read x xs (lines_of xs) refl (timed (eqb 116 x) refl)
  where
    timed : (is_t : Bool) → eqb 116 x ≡ is_t → (content : List ℕ) → info_read (x ∷ content) ≡ None
    timed true is content = rw (← (eqb-true 116 x is)) refl
    timed false is content = absurd (e (rw is refl))
