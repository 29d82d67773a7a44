-- `lines_of` gives the lines of a text, and no others are.
use Rattle.std.proofs.lemmas.Str.Pattern.{strip_suffix_char}
use Rattle.std.specs.Str.Pattern.{FindsCharSuffix}
use Rattle.str0m_signal.proofs.Common.{rules, ◌≡◌, ◌≢◌, ◌⊎◌, ℕ, ◌<◌, ◌+◌, true, false, eqb, List, [], ◌∷◌, ◌++◌, length, Option, Some, None}
use Rattle.str0m_signal.proofs.Common.{refl, sym, ap, ◌∙◌, arith, inl, inr, ne_eqb, cases_eq, cases_Bool, both_ways, and_right, take, ◌-◌}
use Rattle.str0m_signal.proofs.Common.{Bor, some_pair_parts, lacks_cut_true, lacks_cut_from, cuts_bind_some, cuts_if_some, Reads}
use Rattle.str0m_signal.proofs.Common.{MatchOption, unwrap_or}
use Rattle.str0m_signal.proofs.line.PartLaws.{cons_parts}
use Rattle.str0m_signal.specs.line.Lines.{IsAttributeLine, OneLine, Line, lines_joined, EndsIn, IsLine, AreLines, Lines}
use Rattle.str0m_signal.specs.line.LinesReading.{read_attribute, line_read, is_crlf, longer_line_first, line_behind_first, line_from}
use Rattle.str0m_signal.specs.line.LinesReading.{lines_of}

line_nil_cons : (y : ℕ) (ys : List ℕ) → [] ≡ y ∷ ys → ⊥
line_nil_cons y ys e = absurd cc

nil_ends : (c : ℕ) → EndsIn c [] → ⊥
nil_ends c h = go h.0 h.1
  where
    go : (front : List ℕ) → [] ≡ front ++ (c ∷ []) → ⊥
    go [] e = line_nil_cons c [] e
    go (f ∷ fs) e = line_nil_cons f (fs ++ (c ∷ [])) e

-- what ends in c after x, or is x alone
cons_ends : (c x : ℕ) (xs : List ℕ) → EndsIn c (x ∷ xs) → ((x ≡ c) × (xs ≡ [])) ⊎ EndsIn c xs
cons_ends c x xs h = go h.0 h.1
  where
    go : (front : List ℕ) → x ∷ xs ≡ front ++ (c ∷ []) → ((x ≡ c) × (xs ≡ [])) ⊎ EndsIn c xs
    go [] e = inl (cons_parts x c xs [] e)
    go (f ∷ fs) e = inr (fs, (cons_parts x f xs (fs ++ (c ∷ [])) e).1)

crlf_parts : (x : ℕ) (xs : List ℕ) → is_crlf x xs ≡ true → (x ≡ 13) × ((ys : List ℕ) × (xs ≡ 10 ∷ ys))
crlf_parts x xs e = grind arith

at_crlf : (x : ℕ) (xs : List ℕ) (lines : List Line) → x ≢ 10 → is_crlf x xs ≡ true
    → line_from x xs lines ≡ record { content = []; ending = 13 ∷ 10 ∷ [] } ∷ line_behind_first lines
at_crlf x xs lines other e = rw (ne_eqb x 10 other, e) refl

pub line_at_other : (x : ℕ) (xs : List ℕ) (lines : List Line) → x ≢ 10 → is_crlf x xs ≡ false
    → line_from x xs lines ≡ longer_line_first x lines
line_at_other x xs lines other e = rw (ne_eqb x 10 other, e) refl

line_joined_longer : (x : ℕ) (lines : List Line) → lines_joined (longer_line_first x lines) ≡ x ∷ lines_joined lines
line_joined_longer x lines = grind arith

pub joined_lines : (text : List ℕ) → lines_joined (lines_of text) ≡ text
unfolding lines_of
joined_lines [] = refl
joined_lines (x ∷ xs) = search (rules, cases_eq, joined_lines xs, cases_Bool, crlf_parts, at_crlf, line_at_other, line_joined_longer)

-- ---- they are lines

AreLines-behind : (lines : List Line) → AreLines lines → AreLines (line_behind_first lines)
AreLines-behind lines h = grind arith

longer_line : (x : ℕ) (line : Line) (rest : List ℕ) → x ≢ 10 → is_crlf x (line.content ++ (line.ending ++ rest)) ≡ false → IsLine line rest
    → IsLine (record { content = x ∷ line.content; ending = line.ending }) rest
longer_line x line rest other plain h =
    grind (arith, cons_ends 13 x line.content, both_ways (is_crlf x (line.content ++ (line.ending ++ rest))) plain)

AreLines-longer : (x : ℕ) (lines : List Line) → x ≢ 10 → is_crlf x (lines_joined lines) ≡ false → AreLines lines
    → AreLines (longer_line_first x lines)
AreLines-longer x lines other plain h = grind (arith, longer_line)

pub lines_are : (text : List ℕ) → AreLines (lines_of text)
unfolding lines_of
lines_are [] = tt
lines_are (x ∷ xs) =
    elim (cases_eq x 10) [
      | inl lf ↦ rw lf (record { inside = tt; ends = inl (refl, nil_ends 13) }, lines_are xs)
      | inr other ↦ elim (cases_Bool (is_crlf x xs)) [
        | inl crlf ↦ rw (at_crlf x xs (lines_of xs) other crlf) (
          record { inside = tt; ends = inr (inl refl) },
          AreLines-behind (lines_of xs) (lines_are xs),
        )
        | inr plain ↦ rw (line_at_other x xs (lines_of xs) other plain)
            (AreLines-longer x (lines_of xs) other (rw joined_lines plain) (lines_are xs))
      ]
    ]

pub lines_both : (text : List ℕ) → Lines text (lines_of text)
lines_both text = (sym (joined_lines text), lines_are text)

-- ---- no others are

not_crlf : (x : ℕ) (content ending rest : List ℕ) → x ≢ 10 → IsLine (record { content = x ∷ content; ending = ending }) rest
    → is_crlf x (content ++ (ending ++ rest)) ≡ false
not_crlf x [] ending rest other h = grind arith
not_crlf x (y ∷ ys) ending rest other h = and_right (eqb x 13) (eqb y 10) (ne_eqb y 10 h.inside.1.0)

-- the line without its first character
shorter_ends : (x y : ℕ) (content ending rest : List ℕ) → IsLine (record { content = x ∷ y ∷ content; ending = ending }) rest
    → IsLine (record { content = y ∷ content; ending = ending }) rest
shorter_ends x y content ending rest h = record {
  inside = h.inside.1;
  ends = elim h.ends [
    | inl lf ↦ inl (lf.0, λ e. lf.1 (x ∷ e.0, ap (λ (t : List ℕ). x ∷ t) e.1))
    | inr more ↦ elim more [
      | inl crlf ↦ inr (inl crlf)
      | inr last ↦ inr (inr (last.0, last.1, omega arith))
    ]
  ];
}

line_at_content : (content ending rest : List ℕ) → IsLine (record { content = content; ending = ending }) rest
    → lines_of (content ++ (ending ++ rest)) ≡ record { content = content; ending = ending } ∷ lines_of rest
unfolding lines_of
line_at_content [] ending rest h = grind arith
line_at_content (x ∷ []) ending rest h = grind arith
line_at_content (x ∷ (y ∷ ys)) ending rest h =
    let other = h.inside.0 in
    line_at_other x (y ∷ ys ++ (ending ++ rest)) (lines_of (y ∷ ys ++ (ending ++ rest))) other (not_crlf x (y ∷ ys) ending rest other h)
    ∙ ap (longer_line_first x) (line_at_content (y ∷ ys) ending rest (shorter_ends x y ys ending rest h))

pub lines_of_joined : (lines : List Line) → AreLines lines → lines_of (lines_joined lines) ≡ lines
unfolding lines_of
lines_of_joined [] h = refl
lines_of_joined (line ∷ lines) h = grind (arith, line_at_content, lines_of_joined lines h.1)

pub lines_only : (text : List ℕ) (lines : List Line) → Lines text lines → lines_of text ≡ lines
lines_only text lines h = ap lines_of h.0 ∙ lines_of_joined lines h.1

-- ---- the first line

pub line_here : (text : List ℕ) (line : Line) (rest : List ℕ) → text ≡ line.content ++ (line.ending ++ rest) → IsLine line rest
    → lines_of text ≡ line ∷ lines_of rest
line_here text line rest e h = ap lines_of e ∙ line_at_content line.content line.ending rest h

pub line_without_suffix : (c : ℕ) → c < 128 → (line : Bor (List ℕ)) (r : Option (Bor (List ℕ)))
    → MatchOption r (FindsCharSuffix c line.now None) (λ x. (n : ℕ) × FindsCharSuffix c line.now (Some n)
    × (x.now ≡ take (length line.now - n) line.now) × (length x.now + n ≡ length line.now))
    → (line.now ≡ (unwrap_or r line).now ++ (c ∷ [])) ⊎ (((unwrap_or r line).now ≡ line.now) × (EndsIn c line.now → ⊥))
line_without_suffix c low line None h = inr (refl, λ e. strip_suffix_char c line.now None h low e.0 e.1)
line_without_suffix c low line (Some x) h = inl (strip_suffix_char c line.now (Some x) h low)

-- ---- the first line, as a relation

pub attribute_both : {A : Type 0} {F : List ℕ → A → Type 0} {f : List ℕ → Option A} → Reads F f
    → Reads (IsAttributeLine F) (read_attribute f)
attribute_both {A} {F} {f} reads = grind arith

-- what is read of the first line, both ways
pub line_found : {A : Type 0} {F : List ℕ → A → Type 0} {f : List ℕ → Option A} → Reads F f
    → (lines : List Line) (x : A) (behind : List Line) → line_read f lines ≡ Some (x, behind) → OneLine F lines x behind
line_found {A} {F} {f} reads [] x behind e = absurd cc
line_found {A} {F} {f} reads (line ∷ lines) x behind e = grind (arith, cuts_bind_some, cuts_if_some, some_pair_parts, lacks_cut_from)

pub line_given : {A : Type 0} {F : List ℕ → A → Type 0} {f : List ℕ → Option A} → Reads F f
    → (lines : List Line) (x : A) (behind : List Line) → OneLine F lines x behind → line_read f lines ≡ Some (x, behind)
line_given {A} {F} {f} reads lines x behind h = grind (arith, lacks_cut_true)

pub line_pair_is : {A B : Type 0} (x y : A × B) → x.0 ≡ y.0 → x.1 ≡ y.1 → x ≡ y
line_pair_is {A} {B} x y e f = grind arith
