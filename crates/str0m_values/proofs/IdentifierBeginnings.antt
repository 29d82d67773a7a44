-- The longest beginning of a text that fits: there is one, and only one.
use Rattle.std.specs.Fmt.Cut.{floor_char_boundary}
use Rattle.str0m_values.proofs.Common.{◌≡◌, ◌⊎◌, ℕ, zero, suc, ◌<◌, ◌≤◌, true, false, leb, List, [], ◌++◌, length, take, drop, refl, sym}
use Rattle.str0m_values.proofs.Common.{ap, ◌∙◌, inl, inr, arith, take-append-drop, length-take-le, IsCharBoundary, ltb-true, leb-true}
use Rattle.str0m_values.proofs.Common.{cases_Bool, cases_lt, take-append_seam, ◌∷◌, length-append, is_char_start, leb-false}
use Rattle.str0m_values.proofs.Common.{append-nil}
use Rattle.str0m_values.specs.ShortText.{IsLongestShortText, text_beginning_of}

-- where a character ends at i or before it, the last such place
record IsLastIdentifierSeam (text : List ℕ) (i at : ℕ) : Type 0 where
  bound : at ≤ i
  seam : (at ≡ 0) ⊎ IsCharBoundary text at
  last : (j : ℕ) → at < j → j ≤ i → IsCharBoundary text j → ⊥

character_starts : (b : ℕ) → is_char_start b ≡ true → 128 ≤ b → 192 ≤ b
character_starts b e high = grind (arith, ltb-true, leb-true)

identifier_no_start_inside : (b : ℕ) → is_char_start b ≡ false → (128 ≤ b → 192 ≤ b) → ⊥
identifier_no_start_inside b e h = grind arith

identifier_floor_is : (text : List ℕ) (i : ℕ) → i < length text → IsLastIdentifierSeam text i (floor_char_boundary text i)
unfolding floor_char_boundary
identifier_floor_is text zero within = record { bound = omega arith; seam = inl refl; last = λ j above below is. absurd (omega arith) }
identifier_floor_is text (suc i) within = grind (
  arith,
  cases_Bool,
  character_starts,
  identifier_floor_is text i,
  cases_lt,
  identifier_no_start_inside,
)

-- the function gives a longest beginning
pub beginning_is : (room : ℕ) (text : List ℕ) → IsLongestShortText room text (text_beginning_of room text)
unfolding text_beginning_of
beginning_is room text =
    elim (cases_Bool (leb (length text) room)) [
      | inl whole ↦
          let small : length text ≤ room = leb-true (length text) room whole in
          rw whole (record {
            begins = ([], sym (append-nil text));
            fits = small;
            whole = inr (omega arith, λ within high. absurd (omega arith));
            longest = λ n above fits is. absurd (omega (arith, is.0));
          })
      | inr long ↦
          let within : room < length text = leb-false (length text) room long in
          let at = identifier_floor_is text room within in
          let len : length (take (floor_char_boundary text room) text) ≡ floor_char_boundary text room =
          length-take-le (floor_char_boundary text room) text (omega (arith, at.bound)) in
          rw long (record {
            begins = (drop (floor_char_boundary text room) text, sym (take-append-drop (floor_char_boundary text room) text));
            fits = omega (arith, at.bound);
            whole = rw len at.seam;
            longest = λ n above fits is. at.last n (omega arith) fits is;
          })
    ]

beginning_no_longer : (room : ℕ) (text a b : List ℕ) → IsLongestShortText room text a → IsLongestShortText room text b → length a < length b
    → ⊥
beginning_no_longer room text a b h k below = grind arith

one_beginning : (room : ℕ) (text a b : List ℕ) → IsLongestShortText room text a → IsLongestShortText room text b → a ≡ b
one_beginning room text a b h k =
    let same : length a ≡ length b = elim (cases_lt (length a) (length b)) [
      | inl below ↦ absurd (beginning_no_longer room text a b h k below)
      | inr rest ↦ elim (cases_lt (length b) (length a)) [
        | inl above ↦ absurd (beginning_no_longer room text b a k h above)
        | inr more ↦ omega arith
      ]
    ] in
    sym (take-append_seam a h.begins.0)
    ∙ ap (λ (t : List ℕ). take (length a) t) (sym h.begins.1 ∙ k.begins.1)
    ∙ ap (λ (n : ℕ). take n (b ++ k.begins.0)) same
    ∙ take-append_seam b k.begins.0

-- two longest beginnings are one
pub beginning_only : (room : ℕ) (text kept : List ℕ) → IsLongestShortText room text kept → kept ≡ text_beginning_of room text
beginning_only room text kept h = one_beginning room text kept (text_beginning_of room text) h (beginning_is room text)

-- ---- a text that has room is its own longest beginning

-- a beginning that isn't the whole of a text is shorter
shorter : (text kept rest : List ℕ) → text ≡ kept ++ rest → (length kept < length text → ⊥) → kept ≡ text
shorter text kept [] e whole = sym (e ∙ append-nil kept)
shorter text kept (x ∷ xs) e whole = grind (arith, length-append)

pub identifier_whole_where_room : (room : ℕ) (text kept : List ℕ) → IsLongestShortText room text kept → length text ≤ room → kept ≡ text
identifier_whole_where_room room text kept h fits = grind (arith, shorter)
