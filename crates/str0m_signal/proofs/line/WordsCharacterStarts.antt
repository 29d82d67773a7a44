-- In a text of UTF-8 characters begin close to each other, so something is kept of each text that isn't empty.
use Rattle.std.specs.Char.{encode_utf8}
use Rattle.str0m_signal.proofs.Common.{◌⊎◌, ◌≤◌, ◌<◌, ◌+◌, ◌-◌, ◌%◌, ℕ, suc, List, [], ◌∷◌, ◌++◌, length, subst, arith, lit≤, inl, inr}
use Rattle.str0m_signal.proofs.Common.{IsCharBoundary, cases_lt, IsRest, IsLongestShortText, IsUtf8, encode_utf8_all}

-- a byte inside a character
abbrev IsInsideCharacter : ℕ → Type 0
IsInsideCharacter b = (128 ≤ b) × (b < 192)

-- a character begins after at most k bytes, and from each on after at most three
abbrev pub StartsWithin : ℕ → List ℕ → Type 0
StartsWithin k [] = Unit {0}
StartsWithin k (x ∷ xs) = (IsInsideCharacter x × (0 < k) × StartsWithin (k - 1) xs) ⊎ (¬ (IsInsideCharacter x) × StartsWithin 3 xs)

-- ---- of UTF-8

inside_character : (n : ℕ) → IsInsideCharacter (128 + n % 64)
inside_character n = (omega arith, omega arith)

one_character : (c k : ℕ) (rest : List ℕ) → ((j : ℕ) → StartsWithin j rest) → StartsWithin k (encode_utf8 c ++ rest)
unfolding encode_utf8
one_character c k rest all = grind arith

all_characters : (cs : List ℕ) (k : ℕ) → StartsWithin k (encode_utf8_all cs)
all_characters [] k = tt
all_characters (c ∷ cs) k = one_character c k (encode_utf8_all cs) (all_characters cs)

pub of_utf8 : (text : List ℕ) → IsUtf8 text → StartsWithin 3 text
of_utf8 text h = subst (StartsWithin 3) h.1.1 (all_characters h.0 3)

-- ---- of parts

later_character : (j k : ℕ) (xs : List ℕ) → j ≤ k → k ≤ 3 → StartsWithin j xs → StartsWithin k xs
later_character j k [] le small h = tt
later_character j k (x ∷ xs) le small (inl (is, some, more)) = inl
    (is, omega arith, later_character (j - 1) (k - 1) xs (omega arith) (omega arith) more)
later_character j k (x ∷ xs) le small (inr h) = inr h

pub front_starts : (k : ℕ) (xs ys : List ℕ) → StartsWithin k (xs ++ ys) → StartsWithin k xs
front_starts k [] ys h = tt
front_starts k (x ∷ xs) ys (inl (is, some, more)) = inl (is, some, front_starts (k - 1) xs ys more)
front_starts k (x ∷ xs) ys (inr (no', more)) = inr (no', front_starts 3 xs ys more)

pub behind_starts : (k : ℕ) (xs ys : List ℕ) → k ≤ 3 → StartsWithin k (xs ++ ys) → StartsWithin 3 ys
behind_starts k [] ys small h = later_character k 3 ys small (lit≤ tt) h
behind_starts k (x ∷ xs) ys small (inl (is, some, more)) = behind_starts (k - 1) xs ys (omega arith) more
behind_starts k (x ∷ xs) ys small (inr (no', more)) = behind_starts 3 xs ys (lit≤ tt) more

-- ---- what is kept

outside_character : (y : ℕ) → ¬ (IsInsideCharacter y) → 128 ≤ y → 192 ≤ y
outside_character y no' high = elim (cases_lt y 192) [ inl low ↦ absurd (no' (high, low)) | inr above ↦ above ]

character_boundary : (k : ℕ) (xs : List ℕ) → k ≤ 3 → StartsWithin k xs → (n : ℕ) × (n ≤ k) × IsCharBoundary xs n
character_boundary k [] small h = (0, omega arith, (omega arith, λ lt. absurd (omega (arith, lt))))
character_boundary k (y ∷ ys) small (inr (no', more)) = (0, omega arith, (omega arith, λ lt high. outside_character y no' high))
character_boundary k (y ∷ ys) small (inl (is, some, more)) =
    let next = character_boundary (k - 1) ys (omega arith) more in
    let at = next.1 in
    (suc next.0, omega (arith, at, some), (omega (arith, next.2.0), λ lt high. next.2.1 (omega (arith, lt)) high))

pub kept_word_filled : (text kept : List ℕ) → IsRest text → StartsWithin 3 text → IsLongestShortText 16 text kept → IsRest kept
kept_word_filled [] kept filled starts h = absurd (omega (arith, filled))
kept_word_filled (x ∷ xs) kept filled starts h =
    let next = character_boundary 3 xs (lit≤ tt) (tail starts) in
    let at = next.1 in
    elim (cases_lt 0 (length kept)) [
      | inl some ↦ some
      | inr none ↦
          absurd (h.longest (suc next.0) (omega arith) (omega arith)
          (omega (arith, next.2.0), λ lt high. next.2.1 (omega (arith, lt)) high))
    ]
  where
    tail : StartsWithin 3 (x ∷ xs) → StartsWithin 3 xs
    tail (inl (is, some, more)) = later_character 2 3 xs (lit≤ tt) (lit≤ tt) more
    tail (inr (no', more)) = more
