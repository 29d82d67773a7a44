-- A text that lies in sixteen bytes of its own.
use Rattle.std.proofs.Common.{arith, ◌∙◌, ap, sym, take-append-drop, length-take-le}
use Rattle.std.specs.Fmt.Cut.{floor_char_boundary}
use Rattle.std.specs.Prelude.{◌≡◌, ◌⊎◌, ℕ, ◌-◌, ◌<◌, ◌≤◌, List, ◌++◌, length, take, drop, replicate, nat_le, if◌then◌else◌, IsCharBoundary}

-- kept is the longest beginning of the text that has at most room bytes and ends between characters
pub record IsLongestShortText (room : ℕ) (text kept : List ℕ) : Type 0 where
  pub begins : (rest : List ℕ) × (text ≡ kept ++ rest)
  pub fits : length kept ≤ room
  pub whole : (length kept ≡ 0) ⊎ IsCharBoundary text (length kept)
  pub longest : (n : ℕ) → length kept < n → n ≤ room → ¬ (IsCharBoundary text n)

-- that beginning as a function, which readings of lines compute with
unfoldable pub text_beginning_of : ℕ → List ℕ → List ℕ
text_beginning_of room text = if nat_le (length text) room then text else take (floor_char_boundary text room) text

-- the sixteen bytes that hold a short text: its own, and zeros after them
abbrev pub short_text_cells_of : List ℕ → List ℕ
short_text_cells_of bytes = bytes ++ replicate (16 - length bytes) 0

-- cells whose bytes past n are zeros are those of their first n bytes
pub short_text_cells_of-take : (bytes : List ℕ) (n : ℕ) → n ≤ 16 → length bytes ≡ 16 → drop n bytes ≡ replicate (16 - n) 0 → short_text_cells_of (take n bytes) ≡ bytes
short_text_cells_of-take bytes n small full zeros =
    let len : length (take n bytes) ≡ n = length-take-le n bytes (omega arith) in
    ap (λ k. take n bytes ++ replicate (16 - k) 0) len ∙ (ap (λ r. take n bytes ++ r) (sym zeros) ∙ take-append-drop n bytes)

pub length-short_text_cells : (bytes : List ℕ) (n : ℕ) → n ≤ 16 → length bytes ≡ 16 → length (take n bytes) ≡ n
length-short_text_cells bytes n small full = length-take-le n bytes (omega arith)
