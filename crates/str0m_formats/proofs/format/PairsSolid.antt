-- Solid texts: graphic ASCII without `;` and `=`, so that cutting and trimming leave them whole.
use Rattle.std.proofs.lemmas.Str.{chars-IsAscii, encodes-IsAscii}
use Rattle.std.specs.Str.{trim_start, trim_end}
use Rattle.str0m_formats.proofs.Common.{◌≡◌, ◌≢◌, ◌<◌, ◌≤◌, ◌==◌, ◌&&◌, ◌||◌, ℕ, Bool, true, false, not, List, [], ◌∷◌, ◌++◌, All, refl}
use Rattle.str0m_formats.proofs.Common.{sym, ap, ◌∙◌, arith, tests, AllByRecursion, list_all, digit_value, trim, AllDigits, and_parts}
use Rattle.str0m_formats.proofs.Common.{cases_lt, not-true, false≢true, Lacks, zero, suc, nat_le, IsAscii, is_whitespace}
use Rattle.str0m_formats.proofs.Common.{skip_leading_whitespace, drop_trailing_whitespace}

-- ---- what holds of all small numbers

unfoldable pub pair_bytes_pass_below : (ℕ → Bool) → ℕ → Bool
pair_bytes_pass_below test zero = true
pair_bytes_pass_below test (suc n) = test n && pair_bytes_pass_below test n

pub pair_bytes_pass_below_at : (test : ℕ → Bool) (n k : ℕ) → pair_bytes_pass_below test n ≡ true → k < n → test k ≡ true
unfolding pair_bytes_pass_below
pair_bytes_pass_below_at test zero k e lt = absurd (omega arith)
pair_bytes_pass_below_at test (suc n) k e lt = grind (arith, and_parts, cases_lt, pair_bytes_pass_below_at test n k)

-- ---- solid bytes

abbrev pub is_solid : ℕ → Bool
is_solid b = (nat_le 33 b && nat_le b 126) && (not (b == 59) && not (b == 61))

abbrev pub IsSolid : List ℕ → Type 0
IsSolid text = AllByRecursion (λ b. is_solid b ≡ true) text

pub solid_from : (text : List ℕ) → list_all is_solid text ≡ true → IsSolid text
solid_from [] e = tt
solid_from (b ∷ bs) e = grind (arith, and_parts, solid_from bs)

pub solid_append : (xs ys : List ℕ) → IsSolid xs → IsSolid ys → IsSolid (xs ++ ys)
solid_append [] ys h k = k
solid_append (x ∷ xs) ys h k = (h.0, solid_append xs ys h.1 k)

solid_is_low : (b : ℕ) → is_solid b ≡ true → b < 127
solid_is_low b e = grind arith

-- ---- digits

pair_bytes_or_right : (a b : Bool) → (not a || b) ≡ true → a ≡ true → b ≡ true
pair_bytes_or_right a b e h = grind arith

pair_high_is_no_digit : (c : ℕ) → 123 ≤ c → digit_value c ≡ 36
pair_high_is_no_digit c le = grind (arith, tests)

digit_solid : (c : ℕ) → digit_value c < 16 → is_solid c ≡ true
digit_solid c h = grind arith

pub digits_solid : (radix : ℕ) (ds : List ℕ) → radix ≤ 16 → AllDigits radix ds → IsSolid ds
digits_solid radix [] small h = tt
digits_solid radix (c ∷ cs) small h = (digit_solid c (omega (arith, h.0)), digits_solid radix cs small h.1)

-- ---- cutting

pub solid_lacks : (c : ℕ) (text : List ℕ) → is_solid c ≡ false → IsSolid text → Lacks c text
solid_lacks c [] other h = tt
solid_lacks c (b ∷ bs) other h = ((λ e. false≢true (sym other ∙ ap is_solid (sym e) ∙ h.0)), solid_lacks c bs other h.1)

pair_text_free_more : (c b : ℕ) (bs : List ℕ) → b ≢ c → All (λ b. (b == c) ≡ false) bs → All (λ b. (b == c) ≡ false) (b ∷ bs)
pair_text_free_more c b bs other rest o d lt = grind arith

pub pair_text_lacks_free : (c : ℕ) (text : List ℕ) → Lacks c text → All (λ b. (b == c) ≡ false) text
pair_text_lacks_free c [] h = λ k d lt. absurd (omega arith)
pair_text_lacks_free c (b ∷ bs) h = pair_text_free_more c b bs h.0 (pair_text_lacks_free c bs h.1)

-- ---- trimming

solid_is_dark : pair_bytes_pass_below (λ b. not (is_solid b) || not (is_whitespace b)) 127 ≡ true
unfolding pair_bytes_pass_below
solid_is_dark = refl

solid_is_dark_at : (b : ℕ) → is_solid b ≡ true → is_whitespace b ≡ false
solid_is_dark_at b h = grind (arith, not-true, pair_bytes_or_right, pair_bytes_pass_below_at, solid_is_dark, solid_is_low)

solid_ascii : (text : List ℕ) → IsSolid text → IsAscii text
solid_ascii [] h i = omega arith
solid_ascii (b ∷ bs) h zero = let lt = solid_is_low b h.0 in omega arith
solid_ascii (b ∷ bs) h (suc i) = solid_ascii bs h.1 i

solid_not_skipped : (text : List ℕ) → IsSolid text → skip_leading_whitespace text ≡ text
solid_not_skipped [] h = refl
solid_not_skipped (b ∷ bs) h = rw (solid_is_dark_at b h.0) refl

solid_not_dropped : (text : List ℕ) → IsSolid text → drop_trailing_whitespace text ≡ text
solid_not_dropped [] h = refl
solid_not_dropped (b ∷ bs) h = rw (solid_is_dark_at b h.0) (ap (λ (t : List ℕ). b ∷ t) (solid_not_dropped bs h.1))

start_solid : (text : List ℕ) → IsSolid text → trim_start text ≡ text
unfolding trim_start
start_solid text h = grind (arith, solid_ascii, chars-IsAscii, solid_not_skipped, encodes-IsAscii)

end_solid : (text : List ℕ) → IsSolid text → trim_end text ≡ text
unfolding trim_end
end_solid text h = grind (arith, solid_ascii, chars-IsAscii, solid_not_dropped, encodes-IsAscii)

pub trim_solid : (text : List ℕ) → IsSolid text → trim text ≡ text
trim_solid text h = ap trim_end (start_solid text h) ∙ end_solid text h
