-- No two patterns of the table of profiles fit the same bytes: a computed test over all pairs of them.
use Rattle.std.proofs.lemmas.List.Sums.{sum_by-cons}
use Rattle.std.proofs.lemmas.Nat.{and_assoc, and_comm}
use Rattle.str0m_values.proofs.Common.{◌≡◌, ◌≤◌, ◌+◌, ◌==◌, ◌&&◌, ◌||◌, ℕ, Bool, true, false, not, cond, List, [], ◌∷◌, refl, sym, ap, ◌∙◌}
use Rattle.str0m_values.proofs.Common.{arith, and_parts, eq-eqb, cases_Bool, bit_and, count_by, eqb-true}
use Rattle.str0m_values.specs.H264.{H264Pattern, h264_patterns, fits_h264_pattern}

-- the first bytes differ, or some bit that counts in both does
abbrev pattern_apart : H264Pattern → H264Pattern → Bool
pattern_apart a b = not (a.1 == b.1) || not (bit_and a.3 b.2 == bit_and b.3 a.2)

abbrev pattern_apart_from : H264Pattern → List H264Pattern → Bool
pattern_apart_from a [] = true
pattern_apart_from a (b ∷ more) = pattern_apart a b && pattern_apart_from a more

abbrev patterns_apart : List H264Pattern → Bool
patterns_apart [] = true
patterns_apart (a ∷ more) = pattern_apart_from a more && patterns_apart more

-- bits under both masks, one after the other in either order
h264_both_masks : (n m k : ℕ) → bit_and (bit_and n m) k ≡ bit_and (bit_and n k) m
h264_both_masks n m k = and_assoc k n m ∙ ap (bit_and n) (and_comm m k) ∙ sym (and_assoc m n k)

-- bytes that fit both of two patterns show that they aren't apart
patterns_not_apart : (idc iop : ℕ) (a b : H264Pattern) → fits_h264_pattern idc iop a ≡ true → fits_h264_pattern idc iop b ≡ true
    → pattern_apart a b ≡ false
patterns_not_apart idc iop a b p q = grind (arith, and_parts, eqb-true, h264_both_masks, eq-eqb)

pattern_misses : (idc iop : ℕ) (a b : H264Pattern) → pattern_apart a b ≡ true → fits_h264_pattern idc iop a ≡ true
    → fits_h264_pattern idc iop b ≡ false
pattern_misses idc iop a b e p = grind (arith, cases_Bool, patterns_not_apart)

-- how many fit, with one more pattern in front
patterns_counted : (idc iop : ℕ) (a : H264Pattern) (more : List H264Pattern)
    → count_by (fits_h264_pattern idc iop) (a ∷ more) ≡ cond (fits_h264_pattern idc iop a) 1 0 + count_by (fits_h264_pattern idc iop) more
patterns_counted idc iop a more = sum_by-cons (λ x. cond (fits_h264_pattern idc iop x) 1 0) a more

no_pattern_fits : (idc iop : ℕ) (a : H264Pattern) (more : List H264Pattern) → pattern_apart_from a more ≡ true
    → fits_h264_pattern idc iop a ≡ true
    → count_by (fits_h264_pattern idc iop) more ≡ 0
no_pattern_fits idc iop a [] e p = refl
no_pattern_fits idc iop a (b ∷ more) e p = grind (arith, and_parts, patterns_counted, pattern_misses, no_pattern_fits idc iop a more)

at_most_one_pattern : (idc iop : ℕ) (rows : List H264Pattern) → patterns_apart rows ≡ true → count_by (fits_h264_pattern idc iop) rows ≤ 1
at_most_one_pattern idc iop [] e = omega arith
at_most_one_pattern idc iop (a ∷ more) e =
    grind (
      arith,
      and_parts (pattern_apart_from a more) (patterns_apart more) e,
      cases_Bool (fits_h264_pattern idc iop a),
      patterns_counted idc iop a more,
      no_pattern_fits idc iop a more,
      at_most_one_pattern idc iop more,
    )

pub one_pattern : (idc iop : ℕ) → count_by (fits_h264_pattern idc iop) h264_patterns ≤ 1
one_pattern idc iop = at_most_one_pattern idc iop h264_patterns refl
