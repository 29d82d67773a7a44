-- From the lanes of one load to the first line feed or carriage return.
use Rattle.memchr.specs.Find.{Nowhere, Passes, is_byte2}
use Rattle.std.proofs.Common.{◌≡◌, drop, ℕ, ◌<◌, ◌≤◌, ◌+◌, ◌%◌, ◌^◌, Bool, false, not, List, length, map, take, cond, eqb, leb}
use Rattle.std.proofs.Common.{replicate, w8, sym, ap, ◌∙◌, arith, inl, inr}
use Rattle.std.proofs.lemmas.Bool.{cases_eq, cases_lt, eq-eqb, ne_eqb, cond-true, cond-false, leb-false, false≢true}
use Rattle.std.proofs.lemmas.Simd.{bitmask_splat, first_set_mask_l, length-chunk, run_in_chunk_fails, run_in_chunk_le}
use Rattle.std.specs.List.{prefix_len}
use lib.Count.{count_trailing_zeros}
use lib.Lanes.{mask_l, top, zip2}

-- whether a byte stands no higher than a carriage return
abbrev pub is_low : ℕ → Bool
is_low x = leb x 13

high_ends_no_line : (x : ℕ) → is_low x ≡ false → is_byte2 10 13 x ≡ false
high_ends_no_line x high = let above : 13 < x = leb-false x 13 high in grind (arith)

lowest_is_count : (m n : ℕ) → cond (eqb m 0) 64 (count_trailing_zeros 64 m) ≡ n → count_trailing_zeros 64 m ≡ n
unfolding count_trailing_zeros
lowest_is_count m n first =
    elim (cases_eq m 0) [
      | inl none ↦ ap (count_trailing_zeros 64) none ∙ sym (cond-true _ _ _ (eq-eqb m 0 none)) ∙ first
      | inr some ↦ sym (cond-false _ _ _ (ne_eqb m 0 some)) ∙ first
    ]

module _ (bytes : List ℕ) (from count : ℕ) (fits : from + 64 ≤ length bytes)
    (found : count ≡ count_trailing_zeros 64
    (mask_l (map (top 7) (zip2 (λ a b. cond (leb a b) 255 0) (take 64 (drop from bytes)) (replicate 64 13))) % 2 ^ 64)) where
  long : length (take 64 (drop from bytes)) ≡ 64
  long = length-chunk from 64 bytes fits

  counted : count ≡ prefix_len (λ x. not (is_low x)) (take 64 (drop from bytes))
  counted =
      let mask = bitmask_splat w8 leb (take 64 (drop from bytes)) 64 13 long (omega arith) in
      found ∙ ap (count_trailing_zeros 64) mask
      ∙ lowest_is_count _ _ (first_set_mask_l is_low (take 64 (drop from bytes)) 64 long (omega arith))

  pub near_bound : count ≤ 64
  near_bound = run_in_chunk_le is_low bytes from 64 count 0 fits counted

  pub no_end_ahead : Nowhere (Passes (is_byte2 10 13) bytes) from (from + count)
  no_end_ahead k low to is =
      let high = run_in_chunk_fails is_low bytes from 64 count 0 fits counted k low to in
      false≢true (sym (high_ends_no_line _ high) ∙ is)

-- what stands in neither of two runs, the second behind the first
pub none_before_end : (bytes : List ℕ) (first more : ℕ) → Nowhere (Passes (is_byte2 10 13) bytes) 0 (0 + first)
    → first ≡ 64 → Nowhere (Passes (is_byte2 10 13) bytes) 64 (64 + more) → Nowhere (Passes (is_byte2 10 13) bytes) 0 (first + more)
none_before_end bytes first more near whole far k from to is =
    elim (cases_lt k 64) [ inl early ↦ near k from (omega arith) is | inr late ↦ far k late (omega arith) is ]
