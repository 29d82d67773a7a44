-- The parts of an fmtp pair.
use Rattle.str0m_signal.proofs.Common.{◌≡◌, ◌⊎◌, ℕ, ◌<◌, ◌≤◌, zero, suc, true, List, [], ◌∷◌, ◌++◌, length, take, drop}
use Rattle.str0m_signal.proofs.Common.{Some, refl, sym, ap, ◌∙◌, arith, inl, inr, lt-ltb, false≢true, append-nil, AllByRecursion}
use Rattle.str0m_signal.proofs.Common.{Lacks, IsRest, before, cut_before_front, strip_at}
use Rattle.str0m_signal.proofs.Common.{take-append-drop}
use Rattle.str0m_signal.specs.form.FmtpReading.{ends_value, NoneEnds, IsValueEnd, fmtp_value_read, skip_pair_blanks}

-- a value ends at the end of the text, at `;`, at a space or at a tab
abbrev pub EndsValue : List ℕ → Type 0
EndsValue [] = Unit {0}
EndsValue (x ∷ xs) = (x ≡ 59) ⊎ ((x ≡ 32) ⊎ (x ≡ 9))

pair_value_stop_nothing : (rest : List ℕ) → EndsValue rest → before 9 (before 32 (before 59 rest)) ≡ []
pair_value_stop_nothing rest h = grind arith

-- a value that ends there is read
pub pair_value_given : (value rest : List ℕ) → IsRest value → Lacks 59 value → Lacks 32 value → Lacks 9 value → EndsValue rest
    → fmtp_value_read (value ++ rest) ≡ Some (value, rest)
pair_value_given value rest filled semicolon space tab ends = grind
    (arith, cut_before_front, pair_value_stop_nothing, append-nil, lt-ltb, strip_at)

pub pair_blanks_skipped : (blanks text : List ℕ) → AllByRecursion (λ b. (b ≡ 32) ⊎ (b ≡ 9)) blanks
    → skip_pair_blanks (blanks ++ text) ≡ skip_pair_blanks text
pair_blanks_skipped [] text h = refl
pair_blanks_skipped (x ∷ xs) text h = elim h.0
    [ inl e ↦ rw e (pair_blanks_skipped xs text h.1) | inr e ↦ rw e (pair_blanks_skipped xs text h.1) ]

-- ---- the value by the place where it ends

ends_there : (x : ℕ) → ends_value x ≡ true → (x ≡ 59) ⊎ ((x ≡ 32) ⊎ (x ≡ 9))
ends_there x h = grind arith

ends_at : (n : ℕ) (text : List ℕ) → IsValueEnd text n → EndsValue (drop n text)
ends_at zero [] h = tt
ends_at zero (x ∷ xs) h = ends_there x (h.2 (omega arith))
ends_at (suc n) [] h = absurd (omega (arith, h.0))
ends_at (suc n) (x ∷ xs) h = ends_at n xs (omega (arith, h.0), (λ k lt. h.1 (suc k) (omega arith)), (λ lt. h.2 (omega arith)))

pair_value_lacks_to : (c : ℕ) → ends_value c ≡ true → (n : ℕ) (text : List ℕ) → NoneEnds text n → Lacks c (take n text)
pair_value_lacks_to c ends zero text h = tt
pair_value_lacks_to c ends (suc n) [] h = tt
pair_value_lacks_to c ends (suc n) (x ∷ xs) h = (
  (λ e. false≢true (sym (h 0 (omega arith)) ∙ ap ends_value e ∙ ends)),
  pair_value_lacks_to c ends n xs (λ k lt. h (suc k) (omega arith)),
)

pair_value_filled_to : (n : ℕ) (text : List ℕ) → 0 < n → n ≤ length text → IsRest (take n text)
pair_value_filled_to n text some le = grind arith

pub pair_value_to : (text : List ℕ) (n : ℕ) → IsValueEnd text n → 0 < n → Some (take n text, drop n text) ≡ fmtp_value_read text
pair_value_to text n h some =
    grind (
      arith,
      take-append-drop n text,
      pair_value_given (take n text) (drop n text),
      pair_value_filled_to n text some h.0,
      pair_value_lacks_to 9,
      pair_value_lacks_to 59,
      pair_value_lacks_to 32,
      ends_at n text h,
    )
