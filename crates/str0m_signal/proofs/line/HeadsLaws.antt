-- The types of an m-line, one by one.
use Rattle.str0m_signal.proofs.Common.{◌≡◌, ◌<◌, ◌++◌, ◌∷◌, [], ℕ, List, length, Some, sym, subst, arith, ◌>>=◌, cut, num}
use Rattle.str0m_signal.proofs.Common.{cut_none, cuts_bind_some, num_found, number_lacks, some_pair_parts}
use Rattle.str0m_signal.proofs.line.PartLaws.{part_cut_shorter, part_ends, part_more, part_with_front}
use Rattle.str0m_signal.specs.form.FormReading.{parted_read}
use Rattle.str0m_signal.specs.line.FrontReading.{number_and_rest_read}

-- a number before a space, by the cut there
record TypeBefore (rest : List ℕ) (n : ℕ) (more : List ℕ) : Type 0 where
  front : List ℕ
  cut_is : cut 32 rest ≡ Some (front, more)
  number : num 255 front ≡ Some n

head_type_before : (rest : List ℕ) (n : ℕ) (more : List ℕ) → Some (n, more) ≡ number_and_rest_read 255 rest → TypeBefore rest n more
head_type_before rest n more e =
    let a = cuts_bind_some (cut 32 rest) (λ p. num 255 p.0 >>= λ m. Some (m, p.1)) (n, more) (sym e) in
    let b = cuts_bind_some (num 255 a.0.0) (λ m. Some (m, a.0.1)) (n, more) a.2 in
    let same = some_pair_parts b.0 n a.0.1 more b.2 in
    record {
      front = a.0.0;
      cut_is = subst (λ (t : List ℕ). cut 32 rest ≡ Some (a.0.0, t)) same.1 a.1;
      number = subst (λ (m : ℕ). num 255 a.0.0 ≡ Some m) same.0 b.1;
    }

pub type_more_shorter : (rest : List ℕ) (n : ℕ) (more : List ℕ) → Some (n, more) ≡ number_and_rest_read 255 rest
    → length more < length rest
type_more_shorter rest n more e = let one = head_type_before rest n more e in part_cut_shorter 32 rest one.front more one.cut_is

-- one more type
pub type_more : (text front rest : List ℕ) (n : ℕ) (more : List ℕ) → Some (n, more) ≡ number_and_rest_read 255 rest
    → part_with_front front (parted_read 32 (num 255) rest) ≡ parted_read 32 (num 255) text
    → part_with_front (front ++ n ∷ []) (parted_read 32 (num 255) more) ≡ parted_read 32 (num 255) text
type_more text front rest n more e so_far =
    let one = head_type_before rest n more e in
    part_more 32 (num 255) text front rest one.front more n one.cut_is one.number so_far

-- the last
pub type_last : (text front rest : List ℕ) (n : ℕ) → Some n ≡ num 255 rest
    → part_with_front front (parted_read 32 (num 255) rest) ≡ parted_read 32 (num 255) text
    → Some (front ++ n ∷ []) ≡ parted_read 32 (num 255) text
type_last text front rest n e so_far =
    let lacks = number_lacks 32 rest (omega arith) (λ e. absurd (omega arith)) (num_found 255 rest n (sym e)).numeral in
    part_ends 32 (num 255) text front rest n (cut_none 32 rest lacks) (sym e) so_far
