use Rattle.str0m_values.proofs.Common.{◌≡◌, ◌<◌, ℕ, List, Option, Some, None, refl, sym, ◌∙◌, ap, arith, IfSome, ◌↔◌, IsSome}
use Rattle.str0m_values.proofs.CutsBothWays.{cuts_some_is}
use Rattle.str0m_values.proofs.CutsNumLaws.{num_found, num_reads}
use Rattle.str0m_values.proofs.frequency.Frequency.from_str.Goals as goal
use Rattle.str0m_values.specs.Cuts.{num, IsTheOnly}
use Rattle.str0m_values.specs.CutsParts.{IsNum}
use Rattle.str0m_values.specs.Frequency.{IsRate}

no_rate : (text : List ℕ) → None ≡ num 4294967295 text → IsTheOnly (IsRate text) None
no_rate text e = record { found = tt; only = λ n is. let reads = num_reads 4294967295 text n is.0 in absurd cc }

-- a rate is the number read
same_rate : (text : List ℕ) (n m : ℕ) → Some n ≡ num 4294967295 text → IsNum 4294967295 text m → n ≡ m
same_rate text n m e is = cuts_some_is n m (e ∙ num_reads 4294967295 text m is)

rate_read : (text : List ℕ) (n : ℕ) (r : Option ℕ) → Some n ≡ num 4294967295 text → IfSome r (λ f. f ≡ n) → (IsSome r ↔ (0 < n))
    → IsTheOnly (IsRate text) r
rate_read text n None e value positive =
    record {
      found = tt;
      only = λ m is. let equal = same_rate text n m e is.0 in let above : 0 < n = omega arith in
          let there = positive.1 above in absurd cc;
    }
rate_read text n (Some f) e value positive =
    let is : IsNum 4294967295 text n = num_found 4294967295 text n (sym e) in
    record { found = (rw value is, rw value (positive.0 refl)); only = λ m is. ap (λ k. Some k) (value ∙ same_rate text n m e is.0) }

pub returns-in_err-num_u32 : goal.returns-in_err-num_u32
returns-in_err-num_u32 c = rw c.from_residual.ensures (no_rate c.args.text.now c.in_err-num_u32.ensures)

pub returns : goal.returns
returns c = rate_read c.args.text.now c.in_ok-num_u32.field-0 c.new.result c.in_ok-num_u32.ensures c.new.ensures.rate c.new.ensures.positive
