use Rattle.exchange.proofs.Common.{arith, Some, decimal, sym, ◌∙◌}
use Rattle.exchange.proofs.offer.FreshNamesLaws.{more_names_taken}
use Rattle.exchange.proofs.offer.fresh_names.next_fresh_number.Goals as goal

pub returns-then-not-branch : goal.returns-then-not-branch
returns-then-not-branch c = record {
  behind = omega (arith, c.loop-number.auto.number);
  bounded = omega (arith, c.loop-number-test.true);
  free = sym (c.requires (Some (decimal c.loop-number.number))) ∙ sym c.in_ok-is_name_number_taken.ensures ∙ c.if-not-branch.true;
  least = c.loop-number.invariant;
}

pub loop-number-preserved : goal.loop-number-preserved
loop-number-preserved c =
    more_names_taken c.args.taken.now c.args.from c.loop-number.number
    (sym (c.requires (Some (decimal c.loop-number.number))) ∙ sym c.in_ok-is_name_number_taken.ensures ∙ c.if-not-branch.false)
    c.loop-number.invariant
