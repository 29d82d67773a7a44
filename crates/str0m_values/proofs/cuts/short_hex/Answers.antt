use Rattle.std.proofs.lemmas.Int.Digits.{digits_more, digits_value_more}
use Rattle.str0m_values.proofs.Common.{arith}
use Rattle.str0m_values.proofs.CutsNearLaws.{seven_hex_digits}
use Rattle.str0m_values.proofs.cuts.short_hex.Goals as goal

pub overflow_mul-number : goal.overflow_mul-number
overflow_mul-number c =
    let i = c.loop-i.invariant in
    let small = seven_hex_digits c.args.digits.now c.loop-i.i i.0 (omega (arith, c.loop-i-test.true, c.if-digits-gt-SHORT_HEX.false)) in
    omega (arith, small, i.1)

pub overflow_add-number : goal.overflow_add-number
overflow_add-number c =
    let i = c.loop-i.invariant in
    let small = seven_hex_digits c.args.digits.now c.loop-i.i i.0 (omega (arith, c.loop-i-test.true, c.if-digits-gt-SHORT_HEX.false)) in
    omega (arith, small, i.1, c.if-value-ge16.false, c.from.ensures)

pub loop-i-preserved : goal.loop-i-preserved
loop-i-preserved c =
    let ds = c.args.digits.now in
    let i = c.loop-i.i in (
      digits_more 16 ds i c.loop-i-test.true c.loop-i.invariant.0 (rw c.value_of_digit-value.ensures at c.if-value-ge16.false),
      omega (arith, c.loop-i.invariant.1, c.from.ensures, c.value_of_digit-value.ensures, digits_value_more 16 ds i c.loop-i-test.true),
    )
