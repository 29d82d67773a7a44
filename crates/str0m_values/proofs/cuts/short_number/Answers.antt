use Rattle.std.proofs.lemmas.Int.Digits.{digits_more, digits_value_more}
use Rattle.str0m_values.proofs.Common.{arith, get_or, digit_from_value, digit_value_digit}
use Rattle.str0m_values.proofs.CutsNearLaws.{eighteen_digits}
use Rattle.str0m_values.proofs.cuts.short_number.Goals as goal

pub overflow_mul-number : goal.overflow_mul-number
overflow_mul-number c =
    let i = c.loop-i.invariant in
    let small = eighteen_digits c.args.digits.now c.loop-i.i i.0 (omega (arith, c.loop-i-test.true, c.if-digits-gt-SHORT.false)) in
    omega (arith, small, i.1)

pub overflow_add-number : goal.overflow_add-number
overflow_add-number c =
    let i = c.loop-i.invariant in
    let small = eighteen_digits c.args.digits.now c.loop-i.i i.0 (omega (arith, c.loop-i-test.true, c.if-digits-gt-SHORT.false)) in
    let digit = rw c.if-not-is_ascii_digit.false at c.is_ascii_digit.ensures.bound in
    let range = digit_from_value (get_or c.args.digits.now c.loop-i.i 0) digit in
    omega (arith, small, i.1, range.0, range.1, c.from.ensures)

pub loop-i-preserved : goal.loop-i-preserved
loop-i-preserved c =
    let ds = c.args.digits.now in
    let i = c.loop-i.i in
    let digit = rw c.if-not-is_ascii_digit.false at c.is_ascii_digit.ensures.bound in
    let byte = get_or ds i 0 in
    let value = digit_value_digit byte (digit_from_value byte digit) in (
      digits_more 10 ds i c.loop-i-test.true c.loop-i.invariant.0 digit,
      omega (arith, c.loop-i.invariant.1, c.from.ensures, value, digits_value_more 10 ds i c.loop-i-test.true),
    )
