use Rattle.std.proofs.lemmas.Int.Digits.{digits_more, digits_value_more}
use Rattle.str0m_signal.proofs.Common.{◌<◌, length, arith, get_or, digit_from_value, digit_value_digit}
use Rattle.str0m_signal.proofs.line.FrontLaws.{few_digits, lacks_space_more}
use Rattle.str0m_signal.proofs.line.front.short_number.Goals as goal

pub overflow_mul-number : goal.overflow_mul-number
overflow_mul-number c =
    let i = c.loop-i.invariant in
    let small = few_digits c.args.bytes.now c.loop-i.i i.0 (omega (arith, c.loop-i-test.true, c.min-i-end.ensures)) in
    omega (arith, small, i.1)

pub overflow_add-number : goal.overflow_add-number
overflow_add-number c =
    let i = c.loop-i.invariant in
    let small = few_digits c.args.bytes.now c.loop-i.i i.0 (omega (arith, c.loop-i-test.true, c.min-i-end.ensures)) in
    let digit = rw c.if-not-is_ascii_digit.false at c.is_ascii_digit.ensures.bound in
    let range = digit_from_value (get_or c.args.bytes.now c.loop-i.i 0) digit in
    omega (arith, small, i.1, range.0, range.1, c.from.ensures)

pub loop-i-preserved : goal.loop-i-preserved
loop-i-preserved c =
    let bytes = c.args.bytes.now in
    let i = c.loop-i.i in
    let within : i < length bytes = omega (arith, c.loop-i-test.true, c.min-i-end.ensures) in
    let digit = rw c.if-not-is_ascii_digit.false at c.is_ascii_digit.ensures.bound in
    let byte = get_or bytes i 0 in
    let value = digit_value_digit byte (digit_from_value byte digit) in (
      digits_more 10 bytes i within c.loop-i.invariant.0 digit,
      omega (arith, c.loop-i.invariant.1, c.from.ensures, value, digits_value_more 10 bytes i within),
      lacks_space_more bytes i c.loop-i.invariant.2 c.if-byte-eq32.false,
    )
