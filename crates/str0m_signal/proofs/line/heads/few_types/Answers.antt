use Rattle.str0m_signal.proofs.Common.{rules}
use Rattle.str0m_signal.proofs.line.HeadsLaws.{type_last, type_more, type_more_shorter}
use Rattle.str0m_signal.proofs.line.heads.few_types.Goals as goal

pub loop-number-smaller : goal.loop-number-smaller
loop-number-smaller c = type_more_shorter c.loop-number.rest.now c.in-Some.number c.in-Some.more.now c.in-Some.ensures

pub loop-number-preserved : goal.loop-number-preserved
loop-number-preserved c = (
  search rules,
  rw c.push.ensures.items (type_more c.args.text.now c.loop-number.few.items c.loop-number.rest.now c.in-Some.number c.in-Some.more.now
      c.in-Some.ensures c.loop-number.invariant.1),
)

pub returns-in_ok-types_numbered-in-Some-num_u8 : goal.returns-in_ok-types_numbered-in-Some-num_u8
returns-in_ok-types_numbered-in-Some-num_u8 c =
    rw (c.in_ok-types_numbered-in-Some-num_u8.ensures, c.as_slice.ensures.value, c.push-in-Some-num_u8.ensures.items)
    (type_last c.args.text.now c.loop-number.few.items c.loop-number.rest.now c.in-Some-num_u8.last c.in-Some-num_u8.ensures
    c.loop-number.invariant.1)
