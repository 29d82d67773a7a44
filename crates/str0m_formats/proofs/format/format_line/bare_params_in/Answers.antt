use Rattle.str0m_formats.proofs.Common.{◌≡◌, ◌∷◌, ◌++◌, [], length, take, lit<, sym, ap, ◌∙◌, arith, YieldsList-from_str_split}
use Rattle.str0m_formats.proofs.Common.{YieldsList-turn, YieldsList-end, take_more, length_push, take_all}
use Rattle.str0m_formats.proofs.format.FormatLineLaws.{bare_params_none, bare_params_given, bare_params_absent}
use Rattle.str0m_formats.proofs.format.format_line.bare_params_in.Goals as goal
use Rattle.str0m_formats.specs.format.FormatLine.{pieces}

pub loop-piece-init : goal.loop-piece-init
loop-piece-init c = (tt, tt, rw c.default-format.ensures bare_params_none)

pub loop-piece-preserved-in-Some-bare_param_in : goal.loop-piece-preserved-in-Some-bare_param_in
loop-piece-preserved-in-Some-bare_param_in c =
    let all = pieces c.args.line.now in
    let so_far = take (length c.loop-piece.yielded) all in
    let turn = YieldsList-turn (YieldsList-from_str_split 59 c.args.line.now (lit< tt) (cc) (cc) (cc)) c.loop-piece.yielded _
    c.loop-piece.yielded_by _ _ c.in-Some.piece c.in-Some.is c.next.ensures.steps in
    let next : so_far ++ c.in-Some.piece.now ∷ [] ≡ take (length (c.loop-piece.yielded ++ c.in-Some.piece ∷ [])) all =
    sym (ap (λ n. take n all) (length_push c.loop-piece.yielded c.in-Some.piece) ∙ take_more all _ c.in-Some.piece.now turn.0
    ∙ ap (λ p. so_far ++ p ∷ []) (sym turn.1)) in (
      tt,
      tt,
      rw (← next, c.set_param.ensures)
          (bare_params_given so_far c.in-Some.piece.now c.in-Some-bare_param_in.value.now c.loop-piece.format
          c.parse_telephone_events.result
          c.loop-piece.invariant.2 c.in-Some-bare_param_in.ensures c.parse_telephone_events.ensures),
    )

pub loop-piece-preserved : goal.loop-piece-preserved
loop-piece-preserved c =
    let all = pieces c.args.line.now in
    let so_far = take (length c.loop-piece.yielded) all in
    let turn = YieldsList-turn (YieldsList-from_str_split 59 c.args.line.now (lit< tt) (cc) (cc) (cc)) c.loop-piece.yielded _
    c.loop-piece.yielded_by _ _ c.in-Some.piece c.in-Some.is c.next.ensures.steps in
    let next : so_far ++ c.in-Some.piece.now ∷ [] ≡ take (length (c.loop-piece.yielded ++ c.in-Some.piece ∷ [])) all =
    sym (ap (λ n. take n all) (length_push c.loop-piece.yielded c.in-Some.piece) ∙ take_more all _ c.in-Some.piece.now turn.0
    ∙ ap (λ p. so_far ++ p ∷ []) (sym turn.1)) in
    (tt, tt, rw (← next) (bare_params_absent so_far c.in-Some.piece.now c.loop-piece.format c.loop-piece.invariant.2 c.in_default.ensures))

pub returns : goal.returns
returns c =
    let all = pieces c.args.line.now in
    let end = YieldsList-end (YieldsList-from_str_split 59 c.args.line.now (lit< tt) (cc) (cc) (cc)) c.loop-piece.yielded _
    c.loop-piece.yielded_by _ _ c.in-None.is c.next.ensures.steps in
    let whole = ap (λ n. take n all) end.1 ∙ take_all _ all (omega arith) in
    rw (← whole) c.loop-piece.invariant.2
