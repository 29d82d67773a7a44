use Rattle.str0m_formats.proofs.Common.{rules, ◌≡◌, sym, ap, ◌∙◌, arith, length}
use Rattle.str0m_formats.proofs.format.ParamTextListed.{params_to, params_push, params_pass, params_all}
use Rattle.str0m_formats.proofs.format.format_params.FormatParams.given.Goals as goal
use Rattle.str0m_formats.proofs.format.format_params.FormatParams.given.Goals.{in-Some+in_ok-push, in_default}
use Rattle.str0m_formats.specs.declared.format.format_params.TheConstants.{FIELDS}

pub loop-field-init : goal.loop-field-init
unfolding params_to
loop-field-init c = search rules

pub loop-field-preserved : goal.loop-field-preserved
loop-field-preserved c =
    let p = c.args.self in
    let n = c.loop-field.field-index in
    elim c.match-param.branch [
      | in-Some+in_ok-push w ↦
          (let next = params_push p n _ w.in-Some.param c.loop-field-test.true (sym w.in-Some.ensures) in
          search (rules, next, c.loop-field.invariant))
      | in_default w ↦
          (let same = params_pass p n _ c.loop-field-test.true (sym w.in_default.ensures) in
          search (rules, same, c.loop-field.invariant))
    ]

pub returns : goal.returns
returns c =
    let all : c.loop-field.field-index ≡ length FIELDS = omega arith in
    c.loop-field.invariant ∙ ap (λ n. params_to c.args.self n) all ∙ params_all c.args.self
