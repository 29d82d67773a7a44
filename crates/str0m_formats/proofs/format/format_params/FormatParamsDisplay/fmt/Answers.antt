use Rattle.str0m_formats.proofs.Common.{rules, ◌≡◌, ◌++◌, refl, sym, ap, ◌∙◌, arith, length, has_written_append, has_written_of_eq}
use Rattle.str0m_formats.proofs.format.ParamTextListed.{param_list_has_some, params_to, listed, listed_push, param_list_has_some_push}
use Rattle.str0m_formats.proofs.format.ParamTextListed.{params_push, params_pass}
use Rattle.str0m_formats.proofs.format.ParamTextListed.{listed_all}
use Rattle.str0m_formats.proofs.format.format_params.FormatParamsDisplay.fmt.Goals as goal
use Rattle.str0m_formats.proofs.format.format_params.FormatParamsDisplay.fmt.Goals.{in-Some+in_ok-write, in_default}
use Rattle.str0m_formats.specs.declared.format.format_params.TheConstants.{FIELDS}
use Rattle.str0m_formats.specs.format.FormatParam.{param_text, param_part_if}

pub loop-field-init : goal.loop-field-init
unfolding param_list_has_some params_to listed
loop-field-init g c = search rules

pub loop-field-preserved : goal.loop-field-preserved
loop-field-preserved g c =
    let p = c.args.self.now in
    let n = c.loop-field.field-index in
    elim c.match-param.branch [
      | in-Some+in_ok-write w ↦
          (let next = params_push p n _ w.in-Some.param c.loop-field-test.true (sym w.in-Some.ensures) in (
            w.started-is ∙ sym (ap param_list_has_some next ∙ param_list_has_some_push (params_to p n) w.in-Some.param),
            λ plain.
                let written = c.loop-field.invariant.1 plain in
                rw w.f-is (has_written_of_eq _ _ _ _ _
                (ap (λ b. listed 59 param_text (params_to p n) ++ (param_part_if 59 b ++ param_text w.in-Some.param))
                c.loop-field.invariant.0
                ∙ sym (listed_push 59 param_text (params_to p n) w.in-Some.param) ∙ sym (ap (listed 59 param_text) next))
                (has_written_append _ _ _ _ _ _ written (w.in_ok-write.ensures.writes written.plain refl))),
          ))
      | in_default w ↦
          (let same = params_pass p n _ c.loop-field-test.true (sym w.in_default.ensures) in (
            w.started-is ∙ c.loop-field.invariant.0 ∙ sym (ap param_list_has_some same),
            λ plain.
                rw w.f-is (has_written_of_eq _ _ _ _ _ (sym (ap (listed 59 param_text) same)) (c.loop-field.invariant.1 plain)),
          ))
    ]

pub returns-clause-writes : goal.returns-clause-writes
returns-clause-writes g c = λ plain ok.
    let all : c.loop-field.field-index ≡ length FIELDS = omega arith in
    has_written_of_eq _ _ _ _ _ (ap (λ n. listed 59 param_text (params_to c.args.self.now n)) all ∙ listed_all c.args.self.now)
    (c.loop-field.invariant.1 plain)
