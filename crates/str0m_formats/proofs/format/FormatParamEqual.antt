-- When two parameters are equal: each variant by what it holds, and two variants never.
use Rattle.str0m_formats.proofs.Common.{◌≡◌, Decides}
use Rattle.str0m_formats.proofs.format.FormatParamsDerived.{ParamEqualityTest, param_eq_along, param_equality}
use Rattle.str0m_formats.proofs.format.FormatParamsEqual.{eq_h265, eq_h266}
use Rattle.str0m_formats.specs.contracts.format.format_param.FormatParam as param_type
use Rattle.str0m_formats.specs.contracts.format.format_param.FormatParamPartialEq.TheImpl as param_eq
use Rattle.str0m_formats.specs.declared.format.format_param.FormatParam.{FormatParam}

abbrev eq_param : ParamEqualityTest FormatParam
eq_param = param_eq_along param_type.as_values param_type.the_make param_type.the_eta (hlevel (eq_h265, eq_h266, param_equality))

pub param_Decides : (a b : FormatParam) → Decides (param_eq.eq-value.it a b) (a ≡ b)
param_Decides a b = eq_param.decides a b
