use Rattle.lint.proofs.Common.{Utf8, shadow}
use Rattle.lint.proofs.forms.Form.misfit.Given as goal

abbrev pub invariant-loop-step : goal.invariant-loop-step
invariant-loop-step l = shadow (Utf8 l.rest)
