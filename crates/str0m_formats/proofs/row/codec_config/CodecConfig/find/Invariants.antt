use Rattle.str0m_formats.proofs.Common.{take}
use Rattle.str0m_formats.proofs.row.codec_config.CodecConfig.find.Given as goal
use Rattle.str0m_formats.specs.round.Choices.{RefusedAllChoices}

abbrev pub invariant-loop-row : goal.invariant-loop-row
invariant-loop-row g l = record {
  callable : goal.F-IsAlwaysCallable g l.accept;
  refused : RefusedAllChoices (goal.F-step g) l.initial.accept (take l.row-index l.row-items) l.accept;
}
