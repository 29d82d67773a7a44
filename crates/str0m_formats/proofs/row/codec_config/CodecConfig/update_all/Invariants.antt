use Rattle.str0m_formats.proofs.Common.{◌≡◌, length, take}
use Rattle.str0m_formats.proofs.row.codec_config.CodecConfig.update_all.Given as goal
use Rattle.str0m_formats.specs.round.RoundsRuns.{RunReached}

-- the rounds so far are run, with their outcomes, and nothing but the rows is changed
abbrev pub invariant-loop-i : goal.invariant-loop-i
invariant-loop-i l =
    RunReached l.initial.self.params.items (take l.i l.rounds) (take l.i l.outcomes.items) l.self.params.items
    × (length l.outcomes.items ≡ length l.rounds)
    × (l.self ≡ record l.initial.self { params = l.self.params })
