use Rattle.str0m_formats.proofs.Common.{◌∙◌, rules, sym}
use Rattle.str0m_formats.proofs.round.MatchScoreLaws.{score_in_full, score_of_amr_wb}
use Rattle.str0m_formats.proofs.round.match_score.spec_score.Goals as goal

pub returns-in-Some-eq100-clause-score : goal.returns-in-Some-eq100-clause-score
returns-in-Some-eq100-clause-score c = sym (score_in_full c.args.own.now c.args.other.now (search rules) (search rules) (search rules))

pub returns-in_default-2-2-clause-score : goal.returns-in_default-2-2-clause-score
returns-in_default-2-2-clause-score c =
    sym (score_of_amr_wb c.args.own.now c.args.other.now (search rules) (search rules) (search rules) ∙ search rules)
