use Rattle.str0m_values.proofs.Common.{rules, bytes_eq-Decides}
use Rattle.str0m_values.proofs.cuts.is_same_text.Goals as goal

pub returns : goal.returns
returns c = search (rules, bytes_eq-Decides)
