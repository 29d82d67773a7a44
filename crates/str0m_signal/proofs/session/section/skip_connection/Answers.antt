use Rattle.str0m_signal.proofs.Common.{sym, Some, None, codes}
use Rattle.str0m_signal.proofs.line.LinesChainLaws.{chain_taken_none}
use Rattle.str0m_signal.proofs.line.LinesLaws.{line_found}
use Rattle.str0m_signal.proofs.session.SectionLaws.{section_field_both}
use Rattle.str0m_signal.proofs.session.section.skip_connection.Goals as goal
use Rattle.str0m_signal.specs.line.LinesReading.{lines_of}

pub returns-in-Some : goal.returns-in-Some
returns-in-Some c = (
  Some c.in-Some.field-0-0.now,
  line_found (section_field_both (codes "c=")) (lines_of c.args.text.now) c.in-Some.field-0-0.now
      (lines_of c.in-Some.rest.now) (sym c.in-Some.ensures),
)

pub returns-in-None : goal.returns-in-None
returns-in-None c = (None, chain_taken_none (section_field_both (codes "c=")) c.args.text.now c.in-None.ensures)
