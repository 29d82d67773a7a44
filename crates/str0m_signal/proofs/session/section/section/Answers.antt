use Rattle.str0m_signal.proofs.Common.{sym}
use Rattle.str0m_signal.proofs.line.LinesChainLaws.{chain_taken_none}
use Rattle.str0m_signal.proofs.line.LinesLaws.{line_found}
use Rattle.str0m_signal.proofs.session.SectionLaws.{head_both}
use Rattle.str0m_signal.proofs.session.section.section.Goals as goal
use Rattle.str0m_signal.specs.line.Heads.{media_head}
use Rattle.str0m_signal.specs.line.LinesReading.{lines_of}

pub returns-in_default : goal.returns-in_default
returns-in_default c = (chain_taken_none head_both c.args.text.now (rw c.in_default.is at c.in_ok-head.ensures)).1

pub returns : goal.returns
returns c = record {
  after_head = lines_of c.in-Some.rest.now;
  after_connection = lines_of c.skip_connection-rest.result.now;
  after_bandwidth = lines_of c.in_ok-bw.rest.now;
  connection = c.skip_connection-rest.ensures.0;
  head_is = line_found head_both (lines_of c.args.text.now) (media_head c.in-Some.head) (lines_of c.in-Some.rest.now)
      (sym (rw c.in-Some.is at c.in_ok-head.ensures));
  connection_is = c.skip_connection-rest.ensures.1;
  bandwidth_is = c.in_ok-bw.ensures;
  attributes_are = c.in_ok-attrs.ensures;
}
