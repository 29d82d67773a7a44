use Rattle.str0m_signal.proofs.Common.{sym, ◌∙◌, codes, none-some}
use Rattle.str0m_signal.proofs.line.LinesChainLaws.{chain_taken_none}
use Rattle.str0m_signal.proofs.line.LinesLaws.{line_found}
use Rattle.str0m_signal.proofs.session.HeaderLaws.{header_exact_line_both, header_opening_found, header_opening_given}
use Rattle.str0m_signal.proofs.session.ReaderLaws.{reader_no_timing}
use Rattle.str0m_signal.proofs.session.header.next_header.Goals as goal
use Rattle.str0m_signal.specs.line.LinesReading.{lines_of}

pub returns-in_default : goal.returns-in_default
returns-in_default c header rest h = none-some (header.id, h.after_opening)
    (c.in_default.ensures ∙ header_opening_given (lines_of c.args.text.now) header.id h.after_opening h.opening_is)

pub returns-in_default-exact_line : goal.returns-in_default-exact_line
returns-in_default-exact_line c =
    reader_no_timing (lines_of c.args.text.now) c.in-Some.id (lines_of c.in-Some.rest.now) (lines_of c.skip_header_infos-rest.result.now)
    (lines_of c.in_ok-bw.rest.now) c.skip_header_infos-rest.ensures.0 c.in_ok-bw.bw (sym c.in-Some.ensures)
    c.skip_header_infos-rest.ensures.1
    c.in_ok-bw.ensures
    (chain_taken_none (header_exact_line_both (codes "t=0 0")) c.in_ok-bw.rest.now c.in_default-exact_line.ensures).1

pub returns : goal.returns
returns c =
    let timing = line_found (header_exact_line_both (codes "t=0 0")) (lines_of c.in_ok-bw.rest.now) (codes "t=0 0")
    (lines_of c.in-Some-exact_line.rest.now)
    (sym c.in-Some-exact_line.ensures) in
    record {
      after_opening = lines_of c.in-Some.rest.now;
      after_infos = lines_of c.skip_header_infos-rest.result.now;
      after_bandwidth = lines_of c.in_ok-bw.rest.now;
      after_timing = lines_of c.in-Some-exact_line.rest.now;
      infos = c.skip_header_infos-rest.ensures.0;
      repeats = c.skip_header_repeats-rest.ensures.0;
      opening_is = rw c.from.ensures
          (header_opening_found (lines_of c.args.text.now) c.in-Some.id (lines_of c.in-Some.rest.now) (sym c.in-Some.ensures));
      infos_are = c.skip_header_infos-rest.ensures.1;
      bandwidth_is = c.in_ok-bw.ensures;
      timing_is = timing;
      repeats_are = c.skip_header_repeats-rest.ensures.1;
    }
