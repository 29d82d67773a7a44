use Rattle.str0m_formats.proofs.format.FormatLineLaws.{format_of_line_is}
use Rattle.str0m_formats.proofs.format.format_line.format_in.Goals as goal

pub returns : goal.returns
returns c =
    let are = rw (c.as_slice.ensures.value, c.in_ok-pairs.ensures) at c.in_ok-params.ensures in
    let set = rw c.as_slice-2.ensures.value at c.set_all.ensures in
    format_of_line_is c.args.line.now c.in_ok-params.params.items c.bare_params_in-format.result c.set_all.new.self
    c.bare_params_in-format.ensures are
    set
