use Rattle.show.proofs.row_lines.rows_text.Given as goal
use Rattle.show.specs.RowLines.{section_lines}
use Rattle.std.proofs.Common.{◌≡◌, take}
use Rattle.std.specs.List.{flat_map}
use Rattle.std.specs.String.{string_bytes}

-- the lines of the sections so far are there
abbrev pub invariant-loop-section : goal.invariant-loop-section
invariant-loop-section l = string_bytes l.text ≡ flat_map section_lines (take l.section-index l.section-items)
