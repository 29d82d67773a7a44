-- The fmtp lines of a section, each beside its type.
use Rattle.std.specs.Borrow.{Bor}
use Rattle.std.specs.Prelude.{ℕ, ◌==◌, List, Option, Some, None, filter_map, if◌then◌else◌}
use Rattle.str0m_sdp.specs.Prelude.{FormatParam}

-- the values of a line, where it is of the type
abbrev pub fmtp_line_with : ℕ → ℕ × Bor (List FormatParam) → Option (Bor (List FormatParam))
fmtp_line_with pt line = if line.0 == pt then Some line.1 else None

-- those of all lines of the type, in order
abbrev pub fmtp_lines_with : ℕ → List (ℕ × Bor (List FormatParam)) → List (Bor (List FormatParam))
fmtp_lines_with pt lines = filter_map (fmtp_line_with pt) lines
