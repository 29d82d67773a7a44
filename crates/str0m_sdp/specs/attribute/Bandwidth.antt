-- What bandwidths print (RFC 8866, section 5.8).
use Rattle.std.specs.Prelude.{ℕ, List, [], ◌++◌, Option, Some, None, codes}
use Rattle.str0m_sdp.specs.declared.attribute.bandwidth.Bandwidth.{Bandwidth}
use Rattle.str0m_sdp.specs.form.Printed.{printed_line_end}

abbrev pub bandwidth_text : Bandwidth → List ℕ
bandwidth_text bw = codes "b=" ++ (bw.typ ++ (codes ":" ++ (bw.val ++ printed_line_end)))

-- the line of a bandwidth where there is one
abbrev pub bandwidth_line : Option Bandwidth → List ℕ
bandwidth_line None = []
bandwidth_line (Some bw) = bandwidth_text bw
