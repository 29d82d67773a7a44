-- What the mapping of a header extension prints (RFC 8285, section 5).
use Rattle.std.specs.Prelude.{ℕ, Bool, true, false, List, [], ◌++◌, codes, decimal}
use Rattle.str0m_sdp.specs.Prelude.{Extension}
use Rattle.str0m_sdp.specs.declared.label.TheConstants as label
use Rattle.str0m_sdp.specs.form.Printed.{attribute_line}

-- no line for an extension that isn't written
abbrev pub ext_map_if_written : Bool → List ℕ → List ℕ
ext_map_if_written true line = line
ext_map_if_written false line = []

abbrev pub ext_map_text : ℕ → Extension → List ℕ
ext_map_text id ext = ext_map_if_written ext.serialized (attribute_line (label.EXTMAP.now ++ (decimal id ++ (codes " " ++ ext.uri))))
