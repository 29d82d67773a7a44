-- What a group of sources prints (RFC 5576, section 4.2).
use Rattle.std.specs.List.{join_by}
use Rattle.std.specs.Prelude.{ℕ, List, [], ◌∷◌, ◌++◌, codes, decimal}
use Rattle.str0m_sdp.specs.declared.label.TheConstants as label
use Rattle.str0m_sdp.specs.form.Printed.{attribute_line}

-- no line without sources
abbrev pub ssrc_group_text : List ℕ → List ℕ → List ℕ
ssrc_group_text semantics [] = []
ssrc_group_text semantics (ssrc ∷ ssrcs) = attribute_line (label.SSRC_GROUP.now ++ (semantics ++ (codes " " ++ join_by decimal (codes " ") (ssrc ∷ ssrcs))))
