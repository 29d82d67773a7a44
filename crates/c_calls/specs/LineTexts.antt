-- What calls write of the lines of a section.
use Rattle.c_calls.specs.Prelude.{MediaAttribute, rid_pts_part, restrictions_part}
use Rattle.c_calls.specs.declared.line_texts.LineText.{LineText}
use Rattle.c_calls.specs.declared.line_texts.LineText.TheVariants.{Uri, RidName, Restrictions, Semantics}
use Rattle.std.specs.Prelude.{ℕ, List, ◌++◌, Option, Some, None, drop}
use Rattle.str0m_sdp.specs.declared.attribute.MediaAttribute.TheVariants.{ExtMap, Rid, SsrcGroup}

-- payload types and restrictions as a rid line prints them, without the space before them
abbrev pub rid_line_restrictions : List ℕ → List (List ℕ × List ℕ) → List ℕ
rid_line_restrictions pts restrictions = drop 1 (rid_pts_part pts ++ restrictions_part pts restrictions)

-- where the line says it: the URI of a header extension (RFC 8285, section 5); the name of a stream, and what it is restricted to (RFC 8851,
-- section 4); what the sources of a group have in common (RFC 5576, section 4.2)
abbrev pub text_of_line : LineText → MediaAttribute → Option (List ℕ)
text_of_line Uri (ExtMap id ext) = Some ext.uri
text_of_line RidName (Rid id direction pts restrictions) = Some id.0
text_of_line Restrictions (Rid id direction pts restrictions) = Some (rid_line_restrictions pts restrictions)
text_of_line Semantics (SsrcGroup semantics ssrcs) = Some semantics
text_of_line what _ = None
