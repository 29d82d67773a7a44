-- What the line of a restricted stream prints (RFC 8851, section 10).
use Rattle.std.specs.List.{join_by}
use Rattle.std.specs.Prelude.{ℕ, List, [], ◌∷◌, ◌++◌, codes, decimal}
use Rattle.str0m_sdp.specs.declared.attribute.simulcast.RestrictionId.{RestrictionId}
use Rattle.str0m_sdp.specs.declared.label.TheConstants as label
use Rattle.str0m_sdp.specs.form.Printed.{attribute_line}

-- key `=` value
abbrev pub restriction_text : List ℕ × List ℕ → List ℕ
restriction_text pair = pair.0 ++ (codes "=" ++ pair.1)

-- the payload types, after their label
abbrev pub rid_pts_part : List ℕ → List ℕ
rid_pts_part [] = []
rid_pts_part (pt ∷ pts) = codes " pt=" ++ join_by decimal (codes ",") (pt ∷ pts)

-- what stands before the restrictions: `;` after payload types, else a space
abbrev pub before_restrictions : List ℕ → List ℕ
before_restrictions [] = codes " "
before_restrictions (pt ∷ pts) = codes ";"

abbrev pub restrictions_part : List ℕ → List (List ℕ × List ℕ) → List ℕ
restrictions_part pts [] = []
restrictions_part pts (pair ∷ pairs) = before_restrictions pts ++ join_by restriction_text (codes ";") (pair ∷ pairs)

-- the name, the direction, payload types, restrictions
abbrev pub rid_text : RestrictionId → List ℕ → List ℕ → List (List ℕ × List ℕ) → List ℕ
rid_text id direction pts restrictions =
    attribute_line (label.RID.now ++ (id.0 ++ (codes " " ++ (direction ++ (rid_pts_part pts ++ restrictions_part pts restrictions)))))
