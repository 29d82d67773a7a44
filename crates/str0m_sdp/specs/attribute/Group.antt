-- What the lines of a session print that list names.
use Rattle.std.specs.List.{join_by}
use Rattle.std.specs.Prelude.{ℕ, List, ◌++◌, codes, flat_map}
use Rattle.str0m_sdp.specs.declared.label.TheConstants as label
use Rattle.str0m_sdp.specs.form.Printed.{attribute_line}

-- the kind of the group, and its names, each after a space (RFC 5888, section 5)
abbrev pub group_text : List ℕ → List (List ℕ) → List ℕ
group_text typ mids = attribute_line (label.GROUP.now ++ (typ ++ flat_map (λ mid. codes " " ++ mid) mids))

-- a space, what the ids mean, a space, and the ids with a space between each two
abbrev pub msid_semantic_text : List ℕ → List (List ℕ) → List ℕ
msid_semantic_text semantic ids =
    attribute_line (codes "msid-semantic: " ++ (semantic ++ (codes " " ++ join_by (λ id. id) (codes " ") ids)))
