-- Groups that are counted.
use Rattle.c_parts.specs.SourceGroup.{c_members, groups_numbered_from}
use Rattle.c_parts.specs.declared.source_group.SourceInGroup.{SourceInGroup}
use Rattle.std.proofs.Common.{◌≡◌, ℕ, ◌+◌, List, [], ◌∷◌, ◌++◌, append_assoc, ap, arith, length, sym, ◌∙◌}

-- what stands behind some groups is counted on from their number
pub counted_on : (k : ℕ) (groups more : List (List ℕ)) → groups_numbered_from k (groups ++ more) ≡ groups_numbered_from k groups
    ++ groups_numbered_from (k + length groups) more
counted_on k [] more = ap (λ n. groups_numbered_from n more) (omega arith)
counted_on k (ssrcs ∷ groups) more =
    ap (λ (found : List SourceInGroup). c_members k ssrcs ++ found) (counted_on (k + 1) groups more)
    ∙ sym (append_assoc (c_members k ssrcs) (groups_numbered_from (k + 1) groups) (groups_numbered_from (k + 1 + length groups) more))
    ∙ ap (λ n. (c_members k ssrcs ++ groups_numbered_from (k + 1) groups) ++ groups_numbered_from n more) (omega arith)
