-- Mids in the order of their bytes.
use Rattle.std.specs.BTreeSet.{BTreeSet, contains_by}
use Rattle.std.specs.Borrow.{Bor}
use Rattle.std.specs.Cmp.Lexicographic.{slice_cmp}
use Rattle.std.specs.Ordering.{nat_cmp}
use Rattle.std.specs.Prelude.{◌≡◌, ℕ, Bool, false, cond, not, ◌||◌, List, Option, Some, None}
use Rattle.str0m_sdp.specs.declared.section.media_line.MediaLine.{MediaLine}
use Rattle.str0m_sdp.specs.session.SessionConsistency.{is_group_listed, section_mid}

-- whether a mid is among the names
abbrev pub is_mid_held : BTreeSet (Bor (List ℕ)) → Option (List ℕ) → Bool
is_mid_held names None = false
is_mid_held names (Some mid) = contains_by (λ name. slice_cmp nat_cmp mid name.now) names

-- the names are the mids of the list
abbrev pub HoldsMids : BTreeSet (Bor (List ℕ)) → List (List ℕ) → Type 0
HoldsMids names mids = (mid : Option (List ℕ)) → is_mid_held names mid ≡ is_group_listed mids mid

-- whether a section takes part in the group whose mids the names are
abbrev pub is_group_member : BTreeSet (Bor (List ℕ)) → MediaLine → Bool
is_group_member names m = not m.disabled || is_mid_held names (section_mid m)

-- the mid of a section that does
abbrev pub part_mid : BTreeSet (Bor (List ℕ)) → MediaLine → Option (List ℕ)
part_mid names m = cond (is_group_member names m) (section_mid m) None
