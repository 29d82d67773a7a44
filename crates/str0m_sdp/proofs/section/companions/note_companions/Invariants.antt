use Rattle.str0m_sdp.proofs.Common.{◌≡◌, ℕ, Some, take, if◌then◌else◌, list_any}
use Rattle.str0m_sdp.proofs.section.companions.note_companions.Given as goal
use Rattle.str0m_sdp.specs.section.Companions.{names_type}
use Rattle.str0m_sdp.specs.section.TypeTables.{IsWholeTable, type_in_table}

-- each type has the own type where a value so far names it, and else what it had
abbrev pub invariant-loop-value : goal.invariant-loop-value
invariant-loop-value l = (IsWholeTable l.initial.companions → IsWholeTable l.companions)
    × (IsWholeTable l.initial.companions → (n : ℕ) → type_in_table l.companions n
    ≡ (if list_any (names_type l.codec n) (take l.value-index l.values) then Some l.pt else type_in_table l.initial.companions n))
