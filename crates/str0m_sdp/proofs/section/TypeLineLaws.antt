-- Laws of fmtp lines by their types.
use Rattle.str0m_sdp.proofs.Common.{arith, ◌≡◌, ◌<◌, ◌+◌, ◌++◌, ℕ, List, [], ◌∷◌, All, length, take, get_or, slice_set, Bor, cases_eq}
use Rattle.str0m_sdp.proofs.Common.{eq-eqb, ne_eqb, get_or-set_other, length-set, FormatParam, get_or-set_at}
use Rattle.str0m_sdp.proofs.section.FmtpLineLaws.{own_fmtp_line_found, other_fmtp_line_not_found}
use Rattle.str0m_sdp.specs.declared.section.type_lines.TypeLines.{TypeLines}
use Rattle.str0m_sdp.specs.section.TypeLines.{AreGrouped}

-- one line more stands in the group of its type
pub type_line_more : (lines : List (ℕ × Bor (List FormatParam))) (i : ℕ) (item : ℕ × Bor (List FormatParam)) (groups : List TypeLines)
    (old group : TypeLines)
    → i < length lines → item ≡ get_or lines i item → item.0 < 256 → AreGrouped (take i lines) groups → old ≡ get_or groups item.0 old
    → group.lines.items ≡ old.lines.items ++ item.1 ∷ [] → group.known ≡ old.known
    → AreGrouped (take (i + 1) lines) (slice_set groups item.0 group)
type_line_more lines i item groups old group lt is small so_far here pushed kept =
    grind (arith, length-set, cases_eq, get_or-set_at, own_fmtp_line_found, eq-eqb, get_or-set_other, other_fmtp_line_not_found, ne_eqb)

-- groups without lines
abbrev pub AreTypeLinesEmpty : List TypeLines → Type 0
AreTypeLinesEmpty groups = All (λ (g : TypeLines). (g.lines.items ≡ []) × (g.known.items ≡ [])) groups
