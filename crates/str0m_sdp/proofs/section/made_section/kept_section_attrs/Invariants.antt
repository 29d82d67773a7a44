use Rattle.str0m_sdp.proofs.Common.{◌≡◌, filter, not, take}
use Rattle.str0m_sdp.proofs.section.made_section.kept_section_attrs.Given as goal
use Rattle.str0m_sdp.specs.section.MadeSection.{is_of_type}

-- copies of those so far that describe no payload type
abbrev pub invariant-loop-attr : goal.invariant-loop-attr
invariant-loop-attr l = l.kept.items ≡ filter (λ attr. not (is_of_type attr)) (take l.attr-index l.attrs)
