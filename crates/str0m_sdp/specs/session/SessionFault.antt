-- Which fault of a session is told, where it isn't consistent, and what the message says.
use Rattle.std.specs.Prelude.{◌≡◌, ℕ, not, ◌==◌, List, [], ◌∷◌, ◌++◌, codes, length, find, filter_map, Option, Some, None, option_map, decimal, zip, bytes_eq, string_bytes}
use Rattle.str0m_sdp.specs.Common.{first}
use Rattle.str0m_sdp.specs.Prelude.{when, ◌<|>◌}
use Rattle.str0m_sdp.specs.declared.section.media_line.MediaLine.{MediaLine}
use Rattle.str0m_sdp.specs.declared.session.Sdp.{Sdp}
use Rattle.str0m_sdp.specs.declared.session.error.SdpError.{SdpError}
use Rattle.str0m_sdp.specs.declared.session.error.SdpError.TheVariants.{ParseError, Inconsistent, Memory}
use Rattle.str0m_sdp.specs.declared.session.fault.SessionFault.{SessionFault}
use Rattle.str0m_sdp.specs.declared.session.fault.SessionFault.TheVariants.{SharedMid, MissingGroup, Count, Order}
use Rattle.str0m_sdp.specs.session.Fault.{section_message}
use Rattle.str0m_sdp.specs.session.SessionConsistency.{first_group, is_group_listed, mids_in_part, section_mids}

-- ---- what may be wrong, a question each

-- the first mid that a later section has again (RFC 5888, section 4)
abbrev pub first_mid_again : List (List ℕ) → Option (List ℕ)
first_mid_again [] = None
first_mid_again (mid ∷ mids) = when (is_group_listed mids (Some mid)) mid <|> first_mid_again mids

-- the first place where two lists of mids differ
abbrev pub first_group_difference : List (List ℕ) → List (List ℕ) → Option (List ℕ × List ℕ)
first_group_difference mids others = find (λ pair. not (bytes_eq pair.0 pair.1)) (zip mids others)

-- of the mids that take part and those of the group: their number, then their order (which RFC 9143, section 7.2, leaves free)
abbrev pub listing_fault : List (List ℕ) → List (List ℕ) → Option SessionFault
listing_fault mids group =
    when (not (length mids == length group)) (Count (length group) (length mids))
    <|> option_map (λ pair. Order pair.0 pair.1) (first_group_difference mids group)

-- of the first group, where there is one (RFC 8829, section 5.2.1)
abbrev pub group_fault : List MediaLine → Option (List (List ℕ)) → Option SessionFault
group_fault sections None = Some MissingGroup
group_fault sections (Some group) = listing_fault (mids_in_part group sections) group

-- ---- the first

-- between the sections, then between them and the group
abbrev pub first_session_fault : Sdp → Option SessionFault
first_session_fault sdp =
    option_map SharedMid (first_mid_again (section_mids sdp.media_lines))
    <|> group_fault sdp.media_lines (first_group sdp.session.attrs)

-- ---- the message

abbrev pub session_fault_text : SessionFault → List ℕ
session_fault_text (SharedMid mid) = codes "Mid " ++ (mid ++ codes " is used by more than one m-line")
session_fault_text MissingGroup = codes "Session attribute a=group missing"
session_fault_text (Count group sections) =
    codes "a=group mid count doesn't match m-line count " ++ (decimal group ++ (codes " != " ++ decimal sections))
session_fault_text (Order section group) =
    codes "Mid order not matching a=group " ++ (section ++ (codes " != " ++ group))

-- the message of the first section that isn't consistent
abbrev pub sections_message : List MediaLine → Option (List ℕ)
sections_message sections = first (filter_map section_message sections)

-- the message of a session that isn't consistent: of its sections, else of the session
abbrev pub session_message : Sdp → Option (List ℕ)
session_message sdp =
    sections_message sdp.media_lines
    <|> option_map session_fault_text (first_session_fault sdp)

-- a contradiction is told by this text, and out of memory tells none
abbrev pub TellsSessionContradiction : Option (List ℕ) → SdpError → Type 0
TellsSessionContradiction message (ParseError text) = ⊥
TellsSessionContradiction message (Inconsistent text) = Some (string_bytes text) ≡ message
TellsSessionContradiction message Memory = Unit {0}
