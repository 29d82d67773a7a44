-- Which fault of a section is told, where it isn't consistent, and what the message says.
use Rattle.std.specs.Prelude.{ℕ, not, ◌==◌, ◌&&◌, nat_lt, is_some, List, ◌++◌, codes, length, filter_map, count_by, if◌then◌else◌, Option, Some, None, option_map, Result, Ok, Err, decimal}
use Rattle.str0m_sdp.specs.Common.{first}
use Rattle.str0m_sdp.specs.Prelude.{FormatParam, static_spec, when, ◌<|>◌}
use Rattle.str0m_sdp.specs.attribute.MediaType.{media_type_text}
use Rattle.str0m_sdp.specs.attribute.Proto.{proto_text}
use Rattle.str0m_sdp.specs.declared.attribute.MediaAttribute.{MediaAttribute}
use Rattle.str0m_sdp.specs.declared.attribute.MediaAttribute.TheVariants.{Fmtp}
use Rattle.str0m_sdp.specs.declared.attribute.proto.Proto.{Proto}
use Rattle.str0m_sdp.specs.declared.attribute.proto.Proto.TheVariants.{Srtp, Sctp}
use Rattle.str0m_sdp.specs.declared.section.media_line.MediaLine.{MediaLine}
use Rattle.str0m_sdp.specs.declared.session.fault.Clash.{Clash}
use Rattle.str0m_sdp.specs.declared.session.fault.Fault.{Fault}
use Rattle.str0m_sdp.specs.declared.session.fault.Fault.TheVariants.{MissingMid, SecondMid, SecondSetup, Directions, MissingType, MissingMap, SecondMap, Apts}
use Rattle.str0m_sdp.specs.section.Consistency.{is_mid, mid_of, is_setup, is_direction, maps, section_apt_of, first_section_apt}

-- ---- what may be wrong, a question each

-- the mid of a section that has exactly one (RFC 8829, section 5.2.1)
abbrev pub one_mid : ℕ → Option (List ℕ) → Result (List ℕ) Fault
one_mid count None = Err MissingMid
one_mid count (Some mid) = if nat_lt 1 count then Err SecondMid else Ok mid

abbrev pub only_mid : List MediaAttribute → Result (List ℕ) Fault
only_mid attrs = one_mid (count_by is_mid attrs) (first (filter_map mid_of attrs))

-- a second setup
abbrev pub setup_fault : List MediaAttribute → List ℕ → Option Fault
setup_fault attrs mid = when (nat_lt 1 (count_by is_setup attrs)) (SecondSetup mid)

-- over Srtp another number of directions than one, then no type though the section isn't disabled
abbrev pub proto_fault : MediaLine → List ℕ → Proto → Option Fault
proto_fault m mid Sctp = None
proto_fault m mid Srtp =
    when (not (count_by is_direction m.attrs == 1)) (Directions mid)
    <|> when (not m.disabled && length m.pts == 0) (MissingType mid)

-- of a type of the m-line: none of its mappings where it needs one, or a second
abbrev pub mapping_fault : ℕ → List ℕ → ℕ → Option Fault
mapping_fault count mid pt =
    when (count == 0 && not (is_some (static_spec pt))) (MissingMap mid pt)
    <|> when (nat_lt 1 count) (SecondMap mid pt)

abbrev pub map_fault : List MediaAttribute → List ℕ → ℕ → Option Fault
map_fault attrs mid pt = mapping_fault (count_by (maps pt) attrs) mid pt

-- another primary type than the first that is named for the payload type
abbrev pub apt_clash_fault : List ℕ → ℕ → ℕ → Option ℕ → Option Fault
apt_clash_fault mid pt first None = None
apt_clash_fault mid pt first (Some other) =
    when (not (other == first)) (Apts (record { mid = mid; pt = pt; first = first; other = other }))

abbrev pub value_fault : List ℕ → ℕ → ℕ → FormatParam → Option Fault
value_fault mid pt first value = apt_clash_fault mid pt first (section_apt_of value)

-- the first value of an fmtp line that names one
abbrev pub values_fault : List ℕ → ℕ → List FormatParam → Option ℕ → Option Fault
values_fault mid pt values None = None
values_fault mid pt values (Some named) = first (filter_map (value_fault mid pt named) values)

abbrev pub apt_fault : List MediaAttribute → List ℕ → MediaAttribute → Option Fault
apt_fault attrs mid (Fmtp pt values) = values_fault mid pt values (first_section_apt pt attrs)
apt_fault attrs mid _ = None

-- ---- the first

-- what is wrong of a section beside its mids: its setups, its directions and types, the mapping of each type of the m-line,
-- in their order, and the primary types that its lines name, in theirs
abbrev pub fault_beside : MediaLine → List ℕ → Option Fault
fault_beside m mid =
    setup_fault m.attrs mid
    <|> (proto_fault m mid m.proto
    <|> (first (filter_map (map_fault m.attrs mid) m.pts)
    <|> first (filter_map (apt_fault m.attrs mid) m.attrs)))

abbrev pub after_mid : Result (List ℕ) Fault → (List ℕ → Option Fault) → Option Fault
after_mid (Err fault) beside = Some fault
after_mid (Ok mid) beside = beside mid

-- the fault that is told: that of its mids, else the first of the others
abbrev pub first_fault : MediaLine → Option Fault
first_fault m = after_mid (only_mid m.attrs) (fault_beside m)

-- the error of what finds a fault
abbrev pub err_if_fault : {E : Type 0} → Option E → Result (Unit {0}) E
err_if_fault None = Ok tt
err_if_fault (Some fault) = Err fault

-- ---- the message

-- of a payload type, at the end of a message
abbrev pub for_mid : List ℕ → List ℕ
for_mid mid = codes " for mid: " ++ mid

-- a section without a name of its own, by its media type and its protocol
abbrev pub nameless_section : MediaLine → List ℕ
nameless_section m = media_type_text m.typ ++ (codes " " ++ proto_text m.proto)

abbrev pub fault_clash_text : Clash → List ℕ
fault_clash_text c =
    codes "PT " ++ (decimal c.pt ++ (codes " has conflicting apt values " ++ (decimal c.first
    ++ (codes " and " ++ (decimal c.other ++ for_mid c.mid)))))

abbrev pub fault_text : MediaLine → Fault → List ℕ
fault_text m MissingMid = codes "Media is missing a=mid: " ++ nameless_section m
fault_text m SecondMid = codes "Media has more than one a=mid: " ++ nameless_section m
fault_text m (SecondSetup mid) = codes "Expected 0 or 1 a=setup: line" ++ for_mid mid
fault_text m (Directions mid) =
    codes "Expected exactly one of a=sendrecv, a=sendonly, a=recvonly, a=inactive" ++ for_mid mid
fault_text m (MissingType mid) = codes "Expected at least one PT" ++ for_mid mid
fault_text m (MissingMap mid pt) = codes "Missing a=rtp_map:" ++ (decimal pt ++ for_mid mid)
fault_text m (SecondMap mid pt) = codes "More than one a=rtp_map:" ++ (decimal pt ++ for_mid mid)
fault_text m (Apts c) = fault_clash_text c

-- the message of a section that isn't consistent
abbrev pub section_message : MediaLine → Option (List ℕ)
section_message m = option_map (fault_text m) (first_fault m)
