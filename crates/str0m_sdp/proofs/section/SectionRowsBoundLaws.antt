-- Where lines keep to their ranges, rows do.
use Rattle.str0m_formats.specs.format.FormatParams.{set}
use Rattle.str0m_sdp.proofs.Common.{rules, arith, ◌≡◌, ◌≤◌, ◌++◌, ℕ, Bool, cond, not, List, [], ◌∷◌, Option, Some, None, All, IfSome}
use Rattle.str0m_sdp.proofs.Common.{filter, find, nat_eq, option_to_list, filter_map, All-nil, All-head, All-tail, IsBounded, static_spec}
use Rattle.str0m_sdp.proofs.Common.{format_of_fmtp, empty, set_all, Codec, CodecSpec, FormatParam, FormatParams, nat_lt, option_map}
use Rattle.str0m_sdp.proofs.Common.{All-append, All-filter, AreModes, IsDistance, events_end, is_event, line_without_event_ranges}
use Rattle.str0m_sdp.proofs.Common.{params_of_lines, static_small}
use Rattle.str0m_sdp.proofs.section.MappingsFilterMap.{all_mapped, filter_map_last_of_all}
use Rattle.str0m_sdp.specs.Common.{distinct}
use Rattle.str0m_sdp.specs.declared.attribute.MediaAttribute.{MediaAttribute}
use Rattle.str0m_sdp.specs.declared.section.media_line.MediaLine.{MediaLine}
use Rattle.str0m_sdp.specs.section.Companions.{companion_in, companion, rtx_companion, red_companion}
use Rattle.str0m_sdp.specs.section.Mappings.{mapping, unmapped_type, mapped}
use Rattle.str0m_sdp.specs.section.SectionRows.{IsRowInBounds, KeepsToRowLine, KeepsToRowLines, fmtp_values_in, fmtps_of, is_kept, row_with}
use Rattle.str0m_sdp.specs.section.SectionRows.{row}
use Rattle.str0m_sdp.specs.section.SectionRows.{rows}

abbrev IsType : ℕ → Type 0
IsType n = n ≤ 127

-- ---- formats

-- the fields of a format that have ranges keep to them
abbrev RowFieldsWithin : FormatParams → Type 0
RowFieldsWithin p = IfSome p.mode_set AreModes × IfSome p.sprop_max_don_diff IsDistance

bound_set_within : (param : FormatParam) (p : FormatParams) → IsRowInBounds param → RowFieldsWithin p → RowFieldsWithin (set param p)
bound_set_within param p range within = grind arith

bound_all_within : (params : List FormatParam) (p : FormatParams) → All IsRowInBounds params → RowFieldsWithin p
    → RowFieldsWithin (set_all p params)
bound_all_within [] p ranges within = within
bound_all_within (param ∷ params) p ranges within =
    bound_all_within params (set param p) (All-tail IsRowInBounds param params ranges)
    (bound_set_within param p (All-head IsRowInBounds param params ranges) within)

bound_values_within : (lines : List (List FormatParam)) → All (All IsRowInBounds) lines → All IsRowInBounds (params_of_lines lines)
bound_values_within [] ranges = All-nil IsRowInBounds
bound_values_within (line ∷ lines) ranges =
    All-append IsRowInBounds (line_without_event_ranges line) (params_of_lines lines)
    (All-filter (λ param. not (is_event param)) IsRowInBounds line (All-head (All IsRowInBounds) line lines ranges))
    (bound_values_within lines (All-tail (All IsRowInBounds) line lines ranges))

row_events_within : (max : Option ℕ) → IfSome (option_map (λ n. record empty { telephone_event_max = Some n }) max) RowFieldsWithin
row_events_within max = grind arith

row_unless_refused : (b : Bool) (p : FormatParams) → RowFieldsWithin p → IfSome (cond b None (Some p)) RowFieldsWithin
row_unless_refused b p within = grind arith

format_within : (codec : Codec) (lines : List (List FormatParam)) → All (All IsRowInBounds) lines
    → IfSome (format_of_fmtp codec lines) RowFieldsWithin
format_within codec lines ranges = grind (arith, row_events_within, events_end, row_unless_refused, bound_all_within, bound_values_within)

bound_line_within : (pt : ℕ) (attr : MediaAttribute) → KeepsToRowLine attr → IfSome (fmtp_values_in pt attr) (All IsRowInBounds)
bound_line_within pt attr keeps = grind arith

bound_lines_within : (attrs : List MediaAttribute) (pt : ℕ) → All KeepsToRowLine attrs → All (All IsRowInBounds) (fmtps_of attrs pt)
unfolding fmtps_of
bound_lines_within attrs pt keeps = all_mapped KeepsToRowLine (All IsRowInBounds) (fmtp_values_in pt) (bound_line_within pt) attrs keeps

-- ---- types

bound_companion_small_in : (codec : Codec) (types : List (ℕ × CodecSpec)) (pt : ℕ) (attr : MediaAttribute) → KeepsToRowLine attr
    → IfSome (companion_in codec types pt attr) IsType
bound_companion_small_in codec types pt attr keeps = grind arith

bound_companion_small : (codec : Codec) (types : List (ℕ × CodecSpec)) (attrs : List MediaAttribute) (pt : ℕ) → All KeepsToRowLine attrs
    → IfSome (companion codec types attrs pt) IsType
unfolding companion
bound_companion_small codec types attrs pt keeps = search (rules, filter_map_last_of_all, all_mapped, bound_companion_small_in)

bound_small_if : (b : Bool) (o : Option ℕ) → IfSome o IsType → IfSome (cond b o None) IsType
bound_small_if b o small = grind arith

mapping_small : (attr : MediaAttribute) → KeepsToRowLine attr → IfSome (mapping attr) (λ type. IsType type.0)
mapping_small attr keeps = grind arith

row_small_static : (pt : ℕ) (o : Option CodecSpec) → static_spec pt ≡ o
    → IfSome {T = ℕ × CodecSpec} (option_map (λ spec. (pt, spec)) o) (λ type. IsType type.0)
row_small_static pt o is = grind (arith, static_small)

unless_mapped : {X : Type 0} (P : X → Type 0) (b : Bool) (o : Option X) → IfSome o P → IfSome (cond b None o) P
unless_mapped P b o holds = grind arith

row_unmapped_small : (attrs : List MediaAttribute) (pt : ℕ) → Unit {0} → IfSome (unmapped_type attrs pt) (λ type. IsType type.0)
row_unmapped_small attrs pt _ = grind (arith, unless_mapped, row_small_static)

mapped_small : (m : MediaLine) → KeepsToRowLines m → All (λ type. IsType type.0) (mapped m)
unfolding mapped
mapped_small m keeps =
    All-append (λ type. IsType type.0) (filter_map mapping m.attrs) (filter_map (unmapped_type m.attrs) (distinct nat_eq m.pts))
    (all_mapped KeepsToRowLine (λ type. IsType type.0) mapping mapping_small m.attrs keeps)
    (all_mapped (λ _. Unit {0}) (λ type. IsType type.0) (unmapped_type m.attrs) (row_unmapped_small m.attrs) (distinct nat_eq m.pts)
    (λ k d lt. tt))

-- ---- rows

small_types : (pt : ℕ) (resend red : Option ℕ) → IsType pt → IfSome resend IsType → IfSome red IsType
    → find (nat_lt 127) (pt ∷ (option_to_list resend ++ option_to_list red)) ≡ None
small_types pt resend red first second third = grind arith

if_format : {X Y : Type 0} (P : X → Type 0) (Q : Y → Type 0) (f : X → Y) (o : Option X) → ((x : X) → P x → Q (f x)) → IfSome o P
    → IfSome (option_map f o) Q
if_format P Q f o each holds = grind arith

row_bounded : (m : MediaLine) → KeepsToRowLines m → (type : ℕ × CodecSpec) → IsType type.0 → IfSome (row m type) IsBounded
unfolding row
row_bounded m keeps (pt, spec) small =
    if_format RowFieldsWithin IsBounded (row_with m pt spec) (format_of_fmtp spec.codec (fmtps_of m.attrs pt))
    (λ format within. record {
      types = small_types pt (rtx_companion m pt) (red_companion m pt spec.codec) small
          (bound_companion_small _ (mapped m) m.attrs pt keeps) (bound_small_if _ _ (bound_companion_small _ (mapped m) m.attrs pt keeps));
      modes = within.0;
      distance = within.1;
    })
    (format_within spec.codec (fmtps_of m.attrs pt) (bound_lines_within m.attrs pt keeps))

-- the rows of a section whose lines keep to their ranges keep to theirs
pub rows_bounded : (m : MediaLine) → KeepsToRowLines m → All IsBounded (rows m)
unfolding rows
rows_bounded m keeps =
    all_mapped (λ type. IsType type.0) IsBounded (row m) (row_bounded m keeps) (filter (is_kept m) (mapped m))
    (All-filter (is_kept m) (λ type. IsType type.0) (mapped m) (mapped_small m keeps))
