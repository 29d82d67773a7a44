-- What a line of parameters, and the fmtp lines of a payload type, say of a format.
use Rattle.std.specs.Borrow.{Bor}
use Rattle.std.specs.List.{AllZip, list_any, slice_split}
use Rattle.std.specs.Prelude.{◌≡◌, ◌==◌, ◌&&◌, ℕ, Bool, true, false, not, List, [], ◌∷◌, ◌++◌, map, filter, filter_map, Option, Some, None, option_map, if◌then◌else◌}
use Rattle.std.specs.Str.{trim}
use Rattle.str0m_formats.specs.Prelude.{before, cut, lacks, when}
use Rattle.str0m_formats.specs.codec.Codec.{is_amr_wb}
use Rattle.str0m_formats.specs.declared.codec.Codec.{Codec}
use Rattle.str0m_formats.specs.declared.codec.Codec.TheVariants.{Tele}
use Rattle.str0m_formats.specs.declared.format.format_param.FormatParam.{FormatParam}
use Rattle.str0m_formats.specs.declared.format.format_param.FormatParam.TheVariants.{TelephoneEvents, BareRange, AmrWbUnsupported}
use Rattle.str0m_formats.specs.declared.format.format_params.FormatParams.{FormatParams}
use Rattle.str0m_formats.specs.format.FormatParam.{IsBareParam}
use Rattle.str0m_formats.specs.format.FormatParams.{empty, set_all}
use Rattle.str0m_formats.specs.format.Pairs.{ArePairsRead}
use Rattle.str0m_formats.specs.round.Narrowing.{telephone_max}

-- ---- a line

abbrev pub pieces : List ℕ → List (List ℕ)
pieces line = slice_split (λ b. b == 59) line

-- the key and the value of a piece, trimmed: what stands before its first `=`, and from there to the second
abbrev pub pair_in : List ℕ → Option (List ℕ × List ℕ)
pair_in piece = option_map (λ parts. (trim parts.0, trim (before 61 parts.1))) (cut 61 piece)

-- the value of a piece without a key, trimmed
abbrev pub bare_param_in : List ℕ → Option (List ℕ)
bare_param_in piece = when (lacks 61 piece) (trim piece)

unfoldable pub pairs_in : List (List ℕ) → List (List ℕ × List ℕ)
pairs_in pieces = filter_map pair_in pieces

unfoldable pub bare_params_in : List (List ℕ) → List (List ℕ)
bare_params_in pieces = filter_map bare_param_in pieces

-- what the pieces without a key say
pub record IsFormatOfBares (pieces : List (List ℕ)) (p : FormatParams) : Type 0 where
  pub bares : List FormatParam
  pub bares_are : AllZip IsBareParam (bare_params_in pieces) bares
  pub format : p ≡ set_all empty bares

-- the pieces without a key are set first, then what the pairs read as, together
pub record IsFormatOfLine (line : List ℕ) (p : FormatParams) : Type 0 where
  pub bares : List FormatParam
  pub params : List FormatParam
  pub bares_are : AllZip IsBareParam (bare_params_in (pieces line)) bares
  pub params_are : ArePairsRead (pairs_in (pieces line)) params
  pub format : p ≡ set_all empty (bares ++ params)

-- ---- the fmtp lines of a payload type

unfoldable pub is_event : FormatParam → Bool
is_event (TelephoneEvents n) = true
is_event _ = false

unfoldable pub is_unsupported_param : FormatParam → Bool
is_unsupported_param AmrWbUnsupported = true
is_unsupported_param _ = false

abbrev pub event_range_end : FormatParam → Option ℕ
event_range_end (TelephoneEvents n) = Some n
event_range_end (BareRange n) = Some n
event_range_end _ = None

-- the highest event: that of a format which says none without a line, else that of one line that is one range
abbrev pub events_end : List (List FormatParam) → Option ℕ
events_end [] = Some (telephone_max empty)
events_end ((param ∷ []) ∷ []) = event_range_end param
events_end _ = None

-- the values without ranges of events
abbrev pub line_without_event_ranges : List FormatParam → List FormatParam
line_without_event_ranges params = filter (λ param. not (is_event param)) params

-- the values of all lines, without ranges of events
abbrev pub params_of_lines : List (List FormatParam) → List FormatParam
params_of_lines [] = []
params_of_lines (line ∷ lines) = line_without_event_ranges line ++ params_of_lines lines

-- whether a line of AMR-WB asks for what isn't there
unfoldable pub format_lines_ask_absent : Codec → List (List FormatParam) → Bool
format_lines_ask_absent codec lines = is_amr_wb codec && list_any (λ line. list_any is_unsupported_param line) lines

-- the format that the lines say of the codec, where they don't ask for what isn't there
abbrev pub format_of_fmtp : Codec → List (List FormatParam) → Option FormatParams
format_of_fmtp Tele lines = option_map (λ max. record empty { telephone_event_max = Some max }) (events_end lines)
format_of_fmtp codec lines = if format_lines_ask_absent codec lines then None else Some (set_all empty (params_of_lines lines))

-- lines without where they lie in memory
abbrev pub format_line_values : List (Bor (List FormatParam)) → List (List FormatParam)
format_line_values lines = map (λ line. line.now) lines
