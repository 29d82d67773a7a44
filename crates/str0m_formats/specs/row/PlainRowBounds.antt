-- Rows whose numbers keep to their ranges, and those whose numbers fit the types of their fields.
use Rattle.std.specs.Prelude.{◌<◌, ◌≤◌, ℕ, IfSome, if◌then◌else◌, nat_le}
use Rattle.str0m_formats.specs.declared.format.format_key.FormatKey.{FormatKey}
use Rattle.str0m_formats.specs.declared.format.format_params.Field.TheVariants as field
use Rattle.str0m_formats.specs.declared.format.format_params.FormatParams.{FormatParams}
use Rattle.str0m_formats.specs.declared.row.payload_params.PayloadParams.{PayloadParams}
use Rattle.str0m_formats.specs.format.FormatParam.{Kind, number, hex, modes, HeldParamValue, kind}
use Rattle.str0m_formats.specs.format.FormatParams.{get}
use Rattle.str0m_formats.specs.row.PayloadParams.{AllTypesSmall, types_of}

-- some of the modes 0 to 8, a bit each (RFC 4867, section 8.2)
abbrev pub AreModes : ℕ → Type 0
AreModes mask = (0 < mask) × (mask ≤ 511)

-- a distance in decoding order (RFC 7798, section 7.1)
abbrev pub IsDistance : ℕ → Type 0
IsDistance n = n ≤ 32767

-- the types of a row have seven bits, its modes and its distance keep to their ranges
pub record IsBounded (row : PayloadParams) : Type 0 where
  pub types : AllTypesSmall (types_of row)
  pub modes : IfSome row.spec.format.mode_set AreModes
  pub distance : IfSome row.spec.format.sprop_max_don_diff IsDistance

-- a number of eight bits, and one of 32
abbrev pub IsByte : ℕ → Type 0
IsByte n = n ≤ 255

abbrev pub IsU32 : ℕ → Type 0
IsU32 n = n ≤ 4294967295

-- the greatest number of the type that holds a number up to the limit: of `u8`, `u16` and `u32` the first that reaches it
abbrev pub type_bound_of : ℕ → ℕ
type_bound_of limit = if nat_le limit 255 then 255 else if nat_le limit 65535 then 65535 else 4294967295

-- the value of a kind fits the type in which it is held
abbrev pub FitsType : (kind : Kind) → HeldParamValue kind → Type 0
FitsType (number limit) n = n ≤ type_bound_of limit
FitsType hex n = n ≤ type_bound_of 4294967295
FitsType modes mask = mask ≤ type_bound_of 511
FitsType kind x = Unit {0}

-- the numbers of a format fit the types of its fields, as they do in every format that a program holds
pub record HoldsRowFormatNumbers (p : FormatParams) : Type 0 where
  pub keys : (key : FormatKey) → IfSome (get (field.Key key) p) (FitsType (kind key))
  pub telephone_event_max : IfSome p.telephone_event_max IsByte

-- so do the numbers of a row: a clock rate of 32 bits that isn't zero, and channels of eight
pub record HoldsRowNumbers (row : PayloadParams) : Type 0 where
  pub clock_rate : (0 < row.spec.clock_rate) × (row.spec.clock_rate ≤ 4294967295)
  pub channels : IfSome row.spec.channels IsByte
  pub format : HoldsRowFormatNumbers row.spec.format
