-- The format of a plain row reads back as it prints.
use Rattle.str0m_formats.proofs.Common.{arith, ◌≡◌, ◌≢◌, ◌⊎◌, Option, None, IfSome}
use Rattle.str0m_formats.proofs.format.FormatParamsShown.{each_some_param}
use Rattle.str0m_formats.specs.declared.format.format_key.FormatKey.TheVariants as key
use Rattle.str0m_formats.specs.declared.format.format_params.Field.{Field}
use Rattle.str0m_formats.specs.declared.format.format_params.Field.TheVariants as field
use Rattle.str0m_formats.specs.declared.row.payload_params.PayloadParams.{PayloadParams}
use Rattle.str0m_formats.specs.format.FormatParams.{get, IsFormatFieldWithin, CanFormatBeReadBack}
use Rattle.str0m_formats.specs.row.PlainRow.{IsPlain}
use Rattle.str0m_formats.specs.row.PlainRowBounds.{HoldsRowNumbers}

plain_row_values : (row : PayloadParams) → IsPlain row → HoldsRowNumbers row → (f : Field)
    → IfSome (get f row.spec.format) (IsFormatFieldWithin f)
plain_row_values row p h (field.Key key.SpropMaxDonDiff) = p.bounded.distance
plain_row_values row p h (field.Key key.ModeSet) = p.bounded.modes
plain_row_values row p h (field.Key k) = h.format.keys k
plain_row_values row p h field.TelephoneEvents = h.format.telephone_event_max
plain_row_values row p h f = each_some_param (IsFormatFieldWithin f) (get f row.spec.format) (λ x. tt)

plain_row_none_or_some : {A : Type 0} (o : Option A) → (o ≡ None) ⊎ (o ≢ None)
plain_row_none_or_some o = grind arith

pub plain_row_can_be_read_back : (row : PayloadParams) → IsPlain row → HoldsRowNumbers row → CanFormatBeReadBack row.spec.format
plain_row_can_be_read_back row p h = grind (arith, plain_row_none_or_some, plain_row_values)
