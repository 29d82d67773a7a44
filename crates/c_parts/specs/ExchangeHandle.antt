-- What a handle of an exchange owns.
use Rattle.c_parts.specs.Parts.{parts_owned}
use Rattle.exchange.specs.contracts.state.exchange.Exchange.{the_row}
use Rattle.std.specs.Coded.{coded_option}
use Rattle.std.specs.Global.{Global}
use Rattle.std.specs.Prelude.{Option}
use base.Fml.{Fml}
use base.Stored.{Coded}
use denote.RawPtr.{Ptr}

abbrev pub exchange_owns : Global → Ptr → Option the_row.Denot → Fml
exchange_owns = parts_owned the_row

abbrev pub exchange_coded : Coded (Option the_row.Denot)
exchange_coded = coded_option the_row.coded
