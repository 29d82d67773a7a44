-- What a handle of a description owns.
use Rattle.c_parts.specs.Parts.{parts_owned}
use Rattle.std.specs.Coded.{coded_option}
use Rattle.std.specs.Global.{Global}
use Rattle.std.specs.Prelude.{Option}
use Rattle.str0m_sdp.specs.contracts.session.Sdp.{the_row}
use base.Fml.{Fml}
use base.Stored.{Coded}
use denote.RawPtr.{Ptr}

abbrev pub session_owns : Global → Ptr → Option the_row.Denot → Fml
session_owns = parts_owned the_row

abbrev pub session_coded : Coded (Option the_row.Denot)
session_coded = coded_option the_row.coded
