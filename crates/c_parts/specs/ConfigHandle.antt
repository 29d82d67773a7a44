-- What a handle of a configuration owns.
use Rattle.c_parts.specs.Parts.{parts_owned}
use Rattle.std.specs.Coded.{coded_option}
use Rattle.std.specs.Global.{Global}
use Rattle.std.specs.Prelude.{Option}
use Rattle.str0m_formats.specs.contracts.row.codec_config.CodecConfig.{the_row}
use base.Fml.{Fml}
use base.Stored.{Coded}
use denote.RawPtr.{Ptr}

abbrev pub config_owns : Global → Ptr → Option the_row.Denot → Fml
config_owns = parts_owned the_row

abbrev pub config_coded : Coded (Option the_row.Denot)
config_coded = coded_option the_row.coded
