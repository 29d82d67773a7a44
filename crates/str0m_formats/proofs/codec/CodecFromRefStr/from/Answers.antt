use Rattle.str0m_formats.proofs.codec.CodecFromRefStr.from.Goals as goal
use Rattle.str0m_formats.proofs.codec.CodecNames.{codec_read_printed}

pub returns-clause-printed : goal.returns-clause-printed
returns-clause-printed c = codec_read_printed c.args.name.now c.named.result c.named.ensures
