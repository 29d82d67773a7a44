use Rattle.str0m_formats.proofs.Common.{refl, sym, ◌∙◌}
use Rattle.str0m_formats.proofs.codec.CodecNames.{codec_read_printed}
use Rattle.str0m_formats.proofs.codec.named.Goals as goal

pub returns-in-Some : goal.returns-in-Some
returns-in-Some c = sym (codec_read_printed c.args.name.now _ refl c.in-Some.codec c.in-Some.ensures.0 ∙ c.in-Some.ensures.1)
