use Rattle.str0m_formats.proofs.codec.CodecSpecStatic.{static_only}
use Rattle.str0m_formats.proofs.codec.codec_spec.CodecSpec.from_static_pt.Goals as goal

pub returns : goal.returns
returns c = static_only c.args.pt c.static_spec.result c.static_spec.ensures
