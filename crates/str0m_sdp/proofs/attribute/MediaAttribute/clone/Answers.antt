use Rattle.str0m_sdp.proofs.Common.{rules}
use Rattle.str0m_sdp.proofs.attribute.AttributeCopies.{attribute_copied}
use Rattle.str0m_sdp.proofs.attribute.MediaAttribute.clone.Goals as goal

pub returns : goal.returns
returns c = search (rules, attribute_copied)
