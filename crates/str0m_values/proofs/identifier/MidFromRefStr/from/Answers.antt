use Rattle.str0m_values.proofs.IdentifierBeginnings.{identifier_whole_where_room}
use Rattle.str0m_values.proofs.identifier.MidFromRefStr.from.Goals as goal

pub returns : goal.returns
returns c = (c.beginning.ensures, identifier_whole_where_room 16 c.args.text.now c.beginning.result c.beginning.ensures)
