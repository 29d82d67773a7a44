use Rattle.exchange.proofs.section.StoppedLaws.{held_group}
use Rattle.exchange.proofs.section.places.is_place_stopped.Goals as goal

pub is_stopped_at-requires : goal.is_stopped_at-requires
is_stopped_at-requires c = held_group c.args.remote.now c.args.group.now c.in-Some.sdp c.in-Some.is c.requires
