use Rattle.c_calls.proofs.section_texts.section_layer_at.Goals as goal
use Rattle.std.proofs.lemmas.Iterator.{YieldsList-from_slice}
use Rattle.std.proofs.lemmas.Iterator.Consumers.{YieldsList-from_chain, nth_from_yields_List}

pub returns : goal.returns
returns c =
    nth_from_yields_List _ _ c.args.index c.nth.ensures.ran
    (YieldsList-from_chain (YieldsList-from_slice c.args.simulcast.now.send.0 (cc)) (YieldsList-from_slice c.args.simulcast.now.recv.0 (cc))
    (cc) (cc))
