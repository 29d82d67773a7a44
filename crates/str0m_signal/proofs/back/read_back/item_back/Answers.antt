use Rattle.str0m_signal.proofs.back.read_back.item_back.Goals as goal

pub returns : goal.returns
returns g c =
    let text = rw (g.met.A.PrintedBack.prints c.args.attr.now) at c.in_ok-text.ensures.ok in
    rw (c.as_str.ensures.value, text) at c.text_back.ensures
