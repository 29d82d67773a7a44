use Rattle.str0m_formats.proofs.Common.{sym, ◌∙◌, bytes_eq}
use Rattle.str0m_formats.proofs.format.MergedPairsLaws.{entry_there, entry_new, pair_placed_alike, pair_pushed}
use Rattle.str0m_formats.proofs.format.merged_pairs.put_pair_among.Goals as goal
use Rattle.str0m_formats.specs.format.FormatParam.{pair_texts}

pub returns-in-Some : goal.returns-in-Some
returns-in-Some c =
    let entries = c.args.entries.now.items in
    let at = pair_placed_alike c.args.key.now _ entries _ _ c.as_slice.ensures.value c.in-Some.is c.key_place.ensures.place in
    c.set_value.ensures ∙ sym (entry_there bytes_eq c.args.key.now c.args.value.now (pair_texts entries) c.in-Some.place at)

pub returns-in_ok-push-in-None : goal.returns-in_ok-push-in-None
returns-in_ok-push-in-None c =
    let entries = c.args.entries.now.items in
    let none = pair_placed_alike c.args.key.now _ entries _ _ c.as_slice.ensures.value c.in-None.is c.key_place.ensures.place in
    pair_pushed entries _ (c.args.key, c.args.value) c.in_ok-push-in-None.ensures.items
    ∙ sym (entry_new bytes_eq c.args.key.now c.args.value.now (pair_texts entries) none)
