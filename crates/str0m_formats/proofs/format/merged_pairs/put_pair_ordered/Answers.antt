use Rattle.str0m_formats.proofs.Common.{refl, sym, ◌∙◌, arith, bytes_eq}
use Rattle.str0m_formats.proofs.format.MergedPairsLaws.{as_many_pairs, entry_there, entry_new, pair_place_within, pair_placed_alike}
use Rattle.str0m_formats.proofs.format.MergedPairsLaws.{pair_places_grow}
use Rattle.str0m_formats.proofs.format.MergedPairsLaws.{pair_places_stay, pair_pushed}
use Rattle.str0m_formats.proofs.format.merged_pairs.put_pair_ordered.Goals as goal
use Rattle.str0m_formats.specs.format.FormatParam.{pair_texts}

pub set_value-requires : goal.set_value-requires
set_value-requires c =
    let entries = c.args.entries.now in
    let at = pair_placed_alike c.args.key.now entries.items entries.items _ _ refl
    (sym (c.copied.ensures ∙ c.get.ensures.value) ∙ c.in-Some.is)
    (c.requires c.args.key.now) in
    let within = pair_place_within c.args.key.now entries.items c.in-Some.place at in
    omega (arith, within, entries.ok.0)

pub returns-in-Some-clause-put : goal.returns-in-Some-clause-put
returns-in-Some-clause-put c =
    let entries = c.args.entries.now.items in
    let at = pair_placed_alike c.args.key.now entries entries _ _ refl (sym (c.copied.ensures ∙ c.get.ensures.value) ∙ c.in-Some.is)
    (c.requires c.args.key.now) in
    c.set_value.ensures ∙ sym (entry_there bytes_eq c.args.key.now c.args.value.now (pair_texts entries) c.in-Some.place at)

pub returns-in-Some-clause-known : goal.returns-in-Some-clause-known
returns-in-Some-clause-known c =
    pair_places_stay c.args.places.now (pair_texts c.args.entries.now.items) _ c.in-Some.place c.args.value.now c.requires
    c.set_value.ensures

pub returns-in_ok-push-in-None-clause-put : goal.returns-in_ok-push-in-None-clause-put
returns-in_ok-push-in-None-clause-put c =
    let entries = c.args.entries.now.items in
    let none = pair_placed_alike c.args.key.now entries entries _ _ refl (sym (c.copied.ensures ∙ c.get.ensures.value) ∙ c.in-None.is)
    (c.requires c.args.key.now) in
    pair_pushed entries _ (c.args.key, c.args.value) c.in_ok-push-in-None.ensures.items
    ∙ sym (entry_new bytes_eq c.args.key.now c.args.value.now (pair_texts entries) none)

pub returns-in_ok-push-in-None-clause-known : goal.returns-in_ok-push-in-None-clause-known
returns-in_ok-push-in-None-clause-known c =
    let entries = c.args.entries.now in
    let none = pair_placed_alike c.args.key.now entries.items entries.items _ _ refl
    (sym (c.copied.ensures ∙ c.get.ensures.value) ∙ c.in-None.is) (c.requires c.args.key.now) in
    pair_places_grow c.args.places.now c.insert.new.self (pair_texts entries.items) _ c.args.key c.args.value.now c.len.result
    c.requires c.in_ok-insert-in-None.ensures.updates (c.len.ensures ∙ entries.ok.0 ∙ sym (as_many_pairs entries.items)) none
    (pair_pushed entries.items _ (c.args.key, c.args.value) c.in_ok-push-in-None.ensures.items)
