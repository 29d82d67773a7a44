use Rattle.str0m_sdp.proofs.Common.{sym, ap, ◌∙◌, get, nat_cmp}
use Rattle.str0m_sdp.proofs.section.SourceLaws.{source_found_within, source_found_said, source_found_put, source_found_stays}
use Rattle.str0m_sdp.proofs.section.SourceLaws.{new_source_said, new_source_put, new_source_place}
use Rattle.str0m_sdp.proofs.section.sources.Sources.place_of.Goals as goal

pub returns-in-Some-clause-within : goal.returns-in-Some-clause-within
returns-in-Some-clause-within c =
    let is = sym (c.requires c.args.ssrc) ∙ ap (λ s. get nat_cmp c.args.self.now.places s) (sym c.deref.ensures)
    ∙ sym c.in-Some.ensures.value in
    source_found_within c.args.ssrc c.in-Some.place.now c.args.self.now.infos.items is

pub returns-in-Some-clause-info : goal.returns-in-Some-clause-info
returns-in-Some-clause-info c =
    let is = sym (c.requires c.args.ssrc) ∙ ap (λ s. get nat_cmp c.args.self.now.places s) (sym c.deref.ensures)
    ∙ sym c.in-Some.ensures.value in
    source_found_said c.args.ssrc c.in-Some.place.now c.args.self.now.infos.items is

pub returns-in-Some-clause-put : goal.returns-in-Some-clause-put
returns-in-Some-clause-put c =
    let es = c.args.self.now.infos.items in
    let place = c.in-Some.place.now in
    let is = sym (c.requires c.args.ssrc) ∙ ap (λ s. get nat_cmp c.args.self.now.places s) (sym c.deref.ensures)
    ∙ sym c.in-Some.ensures.value in
    λ x same. (
      source_found_put c.args.ssrc place es is x same,
      λ q. c.requires q
          ∙ sym (source_found_stays c.args.ssrc place es is x same q),
    )

pub returns-clause-info : goal.returns-clause-info
returns-clause-info c =
    let none = sym (c.requires c.args.ssrc) ∙ ap (λ s. get nat_cmp c.args.self.now.places s) (sym c.deref.ensures)
    ∙ sym c.in_default.ensures.value in
    new_source_said c.args.ssrc _ c.args.self.now.infos.items _ _ none (c.len-place.ensures ∙ c.args.self.now.infos.ok.0)
    c.in_ok-push.ensures.items c.empty.ensures

pub returns-clause-put : goal.returns-clause-put
returns-clause-put c =
    let es = c.args.self.now.infos.items in
    let none = sym (c.requires c.args.ssrc) ∙ ap (λ s. get nat_cmp c.args.self.now.places s) (sym c.deref.ensures)
    ∙ sym c.in_default.ensures.value in
    λ x same. (
      new_source_put c.args.ssrc _ es _ _ none (c.len-place.ensures ∙ c.args.self.now.infos.ok.0) c.in_ok-push.ensures.items x same,
      new_source_place c.args.ssrc _ es _ _ none (c.len-place.ensures ∙ c.args.self.now.infos.ok.0) c.in_ok-push.ensures.items
          c.args.self.now.places c.insert.new.self _ c.deref-2.ensures c.in_ok-insert.ensures.updates c.requires x same,
    )
