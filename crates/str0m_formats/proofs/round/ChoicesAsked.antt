-- One more item that the closure refused.
use Rattle.str0m_formats.proofs.Common.{arith, ◌≡◌, ◌<◌, ◌+◌, ℕ, Bool, true, false, List, [], ◌∷◌, ◌++◌, Some, refl, subst, sym, ap, ◌∙◌}
use Rattle.str0m_formats.proofs.Common.{take, drop, length, get_or, take_more, Bor, suc, take-append-drop, drop-cons}
use Rattle.str0m_formats.specs.round.Choices.{RefusedAllChoices, FirstAccepted}

pub RefusedAllChoices-more : {F X : Type 0} (step : F → Bor X → Bool → F → Type 0) (f g h : F) (xs : List X) (b : Bor X)
    → RefusedAllChoices step f xs g
    → step g b false h → RefusedAllChoices step f (xs ++ b.now ∷ []) h
RefusedAllChoices-more step f g h [] b r s = (h, (b, refl, subst (λ k. step k b false h) r s), refl)
RefusedAllChoices-more step f g h (x ∷ xs) b r s = (r.0, r.1, RefusedAllChoices-more step r.0 g h xs b r.2 s)

-- the closure refused the items before i and the one at i
pub RefusedAllChoices-take : {F X : Type 0} (step : F → Bor X → Bool → F → Type 0) (f g h : F) (shown : List X) (i : ℕ) (b : Bor X)
    → i < length shown → b.now ≡ get_or shown i b.now → RefusedAllChoices step f (take i shown) g → step g b false h
    → RefusedAllChoices step f (take (i + 1) shown) h
RefusedAllChoices-take step f g h shown i b inside at before now = grind (arith, take_more, RefusedAllChoices-more)

-- the closure refused the items before i and accepted the one at i
pub FirstAccepted-at : {F X : Type 0} (step : F → Bor X → Bool → F → Type 0) (f g h : F) (rows shown : List X) (i : ℕ) (b : Bor X)
    → shown ≡ rows → i < length shown → b.now ≡ get_or shown i b.now → RefusedAllChoices step f (take i shown) g → step g b true h
    → FirstAccepted step f rows (Some b.now)
FirstAccepted-at step f g h rows shown i b same inside at before now = (
  take i shown,
  drop (suc i) shown,
  g,
  h,
  sym same
      ∙ (sym (take-append-drop i shown) ∙ ap (λ t. take i shown ++ t)
      (drop-cons shown i b.now inside ∙ ap (λ x. x ∷ drop (suc i) shown) (sym at))),
  before,
  (b, refl, now),
)
