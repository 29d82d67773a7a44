use Rattle.c_calls.proofs.session_calls.session_mid_named.Goals as goal
use Rattle.std.proofs.Common.{◌≡◌, ℕ, List, true, Option, Some, None, is_some, refl, sym, ◌∙◌, true≢false}
use Rattle.str0m_sdp.proofs.{mid_counted}

-- what isn't something is nothing
not_some : (o : Option (List ℕ)) → (is_some o ≡ true → ⊥) → o ≡ None
not_some None none = refl
not_some (Some x) none = absurd (none refl)

pub returns-else-has_mid : goal.returns-else-has_mid
returns-else-has_mid c =
    sym (not_some _ (λ some. true≢false (sym (c.has_mid.ensures.1 ((mid_counted c.args.section.now.attrs).0 some)) ∙ c.if-has_mid.false)))
