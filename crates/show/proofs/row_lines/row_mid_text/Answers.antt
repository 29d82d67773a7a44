use Rattle.show.proofs.row_lines.row_mid_text.Goals as goal
use Rattle.std.proofs.Common.{◌≡◌, ℕ, List, true, Option, Some, None, is_some, codes, refl, sym, ◌∙◌, true≢false}
use Rattle.std.specs.Option.{unwrap_or}
use Rattle.str0m_sdp.proofs.{mid_counted}

-- what isn't there is a dash
dash : (o : Option (List ℕ)) → (is_some o ≡ true → ⊥) → unwrap_or o (codes "-") ≡ codes "-"
dash None none = refl
dash (Some x) none = absurd (none refl)

pub returns-else-has_mid : goal.returns-else-has_mid
returns-else-has_mid c =
    rw (dash _ (λ some. true≢false (sym (c.has_mid.ensures.1 ((mid_counted c.args.section.now.attrs).0 some)) ∙ c.if-has_mid.false)))
    c.from_str.ensures.ok
