-- The clock rates that are written whole.
use Rattle.std.specs.Fmt.{digits}
use Rattle.std.specs.Prelude.{decimal}
use Rattle.str0m_sdp.proofs.Common.{ap, codes, refl, ℕ, ◌++◌, ◌≡◌, ◌∙◌}

pub rate_90000 : (rate : ℕ) → rate ≡ 90000 → codes "/" ++ decimal rate ≡ codes "/90000"
unfolding digits
rate_90000 rate same = ap (λ n. codes "/" ++ decimal n) same ∙ refl

pub rate_48000 : (rate : ℕ) → rate ≡ 48000 → codes "/" ++ decimal rate ≡ codes "/48000"
unfolding digits
rate_48000 rate same = ap (λ n. codes "/" ++ decimal n) same ∙ refl

pub rate_8000 : (rate : ℕ) → rate ≡ 8000 → codes "/" ++ decimal rate ≡ codes "/8000"
unfolding digits
rate_8000 rate same = ap (λ n. codes "/" ++ decimal n) same ∙ refl
