-- Lines that are put behind others.
use Rattle.exchange.proofs.Common.{arith, append_assoc, ◌≡◌, ◌++◌, List, [], ◌∷◌, MediaAttribute}

-- one, and four lists behind it
pub accepted_five_behind : (old first second third fourth all cands again msid layers : List MediaAttribute) (line : MediaAttribute)
    → first ≡ old ++ line ∷ []
    → second ≡ first ++ cands → third ≡ second ++ again → fourth ≡ third ++ msid → all ≡ fourth ++ layers
    → all ≡ old ++ (line ∷ [] ++ cands ++ again ++ msid ++ layers)
accepted_five_behind old first second third fourth all cands again msid layers line a b c d e = grind (arith, append_assoc)
