-- Texts that are joined by a byte, and cut there.
use Rattle.str0m_formats.proofs.Common.{arith, ◌≡◌, ◌==◌, ℕ, false, List, [], ◌∷◌, All, slice_split, join_with_byte, eq-eqb}
use Rattle.str0m_formats.proofs.Common.{slice_split_none, slice_split_at}

-- no text holds the byte
abbrev pub AreParamTextsFreeOf : ℕ → List (List ℕ) → Type 0
AreParamTextsFreeOf c [] = Unit {0}
AreParamTextsFreeOf c (text ∷ texts) = All (λ b. (b == c) ≡ false) text × AreParamTextsFreeOf c texts

-- texts that are joined by a byte that none of them holds, and then cut there, are themselves
pub slice_split-join : (c : ℕ) (text : List ℕ) (texts : List (List ℕ)) → AreParamTextsFreeOf c (text ∷ texts)
    → slice_split (λ b. b == c) (join_with_byte c (text ∷ texts)) ≡ text ∷ texts
slice_split-join c text [] free = slice_split_none (λ b. b == c) text free.0
slice_split-join c text (next ∷ texts) free = grind (arith, slice_split_at, eq-eqb, slice_split-join c next texts free.1)
