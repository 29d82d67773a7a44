-- A table whose rows are the numbers of their places, with a space behind them.
use Rattle.std.proofs.lemmas.Bool.{and_parts}
use Rattle.std.proofs.lemmas.Slice.Eq.{bytes_eq-Decides}
use Rattle.std.specs.Prelude.{decimal, slice_index_or}
use Rattle.str0m_sdp.proofs.Common.{[], List, ap, add-zero, arith, codes, length, suc, sym, true, zero, ℕ, ◌+◌, ◌++◌, ◌<◌, ◌≡◌, ◌∙◌, ◌∷◌}
use Rattle.str0m_sdp.specs.form.Printed.{are_spaced_from}

pub spaced_at : {A : Type 0} (text : A → List ℕ) (rows : List A) (from place : ℕ) (other : A)
    → are_spaced_from text from rows ≡ true → place < length rows
    → text (slice_index_or rows place other) ≡ decimal (from + place) ++ codes " "
spaced_at text [] from place other all h = grind (arith, h)
spaced_at text (row ∷ rows) from zero other all h =
    (bytes_eq-Decides (text row) (decimal from ++ codes " ")).0 (and_parts _ _ all).0
    ∙ ap (λ n. decimal n ++ codes " ") (sym (add-zero from))
spaced_at text (row ∷ rows) from (suc place) other all h =
    let same : suc from + place ≡ from + suc place = omega arith in
    spaced_at text rows (suc from) place other (and_parts _ _ all).1 (omega (arith, h)) ∙ ap (λ n. decimal n ++ codes " ") same
