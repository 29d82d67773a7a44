-- The lines of outcomes, one more.
use Rattle.show.specs.NegotiationLines.{outcome_line, outcome_lines}
use Rattle.std.proofs.Common.{◌≡◌, ◌<◌, ◌+◌, ◌++◌, ℕ, List, [], ◌∷◌, length, take, get_or, sym, ap, ◌∙◌}
use Rattle.std.proofs.lemmas.Grind.{take_at_read}
use Rattle.std.proofs.lemmas.List.{append-nil, append_assoc, length-take}
use Rattle.str0m_formats.specs.round.RoundsRuns.{OutcomeOfRound}
use native.Mathlib.Omega.{arith}

outcome_lines_more : (n : ℕ) (outcomes : List OutcomeOfRound) (outcome : OutcomeOfRound)
    → outcome_lines n (outcomes ++ outcome ∷ []) ≡ outcome_lines n outcomes ++ outcome_line (n + length outcomes) outcome
outcome_lines_more n [] outcome =
    let here : n ≡ n + 0 = omega arith in
    append-nil (outcome_line n outcome) ∙ ap (λ (k : ℕ). outcome_line k outcome) here
outcome_lines_more n (first ∷ outcomes) outcome =
    let next : n + 1 + length outcomes ≡ n + length (first ∷ outcomes) = omega arith in
    ap (λ (lines : List ℕ). outcome_line n first ++ lines)
    (outcome_lines_more (n + 1) outcomes outcome ∙ ap (λ (k : ℕ). outcome_lines (n + 1) outcomes ++ outcome_line k outcome) next)
    ∙ sym (append_assoc (outcome_line n first) (outcome_lines (n + 1) outcomes) (outcome_line (n + length (first ∷ outcomes)) outcome))

-- counted from 1, the line after the first i is that of i + 1
pub one_outcome_line_more : (outcomes : List OutcomeOfRound) (i : ℕ) (outcome : OutcomeOfRound) → i < length outcomes
    → outcome ≡ get_or outcomes i outcome
    → outcome_lines 1 (take (i + 1) outcomes) ≡ outcome_lines 1 (take i outcomes) ++ outcome_line (i + 1) outcome
one_outcome_line_more outcomes i outcome lt is =
    let count : 1 + length (take i outcomes) ≡ i + 1 = omega (arith, length-take i outcomes, lt) in
    ap (λ (list : List OutcomeOfRound). outcome_lines 1 list) ((take_at_read outcomes i outcome lt).1
    ∙ ap (λ (x : OutcomeOfRound). take i outcomes ++ x ∷ []) (sym is))
    ∙ outcome_lines_more 1 (take i outcomes) outcome
    ∙ ap (λ (k : ℕ). outcome_lines 1 (take i outcomes) ++ outcome_line k outcome) count
