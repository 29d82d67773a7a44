-- What a printed rid line has behind its direction.
use Rattle.std.proofs.Common.{◌≡◌, ℕ, ◌+◌, ◌-◌, List, ◌++◌, append_assoc, ap, arith, codes, drop, length, length-append, refl, subst, sym}
use Rattle.std.proofs.Common.{take, ◌∙◌}
use Rattle.std.proofs.lemmas.List.{drop-drop, drop_at, take_at}
use Rattle.str0m_sdp.specs.form.Printed.{printed_line_end}

-- behind a front and one byte more, and before the end of the line, stands the rest without its first byte
rid_behind_front : (front rest line : List ℕ) → line ≡ front ++ (rest ++ printed_line_end)
    → drop (length front + 1) (take (length line - 2) line) ≡ drop 1 rest
rid_behind_front front rest line is =
    let whole : line ≡ (front ++ rest) ++ printed_line_end = is ∙ sym (append_assoc front rest printed_line_end) in
    let size : length line ≡ length (front ++ rest) + length printed_line_end =
    ap length whole ∙ length-append (front ++ rest) printed_line_end in
    let kept : take (length line - 2) line ≡ front ++ rest =
    ap (take (length line - 2)) whole ∙ take_at (front ++ rest) printed_line_end (length line - 2) (omega arith) in
    ap (drop (length front + 1)) kept ∙ sym (drop-drop 1 (length front) (front ++ rest))
    ∙ ap (drop 1) (drop_at front rest (length front) refl)

-- what stands before the payload types and restrictions
abbrev rid_front_of : List ℕ → List ℕ → List ℕ → List ℕ
rid_front_of label name direction = codes "a=" ++ (label ++ (name ++ (codes " " ++ direction)))

rid_front_then_rest : (label name direction rest : List ℕ)
    → codes "a=" ++ ((label ++ (name ++ (codes " " ++ (direction ++ rest)))) ++ printed_line_end) ≡ rid_front_of label name direction
    ++ (rest ++ printed_line_end)
rid_front_then_rest label name direction rest = simp append_assoc

rid_front_length : (label name direction : List ℕ) → length (rid_front_of label name direction) ≡ length label + length name
    + length direction
    + 3
rid_front_length label name direction = simp length-append (omega arith)

-- how long the line is, and what stands behind its direction and one byte more
pub rid_rest_of : (label name direction rest line : List ℕ)
    → line ≡ codes "a=" ++ ((label ++ (name ++ (codes " " ++ (direction ++ rest)))) ++ printed_line_end)
    → (length line ≡ length label + length name + length direction + 3 + length rest + 2)
    × (drop (length label + length name + length direction + 3 + 1) (take (length line - 2) line) ≡ drop 1 rest)
rid_rest_of label name direction rest line is =
    let front : List ℕ = rid_front_of label name direction in
    let parted : line ≡ front ++ (rest ++ printed_line_end) = is ∙ rid_front_then_rest label name direction rest in
    let size : length front ≡ length label + length name + length direction + 3 = rid_front_length label name direction in
    let whole : length line ≡ length front + (length rest + length printed_line_end) =
    ap length parted ∙ length-append front (rest ++ printed_line_end)
    ∙ ap (λ n. length front + n) (length-append rest printed_line_end) in (
      omega arith,
      subst (λ (n : ℕ). drop (n + 1) (take (length line - 2) line) ≡ drop 1 rest) size
          (rid_behind_front front rest line parted),
    )
