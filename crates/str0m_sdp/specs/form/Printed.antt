-- The parts that printed lines share.
use Rattle.std.specs.Prelude.{ℕ, suc, Bool, true, ◌&&◌, List, [], ◌∷◌, ◌++◌, bytes_eq, codes, decimal}

-- CR LF, by which every printed line ends (RFC 8866, section 5)
abbrev pub printed_line_end : List ℕ
printed_line_end = 13 ∷ 10 ∷ []

-- the line of an attribute (RFC 8866, section 5.13)
abbrev pub attribute_line : List ℕ → List ℕ
attribute_line text = codes "a=" ++ (text ++ printed_line_end)

-- an attribute line of a label and a text right after it
abbrev pub labelled_line : List ℕ → List ℕ → List ℕ
labelled_line label text = codes "a=" ++ (label ++ (text ++ printed_line_end))

-- rows are the numbers from one on, each with a space behind it
abbrev pub are_spaced_from : {A : Type 0} → (A → List ℕ) → ℕ → List A → Bool
are_spaced_from text n [] = true
are_spaced_from text n (row ∷ rows) = bytes_eq (text row) (decimal n ++ codes " ") && are_spaced_from text (suc n) rows
