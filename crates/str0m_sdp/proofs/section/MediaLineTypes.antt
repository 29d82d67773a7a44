-- Payload types of an m-line: all but the last with a space behind them, and the last.
use Rattle.std.specs.Prelude.{decimal}
use Rattle.str0m_sdp.proofs.Common.{[], List, ap, append-nil, append_assoc, codes, flat_map, sym, ℕ, ◌++◌, ◌∷◌, ◌≡◌, ◌∙◌}
use Rattle.str0m_sdp.specs.section.MediaLine.{m_line_pts_text}

type_behind : ℕ → List ℕ
type_behind pt = codes " " ++ decimal pt

type_before : ℕ → List ℕ
type_before pt = decimal pt ++ codes " "

spaces_moved : (before : List ℕ) (last : ℕ)
    → flat_map type_behind (before ++ last ∷ []) ≡ codes " " ++ (flat_map type_before before ++ decimal last)
unfolding type_behind type_before
spaces_moved [] last = append-nil (codes " " ++ decimal last)
spaces_moved (pt ∷ before) last =
    ap (λ text. type_behind pt ++ text) (spaces_moved before last)
    ∙ append_assoc (codes " ") (decimal pt) (codes " " ++ (flat_map type_before before ++ decimal last))
    ∙ ap (λ text. codes " " ++ text) (sym (append_assoc (decimal pt) (codes " ") (flat_map type_before before ++ decimal last))
    ∙ sym (append_assoc (type_before pt) (flat_map type_before before) (decimal last)))

pub types_spaced : (before : List ℕ) (last : ℕ)
    → m_line_pts_text (before ++ last ∷ []) ≡ flat_map (λ pt. decimal pt ++ codes " ") before ++ decimal last
unfolding type_behind type_before
types_spaced [] last = append-nil (decimal last)
types_spaced (pt ∷ before) last =
    ap (λ text. decimal pt ++ text) (spaces_moved before last) ∙ sym
    (append_assoc (decimal pt) (codes " ") (flat_map type_before before ++ decimal last))
    ∙ sym (append_assoc (type_before pt) (flat_map type_before before) (decimal last))
