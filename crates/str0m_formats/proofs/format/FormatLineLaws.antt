-- What the loops over lines keep.
use Rattle.indexmap.proofs.SetLemmas.{AllZip-push}
use Rattle.str0m_formats.proofs.Common.{arith, ◌≡◌, ◌<◌, ◌+◌, ◌||◌, ℕ, Bool, List, [], ◌∷◌, ◌++◌, length, get_or, take, Option, Some, None}
use Rattle.str0m_formats.proofs.Common.{refl, sym, ap, subst, ◌∙◌, AllZip, cons_option, list_any, Bor, take_more, append_assoc, append-nil}
use Rattle.str0m_formats.proofs.Common.{map-append, filter_map-append}
use Rattle.str0m_formats.specs.declared.codec.Codec.TheVariants.{AmrWb}
use Rattle.str0m_formats.specs.declared.format.format_param.FormatParam.{FormatParam}
use Rattle.str0m_formats.specs.declared.format.format_params.FormatParams.{FormatParams}
use Rattle.str0m_formats.specs.format.FormatLine.{pair_in, bare_param_in, pairs_in, bare_params_in, pieces, IsFormatOfBares, IsFormatOfLine}
use Rattle.str0m_formats.specs.format.FormatLine.{is_unsupported_param, format_lines_ask_absent, line_without_event_ranges, params_of_lines}
use Rattle.str0m_formats.specs.format.FormatLine.{format_line_values}
use Rattle.str0m_formats.specs.format.FormatParam.{IsBareParam, pair_texts}
use Rattle.str0m_formats.specs.format.FormatParams.{empty, set, set_all}
use Rattle.str0m_formats.specs.format.Pairs.{ArePairsRead}

pub set_all-append : (xs ys : List FormatParam) (p : FormatParams) → set_all p (xs ++ ys) ≡ set_all (set_all p xs) ys
set_all-append [] ys p = refl
set_all-append (x ∷ xs) ys p = set_all-append xs ys (set x p)

pub format_lines_ask_answer : (lines : List (Bor (List FormatParam))) (answer : Bool)
    → answer ≡ list_any (λ line. list_any is_unsupported_param line.now) lines
    → answer ≡ format_lines_ask_absent AmrWb (format_line_values lines)
unfolding format_lines_ask_absent
format_lines_ask_answer lines answer e = e ∙ sym (go lines)
  where
    go : (lines : List (Bor (List FormatParam))) → list_any (λ line. list_any is_unsupported_param line) (format_line_values lines)
        ≡ list_any (λ line. list_any is_unsupported_param line.now) lines
    go [] = refl
    go (line ∷ lines) = ap (λ b. list_any is_unsupported_param line.now || b) (go lines)

pub pairs_more : (pieces : List (List ℕ)) (piece : List ℕ) → pairs_in (pieces ++ piece ∷ []) ≡ pairs_in pieces
    ++ cons_option (pair_in piece) []
unfolding pairs_in
pairs_more pieces piece = filter_map-append pair_in pieces (piece ∷ [])

pub bare_params_more : (pieces : List (List ℕ)) (piece : List ℕ) → bare_params_in (pieces ++ piece ∷ []) ≡ bare_params_in pieces
    ++ cons_option (bare_param_in piece) []
unfolding bare_params_in
bare_params_more pieces piece = filter_map-append bare_param_in pieces (piece ∷ [])

format_params_of_lines-push : (lines : List (List FormatParam)) (line : List FormatParam)
    → params_of_lines (lines ++ line ∷ []) ≡ params_of_lines lines ++ line_without_event_ranges line
format_params_of_lines-push [] line = append-nil (line_without_event_ranges line)
format_params_of_lines-push (l ∷ lines) line = grind (arith, format_params_of_lines-push lines line, append_assoc)

-- one more line
pub format_line_values_more : (lines : List (Bor (List FormatParam))) (i : ℕ) (d : Bor (List FormatParam)) → i < length lines
    → set_all (set_all empty (params_of_lines (format_line_values (take i lines)))) (line_without_event_ranges (get_or lines i d).now)
    ≡ set_all empty (params_of_lines (format_line_values (take (i + 1) lines)))
format_line_values_more lines i d lt =
    sym (set_all-append (params_of_lines (format_line_values (take i lines))) (line_without_event_ranges (get_or lines i d).now) empty)
    ∙ ap (set_all empty) (sym (format_params_of_lines-push (format_line_values (take i lines)) (get_or lines i d).now)
    ∙ ap params_of_lines (sym (map-append (λ line. line.now) (take i lines) (get_or lines i d ∷ []))
    ∙ ap format_line_values (sym (take_more lines i d lt))))

-- ---- pieces

-- a piece with a key
pub piece_pairs_given : (items : List (Bor (List ℕ) × Bor (List ℕ))) (pair : Bor (List ℕ) × Bor (List ℕ)) (pieces : List (List ℕ))
    (piece : List ℕ) → pair_texts items ≡ pairs_in pieces → Some (pair.0.now, pair.1.now) ≡ pair_in piece
    → pair_texts (items ++ pair ∷ []) ≡ pairs_in (pieces ++ piece ∷ [])
piece_pairs_given items pair pieces piece h e = grind (arith, map-append, pairs_more)

-- a piece without one
pub pairs_absent : (items : List (Bor (List ℕ) × Bor (List ℕ))) (pieces : List (List ℕ)) (piece : List ℕ)
    → pair_texts items ≡ pairs_in pieces → None ≡ pair_in piece → pair_texts items ≡ pairs_in (pieces ++ piece ∷ [])
pairs_absent items pieces piece h e = grind (arith, append-nil, pairs_more)

pub bare_params_none : IsFormatOfBares [] empty
unfolding bare_params_in
bare_params_none = record { bares = []; bares_are = tt; format = refl }

pub bare_params_given : (pieces : List (List ℕ)) (piece text : List ℕ) (p : FormatParams) (param : FormatParam) → IsFormatOfBares pieces p
    → Some text ≡ bare_param_in piece → IsBareParam text param → IsFormatOfBares (pieces ++ piece ∷ []) (set param p)
bare_params_given pieces piece text p param h e is = record {
  bares = h.bares ++ param ∷ [];
  bares_are = subst (λ (ts : List (List ℕ)). AllZip IsBareParam ts (h.bares ++ param ∷ []))
      (ap (λ (o : Option (List ℕ)). bare_params_in pieces ++ cons_option o []) e ∙ sym (bare_params_more pieces piece))
      (AllZip-push IsBareParam (bare_params_in pieces) h.bares text param h.bares_are is);
  format = ap (set param) h.format ∙ sym (set_all-append h.bares (param ∷ []) empty);
}

pub bare_params_absent : (pieces : List (List ℕ)) (piece : List ℕ) (p : FormatParams) → IsFormatOfBares pieces p
    → None ≡ bare_param_in piece
    → IsFormatOfBares (pieces ++ piece ∷ []) p
bare_params_absent pieces piece p h e = grind (arith, append-nil, bare_params_more)

pub format_of_line_is : (line : List ℕ) (params : List FormatParam) (p q : FormatParams) → IsFormatOfBares (pieces line) p
    → ArePairsRead (pairs_in (pieces line)) params → q ≡ set_all p params → IsFormatOfLine line q
format_of_line_is line params p q h are e = grind (arith, set_all-append)
