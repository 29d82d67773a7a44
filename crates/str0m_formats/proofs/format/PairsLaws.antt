-- What pairs read as, together.
use Rattle.str0m_formats.proofs.Common.{arith, ◌≡◌, ◌||◌, ℕ, Bool, true, false, cond, List, [], ◌∷◌, map, refl, sym, ap, subst, ◌∙◌}
use Rattle.str0m_formats.proofs.Common.{MatchBool, list_any, Bor}
use Rattle.str0m_formats.proofs.format.FormatParamLaws.{all_parsed_params, all_parsed_params_only}
use Rattle.str0m_formats.proofs.format.PairsTripleLaws.{triple_is, triple_only}
use Rattle.str0m_formats.specs.declared.format.format_param.FormatParam.{FormatParam}
use Rattle.str0m_formats.specs.format.FormatParam.{AreParsedParams, pair_texts}
use Rattle.str0m_formats.specs.format.FormatParamReading.{param_of}
use Rattle.str0m_formats.specs.format.Pairs.{has_triple_mark, pairs_merged, other_pairs, triple_texts_of, is_triple_mark, AreJoinedPairs}
use Rattle.str0m_formats.specs.format.Pairs.{ArePairsRead}
use Rattle.str0m_formats.specs.format.PairsReading.{triple_read, joined_pairs_read, params_read}

joined_pairs_are : (pairs : List (List ℕ × List ℕ)) → AreJoinedPairs pairs (joined_pairs_read pairs)
joined_pairs_are pairs = (
  triple_read (triple_texts_of pairs),
  map param_of (other_pairs pairs),
  triple_is (triple_texts_of pairs),
  all_parsed_params (other_pairs pairs),
  refl,
)

joined_pairs_only : (pairs : List (List ℕ × List ℕ)) (params : List FormatParam) → AreJoinedPairs pairs params
    → params ≡ joined_pairs_read pairs
joined_pairs_only pairs params h = grind (
  arith,
  triple_only (triple_texts_of pairs) h.0 h.2,
  all_parsed_params_only (other_pairs pairs) h.1 h.3,
)

-- what is read of pairs is what they stand for
pub pairs_read_is : (pairs : List (List ℕ × List ℕ)) → ArePairsRead pairs (params_read pairs)
unfolding params_read
pairs_read_is pairs = go (has_triple_mark pairs)
  where
    go : (mark : Bool) → MatchBool mark
        (AreJoinedPairs (pairs_merged pairs) (cond mark (joined_pairs_read (pairs_merged pairs)) (map param_of pairs)))
        (AreParsedParams pairs (cond mark (joined_pairs_read (pairs_merged pairs)) (map param_of pairs)))
    go true = joined_pairs_are (pairs_merged pairs)
    go false = all_parsed_params pairs

-- and nothing else is
pub pairs_read_only : (pairs : List (List ℕ × List ℕ)) (params : List FormatParam) → ArePairsRead pairs params → params ≡ params_read pairs
unfolding params_read
pairs_read_only pairs params h = go (has_triple_mark pairs) h
  where
    go : (mark : Bool) → MatchBool mark (AreJoinedPairs (pairs_merged pairs) params) (AreParsedParams pairs params)
        → params ≡ cond mark (joined_pairs_read (pairs_merged pairs)) (map param_of pairs)
    go true h = joined_pairs_only (pairs_merged pairs) params h
    go false h = all_parsed_params_only pairs params h

pub are_pairs_read : (pairs : List (List ℕ × List ℕ)) (params : List FormatParam) → params ≡ params_read pairs → ArePairsRead pairs params
are_pairs_read pairs params e = subst (ArePairsRead pairs) (sym e) (pairs_read_is pairs)

-- ---- what the code keeps

pub triple_marks_are : (pairs : List (Bor (List ℕ) × Bor (List ℕ))) (answer : Bool)
    → answer ≡ list_any (λ pair. is_triple_mark pair.0.now) pairs
    → answer ≡ has_triple_mark (pair_texts pairs)
unfolding has_triple_mark
triple_marks_are pairs answer e = e ∙ sym (go pairs)
  where
    go : (pairs : List (Bor (List ℕ) × Bor (List ℕ))) → list_any (λ pair. is_triple_mark pair.0) (pair_texts pairs)
        ≡ list_any (λ pair. is_triple_mark pair.0.now) pairs
    go [] = refl
    go (pair ∷ pairs) = ap (λ b. is_triple_mark pair.0.now || b) (go pairs)
