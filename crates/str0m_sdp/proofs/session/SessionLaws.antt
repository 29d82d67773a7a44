-- Laws of mids that differ, and of lists that don't.
use Rattle.std.proofs.lemmas.List.Kept.{AllPairs-cons}
use Rattle.std.proofs.lemmas.Slice.Eq.{bytes_eq-Decides}
use Rattle.str0m_sdp.proofs.Common.{◌≡◌, ◌≢◌, ℕ, suc, true, false, not, List, [], ◌∷◌, length, get_or, find, Some, None, refl, sym, ◌∙◌}
use Rattle.str0m_sdp.proofs.Common.{arith, ◌↔◌, bytes_eq, false≢true, zip, Any-from_list_any, list_any_at}
use Rattle.str0m_sdp.specs.session.SessionConsistency.{AreMidsDistinct, is_group_listed}

-- ---- mids that differ

-- a mid that stands again, and one that doesn't
pub mid_again : (mid : List ℕ) (mids : List (List ℕ)) → is_group_listed mids (Some mid) ≡ true → AreMidsDistinct (mid ∷ mids) → ⊥
mid_again mid mids listed distinct =
    let at = Any-from_list_any (λ other. bytes_eq other mid) mids listed in
    distinct 0 (suc at.0) at.1 (omega arith) (omega (arith, at.2)) (sym (at.3 ∙ (bytes_eq-Decides at.1 mid).0 at.4))

pub mids_apart : (mid : List ℕ) (mids : List (List ℕ)) → is_group_listed mids (Some mid) ≡ false
    → AreMidsDistinct mids ↔ AreMidsDistinct (mid ∷ mids)
mids_apart mid mids unlisted = (
  (λ distinct. AllPairs-cons (λ (a b : List ℕ). a ≢ b) mid mids
      (λ k d lt same. false≢true (sym unlisted ∙ list_any_at (λ other. bytes_eq other mid) mids k d lt
      ((bytes_eq-Decides (get_or mids k d) mid).1 (sym same))))
      distinct),
  λ distinct i j d lt within. distinct (suc i) (suc j) d (omega arith) (omega arith),
)

-- ---- two lists, place by place

pub session_same_from_none : (xs ys : List (List ℕ)) → length xs ≡ length ys
    → find (λ pair. not (bytes_eq pair.0 pair.1)) (zip xs ys) ≡ None
    → xs ≡ ys
session_same_from_none [] [] long none = refl
session_same_from_none [] (y ∷ ys) long none = absurd (omega arith)
session_same_from_none (x ∷ xs) [] long none = absurd (omega arith)
session_same_from_none (x ∷ xs) (y ∷ ys) long none = grind (arith, session_same_from_none xs ys, bytes_eq-Decides)

session_zip_itself : (xs : List (List ℕ)) → find (λ pair. not (bytes_eq pair.0 pair.1)) (zip xs xs) ≡ None
session_zip_itself [] = refl
session_zip_itself (x ∷ xs) = rw ((bytes_eq-Decides x x).1 refl) (session_zip_itself xs)

pub session_none_from_same : (xs ys : List (List ℕ)) → xs ≡ ys → find (λ pair. not (bytes_eq pair.0 pair.1)) (zip xs ys) ≡ None
session_none_from_same xs ys same = rw same (session_zip_itself ys)
