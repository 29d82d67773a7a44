-- What a cut at a character, and what follows a prefix, are.
use Rattle.std.proofs.lemmas.Str.Pattern.{IsSplitOnceResult, split_parts}
use Rattle.std.specs.Borrow.{Bor}
use Rattle.str0m_values.proofs.Common.{◌≡◌, ◌≢◌, ℕ, suc, inl, inr, ◌<◌, ◌≤◌, ◌+◌, true, not, List, [], ◌∷◌, ◌++◌, length, get_or, drop}
use Rattle.str0m_values.proofs.Common.{take, Option, Some, None, refl, sym, ap, ◌∙◌, arith, append-nil, is_some, eq-eqb, ne_eqb}
use Rattle.str0m_values.proofs.Common.{cases_eq, both_ways, and_parts, some_pair_parts, none-some, drop-append_seam, take-append_seam}
use Rattle.str0m_values.proofs.Common.{IsUtf8, IsCharBoundary, not-true, false_from_ne_true, length-append}
use Rattle.str0m_values.proofs.Common.{IsCharBoundary-from_take}
use Rattle.str0m_values.specs.Cuts.{cut, before_cut, strip, parts, front, before, lacks}
use Rattle.str0m_values.specs.CutsParts.{Lacks}

pub cut_none : (c : ℕ) (text : List ℕ) → Lacks c text → cut c text ≡ None
cut_none c [] h = refl
cut_none c (x ∷ xs) h = rw (ne_eqb x c h.0) (ap (before_cut x) (cut_none c xs h.1))

pub cut_at : (c : ℕ) (a b : List ℕ) → Lacks c a → cut c (a ++ (c ∷ b)) ≡ Some (a, b)
cut_at c [] b h = rw (eq-eqb c c refl) refl
cut_at c (x ∷ xs) b h = rw (ne_eqb x c h.0) (ap (before_cut x) (cut_at c xs b h.1))

pub before_cut_some : (x : ℕ) (o : Option (List ℕ × List ℕ)) (a b : List ℕ) → before_cut x o ≡ Some (a, b)
    → (rest : List ℕ) × (o ≡ Some (rest, b)) × (x ∷ rest ≡ a)
before_cut_some x o a b e = grind arith

pub cut_found : (c : ℕ) (text a b : List ℕ) → cut c text ≡ Some (a, b) → (text ≡ a ++ (c ∷ b)) × Lacks c a
cut_found c [] a b e = absurd cc
cut_found c (x ∷ xs) a b e =
    elim (cases_eq x c) [
      | inl same ↦
          let pair = some_pair_parts [] a xs b (rw (eq-eqb x c same) at e) in
          (rw (← pair.0, ← pair.1, same) refl, rw (← pair.0) tt)
      | inr other ↦
          let p = before_cut_some x (cut c xs) a b (rw (ne_eqb x c other) at e) in
          let q = cut_found c xs p.0 b p.1 in
          (rw (← p.2) (ap (λ (t : List ℕ). x ∷ t) q.0), rw (← p.2) (other, q.1))
    ]

pub before_cut_none : (x : ℕ) (o : Option (List ℕ × List ℕ)) → before_cut x o ≡ None → o ≡ None
before_cut_none x o e = grind arith

pub cut_none_lacks : (c : ℕ) (text : List ℕ) → cut c text ≡ None → Lacks c text
cut_none_lacks c [] e = tt
cut_none_lacks c (x ∷ xs) e = grind (arith, cases_eq, none-some, eq-eqb, cut_none_lacks c xs, before_cut_none, ne_eqb)

pub LacksCut-by_index : (c : ℕ) (text : List ℕ) → ((i : ℕ) → i < length text → get_or text i 0 ≢ c) → Lacks c text
LacksCut-by_index c [] h = tt
LacksCut-by_index c (x ∷ xs) h = (h 0 (omega arith), LacksCut-by_index c xs (λ i lt. h (suc i) (omega arith)))

pub cut_from_split : (c : ℕ) (text : List ℕ) (r : Option (Bor (List ℕ) × Bor (List ℕ))) → IsSplitOnceResult c text r → c < 128
    → parts r ≡ cut c text
cut_from_split c text r h lt = grind (arith, cut_none, LacksCut-by_index, split_parts, cut_at)

-- ---- prefixes

pub strip_at : (p rest : List ℕ) → strip p (p ++ rest) ≡ Some rest
strip_at [] rest = refl
strip_at (p ∷ ps) rest = rw (eq-eqb p p refl) (strip_at ps rest)

pub strip_found : (p text rest : List ℕ) → strip p text ≡ Some rest → text ≡ p ++ rest
strip_found [] text rest e = cc
strip_found (p ∷ ps) [] rest e = absurd cc
strip_found (p ∷ ps) (x ∷ xs) rest e = grind (arith, cases_eq, eq-eqb, strip_found ps xs rest, ne_eqb)

pub strip_none : (p text : List ℕ) → ((rest : List ℕ) → text ≢ p ++ rest) → strip p text ≡ None
strip_none p text h =
    let cases : (o : Option (List ℕ)) → strip p text ≡ o → o ≡ None =
    λ o e. elim o as (λ v. strip p text ≡ v → v ≡ None)
    [ None ↦ λ _. refl | Some rest ↦ λ f. absurd (h rest (strip_found p text rest f)) ] e in
    cases (strip p text) refl

-- ---- a prefix by its bytes

pub prefix_short : (p text : List ℕ) → length text < length p → strip p text ≡ None
prefix_short [] text h = absurd (omega (arith, h))
prefix_short (p ∷ ps) [] h = refl
prefix_short (p ∷ ps) (x ∷ xs) h = grind (arith, prefix_short ps xs)

-- a prefix ends between two characters
pub prefix_ends : (p text : List ℕ) → IsUtf8 p → IsUtf8 text → strip p text ≡ Some (drop (length p) text)
    → IsCharBoundary text (length p)
prefix_ends p text part whole e =
    let joined = strip_found p text (drop (length p) text) e in
    let le : length p ≤ length text = rw joined (omega (arith, length-append p (drop (length p) text))) in
    let taken : take (length p) text ≡ p = rw joined (take-append_seam p (drop (length p) text)) in
    IsCharBoundary-from_take text (length p) whole le (rw taken part)

-- ---- a character that stands nowhere

pub LacksCut-append : (c : ℕ) (xs ys : List ℕ) → Lacks c (xs ++ ys) → Lacks c xs
LacksCut-append c [] ys h = tt
LacksCut-append c (x ∷ xs) ys h = (h.0, LacksCut-append c xs ys h.1)

pub lacks_cut_true : (c : ℕ) (text : List ℕ) → Lacks c text → lacks c text ≡ true
lacks_cut_true c [] h = refl
lacks_cut_true c (x ∷ xs) h = rw (ne_eqb x c h.0) (lacks_cut_true c xs h.1)

pub lacks_cut_from : (c : ℕ) (text : List ℕ) → lacks c text ≡ true → Lacks c text
lacks_cut_from c [] e = tt
lacks_cut_from c (x ∷ xs) e = grind (arith, and_parts, both_ways, not-true, eq-eqb, lacks_cut_from c xs)

pub has_cut : (c : ℕ) (text : List ℕ) (r : Option (Bor (List ℕ) × Bor (List ℕ))) → parts r ≡ cut c text → is_some r ≡ not (lacks c text)
has_cut c text None e = rw (lacks_cut_true c text (cut_none_lacks c text (sym e))) refl
has_cut c text (Some x) e =
    let found = cut_found c text x.0.now x.1.now (sym e) in
    rw (false_from_ne_true (lacks c text) (λ t. at_cut c x.0.now x.1.now (rw found.0 at (lacks_cut_from c text t)))) refl
  where
    at_cut : (c : ℕ) (a b : List ℕ) → Lacks c (a ++ (c ∷ b)) → ⊥
    at_cut c [] b h = h.0 refl
    at_cut c (x ∷ xs) b h = at_cut c xs b h.1

-- ---- before a cut

-- what lacks c goes whole before the cut
pub cut_before_front : (c : ℕ) (a b : List ℕ) → Lacks c a → before c (a ++ b) ≡ a ++ before c b
cut_before_front c [] b h = refl
cut_before_front c (x ∷ xs) b h = grind (arith, ne_eqb, cut_before_front c xs b h.1)

pub cut_before_lacks : (c : ℕ) (text : List ℕ) → Lacks c (before c text)
cut_before_lacks c text = go (cut c text) refl
  where
    go : (o : Option (List ℕ × List ℕ)) → cut c text ≡ o → Lacks c (front text o)
    go None e = cut_none_lacks c text e
    go (Some p) e = (cut_found c text p.0 p.1 e).1

cut_before_rest : (c : ℕ) (text : List ℕ) → (rest : List ℕ) × (text ≡ before c text ++ rest)
cut_before_rest c text = go (cut c text) refl
  where
    go : (o : Option (List ℕ × List ℕ)) → cut c text ≡ o → (rest : List ℕ) × (text ≡ front text o ++ rest)
    go None e = ([], sym (append-nil text))
    go (Some p) e = (c ∷ p.1, (cut_found c text p.0 p.1 e).0)

-- after what goes before stands the rest
pub strip_before : (c : ℕ) (text : List ℕ) → strip (before c text) text ≡ Some (drop (length (before c text)) text)
strip_before c text = let rest = cut_before_rest c text in go (before c text) text rest.0 rest.1
  where
    go : (p text rest : List ℕ) → text ≡ p ++ rest → strip p text ≡ Some (drop (length p) text)
    go p text rest e = rw e (strip_at p rest ∙ ap (λ (t : List ℕ). Some t) (sym (drop-append_seam p rest)))

-- it ends between two characters
pub cut_before_ends : (c : ℕ) (text : List ℕ) → IsUtf8 text → IsUtf8 (before c text) → IsCharBoundary text (length (before c text))
cut_before_ends c text whole part = let rest = cut_before_rest c text in go (before c text) text rest.0 rest.1 whole part
  where
    go : (p text rest : List ℕ) → text ≡ p ++ rest → IsUtf8 text → IsUtf8 p → IsCharBoundary text (length p)
    go p text rest e whole part =
        let le : length p ≤ length text = rw e (omega (arith, length-append p rest)) in
        let taken : take (length p) text ≡ p = rw e (take-append_seam p rest) in
        IsCharBoundary-from_take text (length p) whole le (rw taken part)
