-- The words of an enumeration are read both ways, where each case is found by its own word.
use Rattle.str0m_values.proofs.Common.{arith, ◌≡◌, ℕ, Bool, true, false, cond, List, [], ◌∷◌, map, Some, refl, sym, ap, ◌∙◌, bytes_eq}
use Rattle.str0m_values.proofs.Common.{str_to_ascii_lowercase, bytes_eq-Decides, find, to_ascii_lowercase, str_eq_ignore_ascii_case}
use Rattle.str0m_values.proofs.CutsBothWays.{Reads, cuts_some_is}
use Rattle.str0m_values.specs.Words.{case_of, case_alike}

-- what is found passes
pub case_found_passes : {A : Type 0} (test : A → Bool) (xs : List A) (x : A) → find test xs ≡ Some x → test x ≡ true
case_found_passes test [] x e = absurd cc
case_found_passes {A} test (y ∷ ys) x e =
    let at : (b : Bool) → test y ≡ b → cond b (Some y) (find test ys) ≡ Some x → test x ≡ true =
    λ b p. elim b as (λ v. test y ≡ v → cond v (Some y) (find test ys) ≡ Some x → test x ≡ true) [
      | true ↦ λ p e. rw (← cuts_some_is y x e) p
      | false ↦ λ p e. case_found_passes test ys x e
    ] p in
    at (test y) refl e

pub reads_words : {A : Type 0} (word : A → List ℕ) (cases : List A) → ((a : A) → case_of word cases (word a) ≡ Some a)
    → Reads (λ text a. text ≡ word a) (case_of word cases)
unfolding case_of
reads_words word cases own = grind (arith, bytes_eq-Decides, case_found_passes)

-- the same without regard to the case of ASCII letters, where words have none in upper case
pub words_read_alike : {A : Type 0} (word : A → List ℕ) (cases : List A) → ((a : A) → str_to_ascii_lowercase (word a) ≡ word a)
    → ((a : A) → case_alike word cases (word a) ≡ Some a) → Reads (λ text a. str_to_ascii_lowercase text ≡ word a) (case_alike word cases)
unfolding case_alike
words_read_alike word cases low own = record {
  sound = λ text a e. (bytes_eq-Decides (map to_ascii_lowercase text) (map to_ascii_lowercase (word a))).0
      (case_found_passes (λ one. str_eq_ignore_ascii_case text (word one)) cases a e) ∙ low a;
  complete = λ text a e. ap (λ t. find (λ one. bytes_eq t (map to_ascii_lowercase (word one))) cases) (e ∙ sym (low a)) ∙ own a;
}
