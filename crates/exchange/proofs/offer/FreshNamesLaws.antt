-- Names that are new: they stand among no others, and each once.
use Rattle.exchange.proofs.Common.{arith, ◌≡◌, ◌<◌, ◌≤◌, ◌+◌, ◌++◌, ◌^◌, ◌||◌, ◌⊎◌, inl, inr, ℕ, Bool, true, false, List, [], ◌∷◌, Some}
use Rattle.exchange.proofs.Common.{All, decimal, length, bytes_eq, refl, subst, sym, ap, ◌∙◌, eq-or-lt_of_le, false≢true, All-cons}
use Rattle.exchange.proofs.Common.{All-head, All-nil, All-tail, bytes_eq-Decides, AreMidsDistinct, is_group_listed}
use Rattle.exchange.specs.offer.FreshNames.{AreFresh, IsNextFreshNumber, is_name_number_taken}
use Rattle.std.proofs.lemmas.Fmt.{decimal_injective, length-decimal-le}
use Rattle.str0m_sdp.proofs.{mids_apart}

-- a name of a section has room for 16 bytes
pub short_name : (n : ℕ) → n < 2 ^ 32 → length (decimal n) ≤ 16
short_name n small = omega (arith, length-decimal-le 10 n (omega arith) (omega (arith, small)) (omega (arith, small)))

-- ---- one more

pub more_names_taken : (names : List (List ℕ)) (from number : ℕ) → is_name_number_taken names number ≡ true
    → ((k : ℕ) → from ≤ k → k < number → is_name_number_taken names k ≡ true) → (k : ℕ) → from ≤ k → k < number + 1
    → is_name_number_taken names k ≡ true
more_names_taken names from number taken before k ge lt = go (eq-or-lt_of_le below) where
  below : k ≤ number
  below = omega arith

  go : (k ≡ number) ⊎ (k < number) → is_name_number_taken names k ≡ true
  go (inl same) = ap (is_name_number_taken names) same ∙ taken
  go (inr less) = before k ge less

pub fresh_more : (names : List (List ℕ)) (from : ℕ) (given : List (List ℕ)) (to n : ℕ) → AreFresh names from given to
    → IsNextFreshNumber names to n
    → AreFresh names from (given ++ decimal n ∷ []) (n + 1)
fresh_more names from [] to n fresh next = (n, refl, subst (λ (start : ℕ). IsNextFreshNumber names start n) (sym fresh) next, refl)
fresh_more names from (name ∷ given) to n fresh next = (fresh.0, fresh.1, fresh.2, fresh_more names (fresh.0 + 1) given to n fresh.3 next)

-- ---- none is among the others

pub fresh_new : (names : List (List ℕ)) (from : ℕ) (given : List (List ℕ)) (to : ℕ) → AreFresh names from given to
    → All (λ name. is_group_listed names (Some name) ≡ false) given
fresh_new names from [] to fresh = All-nil (λ (name : List ℕ). is_group_listed names (Some name) ≡ false)
fresh_new names from (name ∷ given) to fresh =
    All-cons (λ (name : List ℕ). is_group_listed names (Some name) ≡ false) name given
    (ap (λ (text : List ℕ). is_group_listed names (Some text)) fresh.1 ∙ fresh.2.free)
    (fresh_new names (fresh.0 + 1) given to fresh.3)

-- ---- each stands once

other_fresh_number : (m n : ℕ) → m < 2 ^ 32 → n < 2 ^ 32 → m < n → bytes_eq (decimal n) (decimal m) ≡ false
other_fresh_number m n small below less = go (bytes_eq (decimal n) (decimal m)) refl where
  go : (b : Bool) → bytes_eq (decimal n) (decimal m) ≡ b → b ≡ false
  go false e = refl
  go true e = absurd (let same : n ≡ m = decimal_injective n m (omega arith) (omega arith) ((bytes_eq-Decides (decimal n) (decimal m)).0 e)
      in omega arith)

later_name_apart : (names : List (List ℕ)) (m from : ℕ) (given : List (List ℕ)) (to : ℕ) → m < 2 ^ 32 → m < from
    → AreFresh names from given to
    → is_group_listed given (Some (decimal m)) ≡ false
later_name_apart names m from [] to small less fresh = refl
later_name_apart names m from (name ∷ given) to small less fresh =
    let here : bytes_eq name (decimal m) ≡ false =
    ap (λ (text : List ℕ). bytes_eq text (decimal m)) fresh.1 ∙ other_fresh_number m fresh.0 small fresh.2.bounded
    (omega (arith, fresh.2.behind))
    in
    let later : is_group_listed given (Some (decimal m)) ≡ false =
    later_name_apart names m (fresh.0 + 1) given to small (omega (arith, fresh.2.behind)) fresh.3 in
    ap (λ (b : Bool). b || is_group_listed given (Some (decimal m))) here ∙ later

pub fresh_distinct : (names : List (List ℕ)) (from : ℕ) (given : List (List ℕ)) (to : ℕ) → AreFresh names from given to
    → AreMidsDistinct given
fresh_distinct names from [] to fresh = λ i j d lt within. absurd (omega arith)
fresh_distinct names from (name ∷ given) to fresh =
    let unlisted : is_group_listed given (Some name) ≡ false =
    ap (λ (text : List ℕ). is_group_listed given (Some text)) fresh.1
    ∙ later_name_apart names fresh.0 (fresh.0 + 1) given to fresh.2.bounded (omega arith) fresh.3 in
    (mids_apart name given unlisted).0 (fresh_distinct names (fresh.0 + 1) given to fresh.3)

-- a name among the others is none of them
pub fresh_unlisted : (names : List (List ℕ)) (given : List (List ℕ)) (other : List ℕ)
    → All (λ name. is_group_listed names (Some name) ≡ false) given
    → is_group_listed names (Some other) ≡ true → is_group_listed given (Some other) ≡ false
fresh_unlisted names [] other new listed = refl
fresh_unlisted names (name ∷ given) other new listed = go (bytes_eq name other) refl
    (fresh_unlisted names given other (All-tail IsNew name given new) listed) where
      IsNew : List ℕ → Type 0
      IsNew text = is_group_listed names (Some text) ≡ false

      go : (b : Bool) → bytes_eq name other ≡ b → is_group_listed given (Some other) ≡ false
          → (b || is_group_listed given (Some other)) ≡ false
      go false e later = later
      go true e later =
          let same : name ≡ other = (bytes_eq-Decides name other).0 e in
          absurd (false≢true (sym (All-head IsNew name given new) ∙ ap (λ (text : List ℕ). is_group_listed names (Some text)) same
          ∙ listed))
