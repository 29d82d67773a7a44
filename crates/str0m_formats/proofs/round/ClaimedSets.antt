-- Sets of payload types: what is claimed, and what is free.
use Rattle.str0m_formats.proofs.Common.{◌≡◌, ◌==◌, ℕ, ◌≤◌, ◌<◌, Bool, true, false, ◌||◌, ◌&&◌, not, nat_le, List, [], ◌∷◌, Option, Some}
use Rattle.str0m_formats.proofs.Common.{IfSome, ◌++◌, length, get_or, refl, sym, ap, ◌∙◌, subst, arith, slice_get, option_to_list, not-true}
use Rattle.str0m_formats.proofs.Common.{leb-true, le-leb, or-false, or_assoc, fun_ext, or_comm, slice_get_read}
use Rattle.str0m_formats.proofs.codec.CodecLookup.{codec_find_passes}
use Rattle.str0m_formats.specs.round.Claimed.{TypeSet, has, with_type, claimed_with_option, either_set, free, claim_order}

-- a type that is claimed stands in the set from then on, whether it did before or not
pub claimed_with : (old new : ℕ → Bool) (pt : ℕ) (answer : Bool) → pt ≤ 127 → answer ≡ (nat_le pt 127 && not (old pt))
    → ((t : ℕ) → new t ≡ (old t || (answer && pt == t))) → new ≡ with_type old pt
claimed_with old new pt answer small h step = grind arith

-- a free type is at most 127, and is not in use
pub free_claim-small : (used : TypeSet) (t : ℕ) → free used ≡ Some t → (t ≤ 127) × (used t ≡ false)
unfolding claim_order
free_claim-small used t h =
    let Passes : Option ℕ → Type 0 = λ o. IfSome o (λ x. (nat_le x 127 ≡ true) × (not (used x) ≡ true)) in
    let found = subst Passes h (codec_find_passes (λ x. nat_le x 127) (λ x. not (used x)) claim_order refl) in
    (leb-true t 127 found.0, not-true (used t) found.1)

-- a type that is refused leaves the set as it is
pub claimed_without : (old new : ℕ → Bool) (pt : ℕ) (answer : Bool) → answer ≡ false → ((t : ℕ) → new t ≡ (old t || (answer && pt == t)))
    → new ≡ old
claimed_without old new pt answer refused step = fun_ext (λ t. step t ∙ ap (λ b. old t || (b && pt == t)) refused ∙ or-false (old t))

pub claimed_answer_small : (old_pt answer : Bool) (pt : ℕ) → pt ≤ 127 → answer ≡ (nat_le pt 127 && not old_pt) → answer ≡ not old_pt
claimed_answer_small o a pt h e = e ∙ ap (λ b. b && not o) (le-leb pt 127 h)

-- types added one by one, or as a list
pub type-is : (set : TypeSet) (t : ℕ) → with_type set t ≡ either_set set (has (t ∷ []))
type-is set t = fun_ext (λ x. ap (λ b. set x || b) (sym (or-false (t == x))))

pub two_claims-are : (set : TypeSet) (t : ℕ) (o : Option ℕ)
    → claimed_with_option (with_type set t) o ≡ either_set set (has (t ∷ option_to_list o))
two_claims-are set t o = grind arith

pub claimed_or_turned : (a b c : Bool) → ((a || b) || c) ≡ ((a || c) || b)
claimed_or_turned a b c = or_assoc a b c ∙ ap (λ d. a || d) (or_comm b c) ∙ sym (or_assoc a c b)

-- the types of a row, RED before RTX
pub with_row_types : (set : TypeSet) (pt : ℕ) (resend red : Option ℕ)
    → claimed_with_option (claimed_with_option (with_type set pt) red) resend
    ≡ either_set set (has (pt ∷ (option_to_list resend ++ option_to_list red)))
with_row_types set pt resend red = grind arith

-- the item that a loop reads
pub claimed_slice_get_item : {A : Type 0} (xs : List A) (i : ℕ) (x : A) → i < length xs → x ≡ get_or xs i x → slice_get xs i ≡ Some x
claimed_slice_get_item xs i x h e = slice_get_read xs (length xs) i x refl h e
