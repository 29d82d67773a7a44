-- The modes of a text are the bits of its mask.
use Rattle.std.proofs.Math.Seq.{get_or-append_seam}
use Rattle.std.proofs.lemmas.List.Quantifiers.{Any-push}
use Rattle.str0m_formats.proofs.Common.{◌≡◌, ◌<◌, ◌^◌, ◌*◌, ◌%◌, ◌⊎◌, inl, inr, ℕ, List, [], ◌∷◌, ◌++◌, ◌==◌, length, get_or, Some, None}
use Rattle.str0m_formats.proofs.Common.{Option, sym, ap, ◌∙◌, arith, subst, bit_at, cases_lt, eqb_tells, and_pow, bit_at-lt}
use Rattle.str0m_formats.proofs.Common.{bit_at_set_same, bit_at_set_other, same_from_bits, length-append, All-push, IsTheOnly, num_only}
use Rattle.str0m_formats.proofs.Common.{◌>>=◌, num, trim, slice_split, append_assoc, append-nil, Any, IsBitSet, w16, get_or_append_left}
use Rattle.str0m_formats.proofs.Common.{pow_pos, bit_or}
use Rattle.str0m_formats.proofs.format.FormatParamOnly.{only_same}
use Rattle.str0m_formats.proofs.format.ParamTextPrinted.{param_mode_shifted}
use Rattle.str0m_formats.specs.format.FormatParam.{IsMode, IsMask, IsModeSet}
use Rattle.str0m_formats.specs.format.FormatParamReading.{modes_from, modes_read}

pub AnyMode-more : {X : Type 0} (P : X → Type 0) (xs : List X) (y : X) → Any P xs → Any P (xs ++ y ∷ [])
AnyMode-more P xs y (k, x, lt, is, p) = (k, x, omega (arith, length-append xs (y ∷ [])), get_or_append_left xs (y ∷ []) x k lt ∙ is, p)

pub AnyMode-cases : {X : Type 0} (P : X → Type 0) (xs : List X) (y : X) → Any P (xs ++ y ∷ []) → Any P xs ⊎ P y
AnyMode-cases P xs y (k, x, lt, is, p) =
    elim (cases_lt k (length xs)) [
      | inl below ↦ inl (k, x, below, sym (get_or_append_left xs (y ∷ []) x k below) ∙ is, p)
      | inr last ↦
          (let at : k ≡ length xs = omega (arith, length-append xs (y ∷ [])) in
          let there : get_or (xs ++ y ∷ []) (length xs) x ≡ x = subst (λ (j : ℕ). get_or (xs ++ y ∷ []) j x ≡ x) at is in
          inr (subst P (sym there ∙ get_or-append_seam xs y [] x) p))
    ]

pub bit_set_at : (n k : ℕ) → IsBitSet n k → bit_at n k ≡ 1
bit_set_at n k h = grind (arith, cases_lt, and_pow, bit_at-lt)

pub bit_at_set : (n k : ℕ) → bit_at n k ≡ 1 → IsBitSet n k
bit_at_set n k h = grind (arith, and_pow, pow_pos)

-- a piece names one mode
pub mode_same : (piece : List ℕ) (m n : ℕ) → IsMode piece m → IsMode piece n → m ≡ n
mode_same piece m n a b = sym a.value ∙ b.value

pub mask_none : IsMask [] 0
mask_none = grind arith

pub mask_push : (pieces : List (List ℕ)) (piece : List ℕ) (mask mode : ℕ) → IsMask pieces mask → IsMode piece mode
    → IsMask (pieces ++ piece ∷ []) (bit_or mask (1 * 2 ^ mode % 2 ^ 16))
mask_push pieces piece mask mode h is_mode = record {
  modes = All-push (λ piece. (mode : ℕ) × IsMode piece mode) pieces piece h.modes (mode, is_mode);
  bits = λ k. (
    λ set. elim (eqb_tells k mode) [
      | inl same ↦ Any-push (λ p. IsMode p k) pieces piece (subst (λ n. IsMode piece n) (sym same.1) is_mode)
      | inr other ↦ AnyMode-more (λ p. IsMode p k) pieces piece
          ((h.bits k).0 (bit_at_set mask k (sym (bit_at_set_other w16 mask mode (omega (arith, is_mode.fits)) k other.1)
          ∙ bit_set_at _ k set)))
    ],
    λ any. elim (eqb_tells k mode) [
      | inl same ↦ bit_at_set _ k (rw same.1 (bit_at_set_same w16 mask mode (omega (arith, is_mode.fits))))
      | inr other ↦ bit_at_set _ k (bit_at_set_other w16 mask mode (omega (arith, is_mode.fits)) k other.1
          ∙ bit_set_at mask k ((h.bits k).1 (elim (AnyMode-cases (λ p. IsMode p k) pieces piece any) [
            | inl before ↦ before
            | inr here ↦ absurd (other.1 (mode_same piece k mode here is_mode))
          ])))
    ],
  );
}

-- the same pieces give the same mask
pub mask_same : (pieces : List (List ℕ)) (m n : ℕ) → IsMask pieces m → IsMask pieces n → m ≡ n
mask_same pieces m n g h =
    let into : (a b : ℕ) → IsMask pieces a → IsMask pieces b → (k : ℕ) → bit_at a k ≡ 1 → bit_at b k ≡ 1 =
    λ a b x y k e. bit_set_at b k ((y.bits k).1 ((x.bits k).0 (bit_at_set a k e))) in
    same_from_bits m n (λ k. elim (cases_lt (bit_at m k) 1) [
      | inl below ↦ elim (cases_lt (bit_at n k) 1) [
        | inl under ↦ omega arith
        | inr over ↦ omega (arith, into n m h g k (omega (arith, bit_at-lt n k)))
      ]
      | inr above ↦
          (let one : bit_at m k ≡ 1 = omega (arith, bit_at-lt m k) in one ∙ sym (into m n g h k one))
    ])

-- a piece that names no mode
pub mask_fails : (pieces : List (List ℕ)) (piece : List ℕ) (k : ℕ) → (k < length pieces) × (piece ≡ get_or pieces k piece)
    → IsTheOnly (IsMode piece) None → (mask : ℕ) → IsMask pieces mask → ⊥
mask_fails pieces piece k at none mask h =
    let is_mode = h.modes k piece at.0 in
    let e : (let nothing : Option ℕ = None in nothing ≡ Some is_mode.0) =
    none.only is_mode.0 (subst (λ p. IsMode p is_mode.0) (sym at.1) is_mode.1) in
    cc

-- after pieces whose mask is known, the rest is read as the one mask of them all
modes_from_only : (done more : List (List ℕ)) (mask : ℕ) → IsMask done mask → IsTheOnly (IsMask (done ++ more)) (modes_from mask more)
modes_from_only done [] mask h = rw (append-nil done) (record { found = h; only = λ m k. ap Some (mask_same done mask m h k) })
modes_from_only done (piece ∷ more) mask h = step done piece more mask h (num 8 (trim piece)) (num_only 8 (trim piece))
    (modes_from_only (done ++ piece ∷ []) more)
  where
    step : (done : List (List ℕ)) (piece : List ℕ) (more : List (List ℕ)) (mask : ℕ) → IsMask done mask → (o : Option ℕ)
        → IsTheOnly (IsMode piece) o → ((all : ℕ) → IsMask (done ++ piece ∷ []) all
        → IsTheOnly (IsMask ((done ++ piece ∷ []) ++ more)) (modes_from all more))
        → IsTheOnly (IsMask (done ++ piece ∷ more)) (o >>= λ mode. modes_from (bit_or mask (2 ^ mode)) more)
    step done piece more mask h None none then = record {
      found = tt;
      only = λ m k. absurd (mask_fails (done ++ piece ∷ more) piece (length done)
          (omega (arith, length-append done (piece ∷ more)), sym (get_or-append_seam done piece more piece)) none m k);
    }
    step done piece more mask h (Some mode) is then =
        let pushed : IsMask (done ++ piece ∷ []) (bit_or mask (2 ^ mode)) =
        subst (λ (b : ℕ). IsMask (done ++ piece ∷ []) (bit_or mask b)) (param_mode_shifted mode (omega (arith, is.found.fits)))
        (mask_push done piece mask mode h is.found) in
        subst (λ (ps : List (List ℕ)). IsTheOnly (IsMask ps) (modes_from (bit_or mask (2 ^ mode)) more))
        (append_assoc done (piece ∷ []) more) (then (bit_or mask (2 ^ mode)) pushed)

pub modes_only : (text : List ℕ) → IsTheOnly (IsModeSet text) (modes_read text)
unfolding IsModeSet modes_read
modes_only text = modes_from_only [] (slice_split (λ b. b == 44) text) 0 mask_none

pub modes_are : (text : List ℕ) (answer : Option ℕ) → IsTheOnly (IsModeSet text) answer → answer ≡ modes_read text
modes_are text answer h = only_same answer (modes_read text) h (modes_only text)
