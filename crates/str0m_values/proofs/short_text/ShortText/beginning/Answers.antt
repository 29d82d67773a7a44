use Rattle.str0m_values.proofs.Common.{◌≡◌, ◌<◌, ◌≤◌, ◌++◌, arith, take, drop, length, subst, sym, ◌∙◌, ap, take-append-drop}
use Rattle.str0m_values.proofs.Common.{length-take-le, List, ℕ, inr, IsUtf8, IsCharBoundary, IsUtf8-take}
use Rattle.str0m_values.proofs.ShortTextCells.{length-short_text_filled, take-short_text_filled, drop-short_text_filled}
use Rattle.str0m_values.proofs.short_text.ShortText.beginning.Goals as goal
use Rattle.str0m_values.specs.ShortText.{IsLongestShortText}

-- what was copied is the text's beginning
copied_so : (n : ℕ) (text shown xs : List ℕ) → xs ≡ take n shown → shown ≡ text → n ≤ length text → (xs ≡ take n text) × (length xs ≡ n)
copied_so n text shown xs same is small =
    let e : xs ≡ take n text = same ∙ ap (λ t. take n t) is in (e, ap length e ∙ length-take-le n text small)

is_longest : (text kept : List ℕ) (n : ℕ) → n ≤ 16 → IsCharBoundary text n → ((i : ℕ) → n < i → i ≤ 16 → ¬ (IsCharBoundary text i))
    → kept ≡ take n text → IsLongestShortText 16 text kept
is_longest text kept n small at nearest e =
    let len : length kept ≡ n = ap length e ∙ length-take-le n text at.0 in
    record {
      begins = (drop n text, sym (take-append-drop n text) ∙ ap (λ t. t ++ drop n text) (sym e));
      fits = omega arith;
      whole = inr (subst (λ (k : ℕ). IsCharBoundary text k) (sym len) at);
      longest = λ i above room. nearest i (omega arith) room;
    }

pub invariant_of-result : goal.invariant_of-result
invariant_of-result c =
    let at = c.floor_char_boundary-len.ensures.boundary in
    let same = copied_so _ c.args.text.now _ _ c.copy_from_slice.ensures.after c.as_bytes.ensures.value at.0 in
    let utf8 : IsUtf8 (take c.floor_char_boundary-len.result c.args.text.now) = IsUtf8-take _ _ c.utf8.text at in (
      c.floor_char_boundary-len.ensures.bound,
      length-short_text_filled _ _ c.floor_char_boundary-len.ensures.bound same.1,
      drop-short_text_filled _ _ same.1,
      ∣ rw (take-short_text_filled _ _ same.1, same.0) utf8 ∣₁,
    )

pub returns : goal.returns
returns c =
    let at = c.floor_char_boundary-len.ensures.boundary in
    let same = copied_so _ c.args.text.now _ _ c.copy_from_slice.ensures.after c.as_bytes.ensures.value at.0 in
    is_longest _ _ _ c.floor_char_boundary-len.ensures.bound at c.floor_char_boundary-len.ensures.nearest
    (take-short_text_filled _ _ same.1 ∙ same.0)
