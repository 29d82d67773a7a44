-- What a search over the bytes of a text finds.
use Rattle.memchr.specs.Find.{NoneBefore, Nowhere, Passes, is_byte}
use Rattle.str0m_signal.proofs.Common.{◌≡◌, ℕ, List, ◌+◌, length, None, Some, arith, eqb-true, eq-eqb, cut, slice_range, drop}
use Rattle.str0m_values.proofs.CutsNearLaws.{cut_first, cut_nowhere}
use Rattle.str0m_values.specs.Cuts.{IsFirstCutAt, LacksCutAt}

ext_map_lacks_before : (c : ℕ) (text : List ℕ) (n : ℕ) → Nowhere (Passes (is_byte c) text) 0 n → LacksCutAt c text n
ext_map_lacks_before c text n h = λ k lt e. h k (omega arith) lt (eq-eqb _ c e)

pub extension_first_place : (c : ℕ) (text : List ℕ) (i : ℕ)
    → NoneBefore (Passes (is_byte c) text) 0 (length text) i × Passes (is_byte c) text i
    → IsFirstCutAt c text i
extension_first_place c text i h = (h.0.high, eqb-true _ c h.1, ext_map_lacks_before c text i h.0.before)

-- the search cuts the text where the byte first stands
pub search_cut : (c : ℕ) (text : List ℕ) (i : ℕ) → NoneBefore (Passes (is_byte c) text) 0 (length text) i × Passes (is_byte c) text i
    → Some (slice_range text 0 i, drop (i + 1) text) ≡ cut c text
search_cut c text i h = cut_first c text i (extension_first_place c text i h)

pub search_fails : (c : ℕ) (text : List ℕ) → Nowhere (Passes (is_byte c) text) 0 (length text) → None ≡ cut c text
search_fails c text h = cut_nowhere c text (ext_map_lacks_before c text (length text) h)
