-- What is shown of values, one after the other, and when it is the same.
use Rattle.std.proofs.Math.Seq.{drop-cons}
use Rattle.str0m_sdp.proofs.Common.{◌≡◌, ◌<◌, ◌+◌, ℕ, Bool, false, not, cond, List, [], ◌∷◌, length, drop, get_or, Option, sym, ◌∙◌, ◌↔◌}
use Rattle.str0m_sdp.proofs.Common.{IsTrue, MatchOption, FormatParam, arith, is_some, length-map}
use Rattle.str0m_sdp.specs.attribute.Fmtp.{is_fmtp_shown}
use Rattle.str0m_sdp.specs.declared.attribute.simulcast.SimulcastLayer.{SimulcastLayer}
use Rattle.str0m_sdp.specs.section.Alike.{alike_as_read, layer_ids, alike_shown}

alike_shown_first : (value : FormatParam) (values : List FormatParam) (b : Bool) → is_fmtp_shown value ≡ b
    → alike_shown (value ∷ values) ≡ cond b (alike_as_read value ∷ alike_shown values) (alike_shown values)
alike_shown_first value values b is = grind arith

-- what is shown from a value on
pub alike_shown_from : (values : List FormatParam) (i : ℕ) (value : FormatParam) (b : Bool) → i < length values
    → value ≡ get_or values i value
    → is_fmtp_shown value ≡ b
    → alike_shown (drop i values) ≡ cond b (alike_as_read value ∷ alike_shown (drop (i + 1) values)) (alike_shown (drop (i + 1) values))
alike_shown_from values i value b lt at is = grind (arith, drop-cons, alike_shown_first)

-- ---- when two lists are the same, by their first items

pub alike_one_shown_ends : {A P : Type 0} (left right : List A) (x : A) (xs : List A) → (left ≡ right) ↔ P → left ≡ x ∷ xs → right ≡ []
    → IsTrue false ↔ P
alike_one_shown_ends left right x xs iff at empty = (λ h. cc, λ p. let e = sym at ∙ iff.1 p ∙ empty in cc)

pub alike_first_shown_differ : {A P : Type 0} (left right : List A) (x y : A) (xs ys : List A) → (left ≡ right) ↔ P → left ≡ x ∷ xs
    → right ≡ y ∷ ys
    → (y ≡ x → ⊥) → IsTrue false ↔ P
alike_first_shown_differ left right x y xs ys iff at other differ = grind arith

pub alike_firsts_agree : {A P : Type 0} (left right : List A) (x y : A) (xs ys : List A) → (left ≡ right) ↔ P → left ≡ x ∷ xs
    → right ≡ y ∷ ys
    → y ≡ x → (xs ≡ ys) ↔ P
alike_firsts_agree left right x y xs ys iff at other same = grind arith

pub alike_both_shown_end : {A B P : Type 0} (left right : List A) (next : Option B) (first : B → A) (more : B → List A) (b : Bool)
    → (left ≡ right) ↔ P → left ≡ [] → MatchOption next (right ≡ []) (λ found. right ≡ first found ∷ more found) → is_some next ≡ not b
    → IsTrue b ↔ P
alike_both_shown_end left right next first more b iff at other is = grind arith

pub alike_first_passed : {A P : Type 0} (left xs right : List A) → (left ≡ right) ↔ P → left ≡ xs → (xs ≡ right) ↔ P
alike_first_passed left xs right iff at = (λ e. iff.0 (at ∙ e), λ p. sym at ∙ iff.1 p)

-- the names from a layer on
pub alike_ids_from : (layers : List SimulcastLayer) (i : ℕ) (layer : SimulcastLayer) → i < length layers → layer ≡ get_or layers i layer
    → layer_ids (drop i layers) ≡ layer.restriction_id ∷ layer_ids (drop (i + 1) layers)
alike_ids_from layers i layer lt at = grind (arith, drop-cons)

-- the names of lists of another length are others
pub alike_other_length : (layers others : List SimulcastLayer) → (length layers ≡ length others → ⊥) → layer_ids layers ≡ layer_ids others
    → ⊥
alike_other_length layers others differ same = grind (arith, length-map)
