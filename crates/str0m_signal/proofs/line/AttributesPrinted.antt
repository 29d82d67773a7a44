-- Printed attribute lines and their parts.
use Rattle.str0m_signal.proofs.Common.{◌≡◌, ◌⊎◌, ◌≤◌, ◌<◌, ◌^◌, ℕ, true, List, [], ◌∷◌, ◌++◌, refl, sym, subst, arith, lit≤, inl, inr}
use Rattle.str0m_signal.proofs.Common.{codes, digit_value, decimal, decimal_is_IsNumeral, lacks, Lacks, IsNum, lacks_cut_from, digits_lack}
use Rattle.str0m_signal.proofs.Common.{attribute_line, MediaAttribute, address_lacks_both, param_decimal_reads}
use Rattle.str0m_signal.specs.back.Writable.{IsReadBackLine}
use Rattle.str0m_signal.specs.form.FormTable.{any_form}
use Rattle.str0m_signal.specs.form.MediaAttribute.{media_forms, MediaForm, IsMediaLine}
use Rattle.str0m_signal.specs.line.Lines.{IsAttributeLine}

-- each item prints nothing, or one line that reads as the value in its place
abbrev pub LinesReadAs : {X A : Type 0} → (X → List ℕ) → (List ℕ → A → Type 0) → List X → List A → Type 0
LinesReadAs text F [] reads = reads ≡ []
LinesReadAs {A} text F (x ∷ xs) reads =
    ((text x ≡ []) × LinesReadAs text F xs reads)
    ⊎ ((a : A) × (more : List A) × (reads ≡ a ∷ more) × IsReadBackLine F (text x) a × LinesReadAs text F xs more)

pub one_read : {X A : Type 0} (text : X → List ℕ) (F : List ℕ → A → Type 0) (x : X) (a : A) (xs : List X) (reads : List A)
    → IsReadBackLine F (text x) a → LinesReadAs text F xs reads → LinesReadAs text F (x ∷ xs) (a ∷ reads)
one_read text F x a xs reads line more = inr (a, reads, refl, line, more)

pub both_read : {X A : Type 0} (text : X → List ℕ) (F : List ℕ → A → Type 0) (xs ys : List X) (reads more : List A)
    → LinesReadAs text F xs reads → LinesReadAs text F ys more → LinesReadAs text F (xs ++ ys) (reads ++ more)
both_read text F [] ys reads more h k = subst (λ rs. LinesReadAs text F ys (rs ++ more)) (sym h) k
both_read text F (x ∷ xs) ys reads more (inl nothing) k = inl (nothing.0, both_read text F xs ys reads more nothing.1 k)
both_read {A} text F (x ∷ xs) ys reads more (inr (a, rest, e, line, later)) k =
    grind (arith, one_read, both_read text F xs ys rest more later k)

-- ---- what a line holds no end within

-- neither LF nor CR stands in the text
abbrev pub HoldsNoEnd : List ℕ → Type 0
HoldsNoEnd text = Lacks 10 text × Lacks 13 text

pub no_ends : (xs ys : List ℕ) → HoldsNoEnd xs → HoldsNoEnd ys → HoldsNoEnd (xs ++ ys)
no_ends xs ys h k = (address_lacks_both 10 xs ys h.0 k.0, address_lacks_both 13 xs ys h.1 k.1)

pub no_end : (text : List ℕ) → lacks 10 text ≡ true → lacks 13 text ≡ true → HoldsNoEnd text
no_end text e f = (lacks_cut_from 10 text e, lacks_cut_from 13 text f)

-- ---- numbers

pub attribute_num_is : (limit n : ℕ) → n ≤ limit → limit < 2 ^ 64 → IsNum limit (decimal n) n
attribute_num_is limit n small fits = param_decimal_reads limit n small (omega arith)

-- digits hold no character that isn't one
pub attribute_decimal_lacks : (c n : ℕ) → 10 ≤ digit_value c → n < 2 ^ 64 → Lacks c (decimal n)
attribute_decimal_lacks c n other small = digits_lack c (decimal n) other (decimal_is_IsNumeral n small).0.1

pub decimal_no_end : (n : ℕ) → n < 2 ^ 64 → HoldsNoEnd (decimal n)
decimal_no_end n small = (attribute_decimal_lacks 10 n (lit≤ tt) small, attribute_decimal_lacks 13 n (lit≤ tt) small)

-- ---- attributes

-- a text that has the form, on a line of its own
pub line_printed : {A : Type 0} (Form : List ℕ → A → Type 0) (text : List ℕ) (attr : A) → HoldsNoEnd text → Form text attr
    → IsReadBackLine (IsAttributeLine Form) (attribute_line text) attr
line_printed Form text attr quiet form =
    let front = no_ends (codes "a=") text (no_end (codes "a=") refl refl) quiet in
    (codes "a=" ++ text, refl, front.0, front.1, (text, refl, form))

-- an attribute with a form of its own, on a line of its own
pub attribute_printed : (text : List ℕ) (attr : MediaAttribute) → HoldsNoEnd text → (any_form media_forms).Is text attr
    → IsReadBackLine IsMediaLine (attribute_line text) attr
attribute_printed text attr quiet form = line_printed MediaForm text attr quiet (inl form)
