-- What is printed, read again line by line.
use Rattle.std.proofs.lemmas.Grind.{take_at_read}
use Rattle.str0m_signal.proofs.Common.{rules, ◌≡◌, ◌<◌, ◌+◌, ◌++◌, ◌∷◌, [], ◌&&◌, eqb, arith, ℕ, suc, Bool, true, false, List, length, take}
use Rattle.str0m_signal.proofs.Common.{drop, get_or, Option, Some, None, inl, inr, refl, sym, ap, subst, ◌∙◌, eqb-true, none-some}
use Rattle.str0m_signal.proofs.Common.{same_Some, lacks, IsTheOnly, Lacks, lacks_cut_true, lacks_cut_from, printed_line_end, Reads}
use Rattle.str0m_signal.proofs.Common.{take-append-drop}
use Rattle.str0m_signal.proofs.Common.{drop-cons, append_cancel_right, IfSome_then}
use Rattle.str0m_signal.specs.back.Writable.{AreReadAs, IsReadBackLine, IsReadBy, PutsBack}
use Rattle.str0m_signal.specs.line.LinesReading.{read_attribute}

-- the text is this line and its end
abbrev pub IsReadBackContent : List ℕ → List ℕ → Type 0
IsReadBackContent text line = (text ≡ line ++ printed_line_end) × Lacks 10 line × Lacks 13 line

back_and_both_true : (a b : Bool) → a && b ≡ true → (a ≡ true) × (b ≡ true)
back_and_both_true a b h = grind arith

pub ended_content : (text line : List ℕ) → text ≡ line ++ printed_line_end → lacks 10 line && lacks 13 line ≡ true
    → IsTheOnly (IsReadBackContent text) (Some line)
ended_content text line e plain = grind (arith, lacks_cut_from, back_and_both_true, append_cancel_right)

pub other_read_back_content : (text line : List ℕ) → text ≡ line ++ printed_line_end → lacks 10 line && lacks 13 line ≡ false
    → IsTheOnly (IsReadBackContent text) None
other_read_back_content text line e other = grind (arith, append_cancel_right, lacks_cut_true)

empty_text : (text : List ℕ) → eqb (length text) 0 ≡ true → text ≡ []
empty_text [] e = refl
empty_text (x ∷ xs) e = absurd (omega (arith, eqb-true (length (x ∷ xs)) 0 e))

line_not_empty : (content : List ℕ) → content ++ printed_line_end ≡ [] → ⊥
line_not_empty [] e = absurd cc
line_not_empty (x ∷ xs) e = absurd cc

-- ---- what comes back of lists

module _ {X : Type 0} (text : X → List ℕ) (F : List ℕ → X → Type 0) (GoesWith : X → X → Type 0) where
  abbrev pub AreReadBackAs : List X → List X → Type 0
  AreReadBackAs = AreReadAs text F GoesWith

  back_both : (xs ys reads more : List X) → AreReadBackAs xs reads → AreReadBackAs ys more → AreReadBackAs (xs ++ ys) (reads ++ more)
  back_both [] ys reads more h k = subst (λ (list : List X). AreReadBackAs ys (list ++ more)) (sym h) k
  back_both (x ∷ xs) ys reads more (inl h) k = inl (h.0, back_both xs ys reads more h.1 k)
  back_both (x ∷ xs) ys reads more (inr h) k = grind (arith, back_both xs ys h.1 more h.5 k)

  back_parts : (xs ys reads : List X) → AreReadBackAs (xs ++ ys) reads
      → (front : List X) × (back : List X) × (reads ≡ front ++ back) × AreReadBackAs xs front × AreReadBackAs ys back
  back_parts [] ys reads h = ([], reads, refl, refl, h)
  back_parts (x ∷ xs) ys reads (inl h) = grind (arith, back_parts xs ys reads h.1)
  back_parts (x ∷ xs) ys reads (inr h) =
      let parts = back_parts xs ys h.1 h.5 in
      (h.0 ∷ parts.0, parts.1, h.2 ∙ ap (λ (list : List X). h.0 ∷ list) parts.2, inr (h.0, parts.0, refl, h.3, h.4, parts.3), parts.4)

  -- what comes back of two lists comes back of both together, and nothing else
  pub only_back_both : (xs ys reads more : List X) → IsTheOnly (AreReadBackAs xs) (Some reads) → IsTheOnly (AreReadBackAs ys) (Some more)
      → IsTheOnly (AreReadBackAs (xs ++ ys)) (Some (reads ++ more))
  only_back_both xs ys reads more h k = grind (arith, back_both, back_parts, same_Some)

  -- what doesn't come back lets nothing around it come back
  pub none_read_back_around : (xs ys zs : List X) → IsTheOnly (AreReadBackAs ys) None → IsTheOnly (AreReadBackAs (xs ++ (ys ++ zs))) None
  none_read_back_around xs ys zs none = grind (arith, back_parts, none-some)

  -- what is printed as nothing comes back as nothing
  pub empty_back : (x : X) → eqb (length (text x)) 0 ≡ true → IsTheOnly (AreReadBackAs (x ∷ [])) (Some [])
  empty_back x empty = grind (arith, empty_text, line_not_empty)

  -- ---- an attribute at its place in the list

  pub lost_back_at : (xs : List X) (i : ℕ) (x : X) → i < length xs → x ≡ get_or xs i x → IsTheOnly (AreReadBackAs (x ∷ [])) None
      → IsTheOnly (AreReadBackAs xs) None
  lost_back_at xs i x lt at none =
      grind (arith, take-append-drop i xs, drop-cons xs i x lt, none_read_back_around (take i xs) (x ∷ []) (drop (suc i) xs) none)

  pub back_at : (xs : List X) (i : ℕ) (x : X) (reads more : List X) → i < length xs → x ≡ get_or xs i x
      → PutsBack (AreReadBackAs (x ∷ [])) reads more true
      → IsTheOnly (AreReadBackAs (take i xs)) (Some reads) → IsTheOnly (AreReadBackAs (take (i + 1) xs)) (Some more)
  back_at xs i x reads more lt at last before =
      grind (arith, take_at_read xs i x lt, only_back_both (take i xs) (x ∷ []) reads last.0 before last.1)

-- ---- the same by another form of the lines

back_by : {X : Type 0} (text : X → List ℕ) (F G : List ℕ → X → Type 0) (GoesWith : X → X → Type 0)
    → ((content : List ℕ) (x : X) → F content x → G content x)
    → (xs reads : List X) → AreReadAs text F GoesWith xs reads → AreReadAs text G GoesWith xs reads
back_by text F G GoesWith by [] reads h = h
back_by text F G GoesWith by (x ∷ xs) reads (inl h) = inl (h.0, back_by text F G GoesWith by xs reads h.1)
back_by text F G GoesWith by (x ∷ xs) reads (inr h) = grind (arith, back_by text F G GoesWith by xs h.1 h.5)

pub only_back_by : {A : Type 0} {P Q : A → Type 0} (o : Option A) → ((a : A) → P a → Q a) → ((a : A) → Q a → P a) → IsTheOnly P o
    → IsTheOnly Q o
only_back_by o there back h = record { found = IfSome_then o h.found there; only = λ a q. h.only a (back a q) }

-- what is read by a function is read by the form that it reads
pub back_by_form : {X : Type 0} (text : X → List ℕ) (F : List ℕ → X → Type 0) (f : List ℕ → Option X) (GoesWith : X → X → Type 0)
    → Reads F (read_attribute f)
    → (xs : List X) (found : Option (List X)) → IsTheOnly (AreReadAs text (IsReadBy f) GoesWith xs) found
    → IsTheOnly (AreReadAs text F GoesWith xs) found
back_by_form text F f GoesWith reads xs found = search (rules, only_back_by, back_by)

-- what a function reads of the content is all that the text is printed as
pub read_back_printed_by : {A : Type 0} {F : List ℕ → A → Type 0} {f : List ℕ → Option A} → Reads F f
    → (text : List ℕ) (line : List ℕ) (found : Option A)
    → IsTheOnly (IsReadBackContent text) (Some line) → found ≡ f line → IsTheOnly (IsReadBackLine F text) found
read_back_printed_by {A} {F} {f} reads text line found content is = grind arith
