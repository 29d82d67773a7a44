-- Parts with a character between them are read both ways, and one by one.
use Rattle.str0m_signal.proofs.Common.{◌≡◌, ◌⊎◌, ℕ, ◌<◌, true, false, eqb, List, [], ◌∷◌, ◌++◌, length, Option, Some, None, Result, Ok}
use Rattle.str0m_signal.proofs.Common.{IfOk, Bool, refl, sym, ap, subst, ◌∙◌, arith, inl, inr, length-append, is_some, ne_eqb, eq-eqb}
use Rattle.str0m_signal.proofs.Common.{Lacks, ◌>>=◌, cut, PartedAddress, cuts_bind_some, cuts_some_is, cut_found, cut_none_lacks, Reads}
use Rattle.str0m_signal.proofs.Common.{append_assoc}
use Rattle.str0m_signal.proofs.Common.{option_map, slice_split, onto_first}
use Rattle.str0m_signal.specs.form.FormReading.{all_read, parted_read}
use Rattle.str0m_signal.specs.line.LinesReading.{TakesLast}

abbrev pub part_with_front : {A : Type 0} → List A → Option (List A) → Option (List A)
part_with_front front read = option_map (λ xs. front ++ xs) read

part_split_cut : (c : ℕ) (a b : List ℕ) → Lacks c a → slice_split (λ x. eqb x c) (a ++ (c ∷ b)) ≡ a ∷ slice_split (λ x. eqb x c) b
part_split_cut c [] b h = rw (eq-eqb c c refl) refl
part_split_cut c (x ∷ xs) b h = rw (ne_eqb x c h.0) (ap (onto_first x) (part_split_cut c xs b h.1))

part_split_whole : (c : ℕ) (a : List ℕ) → Lacks c a → slice_split (λ x. eqb x c) a ≡ a ∷ []
part_split_whole c [] h = refl
part_split_whole c (x ∷ xs) h = rw (ne_eqb x c h.0) (ap (onto_first x) (part_split_whole c xs h.1))

pub parts_regroup : {A : Type 0} (front : List A) (x : A) (o : Option (List A))
    → part_with_front (front ++ x ∷ []) o ≡ part_with_front front (o >>= λ xs. Some (x ∷ xs))
parts_regroup front x o = grind (arith, append_assoc)

pub cons_parts : {A : Type 0} (x y : A) (xs ys : List A) → x ∷ xs ≡ y ∷ ys → (x ≡ y) × (xs ≡ ys)
cons_parts x y xs ys e = (cc, cc)

pub part_some_bound : {A : Type 0} (o : Option (List A)) (x : A) → is_some (o >>= λ xs. Some (x ∷ xs)) ≡ is_some o
part_some_bound None x = refl
part_some_bound (Some xs) x = refl

pub part_cut_shorter : (c : ℕ) (text a b : List ℕ) → cut c text ≡ Some (a, b) → length b < length text
part_cut_shorter c text a b e = let found = cut_found c text a b e in omega (arith, ap length found.0, length-append a (c ∷ b))

-- what was read is taken, where memory wasn't refused
pub takes_read : {A E : Type 0} (answer : Result (Option A) E) (read : Option A) (old new : List A) (taken : Bool)
    → IfOk answer (λ found. found ≡ read)
    → (found : Option A) × (answer ≡ Ok found) × TakesLast found old new taken → TakesLast read old new taken
takes_read {A} {E} answer read old new taken ensures given = grind arith

module _ {A : Type 0} (c : ℕ) (f : List ℕ → Option A) where
  pub parted_at : (a b : List ℕ) → Lacks c a → parted_read c f (a ++ (c ∷ b)) ≡ (f a >>= λ x. parted_read c f b >>= λ xs. Some (x ∷ xs))
  parted_at a b h = ap (all_read f) (part_split_cut c a b h)

  pub parted_last : (a : List ℕ) → Lacks c a → parted_read c f a ≡ (f a >>= λ x. Some (x ∷ []))
  parted_last a h = ap (all_read f) (part_split_whole c a h)

  parted_cut : (rest a b : List ℕ) → cut c rest ≡ Some (a, b)
      → parted_read c f rest ≡ (f a >>= λ x. parted_read c f b >>= λ xs. Some (x ∷ xs))
  parted_cut rest a b cut-is = let found = cut_found c rest a b cut-is in ap (parted_read c f) found.0 ∙ parted_at a b found.1

  parted_end : (rest : List ℕ) → cut c rest ≡ None → parted_read c f rest ≡ (f rest >>= λ x. Some (x ∷ []))
  parted_end rest cut-is = parted_last rest (cut_none_lacks c rest cut-is)

  -- one more part, or none
  pub part_more : (text : List ℕ) (front : List A) (rest a b : List ℕ) (x : A) → cut c rest ≡ Some (a, b) → f a ≡ Some x
      → part_with_front front (parted_read c f rest) ≡ parted_read c f text
      → part_with_front (front ++ x ∷ []) (parted_read c f b) ≡ parted_read c f text
  part_more text front rest a b x cut-is is so_far = grind (arith, parted_cut rest a b cut-is, parts_regroup front x (parted_read c f b))

  pub part_fails : (text : List ℕ) (front : List A) (rest a b : List ℕ) → cut c rest ≡ Some (a, b) → f a ≡ None
      → part_with_front front (parted_read c f rest) ≡ parted_read c f text → None ≡ parted_read c f text
  part_fails text front rest a b cut-is is so_far = grind (arith, parted_cut rest a b cut-is)

  pub part_ends : (text : List ℕ) (front : List A) (rest : List ℕ) (x : A) → cut c rest ≡ None → f rest ≡ Some x
      → part_with_front front (parted_read c f rest) ≡ parted_read c f text → Some (front ++ x ∷ []) ≡ parted_read c f text
  part_ends text front rest x cut-is is so_far = grind (arith, parted_end)

  pub part_ends_fail : (text : List ℕ) (front : List A) (rest : List ℕ) → cut c rest ≡ None → f rest ≡ None
      → part_with_front front (parted_read c f rest) ≡ parted_read c f text → None ≡ parted_read c f text
  part_ends_fail text front rest cut-is is so_far = grind (arith, parted_end)

  -- ---- whether all are parts

  part_decides : (o : Option A) (p : Option (List A)) → is_some o ≡ true → is_some (o >>= λ x. p >>= λ xs. Some (x ∷ xs)) ≡ is_some p
  part_decides o p e = grind arith

  no_part_bind : (o : Option A) (p : Option (List A)) → is_some o ≡ false → is_some (o >>= λ x. p >>= λ xs. Some (x ∷ xs)) ≡ false
  no_part_bind o p e = grind arith

  part_alone_some : (o : Option A) → is_some (o >>= λ x. Some (x ∷ [])) ≡ is_some o
  part_alone_some o = grind arith

  -- after a part, the rest decides
  pub one_part : (rest a b : List ℕ) → cut c rest ≡ Some (a, b) → is_some (f a) ≡ true
      → is_some (parted_read c f rest) ≡ is_some (parted_read c f b)
  one_part rest a b cut-is is = ap (λ (o : Option (List A)). is_some o) (parted_cut rest a b cut-is)
      ∙ part_decides (f a) (parted_read c f b) is

  pub bad_part : (rest a b : List ℕ) → cut c rest ≡ Some (a, b) → is_some (f a) ≡ false → is_some (parted_read c f rest) ≡ false
  bad_part rest a b cut-is is = ap (λ (o : Option (List A)). is_some o) (parted_cut rest a b cut-is)
      ∙ no_part_bind (f a) (parted_read c f b) is

  pub last_part : (rest : List ℕ) → cut c rest ≡ None → is_some (parted_read c f rest) ≡ is_some (f rest)
  last_part rest cut-is = ap (λ (o : Option (List A)). is_some o) (parted_end rest cut-is) ∙ part_alone_some (f rest)

-- ---- both ways

module _ {A : Type 0} {F : List ℕ → A → Type 0} {f : List ℕ → Option A} (c : ℕ) (reads : Reads F f) (lacks : (text : List ℕ) (x : A)
    → F text x → Lacks c text) where
  -- one part, or a part and more after c
  record LastPart (text : List ℕ) (xs : List A) : Type 0 where
    x : A
    part_is : F text x
    same : x ∷ [] ≡ xs

  record MoreParts (text : List ℕ) (xs : List A) : Type 0 where
    x : A
    ys : List A
    part : List ℕ
    behind : List ℕ
    joined : text ≡ part ++ (c ∷ behind)
    part_is : F part x
    more_are : parted_read c f behind ≡ Some ys
    same : x ∷ ys ≡ xs

  part_step : (text : List ℕ) (xs : List A) (o : Option (List ℕ × List ℕ)) → cut c text ≡ o → parted_read c f text ≡ Some xs
      → LastPart text xs ⊎ MoreParts text xs
  part_step text xs None cut-is e =
      let a = cuts_bind_some (f text) (λ x. Some (x ∷ [])) xs (sym (parted_last c f text (cut_none_lacks c text cut-is)) ∙ e) in
      inl (record { x = a.0; part_is = reads.sound text a.0 a.1; same = cuts_some_is (a.0 ∷ []) xs a.2 })
  part_step text xs (Some p) cut-is e =
      let found = cut_found c text p.0 p.1 cut-is in
      let a = cuts_bind_some (f p.0) (λ x. parted_read c f p.1 >>= λ ys. Some (x ∷ ys)) xs
      (sym (ap (parted_read c f) found.0 ∙ parted_at c f p.0 p.1 found.1) ∙ e) in
      let b = cuts_bind_some (parted_read c f p.1) (λ ys. Some (a.0 ∷ ys)) xs a.2 in
      inr (record {
        x = a.0;
        ys = b.0;
        part = p.0;
        behind = p.1;
        joined = found.0;
        part_is = reads.sound p.0 a.0 a.1;
        more_are = b.1;
        same = cuts_some_is (a.0 ∷ b.0) xs b.2;
      })

  parts_not_nil : (x : A) (xs : List A) → x ∷ xs ≡ [] → ⊥
  parts_not_nil x xs e = absurd cc

  parted_found : (xs : List A) (text : List ℕ) → parted_read c f text ≡ Some xs → PartedAddress c F text xs
  parted_found [] text e =
      elim (part_step text [] (cut c text) refl e) [
        | inl last ↦ absurd (parts_not_nil last.x [] last.same)
        | inr more ↦ absurd (parts_not_nil more.x more.ys more.same)
      ]
  parted_found (x ∷ []) text e =
      elim (part_step text (x ∷ []) (cut c text) refl e) [
        | inl last ↦ subst (F text) (cons_parts last.x x [] [] last.same).0 last.part_is
        | inr more ↦ absurd (parted_found [] more.behind (more.more_are
            ∙ ap (λ (t : List A). Some t) (cons_parts more.x x more.ys [] more.same).1))
      ]
  parted_found (x ∷ (y ∷ ys)) text e =
      elim (part_step text (x ∷ (y ∷ ys)) (cut c text) refl e) [
        | inl last ↦ absurd (parts_not_nil y ys (sym (cons_parts last.x x [] (y ∷ ys) last.same).1))
        | inr more ↦
            let same = cons_parts more.x x more.ys (y ∷ ys) more.same in (
              more.part,
              more.behind,
              more.joined,
              subst (F more.part) same.0 more.part_is,
              parted_found (y ∷ ys) more.behind (more.more_are ∙ ap (λ (t : List A). Some t) same.1),
            )
      ]

  parted_given : (xs : List A) (text : List ℕ) → PartedAddress c F text xs → parted_read c f text ≡ Some xs
  parted_given [] text h = absurd h
  parted_given (x ∷ []) text h = parted_last c f text (lacks text x h) ∙ rw (reads.complete text x h) refl
  parted_given (x ∷ (y ∷ ys)) text h =
      ap (parted_read c f) h.2 ∙ parted_at c f h.0 h.1 (lacks h.0 x h.3) ∙ rw (reads.complete h.0 x h.3, parted_given (y ∷ ys) h.1 h.4) refl

  pub parted_both : Reads (PartedAddress c F) (parted_read c f)
  parted_both = record { sound = λ text xs e. parted_found xs text e; complete = λ text xs h. parted_given xs text h }
