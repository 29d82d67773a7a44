-- A function that reads what a relation says, both ways.
use Rattle.str0m_values.proofs.Common.{arith, ap, ◌≡◌, ◌⊎◌, Bool, true, cond, Option, Some, None, refl, sym, ◌∙◌, inl, inr}
use Rattle.str0m_values.specs.Cuts.{◌>>=◌, ◌<|>◌}
use Rattle.str0m_values.specs.CutsParts.{FirstFit}

-- what f reads is in F
pub record IsSoundCut {A B : Type 0} (F : A → B → Type 0) (f : A → Option B) : Type 0 where
  pub law : (a : A) (b : B) → f a ≡ Some b → F a b

-- and what is in F, f reads
pub record Reads {A B : Type 0} (F : A → B → Type 0) (f : A → Option B) : Type 0 where
  pub sound : (a : A) (b : B) → f a ≡ Some b → F a b
  pub complete : (a : A) (b : B) → F a b → f a ≡ Some b

pub cuts_or_some : {A : Type 0} (o p : Option A) (x : A) → (o <|> p) ≡ Some x → (o ≡ Some x) ⊎ ((o ≡ None) × (p ≡ Some x))
cuts_or_some o p x e = grind arith

pub cuts_bind_some : {A B : Type 0} (o : Option A) (f : A → Option B) (y : B) → (o >>= f) ≡ Some y → (x : A) × (o ≡ Some x) × (f x ≡ Some y)
cuts_bind_some o f y e = grind arith

pub cuts_if_some : {A : Type 0} (test : Bool) (o : Option A) (x : A) → cond test o None ≡ Some x → (test ≡ true) × (o ≡ Some x)
cuts_if_some test o x e = grind arith

pub cuts_some_is : {A : Type 0} (x y : A) → Some x ≡ Some y → x ≡ y
cuts_some_is x y e = cc

pub sound_cut_or : {A B : Type 0} {F : A → B → Type 0} {f g : A → Option B} → IsSoundCut F f → IsSoundCut F g
    → IsSoundCut F (λ a. f a <|> g a)
sound_cut_or {f} {g} p q = record { law = λ a b e. elim (cuts_or_some (f a) (g a) b e) [ inl h ↦ p.law a b h | inr h ↦ q.law a b h.1 ] }

-- a value that is there, or none
cuts_option_cases : {B : Type 0} (o : Option B) → ((b : B) × (o ≡ Some b)) ⊎ (o ≡ None)
cuts_option_cases None = inr refl
cuts_option_cases (Some b) = inl (b, refl)

module _ {A B : Type 0} {F : A → B → Type 0} {f : A → Option B} (reads : Reads F f) where
  -- what F doesn't hold of is not read
  pub cuts_reads_none : (a : A) → ((b : B) → F a b → ⊥) → f a ≡ None
  cuts_reads_none a none = elim (cuts_option_cases (f a)) [ inl h ↦ absurd (none h.0 (reads.sound a h.0 h.1)) | inr h ↦ h ]

  pub cuts_none_reads : (a : A) → f a ≡ None → (b : B) → F a b → ⊥
  cuts_none_reads a e b h = let k = reads.complete a b h in absurd cc

  -- at most one value
  pub cuts_one_value : (a : A) (b c : B) → F a b → F a c → b ≡ c
  cuts_one_value a b c h k = let p = reads.complete a b h in let q = reads.complete a c k in cuts_some_is b c (sym p ∙ q)

pub cuts_reads_first : {A B : Type 0} {F G : A → B → Type 0} {f g : A → Option B} → Reads F f → Reads G g
    → Reads (FirstFit F G) (λ a. f a <|> g a)
cuts_reads_first {f} {g} p q = record {
  sound = λ a b e. elim (cuts_or_some (f a) (g a) b e)
      [ inl h ↦ inl (p.sound a b h) | inr h ↦ inr (cuts_none_reads p a h.0, q.sound a b h.1) ];
  complete = λ a b h. elim h [ inl k ↦ rw (p.complete a b k) refl | inr k ↦ rw (cuts_reads_none p a k.0) (q.complete a b k.1) ];
}

-- two forms that agree where both hold
pub cuts_reads_either : {A B : Type 0} {F G : A → B → Type 0} {f g : A → Option B} → Reads F f → Reads G g
    → ((a : A) (b c : B) → F a b → G a c → b ≡ c) → Reads (λ a b. F a b ⊎ G a b) (λ a. f a <|> g a)
cuts_reads_either {B} {f} {g} p q agree = record {
  sound = λ a b e. elim (cuts_or_some (f a) (g a) b e) [ inl h ↦ inl (p.sound a b h) | inr h ↦ inr (q.sound a b h.1) ];
  complete = λ a b h. elim h [
    | inl k ↦ rw (p.complete a b k) refl
    | inr k ↦ elim (cuts_option_cases (f a)) [
      | inl found ↦ rw found.1 (ap (λ (x : B). Some x) (agree a found.0 b (p.sound a found.0 found.1) k))
      | inr none ↦ rw none (q.complete a b k)
    ]
  ];
}
