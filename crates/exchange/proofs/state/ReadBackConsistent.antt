-- A section whose attributes are read as ones alike is read as a consistent one where it is consistent.
use Rattle.exchange.proofs.Common.{◌≡◌, ◌+◌, ◌∙◌, ◌⊎◌, ◌≤◌, ℕ, Bool, false, List, [], ◌∷◌, filter, map, Option, None, Some, All, AllZip}
use Rattle.exchange.proofs.Common.{IfSome, refl, sym, ap, subst, cond, if◌then◌else◌, arith, count_by, inl, inr, All-cons, All-head}
use Rattle.exchange.proofs.Common.{All-nil, All-tail}
use Rattle.exchange.proofs.Common.{All-weaker, ◌==◌, Alike, Consistent, FormatParam, Fmtp, MediaAttribute, MediaLine, is_mid, maps}
use Rattle.std.proofs.lemmas.Bool.{cases_Bool}
use Rattle.std.proofs.lemmas.List.Sums.{sum_by-cons}
use Rattle.str0m_sdp.specs.Prelude.{◌<|>◌}
use Rattle.str0m_sdp.specs.attribute.Fmtp.{is_fmtp_shown}
use Rattle.str0m_sdp.specs.declared.attribute.MediaAttribute.TheVariants.{Simulcast as SimulcastLine}
use Rattle.str0m_sdp.specs.declared.attribute.simulcast.Simulcast.{Simulcast as TheSimulcast}
use Rattle.str0m_sdp.specs.section.Alike.{alike_as_read, alike_shown}
use Rattle.str0m_sdp.specs.section.Consistency.{AgreesOnSectionApt, IsMapped, NamesNoOtherSectionApt, section_apt_of, section_apt_among}
use Rattle.str0m_sdp.specs.section.Consistency.{section_apt_in, first_section_apt, is_setup, is_direction}

-- ---- how attributes are alike

-- fmtp lines of one type, whose shown values are the same
record AlikeFormats (x y : MediaAttribute) : Type 0 where
  pt : ℕ
  values : List FormatParam
  others : List FormatParam
  said : x ≡ Fmtp pt values
  read : y ≡ Fmtp pt others
  shown : alike_shown values ≡ alike_shown others

record BothLayers (x y : MediaAttribute) : Type 0 where
  layers : TheSimulcast
  others : TheSimulcast
  said : x ≡ SimulcastLine layers
  read : y ≡ SimulcastLine others

read_back_kinds : (x y : MediaAttribute) → Alike x y → (y ≡ x) ⊎ (AlikeFormats x y ⊎ BothLayers x y)
read_back_kinds (Fmtp pt values) (Fmtp n others) h = inr (inl (record {
  pt = pt;
  values = values;
  others = others;
  said = refl;
  read = ap (λ (m : ℕ). Fmtp m others) (sym h.0);
  shown = h.1;
}))
read_back_kinds (SimulcastLine layers) (SimulcastLine others) h = inr (inr (record {
  layers = layers;
  others = others;
  said = refl;
  read = refl;
}))
read_back_kinds (Fmtp pt values) _ h = inl (sym h)
read_back_kinds (SimulcastLine layers) _ h = inl (sym h)
read_back_kinds _ y h = inl (sym h)

-- ---- counting

read_back_count-cons : (p : MediaAttribute → Bool) (x : MediaAttribute) (xs : List MediaAttribute)
    → count_by p (x ∷ xs) ≡ cond (p x) 1 0 + count_by p xs
read_back_count-cons p x xs = sum_by-cons (λ x. cond (p x) 1 0) x xs

module _ (p : MediaAttribute → Bool) (no_fmtp : (pt : ℕ) (values : List FormatParam) → p (Fmtp pt values) ≡ false)
    (no_layers : (layers : TheSimulcast) → p (SimulcastLine layers) ≡ false) where
  -- what isn't asked of formats and layers holds of both or of neither
  read_back_test : (x y : MediaAttribute) → Alike x y → p y ≡ p x
  read_back_test x y alike =
      elim (read_back_kinds x y alike) [
        | inl same ↦ ap p same
        | inr more ↦ elim more [
          | inl f ↦ ap p f.read ∙ no_fmtp f.pt f.others ∙ sym (ap p f.said ∙ no_fmtp f.pt f.values)
          | inr l ↦ ap p l.read ∙ no_layers l.others ∙ sym (ap p l.said ∙ no_layers l.layers)
        ]
      ]

  pub read_back_count : (xs ys : List MediaAttribute) → AllZip Alike xs ys → count_by p ys ≡ count_by p xs
  read_back_count [] [] all = refl
  read_back_count [] (y ∷ ys) all = absurd all
  read_back_count (x ∷ xs) [] all = absurd all
  read_back_count (x ∷ xs) (y ∷ ys) all =
      read_back_count-cons p y ys
      ∙ (λ i. cond (read_back_test x y all.0 i) 1 0 + read_back_count xs ys all.1 i)
      ∙ sym (read_back_count-cons p x xs)

-- ---- the types that fmtp lines name

read_back_hidden_apt : (v : FormatParam) → is_fmtp_shown v ≡ false → section_apt_of v ≡ None
read_back_hidden_apt v hidden = grind arith

read_back_same_apt : (v : FormatParam) → section_apt_of (alike_as_read v) ≡ section_apt_of v
read_back_same_apt v = grind arith

read_back_apt_among : (values : List FormatParam) → section_apt_among (alike_shown values) ≡ section_apt_among values
read_back_apt_among [] = refl
read_back_apt_among (v ∷ vs) = grind (arith, cases_Bool, read_back_apt_among vs, read_back_hidden_apt, read_back_same_apt)

read_back_same_among : (values others : List FormatParam) → alike_shown values ≡ alike_shown others
    → section_apt_among others ≡ section_apt_among values
read_back_same_among values others shown =
    sym (read_back_apt_among others) ∙ ap section_apt_among (sym shown) ∙ read_back_apt_among values

read_back_apt_in : (n : ℕ) (x y : MediaAttribute) → Alike x y → section_apt_in n y ≡ section_apt_in n x
read_back_apt_in n x y alike =
    elim (read_back_kinds x y alike) [
      | inl same ↦ ap (section_apt_in n) same
      | inr more ↦ elim more [
        | inl f ↦ ap (section_apt_in n) f.read
            ∙ ap (λ (o : Option ℕ). if f.pt == n then o else None) (read_back_same_among f.values f.others f.shown)
            ∙ sym (ap (section_apt_in n) f.said)
        | inr l ↦ ap (section_apt_in n) l.read ∙ sym (ap (section_apt_in n) l.said)
      ]
    ]

read_back_first_apt : (n : ℕ) (xs ys : List MediaAttribute) → AllZip Alike xs ys → first_section_apt n ys ≡ first_section_apt n xs
read_back_first_apt n [] [] all = refl
read_back_first_apt n [] (y ∷ ys) all = absurd all
read_back_first_apt n (x ∷ xs) [] all = absurd all
read_back_first_apt n (x ∷ xs) (y ∷ ys) all = λ i. read_back_apt_in n x y all.0 i <|> read_back_first_apt n xs ys all.1 i

abbrev NamesNone : Option ℕ → List FormatParam → Type 0
NamesNone o values = IfSome o (λ first. All (NamesNoOtherSectionApt first) values)

module _ (first : ℕ) where
  abbrev NoOther : FormatParam → Type 0
  NoOther = NamesNoOtherSectionApt first

  read_back_names : (v : FormatParam) → NoOther v → NoOther (alike_as_read v)
  read_back_names v h = subst (λ (o : Option ℕ). IfSome o (λ other. first ≡ other)) (sym (read_back_same_apt v)) h

  read_back_named : (v : FormatParam) → NoOther (alike_as_read v) → NoOther v
  read_back_named v h = subst (λ (o : Option ℕ). IfSome o (λ other. first ≡ other)) (read_back_same_apt v) h

  read_back_hidden_names : (v : FormatParam) → is_fmtp_shown v ≡ false → NoOther v
  read_back_hidden_names v hidden = subst (λ (o : Option ℕ). IfSome o (λ other. first ≡ other)) (sym (read_back_hidden_apt v hidden)) tt

  abbrev shown_front : Bool → FormatParam → List FormatParam → List FormatParam
  shown_front b v vs = map alike_as_read (cond b (v ∷ filter is_fmtp_shown vs) (filter is_fmtp_shown vs))

  read_back_all_shown : (values : List FormatParam) → All NoOther values → All NoOther (alike_shown values)
  read_back_all_shown [] all = All-nil NoOther
  read_back_all_shown (v ∷ vs) all =
      let more = read_back_all_shown vs (All-tail NoOther v vs all) in
      let one = read_back_names v (All-head NoOther v vs all) in
      elim (cases_Bool (is_fmtp_shown v)) [
        | inl shown ↦ subst (λ (b : Bool). All NoOther (shown_front b v vs)) (sym shown)
            (All-cons NoOther (alike_as_read v) (alike_shown vs) one more)
        | inr hidden ↦ subst (λ (b : Bool). All NoOther (shown_front b v vs)) (sym hidden) more
      ]

  read_back_all_named : (values : List FormatParam) → All NoOther (alike_shown values) → All NoOther values
  read_back_all_named [] all = All-nil NoOther
  read_back_all_named (v ∷ vs) all =
      elim (cases_Bool (is_fmtp_shown v)) [
        | inl shown ↦ (
            let both : All NoOther (alike_as_read v ∷ alike_shown vs)
            = subst (λ (b : Bool). All NoOther (shown_front b v vs)) shown all in
            All-cons NoOther v vs (read_back_named v (All-head NoOther (alike_as_read v) (alike_shown vs) both))
            (read_back_all_named vs (All-tail NoOther (alike_as_read v) (alike_shown vs) both))
            )
        | inr hidden ↦ All-cons NoOther v vs (read_back_hidden_names v hidden)
            (read_back_all_named vs (subst (λ (b : Bool). All NoOther (shown_front b v vs)) hidden all))
      ]

read_back_names_none : (o : Option ℕ) (values others : List FormatParam) → alike_shown values ≡ alike_shown others
    → NamesNone o values → NamesNone o others
read_back_names_none None values others shown h = tt
read_back_names_none (Some first) values others shown h =
    read_back_all_named first others (subst (All (NamesNoOtherSectionApt first)) shown (read_back_all_shown first values h))

module _ (xs ys : List MediaAttribute) (all : AllZip Alike xs ys) where
  read_back_agrees_same : (x : MediaAttribute) → AgreesOnSectionApt xs x → AgreesOnSectionApt ys x
  read_back_agrees_same (Fmtp pt values) h =
      subst (λ (o : Option ℕ). NamesNone o values) (sym (read_back_first_apt pt xs ys all)) h
  read_back_agrees_same _ h = tt

  read_back_agrees : (x y : MediaAttribute) → Alike x y → AgreesOnSectionApt xs x → AgreesOnSectionApt ys y
  read_back_agrees x y alike h =
      elim (read_back_kinds x y alike) [
        | inl same ↦ subst (AgreesOnSectionApt ys) (sym same) (read_back_agrees_same x h)
        | inr more ↦ elim more [
          | inl f ↦ subst (AgreesOnSectionApt ys) (sym f.read) (
              let kept : NamesNone (first_section_apt f.pt ys) f.values
              = subst (λ (o : Option ℕ). NamesNone o f.values) (sym (read_back_first_apt f.pt xs ys all))
              (subst (AgreesOnSectionApt xs) f.said h) in
              read_back_names_none (first_section_apt f.pt ys) f.values f.others f.shown kept
              )
          | inr l ↦ subst (AgreesOnSectionApt ys) (sym l.read) tt
        ]
      ]

  -- what is said of each that was said holds of each that was read
  read_back_all : (P Q : MediaAttribute → Type 0) → ((x y : MediaAttribute) → Alike x y → P x → Q y)
      → (said read : List MediaAttribute) → AllZip Alike said read → All P said → All Q read
  read_back_all P Q each [] [] zip h = All-nil Q
  read_back_all P Q each [] (y ∷ ys) zip h = absurd zip
  read_back_all P Q each (x ∷ xs) [] zip h = absurd zip
  read_back_all P Q each (x ∷ xs) (y ∷ ys) zip h =
      All-cons Q y ys (each x y zip.0 (All-head P x xs h)) (read_back_all P Q each xs ys zip.1 (All-tail P x xs h))

  read_back_mapped : (pt : ℕ) → IsMapped xs pt → IsMapped ys pt
  read_back_mapped pt (inl one) = inl (read_back_count (maps pt) (λ n values. refl) (λ layers. refl) xs ys all ∙ one)
  read_back_mapped pt (inr none) =
      inr (read_back_count (maps pt) (λ n values. refl) (λ layers. refl) xs ys all ∙ none.0, none.1)

pub read_back_consistent : (m : MediaLine) (reads : List MediaAttribute) → AllZip Alike m.attrs reads → Consistent m
    → Consistent (record m { attrs = reads })
read_back_consistent m reads all h = record {
  mid = read_back_count is_mid (λ n values. refl) (λ layers. refl) m.attrs reads all ∙ h.mid;
  setup =
      subst (λ (n : ℕ). n ≤ 1) (sym (read_back_count is_setup (λ n values. refl) (λ layers. refl) m.attrs reads all)) h.setup;
  proto = λ over. (
    read_back_count is_direction (λ n values. refl) (λ layers. refl) m.attrs reads all ∙ (h.proto over).0,
    (h.proto over).1,
  );
  mapped = All-weaker _ _ (read_back_mapped m.attrs reads all) m.pts h.mapped;
  apt =
      read_back_all m.attrs reads all (AgreesOnSectionApt m.attrs) (AgreesOnSectionApt reads) (read_back_agrees m.attrs reads all) m.attrs
      reads all h.apt;
}
