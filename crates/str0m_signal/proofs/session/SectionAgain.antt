-- A section is printed as it was read: its lines are read as a section that is consistent where it was.
use Rattle.str0m_sdp.specs.declared.attribute.rtp_map.RtpMap.{RtpMap as Mapping}
use Rattle.str0m_sdp.specs.section.Alike.{Alike}
use Rattle.str0m_signal.proofs.Common.{◌≡◌, ◌⊎◌, ◌+◌, ℕ, Bool, true, false, not, cond, List, [], ◌∷◌, filter, zero-add, Option, Some, None}
use Rattle.str0m_signal.proofs.Common.{IfSome, All, refl, sym, subst, ap, ◌∙◌, arith, inl, inr, AllByRecursion, cases_Bool, All-nil}
use Rattle.str0m_signal.proofs.Common.{All-cons, All-head, All-tail, All-weaker, ◌<|>◌, FormatParam, media_attribute_text, Consistent}
use Rattle.str0m_signal.proofs.Common.{AgreesOnSectionApt, is_fmtp_shown, is_of_type, MediaAttribute, Fmtp, RtcpFb, MediaLine, Srtp, Sctp}
use Rattle.str0m_signal.proofs.Common.{count_by}
use Rattle.str0m_signal.proofs.Common.{All-filter, filter_passes, IsMapped, NamesNoOtherSectionApt, section_apt_of, section_apt_among}
use Rattle.str0m_signal.proofs.Common.{section_apt_in, first_section_apt, maps}
use Rattle.str0m_signal.proofs.Common.{is_mid, is_setup, is_direction, RtpMap, sum_by-cons}
use Rattle.str0m_signal.proofs.form.MediaAttributeAgain.{ComesBack, IsHiddenMedia, media_shown_only}
use Rattle.str0m_signal.specs.back.Writable.{MediaAreReadAs, IsWritableFrame, writable_frame_of}

-- ---- attributes

-- the attributes with the values that they show, without those that print nothing
abbrev pub AreSectionLinesShownAs : List MediaAttribute → List MediaAttribute → Type 0
AreSectionLinesShownAs [] reads = reads ≡ []
AreSectionLinesShownAs (x ∷ xs) reads =
    (IsHiddenMedia x × AreSectionLinesShownAs xs reads) ⊎ ((more : List MediaAttribute) × (reads ≡ media_shown_only x ∷ more)
    × AreSectionLinesShownAs xs more)

section_shown_twice : (values : List FormatParam) → filter is_fmtp_shown (filter is_fmtp_shown values) ≡ filter is_fmtp_shown values
section_shown_twice [] = refl
section_shown_twice (v ∷ vs) = grind (arith, cases_Bool, section_shown_twice vs)

section_goes_with : (x : MediaAttribute) → Alike x (media_shown_only x)
section_goes_with x = grind (arith, section_shown_twice)

section_prints_nothing : (x : MediaAttribute) → IsHiddenMedia x → media_attribute_text x ≡ []
section_prints_nothing x hidden = grind arith

-- attributes each of which comes back are read as what they show
pub section_lines_again : (attrs : List MediaAttribute) → AllByRecursion ComesBack attrs
    → (reads : List MediaAttribute) × AreSectionLinesShownAs attrs reads × MediaAreReadAs attrs reads
section_lines_again [] all = ([], refl, refl)
section_lines_again (x ∷ xs) all =
    let more = section_lines_again xs all.1 in
    elim all.0 [
      | inl printed ↦ (
        media_shown_only x ∷ more.0,
        inr (more.0, refl, more.1),
        inr
            (media_shown_only x, more.0, refl, printed, inl (section_goes_with x), more.2),
      )
      | inr hidden ↦ (more.0, inl (hidden, more.1), inl (section_prints_nothing x hidden, more.2))
    ]

-- what all have, all that is read has
section_all_again : (P Q : MediaAttribute → Type 0) → ((x : MediaAttribute) → P x → Q (media_shown_only x))
    → (attrs reads : List MediaAttribute)
    → All P attrs
    → AreSectionLinesShownAs attrs reads → All Q reads
section_all_again P Q each [] reads all are = subst (All Q) (sym are) (All-nil Q)
section_all_again P Q each (x ∷ xs) reads all (inl are) = section_all_again P Q each xs reads (All-tail P x xs all) are.1
section_all_again P Q each (x ∷ xs) reads all (inr are) =
    subst (All Q) (sym are.1)
    (All-cons Q (media_shown_only x) are.0 (each x (All-head P x xs all)) (section_all_again P Q each xs are.0 (All-tail P x xs all) are.2))

-- ---- counting

section_count-cons : (p : MediaAttribute → Bool) (x : MediaAttribute) (xs : List MediaAttribute)
    → count_by p (x ∷ xs) ≡ cond (p x) 1 0 + count_by p xs
section_count-cons p x xs = sum_by-cons (λ x. cond (p x) 1 0) x xs

module _ (p : MediaAttribute → Bool) (no_fmtp : (pt : ℕ) (values : List FormatParam) → p (Fmtp pt values) ≡ false) where
  section_same_test : (x : MediaAttribute) → p (media_shown_only x) ≡ p x
  section_same_test x = grind arith

  section_hidden_test : (x : MediaAttribute) → IsHiddenMedia x → p x ≡ false
  section_hidden_test x hidden = grind arith

  -- an attribute that isn't an fmtp line is counted alike
  pub section_count_again : (attrs reads : List MediaAttribute) → AreSectionLinesShownAs attrs reads → count_by p reads ≡ count_by p attrs
  section_count_again [] reads are = ap (count_by p) are
  section_count_again (x ∷ xs) reads (inl are) = grind (
    arith,
    section_count_again xs reads are.1,
    zero-add,
    section_count-cons,
    section_hidden_test,
  )
  section_count_again (x ∷ xs) reads (inr are) = grind (arith, section_count-cons, section_same_test, section_count_again xs are.0 are.2)

-- ---- the types that fmtp lines name

section_hidden_names_none : (v : FormatParam) → is_fmtp_shown v ≡ false → section_apt_of v ≡ None
section_hidden_names_none v hidden = grind arith

section_shown_apt : (values : List FormatParam) → section_apt_among (filter is_fmtp_shown values) ≡ section_apt_among values
section_shown_apt [] = refl
section_shown_apt (v ∷ vs) = grind (arith, cases_Bool, section_shown_apt vs, section_hidden_names_none)

section_apt_again : (n : ℕ) (x : MediaAttribute) → section_apt_in n (media_shown_only x) ≡ section_apt_in n x
section_apt_again n x = grind (arith, section_shown_apt)

section_either_none : (b : Bool) (o : Option ℕ) → o ≡ None → cond b o None ≡ None
section_either_none b o e = grind arith

section_hidden_apt : (n : ℕ) (x : MediaAttribute) → IsHiddenMedia x → section_apt_in n x ≡ None
section_hidden_apt n x hidden = grind (arith, section_either_none, section_shown_apt)

section_apt_stays : (n : ℕ) (attrs reads : List MediaAttribute) → AreSectionLinesShownAs attrs reads
    → first_section_apt n reads ≡ first_section_apt n attrs
section_apt_stays n [] reads are = ap (first_section_apt n) are
section_apt_stays n (x ∷ xs) reads (inl are) = rw (section_hidden_apt n x are.0) (section_apt_stays n xs reads are.1)
section_apt_stays n (x ∷ xs) reads (inr are) =
    ap (first_section_apt n) are.1 ∙ (λ i. section_apt_again n x i <|> section_apt_stays n xs are.0 are.2 i)

section_fewer_values : (o : Option ℕ) (values : List FormatParam) → IfSome o (λ first. All (NamesNoOtherSectionApt first) values)
    → IfSome o (λ first. All (NamesNoOtherSectionApt first) (filter is_fmtp_shown values))
section_fewer_values None values h = tt
section_fewer_values (Some first) values h = All-filter is_fmtp_shown (NamesNoOtherSectionApt first) values h

section_apt_agrees_again : (attrs reads : List MediaAttribute) → AreSectionLinesShownAs attrs reads → (x : MediaAttribute)
    → AgreesOnSectionApt attrs x
    → AgreesOnSectionApt reads (media_shown_only x)
section_apt_agrees_again attrs reads are (Fmtp pt values) h =
    subst (λ (o : Option ℕ). IfSome o (λ first. All (NamesNoOtherSectionApt first) (filter is_fmtp_shown values)))
    (sym (section_apt_stays pt attrs reads are))
    (section_fewer_values (first_section_apt pt attrs) values h)
section_apt_agrees_again attrs reads are x h = tt

-- ---- consistency

section_mapped_again : (attrs reads : List MediaAttribute) → AreSectionLinesShownAs attrs reads → (pt : ℕ) → IsMapped attrs pt
    → IsMapped reads pt
section_mapped_again attrs reads are pt (inl one) = inl (section_count_again (maps pt) (λ n values. refl) attrs reads are ∙ one)
section_mapped_again attrs reads are pt (inr none) = inr (section_count_again (maps pt) (λ n values. refl) attrs reads are ∙ none.0, none.1)

-- the section with what its attributes show, and the same types, or none where it is on Sctp
pub consistent_again : (m : MediaLine) (pts : List ℕ) (reads : List MediaAttribute) → AreSectionLinesShownAs m.attrs reads
    → (pts ≡ m.pts) ⊎ ((pts ≡ []) × (m.proto ≡ Sctp)) → Consistent m → Consistent (record m { pts = pts; attrs = reads })
consistent_again m pts reads are types h = record {
  mid = section_count_again is_mid (λ n values. refl) m.attrs reads are ∙ h.mid;
  setup = let same = section_count_again is_setup (λ n values. refl) m.attrs reads are in let most = h.setup in omega arith;
  proto = λ over. (
    section_count_again is_direction (λ n values. refl) m.attrs reads are ∙ (h.proto over).0,
    λ used. elim types [
      | inl same ↦ λ none. (h.proto over).1 used (sym same ∙ none)
      | inr sctp ↦ absurd (let e = sym sctp.1 ∙ over in cc)
    ],
  );
  mapped = elim types [
    | inl same ↦ subst (All (IsMapped reads)) (sym same) (All-weaker _ _ (section_mapped_again m.attrs reads are) m.pts h.mapped)
    | inr sctp ↦ subst (All (IsMapped reads)) (sym sctp.0) (All-nil _)
  ];
  apt = section_all_again (AgreesOnSectionApt m.attrs) (AgreesOnSectionApt reads) (section_apt_agrees_again m.attrs reads are) m.attrs reads
      h.apt are;
}

-- ---- the frame

-- what isn't of a payload type is counted alike in the frame
section_count_frame : (p : MediaAttribute → Bool) → ((x : MediaAttribute) → is_of_type x ≡ true → p x ≡ false)
    → (attrs : List MediaAttribute)
    → count_by p (filter (λ attr. not (is_of_type attr)) attrs) ≡ count_by p attrs
section_count_frame p none [] = refl
section_count_frame p none (x ∷ xs) = grind (arith, cases_Bool, section_count_frame p none xs, zero-add, section_count-cons)

not_of_type : (p : MediaAttribute → Bool) → ((pt : ℕ) → (value : Mapping) → p (RtpMap pt value) ≡ false)
    → ((pt : ℕ) (value : List ℕ) → p (RtcpFb pt value) ≡ false)
    → ((pt : ℕ) (values : List FormatParam) → p (Fmtp pt values) ≡ false) → (x : MediaAttribute) → is_of_type x ≡ true → p x ≡ false
not_of_type p maps feedback fmtp x h = grind arith

section_of_type_again : (x : MediaAttribute) → not (is_of_type x) ≡ true → is_of_type (media_shown_only x) ≡ false
section_of_type_again x h = grind arith

-- the frame of a consistent section over Srtp, as it is read
pub frame_again : (m : MediaLine) (pts : List ℕ) (reads : List MediaAttribute) → AreSectionLinesShownAs (writable_frame_of m).attrs reads
    → m.proto ≡ Srtp
    → Consistent m
    → IsWritableFrame (record (writable_frame_of m) { pts = pts; attrs = reads })
frame_again m pts reads are over h = record {
  mid = same is_mid (λ n values. refl) (not_of_type is_mid (λ n v. refl) (λ n v. refl) (λ n v. refl)) ∙ h.mid;
  setup =
      let setups = same is_setup (λ n values. refl) (not_of_type is_setup (λ n v. refl) (λ n v. refl) (λ n v. refl)) in
      let most = h.setup in
      omega arith;
  direction = same is_direction (λ n values. refl) (not_of_type is_direction (λ n v. refl) (λ n v. refl) (λ n v. refl)) ∙ (h.proto over).0;
  none_of_type =
      section_all_again (λ attr. not (is_of_type attr) ≡ true) (λ attr. is_of_type attr ≡ false) section_of_type_again
      (writable_frame_of m).attrs reads
      (filter_passes (λ attr. not (is_of_type attr)) m.attrs) are;
}
  where
    same : (p : MediaAttribute → Bool) → ((pt : ℕ) (values : List FormatParam) → p (Fmtp pt values) ≡ false)
        → ((x : MediaAttribute) → is_of_type x ≡ true → p x ≡ false) → count_by p reads ≡ count_by p m.attrs
    same p no_fmtp none = section_count_again p no_fmtp (writable_frame_of m).attrs reads are ∙ section_count_frame p none m.attrs
