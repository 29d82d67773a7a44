-- A section that rejects a consistent one is consistent.
use Rattle.exchange.proofs.Common.{arith, ◌≡◌, ◌+◌, ◌≤◌, inl, inr, ℕ, Bool, true, false, cond, List, [], ◌∷◌, ◌++◌, Option, Some, None, All}
use Rattle.exchange.proofs.Common.{IfSome, find, count_by, option_to_list, refl, subst, sym, ap, ◌∙◌, false≢true, All-append, All-cons}
use Rattle.exchange.proofs.Common.{All-head, All-nil, list_any, is_some, row_count-append, rows_uncounted, MediaAttribute, MediaType}
use Rattle.exchange.proofs.Common.{Application}
use Rattle.exchange.proofs.Common.{Audio, Video, Unknown, Proto, Srtp, Sctp, MediaLine, Consistent, is_mid, maps}
use Rattle.exchange.proofs.answer.RowsListLaws.{list_found, rows_is_some_find}
use Rattle.exchange.specs.answer.RejectedSection.{direction_over, first_rejected_type, first_rejected_line, rejected_type_alone, rejecting}
use Rattle.str0m_formats.specs.declared.codec.Codec.TheVariants.{PCMU}
use Rattle.str0m_formats.specs.format.FormatParams.{empty}
use Rattle.str0m_sdp.specs.declared.attribute.MediaAttribute.TheVariants as media
use Rattle.str0m_sdp.specs.section.Consistency.{AgreesOnSectionApt, IsMapped, NeedsNoMapping, is_direction, is_setup}

-- ---- what a line counts for

-- which kinds of line one is, and that it names no other primary type
record CountsAmongRejectedLines (pt : ℕ) (line : MediaAttribute) (mid setup direction mapping : Bool) : Type 0 where
  pub mid_is : is_mid line ≡ mid
  pub setup_is : is_setup line ≡ setup
  pub direction_is : is_direction line ≡ direction
  pub mapping_is : maps pt line ≡ mapping
  pub agrees : (lines : List MediaAttribute) → AgreesOnSectionApt lines line

of_mid : (pt : ℕ) (line : MediaAttribute) → is_mid line ≡ true → CountsAmongRejectedLines pt line true false false false
of_mid pt (media.Mid mid) h = record { mid_is = refl; setup_is = refl; direction_is = refl; mapping_is = refl; agrees = λ lines. tt }
of_mid pt _ h = absurd (false≢true h)

rejected_counts_of_mapping : (pt : ℕ) (line : MediaAttribute) → maps pt line ≡ true
    → CountsAmongRejectedLines pt line false false false true
rejected_counts_of_mapping pt (media.RtpMap n value) h = record {
  mid_is = refl;
  setup_is = refl;
  direction_is = refl;
  mapping_is = h;
  agrees = λ lines. tt;
}
rejected_counts_of_mapping pt _ h = absurd (false≢true h)

-- ---- a line that is found

-- of the line that is found, where none counts, and where each does
rejected_counts_none : (test : MediaAttribute → Bool) (o : Option MediaAttribute) → IfSome o (λ line. test line ≡ false)
    → count_by test (option_to_list o) ≡ 0
rejected_counts_none test None h = refl
rejected_counts_none test (Some line) h = ap (λ (b : Bool). 0 + cond {A = ℕ} b 1 0) h

rejected_counts_one : (test : MediaAttribute → Bool) (o : Option MediaAttribute) → is_some o ≡ true → IfSome o (λ line. test line ≡ true)
    → count_by test (option_to_list o) ≡ 1
rejected_counts_one test None there h = absurd (false≢true there)
rejected_counts_one test (Some line) there h = ap (λ (b : Bool). 0 + cond {A = ℕ} b 1 0) h

-- where one is counted, one is found
rejected_counted_line_is_there : (test : MediaAttribute → Bool) (lines : List MediaAttribute) → count_by test lines ≡ 1
    → is_some (find test lines) ≡ true
rejected_counted_line_is_there test lines one = go (list_any test lines) refl where
  go : (b : Bool) → list_any test lines ≡ b → is_some (find test lines) ≡ true
  go true e = rows_is_some_find test lines ∙ e
  go false e = let none = rows_uncounted test lines e in absurd (omega arith)

rejected_line_weaker : (P Q : MediaAttribute → Type 0) → ((line : MediaAttribute) → P line → Q line) → (o : Option MediaAttribute)
    → IfSome o P
    → IfSome o Q
rejected_line_weaker P Q f None h = tt
rejected_line_weaker P Q f (Some line) h = f line h

-- ---- the lines of the section

module _ (offered : MediaLine) (is : Consistent offered) where
  abbrev pt : ℕ
  pt = first_rejected_type offered.pts

  abbrev mid_found : Option MediaAttribute
  mid_found = find is_mid offered.attrs

  abbrev rejected_mapping_found : Option MediaAttribute
  rejected_mapping_found = find (maps pt) offered.attrs

  abbrev rejecting_lines_of : List MediaAttribute
  rejecting_lines_of = option_to_list mid_found ++ (direction_over offered.proto ++ option_to_list rejected_mapping_found)

  mid_counts : IfSome mid_found (λ line. CountsAmongRejectedLines pt line true false false false)
  mid_counts = rejected_line_weaker _ _ (λ line h. of_mid pt line h.0) mid_found (list_found is_mid offered.attrs)

  rejected_mapping_counts : IfSome rejected_mapping_found (λ line. CountsAmongRejectedLines pt line false false false true)
  rejected_mapping_counts = rejected_line_weaker _ _ (λ line h. rejected_counts_of_mapping pt line h.0) rejected_mapping_found
      (list_found (maps pt) offered.attrs)

  rejected_lines_counted : (test : MediaAttribute → Bool) → count_by test rejecting_lines_of ≡ count_by test (option_to_list mid_found)
      + (count_by test (direction_over offered.proto) + count_by test (option_to_list rejected_mapping_found))
  rejected_lines_counted test =
      row_count-append test (option_to_list mid_found) (direction_over offered.proto ++ option_to_list rejected_mapping_found)
      ∙ ap (λ (n : ℕ). count_by test (option_to_list mid_found) + n)
      (row_count-append test (direction_over offered.proto) (option_to_list rejected_mapping_found))

  -- a line of a direction is neither a name nor a setup nor a mapping
  record RejectedDirectionOverProto (proto : Proto) : Type 0 where
    pub mids : count_by is_mid (direction_over proto) ≡ 0
    pub setups : count_by is_setup (direction_over proto) ≡ 0
    pub mappings : count_by (maps pt) (direction_over proto) ≡ 0
    pub one : proto ≡ Srtp → count_by is_direction (direction_over proto) ≡ 1
    pub agree : (all : List MediaAttribute) → All (AgreesOnSectionApt all) (direction_over proto)

  rejected_directed_over_proto : (proto : Proto) → RejectedDirectionOverProto proto
  rejected_directed_over_proto Srtp = record {
    mids = refl;
    setups = refl;
    mappings = refl;
    one = λ e. refl;
    agree = λ all. All-cons (AgreesOnSectionApt all) media.Inactive [] tt (All-nil (AgreesOnSectionApt all));
  }
  rejected_directed_over_proto Sctp = record {
    mids = refl;
    setups = refl;
    mappings = refl;
    one = λ e. cc;
    agree = λ all. All-nil (AgreesOnSectionApt all);
  }

  one_mid_line : count_by is_mid rejecting_lines_of ≡ 1
  one_mid_line =
      let here = rejected_counts_one is_mid mid_found (rejected_counted_line_is_there is_mid offered.attrs is.mid)
      (rejected_line_weaker _ _ (λ line h. h.mid_is) mid_found mid_counts) in
      let neither = rejected_counts_none is_mid rejected_mapping_found
      (rejected_line_weaker _ _ (λ line h. h.mid_is) rejected_mapping_found rejected_mapping_counts) in
      let none = (rejected_directed_over_proto offered.proto).mids in
      omega (arith, rejected_lines_counted is_mid, here, neither, none)

  few_setups : count_by is_setup rejecting_lines_of ≤ 1
  few_setups =
      let here = rejected_counts_none is_setup mid_found (rejected_line_weaker _ _ (λ line h. h.setup_is) mid_found mid_counts) in
      let neither = rejected_counts_none is_setup rejected_mapping_found
      (rejected_line_weaker _ _ (λ line h. h.setup_is) rejected_mapping_found rejected_mapping_counts) in
      let none = (rejected_directed_over_proto offered.proto).setups in
      omega (arith, rejected_lines_counted is_setup, here, neither, none)

  one_direction : offered.proto ≡ Srtp → count_by is_direction rejecting_lines_of ≡ 1
  one_direction srtp =
      let here = rejected_counts_none is_direction mid_found (rejected_line_weaker _ _ (λ line h. h.direction_is) mid_found mid_counts) in
      let neither = rejected_counts_none is_direction rejected_mapping_found
      (rejected_line_weaker _ _ (λ line h. h.direction_is) rejected_mapping_found rejected_mapping_counts) in
      let one = (rejected_directed_over_proto offered.proto).one srtp in
      omega (arith, rejected_lines_counted is_direction, here, neither, one)

  rejected_mappings_counted : count_by (maps pt) rejecting_lines_of ≡ count_by (maps pt) (option_to_list rejected_mapping_found)
  rejected_mappings_counted =
      let here = rejected_counts_none (maps pt) mid_found (rejected_line_weaker _ _ (λ line h. h.mapping_is) mid_found mid_counts) in
      let none = (rejected_directed_over_proto offered.proto).mappings in
      omega (arith, rejected_lines_counted (maps pt), here, none)

  rejected_needs_no_mapping : (pts : List ℕ) → offered.pts ≡ pts → is_some (find (maps (first_rejected_type pts)) offered.attrs) ≡ false
      → NeedsNoMapping (first_rejected_type pts)
  rejected_needs_no_mapping [] e none = (record { codec = PCMU; clock_rate = 8000; channels = None; format = empty }, (refl, refl, refl))
  rejected_needs_no_mapping (t ∷ ts) e none = go (All-head (IsMapped offered.attrs) t ts (subst (All (IsMapped offered.attrs)) e is.mapped))
    where
      go : IsMapped offered.attrs t → NeedsNoMapping t
      go (inl one) = absurd (false≢true (sym none ∙ rejected_counted_line_is_there (maps t) offered.attrs one))
      go (inr h) = h.1

  rejected_type_mapped : IsMapped rejecting_lines_of pt
  rejected_type_mapped = go rejected_mapping_found refl rejected_mapping_counts rejected_mappings_counted where
    go : (o : Option MediaAttribute) → rejected_mapping_found ≡ o
        → IfSome o (λ line. CountsAmongRejectedLines pt line false false false true)
        → count_by (maps pt) rejecting_lines_of ≡ count_by (maps pt) (option_to_list o) → IsMapped rejecting_lines_of pt
    go None e h n = inr (n, rejected_needs_no_mapping offered.pts refl (ap (λ (o : Option MediaAttribute). is_some o) e))
    go (Some line) e h n = inl (n ∙ rejected_counts_one (maps pt) (Some line) refl h.mapping_is)

  rejected_types_mapped : (typ : MediaType) → All (IsMapped rejecting_lines_of) (rejected_type_alone typ offered.pts)
  rejected_types_mapped Application = All-nil (IsMapped rejecting_lines_of)
  rejected_types_mapped Audio = All-cons (IsMapped rejecting_lines_of) pt [] rejected_type_mapped (All-nil (IsMapped rejecting_lines_of))
  rejected_types_mapped Video = All-cons (IsMapped rejecting_lines_of) pt [] rejected_type_mapped (All-nil (IsMapped rejecting_lines_of))
  rejected_types_mapped (Unknown text) = All-cons (IsMapped rejecting_lines_of) pt [] rejected_type_mapped
      (All-nil (IsMapped rejecting_lines_of))

  rejected_found_agrees : (o : Option MediaAttribute) (all : List MediaAttribute) → IfSome o (λ line. AgreesOnSectionApt all line)
      → All (AgreesOnSectionApt all) (option_to_list o)
  rejected_found_agrees None all h = All-nil (AgreesOnSectionApt all)
  rejected_found_agrees (Some line) all h = All-cons (AgreesOnSectionApt all) line [] h (All-nil (AgreesOnSectionApt all))

  rejected_all_agree : All (AgreesOnSectionApt rejecting_lines_of) rejecting_lines_of
  rejected_all_agree =
      All-append (AgreesOnSectionApt rejecting_lines_of) (option_to_list mid_found)
      (direction_over offered.proto ++ option_to_list rejected_mapping_found)
      (rejected_found_agrees mid_found rejecting_lines_of
      (rejected_line_weaker _ _ (λ line h. h.agrees rejecting_lines_of) mid_found mid_counts))
      (All-append (AgreesOnSectionApt rejecting_lines_of) (direction_over offered.proto) (option_to_list rejected_mapping_found)
      ((rejected_directed_over_proto offered.proto).agree rejecting_lines_of)
      (rejected_found_agrees rejected_mapping_found rejecting_lines_of
      (rejected_line_weaker _ _ (λ line h. h.agrees rejecting_lines_of) rejected_mapping_found rejected_mapping_counts)))

  rejected_consistent_so : Consistent (rejecting offered)
  rejected_consistent_so = record {
    mid = one_mid_line;
    setup = few_setups;
    proto = λ srtp. (one_direction srtp, λ e. absurd (false≢true (sym e)));
    mapped = rejected_types_mapped offered.typ;
    apt = rejected_all_agree;
  }

pub rejecting_consistent : (offered section : MediaLine) → section ≡ rejecting offered → Consistent offered → Consistent section
rejecting_consistent offered section is consistent = subst Consistent (sym is) (rejected_consistent_so offered consistent)

-- ---- its parts

abbrev pub rejected_of_parts : Proto → MediaType → List ℕ → List MediaAttribute → MediaLine
rejected_of_parts proto typ pts lines = record { typ = typ; disabled = true; proto = proto; pts = pts; bw = None; attrs = lines }

pub rejected_made_of_parts : (offered : MediaLine) (typ : MediaType) (pts listed : List ℕ) (attrs lines : List MediaAttribute) (pt : ℕ)
    → typ ≡ offered.typ → listed ≡ offered.pts → lines ≡ offered.attrs → pt ≡ first_rejected_type listed
    → pts ≡ rejected_type_alone offered.typ listed
    → attrs ≡ first_rejected_line is_mid lines ++ (direction_over offered.proto ++ first_rejected_line (maps pt) lines)
    → rejected_of_parts offered.proto typ pts attrs ≡ rejecting offered
rejected_made_of_parts offered typ pts listed attrs lines alone_type same_typ same_pts same_lines is_first alone all =
    ap (λ (x : MediaType). rejected_of_parts offered.proto x pts attrs) same_typ
    ∙ ap (λ (x : List ℕ). rejected_of_parts offered.proto offered.typ x attrs) (alone ∙ ap (rejected_type_alone offered.typ) same_pts)
    ∙ ap (rejected_of_parts offered.proto offered.typ (rejected_type_alone offered.typ offered.pts))
    (all
    ∙ ap (λ (x : ℕ). first_rejected_line is_mid lines ++ (direction_over offered.proto ++ first_rejected_line (maps x) lines))
    (is_first ∙ ap first_rejected_type same_pts)
    ∙ ap (λ (x : List MediaAttribute). first_rejected_line is_mid x
    ++ (direction_over offered.proto ++ first_rejected_line (maps (first_rejected_type offered.pts)) x))
    same_lines)
