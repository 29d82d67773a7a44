-- A round has one outcome: one list of rows, or one cause.
use Rattle.str0m_formats.proofs.Common.{rules, ◌≡◌, ℕ, ◌<◌, ◌≤◌, ◌⊎◌, inl, inr, Bool, true, find, nat_lt, List, [], ◌∷◌, ◌++◌, length, take}
use Rattle.str0m_formats.proofs.Common.{Option, Some, None, Result, Ok, Err, IfSome, All, refl, sym, ap, ◌∙◌, subst, arith, slice_get}
use Rattle.str0m_formats.proofs.Common.{slice_get_within, none-some, same_Some, All-contains, take_all, cases_order, eq-eqb}
use Rattle.str0m_formats.proofs.round.ClaimedTimes.{type_times-append, type_times-cons, type_times-some}
use Rattle.str0m_formats.proofs.round.FirstPass.{same_row_Ok, first_pass_same_Err}
use Rattle.str0m_formats.proofs.round.RoundsPasses.{EachPassPlace, pass_split_has, pass_each_same, pass_none_within}
use Rattle.str0m_formats.specs.declared.round.negotiation_error.NegotiationError.{NegotiationError}
use Rattle.str0m_formats.specs.declared.round.negotiation_error.NegotiationError.TheVariants.{TypeTooLarge, ClaimedTwice}
use Rattle.str0m_formats.specs.declared.row.payload_params.PayloadParams.{PayloadParams}
use Rattle.str0m_formats.specs.round.Choices.{IsChoice}
use Rattle.str0m_formats.specs.round.Claimed.{TypeSet, has, type_times, AllTypesDistinct}
use Rattle.str0m_formats.specs.round.Rounds.{types_taken_by, types_taken_after, settled_row, RowBecomes, RoundMayBegin, AllRoundsBegun}
use Rattle.str0m_formats.specs.round.Rounds.{Settled, StopsFirstPass}
use Rattle.str0m_formats.specs.round.Rounds.{StopsSettling, StopsSecondPass, RoundLeaves, IsFirstClaimRepeat, RoundLeavesOnly}
use Rattle.str0m_formats.specs.round.Rounds.{RoundRefusedOnly}
use Rattle.str0m_formats.specs.round.Rounds.{RoundRefused}
use Rattle.str0m_formats.specs.row.PayloadParams.{AllTypesSmall, types, locked_types, open_types}

-- ---- two splits of one list

pub pass_split_order : {A : Type 0} (xs zs : List A) (a b : A) (ys us : List A) → xs ++ a ∷ ys ≡ zs ++ b ∷ us
    → ((xs ≡ zs) × (a ≡ b)) ⊎ (((w : List A) × (zs ≡ xs ++ a ∷ w) × (ys ≡ w ++ b ∷ us)) ⊎
    ((w : List A) × (xs ≡ zs ++ b ∷ w) × (us ≡ w ++ a ∷ ys)))
pass_split_order [] [] a b ys us h = inl (refl, cc)
pass_split_order {A} [] (z ∷ zs) a b ys us h = grind arith
pass_split_order {A} (x ∷ xs) [] a b ys us h = grind arith
pass_split_order {A} (x ∷ xs) (z ∷ zs) a b ys us h = grind (arith, pass_split_order xs zs a b ys us)

rows_all_at_split : {A : Type 0} (P : A → Type 0) (zs xs : List A) (y : A) (ys : List A) → zs ≡ xs ++ y ∷ ys → All P zs → P y
rows_all_at_split P zs xs y ys e all = All-contains P zs y all (pass_split_has zs xs y ys e)

score_of : (o : Option ℕ) (P : ℕ → Type 0) (n : ℕ) → o ≡ Some n → IfSome o P → P n
score_of o P n e h = let Q : Option ℕ → Type 0 = λ v. IfSome v P in subst Q e h

-- ---- one choice

pub round_choice_unique : (points : PayloadParams → Option ℕ) (rows : List PayloadParams) (a b : Option PayloadParams)
    → IsChoice points rows a
    → IsChoice points rows b → a ≡ b
round_choice_unique points rows None None ha hb = refl
round_choice_unique points rows None (Some b) ha hb =
    let none : points b ≡ None = rows_all_at_split (λ r. points r ≡ None) rows hb.before b hb.after hb.split ha in
    absurd (none-some hb.most (sym none ∙ hb.has_most))
round_choice_unique points rows (Some a) None ha hb =
    let none : points a ≡ None = rows_all_at_split (λ r. points r ≡ None) rows ha.before a ha.after ha.split hb in
    absurd (none-some ha.most (sym none ∙ ha.has_most))
round_choice_unique points rows (Some a) (Some b) ha hb = go
    (pass_split_order ha.before hb.before a b ha.after hb.after (sym ha.split ∙ hb.split))
  where
    go : ((ha.before ≡ hb.before) × (a ≡ b)) ⊎
        (((w : List PayloadParams) × (hb.before ≡ ha.before ++ a ∷ w) × (ha.after ≡ w ++ b ∷ hb.after)) ⊎
        ((w : List PayloadParams) × (ha.before ≡ hb.before ++ b ∷ w) × (hb.after ≡ w ++ a ∷ ha.after)))
        → ◌≡◌ {A = Option PayloadParams} (Some a) (Some b)
    go (inl s) = ap (λ r. Some r) s.1
    go (inr (inl s)) =
        let less = score_of (points b) (λ n. n < ha.most) hb.most hb.has_most
        (rows_all_at_split (λ r. IfSome (points r) (λ n. n < ha.most)) ha.after s.0 b hb.after s.2 ha.after_below) in
        let most = score_of (points a) (λ n. n ≤ hb.most) ha.most ha.has_most
        (rows_all_at_split (λ r. IfSome (points r) (λ n. n ≤ hb.most)) hb.before ha.before a s.0 s.1 hb.before_at_most) in
        absurd (omega (arith, less, most))
    go (inr (inr s)) =
        let less = score_of (points a) (λ n. n < hb.most) ha.most ha.has_most
        (rows_all_at_split (λ r. IfSome (points r) (λ n. n < hb.most)) hb.after s.0 a ha.after s.2 hb.after_below) in
        let most = score_of (points b) (λ n. n ≤ ha.most) hb.most hb.has_most
        (rows_all_at_split (λ r. IfSome (points r) (λ n. n ≤ ha.most)) ha.before hb.before b s.0 s.1 ha.before_at_most) in
        absurd (omega (arith, less, most))

round_becomes_unique : (taken unlocked : TypeSet) (remote : List PayloadParams) (receives : Bool) (row : PayloadParams)
    (x y : Result PayloadParams NegotiationError) → RowBecomes taken unlocked remote receives row x
    → RowBecomes taken unlocked remote receives row y → x ≡ y
round_becomes_unique taken unlocked remote receives row x y hx hy = grind (arith, round_choice_unique)

-- ---- one end of a pass

-- the rows so far, in a pass that goes at least as far
pass_same_so_far : {A : Type 0} (O : List A → A → Result A NegotiationError → Type 0)
    (one : (d : List A) (r : A) (x y : Result A NegotiationError) → O d r x → O d r y → x ≡ y) (rows xs ys : List A)
    → EachPassPlace (λ d r n. O d r (Ok n)) rows xs → EachPassPlace (λ d r n. O d r (Ok n)) rows ys → length xs ≤ length rows
    → length xs ≤ length ys → take (length xs) ys ≡ xs
pass_same_so_far O one rows xs ys ex ey l h =
    sym (pass_each_same (λ d r n. O d r (Ok n)) rows xs ys (λ d r a b ha hb. same_row_Ok a b (one d r (Ok a) (Ok b) ha hb)) ex ey l
    (length xs)
    (omega arith) h) ∙ take_all (length xs) xs (omega arith)

pub whole_pass_unique : {A : Type 0} (O : List A → A → Result A NegotiationError → Type 0)
    (one : (d : List A) (r : A) (x y : Result A NegotiationError) → O d r x → O d r y → x ≡ y) (rows xs ys : List A)
    → EachPassPlace (λ d r n. O d r (Ok n)) rows xs → EachPassPlace (λ d r n. O d r (Ok n)) rows ys → length xs ≡ length rows
    → length ys ≡ length rows → xs ≡ ys
whole_pass_unique O one rows xs ys ex ey lx ly =
    sym (pass_same_so_far O one rows xs ys ex ey (omega arith) (omega arith)) ∙ ap (λ n. take n ys) (lx ∙ sym ly)
    ∙ take_all (length ys) ys (omega arith)

-- a pass that stops at a place goes no further
pub pass_stops_here : {A : Type 0} (O : List A → A → Result A NegotiationError → Type 0)
    (one : (d : List A) (r : A) (x y : Result A NegotiationError) → O d r x → O d r y → x ≡ y) (rows xs ys : List A) (row : A)
    (cause : NegotiationError)
    → EachPassPlace (λ d r n. O d r (Ok n)) rows xs → length xs ≤ length rows → slice_get rows (length xs) ≡ Some row → O xs row (Err cause)
    → EachPassPlace (λ d r n. O d r (Ok n)) rows ys → length xs < length ys → ⊥
pass_stops_here {A} O one rows xs ys row cause ex l next stop ey h = go (slice_get ys (length xs)) refl where
  go : (o : Option A) → slice_get ys (length xs) ≡ o → ⊥
  go None e = pass_none_within ys (length xs) h e
  go (Some y) e =
      let front : take (length xs) ys ≡ xs = pass_same_so_far O one rows xs ys ex ey l (omega arith) in
      let P : List A → Type 0 = λ d. O d row (Ok y) in
      let none : ◌≡◌ {A = Result A NegotiationError} (Ok y) (Err cause) =
      one xs row (Ok y) (Err cause) (subst P front (ey (length xs) row y next e)) stop in
      cc

pub stopped_pass_unique : {A : Type 0} (O : List A → A → Result A NegotiationError → Type 0)
    (one : (d : List A) (r : A) (x y : Result A NegotiationError) → O d r x → O d r y → x ≡ y) (rows xs ys : List A) (r s : A)
    (c e : NegotiationError)
    → EachPassPlace (λ d r n. O d r (Ok n)) rows xs → length xs ≤ length rows → slice_get rows (length xs) ≡ Some r → O xs r (Err c)
    → EachPassPlace (λ d r n. O d r (Ok n)) rows ys → length ys ≤ length rows → slice_get rows (length ys) ≡ Some s → O ys s (Err e) → c ≡ e
stopped_pass_unique {A} O one rows xs ys r s c e ex lx nx sx ey ly ny sy = go (cases_order (length xs) (length ys)) where
  go : (length xs ≡ length ys) ⊎ ((length xs < length ys) ⊎ (length ys < length xs)) → c ≡ e
  go (inl h) =
      let front : ys ≡ xs = sym (take_all (length ys) ys (omega arith)) ∙ ap (λ n. take n ys) (sym h)
      ∙ pass_same_so_far O one rows xs ys ex ey lx (omega arith) in
      let same : s ≡ r = same_Some s r (sym ny ∙ ap (slice_get rows) (sym h) ∙ nx) in
      let P : List A → Type 0 = λ d. O d s (Err e) in
      let Q : A → Type 0 = λ x. O xs x (Err e) in
      first_pass_same_Err c e (one xs r (Err c) (Err e) sx (subst Q same (subst P front sy)))
  go (inr (inl h)) = absurd (pass_stops_here O one rows xs ys r c ex lx nx sx ey h)
  go (inr (inr h)) = absurd (pass_stops_here O one rows ys xs s e ey ly ny sy ex h)

-- ---- one outcome of a round

abbrev FirstPassOutcome : List PayloadParams → List PayloadParams → Bool → List PayloadParams → PayloadParams
    → Result PayloadParams NegotiationError
    → Type 0
FirstPassOutcome before remote receives d r x = RowBecomes (types_taken_by before d) (has (open_types before)) remote receives r x

first_pass_one : (before remote : List PayloadParams) (receives : Bool) (d : List PayloadParams) (r : PayloadParams)
    (x y : Result PayloadParams NegotiationError) → FirstPassOutcome before remote receives d r x
    → FirstPassOutcome before remote receives d r y → x ≡ y
first_pass_one before remote receives d r x y hx hy = round_becomes_unique (types_taken_by before d) (has (open_types before)) remote
    receives r x
    y hx hy

abbrev SecondPassOutcome : TypeSet → List PayloadParams → List PayloadParams → PayloadParams → Result PayloadParams NegotiationError
    → Type 0
SecondPassOutcome unlocked mid d r x = settled_row (has (locked_types mid)) (types_taken_after mid d) unlocked r ≡ x

second_pass_one : (unlocked : TypeSet) (mid : List PayloadParams) (d : List PayloadParams) (r : PayloadParams)
    (x y : Result PayloadParams NegotiationError) → SecondPassOutcome unlocked mid d r x → SecondPassOutcome unlocked mid d r y → x ≡ y
second_pass_one unlocked mid d r x y hx hy = sym hx ∙ hy

first_pass_mid_unique : (before remote : List PayloadParams) (receives : Bool) (a b : List PayloadParams)
    → AllRoundsBegun before remote receives a
    → AllRoundsBegun before remote receives b → a ≡ b
first_pass_mid_unique before remote receives a b ha hb = search (
  rules,
  whole_pass_unique (FirstPassOutcome before remote receives),
  first_pass_one before remote receives,
)

-- the same second pass stops, over the rows that the first pass leaves
pass_stops_over : (before remote : List PayloadParams) (receives : Bool) (a b : List PayloadParams) (cause : NegotiationError)
    → AllRoundsBegun before remote receives a → AllRoundsBegun before remote receives b → StopsSettling (has (open_types before)) b cause
    → StopsSettling (has (open_types before)) a cause
pass_stops_over before remote receives a b cause ha hb s = grind (arith, first_pass_mid_unique before remote receives b a hb ha)

pub round_unique : (before remote : List PayloadParams) (receives : Bool) (x y : List PayloadParams) → RoundLeaves before remote receives x
    → RoundLeaves before remote receives y → x ≡ y
round_unique before remote receives x y hx hy =
    let u = has (open_types before) in
    let same = first_pass_mid_unique before remote receives hx.mid hy.mid hx.first hy.first in
    let second = subst (λ (m : List PayloadParams). Settled u m y) (sym same) hy.second in
    whole_pass_unique (SecondPassOutcome u hx.mid) (second_pass_one u hx.mid) hx.mid x y hx.second.each second.each hx.whole
    (hy.whole ∙ ap length (sym same))

-- a list without repeats has no first repeat, and a list has one at most
type_twice_there : (seen rest : List ℕ) (t : ℕ) → has seen t ≡ true → 2 ≤ type_times (seen ++ t ∷ rest) t
type_twice_there seen rest t h = grind (
  arith,
  eq-eqb t t,
  type_times-append seen (t ∷ rest) t,
  type_times-cons t rest t,
  type_times-some seen t h,
)

pub claim_repeat_not_once : (xs : List ℕ) (t : ℕ) → AllTypesDistinct xs → IsFirstClaimRepeat xs t → ⊥
claim_repeat_not_once xs t d r =
    let At : List ℕ → Type 0 = λ ys. 2 ≤ type_times ys t in
    let again : 2 ≤ type_times xs t = subst At (sym r.split) (type_twice_there r.seen r.rest t r.again) in omega (arith, d t, again)

claim_repeat_unique : (xs : List ℕ) (s t : ℕ) → IsFirstClaimRepeat xs s → IsFirstClaimRepeat xs t → s ≡ t
claim_repeat_unique xs s t hs ht =
    grind (
      arith,
      pass_split_order hs.seen ht.seen s t hs.rest ht.rest,
      claim_repeat_not_once ht.seen s ht.distinct,
      claim_repeat_not_once hs.seen t hs.distinct,
    )

-- the four kinds of causes keep apart
abbrev pub HasLargeClaim : List PayloadParams → List PayloadParams → NegotiationError → Type 0
HasLargeClaim before remote cause = (t : ℕ) × (find (nat_lt 127) (types before ++ types remote) ≡ Some t) × (cause ≡ TypeTooLarge t)

abbrev pub HasClaimRepeat : List PayloadParams → List PayloadParams → NegotiationError → Type 0
HasClaimRepeat before remote cause = (t : ℕ) × AllTypesSmall (types before ++ types remote) × IsFirstClaimRepeat (locked_types before) t
    × (cause ≡ ClaimedTwice t)

abbrev pub RoundRefusalCases : List PayloadParams → List PayloadParams → Bool → NegotiationError → Type 0
RoundRefusalCases before remote receives cause = HasLargeClaim before remote cause ⊎
    (HasClaimRepeat before remote cause ⊎ (StopsFirstPass before remote receives cause ⊎ StopsSecondPass before remote receives cause))

pub round_refusal_cases_of : (before remote : List PayloadParams) (receives : Bool) (cause : NegotiationError)
    → RoundRefused before remote receives cause
    → RoundRefusalCases before remote receives cause
round_refusal_cases_of before remote receives cause o = grind arith

pub claim_large_or_small : (xs : List ℕ) (t : ℕ) → find (nat_lt 127) xs ≡ Some t → AllTypesSmall xs → ⊥
claim_large_or_small xs t h s = none-some t (sym s ∙ h)

-- a pass that is whole did not stop
first_pass_whole : (before remote : List PayloadParams) (receives : Bool) (cause : NegotiationError) (mid : List PayloadParams)
    → StopsFirstPass before remote receives cause → AllRoundsBegun before remote receives mid → ⊥
first_pass_whole before remote receives cause mid s m =
    pass_stops_here (FirstPassOutcome before remote receives) (first_pass_one before remote receives) before s.done mid s.row cause
    s.begun.each s.begun.within
    s.next s.stops m.begun.each
    (omega (arith, slice_get_within before (length s.done) s.row s.next, m.whole))

second_pass_whole : (unlocked : TypeSet) (mid after : List PayloadParams) (cause : NegotiationError) → StopsSettling unlocked mid cause
    → Settled unlocked mid after → length after ≡ length mid → ⊥
second_pass_whole unlocked mid after cause s m w =
    pass_stops_here (SecondPassOutcome unlocked mid) (second_pass_one unlocked mid) mid s.done after s.row cause s.before_it.each
    s.before_it.within s.next
    s.stops m.each
    (omega (arith, slice_get_within mid (length s.done) s.row s.next, w))

pub round_not_refused : (before remote : List PayloadParams) (receives : Bool) (after : List PayloadParams) (cause : NegotiationError)
    → RoundLeaves before remote receives after → RoundRefused before remote receives cause → ⊥
round_not_refused before remote receives after cause r f = go (round_refusal_cases_of before remote receives cause f) where
  go : RoundRefusalCases before remote receives cause → ⊥
  go (inl h) = claim_large_or_small (types before ++ types remote) h.0 h.1 r.first.may.small
  go (inr (inl h)) = claim_repeat_not_once (locked_types before) h.0 r.first.may.once h.2
  go (inr (inr (inl h))) = first_pass_whole before remote receives cause r.mid h r.first
  go (inr (inr (inr h))) = second_pass_whole (has (open_types before)) r.mid after cause
      (pass_stops_over before remote receives r.mid h.mid cause r.first h.first h.second) r.second r.whole

pub round_refused_unique : (before remote : List PayloadParams) (receives : Bool) (x y : NegotiationError)
    → RoundRefused before remote receives x
    → RoundRefused before remote receives y → x ≡ y
round_refused_unique before remote receives x y fx fy = go (round_refusal_cases_of before remote receives x fx)
    (round_refusal_cases_of before remote receives y fy) where
      small_of : (c : NegotiationError) → StopsFirstPass before remote receives c ⊎ StopsSecondPass before remote receives c
          → RoundMayBegin before remote
      small_of c (inl h) = h.may
      small_of c (inr h) = h.first.may

      go : RoundRefusalCases before remote receives x → RoundRefusalCases before remote receives y → x ≡ y
      go (inl a) (inl b) = a.2 ∙ ap TypeTooLarge (same_Some a.0 b.0 (sym a.1 ∙ b.1)) ∙ sym b.2
      go (inl a) (inr (inl b)) = absurd (claim_large_or_small (types before ++ types remote) a.0 a.1 b.1)
      go (inl a) (inr (inr b)) = absurd (claim_large_or_small (types before ++ types remote) a.0 a.1 (small_of y b).small)
      go (inr (inl a)) (inl b) = absurd (claim_large_or_small (types before ++ types remote) b.0 b.1 a.1)
      go (inr (inl a)) (inr (inl b)) = a.3 ∙ ap ClaimedTwice (claim_repeat_unique (locked_types before) a.0 b.0 a.2 b.2) ∙ sym b.3
      go (inr (inl a)) (inr (inr b)) = absurd (claim_repeat_not_once (locked_types before) a.0 (small_of y b).once a.2)
      go (inr (inr a)) (inl b) = absurd (claim_large_or_small (types before ++ types remote) b.0 b.1 (small_of x a).small)
      go (inr (inr a)) (inr (inl b)) = absurd (claim_repeat_not_once (locked_types before) b.0 (small_of x a).once b.2)
      go (inr (inr (inl a))) (inr (inr (inl b))) =
          stopped_pass_unique (FirstPassOutcome before remote receives) (first_pass_one before remote receives) before a.done b.done a.row
          b.row x
          y
          a.begun.each
          a.begun.within a.next a.stops b.begun.each b.begun.within b.next b.stops
      go (inr (inr (inl a))) (inr (inr (inr b))) = absurd (first_pass_whole before remote receives x b.mid a b.first)
      go (inr (inr (inr a))) (inr (inr (inl b))) = absurd (first_pass_whole before remote receives y a.mid b a.first)
      go (inr (inr (inr a))) (inr (inr (inr b))) =
          let u = has (open_types before) in
          let s = pass_stops_over before remote receives a.mid b.mid y a.first b.first b.second in
          stopped_pass_unique (SecondPassOutcome u a.mid) (second_pass_one u a.mid) a.mid a.second.done s.done a.second.row s.row x y
          a.second.before_it.each
          a.second.before_it.within a.second.next a.second.stops s.before_it.each s.before_it.within s.next s.stops

pub round_leaves_only : (before remote : List PayloadParams) (receives : Bool) (after : List PayloadParams)
    → RoundLeaves before remote receives after
    → RoundLeavesOnly before remote receives after
round_leaves_only before remote receives after r = search (rules, round_unique, round_not_refused)

pub round_refused_only : (before remote : List PayloadParams) (receives : Bool) (cause : NegotiationError)
    → RoundRefused before remote receives cause
    → RoundRefusedOnly before remote receives cause
round_refused_only before remote receives cause f = search (rules, round_refused_unique, round_not_refused)
