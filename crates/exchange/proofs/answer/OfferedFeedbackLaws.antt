-- The feedback that the lines of a section offer, one line more.
use Rattle.exchange.proofs.Common.{◌≡◌, ◌<◌, ◌+◌, ◌==◌, ◌||◌, ◌&&◌, ℕ, Bool, true, false, List, [], length, replicate, set, take, get_or}
use Rattle.exchange.proofs.Common.{Option, Some, None, inl, inr, refl, subst, sym, ap, ◌∙◌, bytes_eq, if◌then◌else◌, cases_eq, eq-eqb}
use Rattle.exchange.proofs.Common.{ne_eqb, get_or-replicate, get_or-set_other, get_or-set_same, length-set, MediaAttribute, RtcpFb, Unused}
use Rattle.exchange.specs.answer.OfferedFeedback.{IsFeedbackGathered, either_offered, offered_feedback_by, named_offered, none_offered}
use Rattle.exchange.specs.answer.OfferedFeedback.{offered_feedback, with_offered, feedback_for_all}
use Rattle.exchange.specs.answer.Rows.{is_row_feedback_value, is_offered, offers, row_feedback_value_of_all}
use Rattle.exchange.specs.declared.answer.offered_feedback.OfferedFeedback.{OfferedFeedback}
use Rattle.std.proofs.Math.Bool.{or_comm}
use Rattle.str0m_sdp.proofs.{mark_any_more, mark_any_same}

-- ---- one line more

-- the value of a line that offers feedback, for the type or for all types
abbrev feedback_value_for : ℕ → MediaAttribute → Option (List ℕ)
feedback_value_for pt (RtcpFb n value) = if n == pt then Some value else None
feedback_value_for pt (Unused text) = row_feedback_value_of_all text
feedback_value_for pt _ = None

-- a line offers the value that it says
feedback_by_value : (pt : ℕ) (words : List ℕ) (attr : MediaAttribute)
    → offers pt words attr ≡ is_row_feedback_value words (feedback_value_for pt attr)
feedback_by_value pt words (RtcpFb n value) = go (n == pt) where
  go : (b : Bool) → (b && bytes_eq value words) ≡ is_row_feedback_value words (if b then Some value else None)
  go true = refl
  go false = refl
feedback_by_value pt words (Unused text) = refl
feedback_by_value pt words _ = refl

-- before any line nothing is offered
feedback_before_all : (pt : ℕ) → none_offered ≡ offered_feedback [] pt
unfolding is_offered
feedback_before_all pt = refl

-- a line without such a value changes nothing
same_feedback : (attrs : List MediaAttribute) (i : ℕ) (attr : MediaAttribute) (pt : ℕ) → i < length attrs → attr ≡ get_or attrs i attr
    → feedback_value_for pt attr ≡ None
    → offered_feedback (take (i + 1) attrs) pt ≡ offered_feedback (take i attrs) pt
unfolding is_offered
same_feedback attrs i attr pt lt at says = λ j. offered_feedback_by
    (λ words. mark_any_same (offers pt words) attrs i attr lt at (feedback_by_value pt words attr ∙ ap (is_row_feedback_value words) says)
    j)

-- a line adds what it says
feedback_more : (attrs : List MediaAttribute) (i : ℕ) (attr : MediaAttribute) (pt : ℕ) (said : List ℕ) → i < length attrs
    → attr ≡ get_or attrs i attr → feedback_value_for pt attr ≡ Some said
    → offered_feedback (take (i + 1) attrs) pt ≡ either_offered (offered_feedback (take i attrs) pt) (named_offered said)
unfolding is_offered
feedback_more attrs i attr pt said lt at says = λ j. offered_feedback_by (λ words.
    (mark_any_more (offers pt words) attrs i attr lt at
    ∙ ap (λ (b : Bool). is_offered (take i attrs) pt words || b) (feedback_by_value pt words attr ∙ ap (is_row_feedback_value words) says))
    j)

feedback_line_value_more : (attrs : List MediaAttribute) (i : ℕ) (attr : MediaAttribute) (pt : ℕ) (said : Option (List ℕ))
    → i < length attrs
    → attr ≡ get_or attrs i attr → feedback_value_for pt attr ≡ said
    → offered_feedback (take (i + 1) attrs) pt ≡ with_offered (offered_feedback (take i attrs) pt) said
feedback_line_value_more attrs i attr pt None lt at says = same_feedback attrs i attr pt lt at says
feedback_line_value_more attrs i attr pt (Some words) lt at says = feedback_more attrs i attr pt words lt at says

-- ---- what either names

feedback_or_swap : (a b c : Bool) → ((a || b) || c) ≡ ((a || c) || b)
feedback_or_swap true b c = refl
feedback_or_swap false b c = or_comm b c

feedback_or_join : (a b c : Bool) → (a || (b || c)) ≡ ((a || b) || c)
feedback_or_join true b c = refl
feedback_or_join false b c = refl

feedback_either_swap : (f g h : OfferedFeedback) → either_offered (either_offered f g) h ≡ either_offered (either_offered f h) g
feedback_either_swap f g h = λ j. record {
  transport_cc = feedback_or_swap f.transport_cc g.transport_cc h.transport_cc j;
  fir = feedback_or_swap f.fir g.fir h.fir j;
  nack = feedback_or_swap f.nack g.nack h.nack j;
  pli = feedback_or_swap f.pli g.pli h.pli j;
  remb = feedback_or_swap f.remb g.remb h.remb j;
}

feedback_either_join : (f g h : OfferedFeedback) → either_offered f (either_offered g h) ≡ either_offered (either_offered f g) h
feedback_either_join f g h = λ j. record {
  transport_cc = feedback_or_join f.transport_cc g.transport_cc h.transport_cc j;
  fir = feedback_or_join f.fir g.fir h.fir j;
  nack = feedback_or_join f.nack g.nack h.nack j;
  pli = feedback_or_join f.pli g.pli h.pli j;
  remb = feedback_or_join f.remb g.remb h.remb j;
}

feedback_with_either : (f g : OfferedFeedback) (said : Option (List ℕ))
    → either_offered f (with_offered g said) ≡ with_offered (either_offered f g) said
feedback_with_either f g None = refl
feedback_with_either f g (Some words) = feedback_either_join f g (named_offered words)

-- ---- the table of types

pub no_feedback_gathered : (of_types : List OfferedFeedback) (of_all : OfferedFeedback) → of_types ≡ replicate 256 none_offered
    → of_all ≡ none_offered → IsFeedbackGathered [] of_types of_all
no_feedback_gathered of_types of_all table all = record {
  whole = ap (λ (rows : List OfferedFeedback). length rows) table;
  each = λ pt lt.
      ap (λ (f : OfferedFeedback). either_offered f of_all) (ap (λ (rows : List OfferedFeedback). get_or rows pt none_offered) table
      ∙ get_or-replicate 256 pt none_offered none_offered lt)
      ∙ ap (λ (f : OfferedFeedback). either_offered none_offered f) all ∙ feedback_before_all pt;
}

-- a line of a type adds to that type
feedback_type_more : (attrs : List MediaAttribute) (of_types : List OfferedFeedback) (of_all : OfferedFeedback) (i n : ℕ) (value : List ℕ)
    (attr : MediaAttribute)
    → i < length attrs → attr ≡ get_or attrs i attr → attr ≡ RtcpFb n value → n < 256 → IsFeedbackGathered (take i attrs) of_types of_all
    → either_offered (get_or (set of_types n (either_offered (get_or of_types n none_offered) (named_offered value))) n none_offered) of_all
    ≡ offered_feedback (take (i + 1) attrs) n
feedback_type_more attrs of_types of_all i n value attr lt at variant small so_far =
    ap (λ (f : OfferedFeedback). either_offered f of_all)
    (get_or-set_same of_types n (either_offered (get_or of_types n none_offered) (named_offered value)) none_offered
    (subst (λ (m : ℕ). n < m) (sym so_far.whole) small))
    ∙ feedback_either_swap (get_or of_types n none_offered) (named_offered value) of_all
    ∙ ap (λ (f : OfferedFeedback). either_offered f (named_offered value)) (so_far.each n small)
    ∙ sym (feedback_more attrs i attr n value lt at (ap (feedback_value_for n) variant
    ∙ ap (λ (b : Bool). if b then Some value else None) (eq-eqb n n refl)))

-- and leaves the others
feedback_apart_more : (attrs : List MediaAttribute) (of_types : List OfferedFeedback) (of_all : OfferedFeedback) (i n : ℕ) (value : List ℕ)
    (attr : MediaAttribute)
    → i < length attrs → attr ≡ get_or attrs i attr → attr ≡ RtcpFb n value → IsFeedbackGathered (take i attrs) of_types of_all
    → (added : OfferedFeedback) (pt : ℕ) → pt < 256 → (n ≡ pt → ⊥)
    → either_offered (get_or (set of_types n added) pt none_offered) of_all ≡ offered_feedback (take (i + 1) attrs) pt
feedback_apart_more attrs of_types of_all i n value attr lt at variant so_far added pt within apart =
    ap (λ (f : OfferedFeedback). either_offered f of_all) (get_or-set_other of_types n pt added none_offered (λ is. apart (sym is)))
    ∙ so_far.each pt within
    ∙ sym (same_feedback attrs i attr pt lt at (ap (feedback_value_for pt) variant
    ∙ ap (λ (b : Bool). if b then Some value else None) (ne_eqb n pt apart)))

pub feedback_typed_more : (attrs : List MediaAttribute) (of_types : List OfferedFeedback) (of_all : OfferedFeedback) (i n : ℕ)
    (value : List ℕ)
    (attr : MediaAttribute)
    → i < length attrs → attr ≡ get_or attrs i attr → attr ≡ RtcpFb n value → n < 256 → IsFeedbackGathered (take i attrs) of_types of_all
    → IsFeedbackGathered (take (i + 1) attrs) (set of_types n (either_offered (get_or of_types n none_offered) (named_offered value)))
    of_all
feedback_typed_more attrs of_types of_all i n value attr lt at variant small so_far = record {
  whole = length-set of_types n _ ∙ so_far.whole;
  each = λ pt within. elim (cases_eq n pt) [
    | inl is ↦
        subst (λ (k : ℕ). either_offered
        (get_or (set of_types n (either_offered (get_or of_types n none_offered) (named_offered value))) k none_offered) of_all
        ≡ offered_feedback (take (i + 1) attrs) k) is
        (feedback_type_more attrs of_types of_all i n value attr lt at variant small so_far)
    | inr apart ↦ feedback_apart_more attrs of_types of_all i n value attr lt at variant so_far _ pt within apart
  ];
}

-- what is no line of one type may be one of all
feedback_value_of_any : (pt : ℕ) (attr : MediaAttribute) → ((n : ℕ) (value : List ℕ) → attr ≡ RtcpFb n value → ⊥)
    → feedback_value_for pt attr ≡ feedback_for_all attr
feedback_value_of_any pt (RtcpFb n value) other = absurd (other n value refl)
feedback_value_of_any pt (Unused text) other = refl
feedback_value_of_any pt _ other = refl

-- it says it for each type
pub feedback_other_more : (attrs : List MediaAttribute) (of_types : List OfferedFeedback) (of_all : OfferedFeedback) (i : ℕ)
    (attr : MediaAttribute)
    → i < length attrs → attr ≡ get_or attrs i attr → ((n : ℕ) (value : List ℕ) → attr ≡ RtcpFb n value → ⊥)
    → IsFeedbackGathered (take i attrs) of_types of_all
    → IsFeedbackGathered (take (i + 1) attrs) of_types (with_offered of_all (feedback_for_all attr))
feedback_other_more attrs of_types of_all i attr lt at other so_far = record {
  whole = so_far.whole;
  each = λ pt within.
      feedback_with_either (get_or of_types pt none_offered) of_all (feedback_for_all attr)
      ∙ ap (λ (f : OfferedFeedback). with_offered f (feedback_for_all attr)) (so_far.each pt within)
      ∙ sym (feedback_line_value_more attrs i attr pt (feedback_for_all attr) lt at (feedback_value_of_any pt attr other));
}

-- what is told of a type
pub feedback_told : (attrs : List MediaAttribute) (of_types : List OfferedFeedback) (of_all : OfferedFeedback) (pt : ℕ)
    → IsFeedbackGathered attrs of_types of_all → pt < 256
    → either_offered (get_or of_types pt none_offered) of_all ≡ offered_feedback attrs pt
feedback_told attrs of_types of_all pt gathered within = gathered.each pt within
