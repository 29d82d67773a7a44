-- The feedback of types, one attribute more.
use Rattle.str0m_sdp.proofs.Common.{arith, ◌≡◌, ◌<◌, ◌+◌, ◌||◌, ℕ, Bool, false, List, [], length, take, get_or, refl, sym, ap, ◌∙◌, inl}
use Rattle.str0m_sdp.proofs.Common.{inr, cases_eq, eq-eqb, ne_eqb, get_or-set_same, get_or-set_other, bytes_eq, set}
use Rattle.str0m_sdp.proofs.section.TypeTablesMarks.{mark_any_more, mark_any_same}
use Rattle.str0m_sdp.specs.attribute.Feedback.{is_feedback, has_feedback, feedback_by, feedback_of, empty_feedback, named_feedback}
use Rattle.str0m_sdp.specs.attribute.Feedback.{either_feedback}
use Rattle.str0m_sdp.specs.declared.attribute.MediaAttribute.{MediaAttribute}
use Rattle.str0m_sdp.specs.declared.attribute.MediaAttribute.TheVariants.{RtcpFb}
use Rattle.str0m_sdp.specs.declared.attribute.feedback.Feedback.{Feedback}

-- the value stands so far, or in the attribute that is read
feedback_has_more : (attrs : List MediaAttribute) (i : ℕ) (attr : MediaAttribute) (pt : ℕ) (words : List ℕ) → i < length attrs
    → attr ≡ get_or attrs i attr
    → has_feedback (take (i + 1) attrs) pt words ≡ (has_feedback (take i attrs) pt words || is_feedback pt words attr)
unfolding has_feedback
feedback_has_more attrs i attr pt words lt is = mark_any_more (is_feedback pt words) attrs i attr lt is

feedback_has_same : (attrs : List MediaAttribute) (i : ℕ) (attr : MediaAttribute) (pt : ℕ) (words : List ℕ) → i < length attrs
    → attr ≡ get_or attrs i attr
    → is_feedback pt words attr ≡ false → has_feedback (take (i + 1) attrs) pt words ≡ has_feedback (take i attrs) pt words
unfolding has_feedback
feedback_has_same attrs i attr pt words lt is fails = mark_any_same (is_feedback pt words) attrs i attr lt is fails

-- where each value stands or not, feedback is the same
feedback_alike : (xs ys : List MediaAttribute) (pt : ℕ) → ((words : List ℕ) → has_feedback xs pt words ≡ has_feedback ys pt words)
    → feedback_of xs pt ≡ feedback_of ys pt
feedback_alike xs ys pt same = λ i. feedback_by (λ words. same words i)

feedback_joined : (xs ys : List MediaAttribute) (pt : ℕ) (value : List ℕ)
    → ((words : List ℕ) → has_feedback ys pt words ≡ (has_feedback xs pt words || bytes_eq value words))
    → feedback_of ys pt ≡ either_feedback (feedback_of xs pt) (named_feedback value)
feedback_joined xs ys pt value more = λ i. feedback_by (λ words. more words i)

silent_feedback : (pt : ℕ) (words : List ℕ) (attr : MediaAttribute) → ((n : ℕ) (value : List ℕ) → attr ≡ RtcpFb n value → ⊥)
    → is_feedback pt words attr ≡ false
silent_feedback pt words attr other = grind arith

-- what is no rtcp-fb line changes nothing
pub feedback_other : (attrs : List MediaAttribute) (i : ℕ) (attr : MediaAttribute) (pt : ℕ) → i < length attrs → attr ≡ get_or attrs i attr
    → ((n : ℕ) (value : List ℕ) → attr ≡ RtcpFb n value → ⊥) → feedback_of (take (i + 1) attrs) pt ≡ feedback_of (take i attrs) pt
feedback_other attrs i attr pt lt is other = grind (arith, feedback_alike, feedback_has_same, silent_feedback)

own_feedback : (n : ℕ) (value words : List ℕ) → is_feedback n words (RtcpFb n value) ≡ bytes_eq value words
own_feedback n value words = rw (eq-eqb n n refl) refl

other_feedback : (n pt : ℕ) (value words : List ℕ) → (n ≡ pt → ⊥) → is_feedback pt words (RtcpFb n value) ≡ false
other_feedback n pt value words ne = rw (ne_eqb n pt ne) refl

-- an rtcp-fb line adds what it names to its own type's feedback
pub feedback_named : (attrs : List MediaAttribute) (table : List Feedback) (i n : ℕ) (value : List ℕ) (attr : MediaAttribute) (pt : ℕ)
    (read : Feedback)
    → i < length attrs → n < length table → attr ≡ get_or attrs i attr → attr ≡ RtcpFb n value
    → read ≡ feedback_of (take i attrs) n
    → get_or table pt empty_feedback ≡ feedback_of (take i attrs) pt
    → get_or (set table n (either_feedback read (named_feedback value))) pt empty_feedback ≡ feedback_of (take (i + 1) attrs) pt
feedback_named attrs table i n value attr pt read lt row is variant read_is so_far =
    elim (cases_eq n pt) [
      | inl same ↦
          rw (← same) (get_or-set_same table n (either_feedback read (named_feedback value)) empty_feedback row
          ∙ ap (λ (f : Feedback). either_feedback f (named_feedback value)) read_is
          ∙ sym (feedback_joined (take i attrs) (take (i + 1) attrs) n value (λ words. feedback_has_more attrs i attr n words lt is
          ∙ ap (λ (b : Bool). has_feedback (take i attrs) n words || b) (ap (is_feedback n words) variant ∙ own_feedback n value words))))
      | inr ne ↦
          get_or-set_other table n pt (either_feedback read (named_feedback value)) empty_feedback (λ same. ne (sym same)) ∙ so_far
          ∙ sym (feedback_alike (take (i + 1) attrs) (take i attrs) pt
          (λ words. feedback_has_same attrs i attr pt words lt is (ap (is_feedback pt words) variant ∙ other_feedback n pt value words ne)))
    ]

-- before any attribute there is none
pub feedback_start : (pt : ℕ) → empty_feedback ≡ feedback_of [] pt
unfolding has_feedback
feedback_start pt = refl
