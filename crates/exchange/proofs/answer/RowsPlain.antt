-- A plain row of this side stays plain in an answer, where it keeps the feedback of video.
use Rattle.exchange.proofs.Common.{◌≡◌, ◌&&◌, ◌==◌, ◌||◌, ℕ, Bool, true, false, List, Option, Some, None, All, if◌then◌else◌, find, nat_lt}
use Rattle.exchange.proofs.Common.{option_to_list, refl, subst, sym, ap, ◌∙◌, false≢true, or_parts, All-contains, All-weaker}
use Rattle.exchange.proofs.Common.{list_any-append, list_any, is_some, PayloadParams, has, types_of, HasVideoFeedback, IsPlain, MediaLine}
use Rattle.exchange.proofs.answer.RowLaws.{all_rows_agreed}
use Rattle.exchange.proofs.answer.RowsListLaws.{rows_is_some_find}
use Rattle.exchange.specs.answer.Rows.{IsAgreedRow, KeepsRowPlain, agreed_row_type, answered_rows, as_answered}
use Rattle.str0m_formats.specs.codec.Codec.{codec_content, video}
use Rattle.str0m_formats.specs.row.PayloadParams.{AllTypesSmall}

abbrev is_row_type_large : ℕ → Bool
is_row_type_large = nat_lt 127

no_row_type_large : (ts : List ℕ) → find is_row_type_large ts ≡ None → list_any is_row_type_large ts ≡ false
no_row_type_large ts e = sym (rows_is_some_find is_row_type_large ts) ∙ ap (λ (o : Option ℕ). is_some o) e

all_row_types_below : (ts : List ℕ) → list_any is_row_type_large ts ≡ false → find is_row_type_large ts ≡ None
all_row_types_below ts e = go (find is_row_type_large ts) (rows_is_some_find is_row_type_large ts ∙ e) where
  go : (o : Option ℕ) → is_some o ≡ false → o ≡ None
  go None h = refl
  go (Some t) h = absurd (false≢true (sym h))

-- a type that is agreed on is ours, or none
agreed_row_type_small : (listed : List ℕ) (ours theirs : Option ℕ) → list_any is_row_type_large (option_to_list ours) ≡ false
    → list_any is_row_type_large (option_to_list (agreed_row_type listed ours theirs)) ≡ false
agreed_row_type_small listed None theirs small = refl
agreed_row_type_small listed (Some a) None small = refl
agreed_row_type_small listed (Some a) (Some b) small = go (a == b && has listed a) where
  go : (test : Bool) → list_any is_row_type_large (option_to_list (if test then Some a else None)) ≡ false
  go true = small
  go false = refl

both_row_types_small : (a b : Bool) → a ≡ false → b ≡ false → (a || b) ≡ false
both_row_types_small a b e f = ap (λ (x : Bool). x || b) e ∙ f

answered_small : (section : MediaLine) (theirs ours : PayloadParams) → AllTypesSmall (types_of ours)
    → AllTypesSmall (types_of (as_answered section theirs ours))
unfolding as_answered
answered_small section theirs ours small =
    let resend = agreed_row_type section.pts ours.resend theirs.resend in
    let red = agreed_row_type section.pts ours.red theirs.red in
    let parts = or_parts (is_row_type_large ours.pt) _ (no_row_type_large (types_of ours) small) in
    let others = or_parts (list_any is_row_type_large (option_to_list ours.resend)) _
    (sym (list_any-append is_row_type_large (option_to_list ours.resend) (option_to_list ours.red)) ∙ parts.1) in
    all_row_types_below (types_of (as_answered section theirs ours))
    (both_row_types_small (is_row_type_large ours.pt) _ parts.0
    (list_any-append is_row_type_large (option_to_list resend) (option_to_list red)
    ∙ both_row_types_small _ _ (agreed_row_type_small section.pts ours.resend theirs.resend others.0)
    (agreed_row_type_small section.pts ours.red theirs.red others.1)))

answer_plain : (section : MediaLine) (theirs ours : PayloadParams) → IsPlain ours
    → (codec_content ours.spec.codec ≡ video → HasVideoFeedback (as_answered section theirs ours))
    → IsPlain (as_answered section theirs ours)
unfolding as_answered
answer_plain section theirs ours plain as_video = record {
  carried = plain.carried;
  bounded = record {
    types = answered_small section theirs ours plain.bounded.types;
    modes = plain.bounded.modes;
    distance = plain.bounded.distance;
  };
  triples = plain.triples;
  g722 = plain.g722;
  as_video = as_video;
  redundant = λ some. plain.redundant (λ e. some (ap (λ (o : Option ℕ). agreed_row_type section.pts o theirs.red) e));
  telephone = plain.telephone;
  no_maximum = plain.no_maximum;
}

keeps_plain : (section : MediaLine) (theirs ours : PayloadParams) → IsPlain ours → KeepsRowPlain (as_answered section theirs ours)
unfolding as_answered
keeps_plain section theirs ours plain = λ as_video. answer_plain section theirs ours plain as_video

pub all_plain : (own : List PayloadParams) (section : MediaLine) (answer : List PayloadParams) → answer ≡ answered_rows own section
    → All IsPlain own → All KeepsRowPlain answer
all_plain own section answer is plain =
    All-weaker (IsAgreedRow own section) KeepsRowPlain
    (λ row agreed. subst KeepsRowPlain (sym agreed.said)
    (keeps_plain section agreed.theirs agreed.ours (All-contains IsPlain own agreed.ours plain agreed.known)))
    answer (all_rows_agreed own section answer is)
