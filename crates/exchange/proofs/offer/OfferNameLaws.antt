-- The names of an offer's sections are pairwise different.
use Rattle.exchange.proofs.Common.{arith, ◌≡◌, ◌≢◌, ◌+◌, ◌++◌, inl, inr, ℕ, suc, false, List, [], ◌∷◌, Option, Some, None, IfSome}
use Rattle.exchange.proofs.Common.{MatchOption, All, bytes_eq, map, subst, sym, ap, ◌∙◌, or_parts, true≢false, All-cons, All-head, All-nil}
use Rattle.exchange.proofs.Common.{All-tail, All-weaker, AllPairs-cons, bytes_eq-Decides, cons_option, MediaAttribute, MediaLine, Sdp}
use Rattle.exchange.proofs.Common.{AreMidsDistinct, is_group_listed, section_mids}
use Rattle.exchange.proofs.offer.OfferRuleLaws.{offer_all_named, new_section_name, next_offer_shape}
use Rattle.exchange.proofs.offer.RuleLaws.{rejecting_shape}
use Rattle.exchange.proofs.section.PlaceLaws.{places_hold}
use Rattle.exchange.specs.answer.RejectedSection.{rejecting}
use Rattle.exchange.specs.declared.offer.added.Added.{Added}
use Rattle.exchange.specs.declared.state.exchange.Exchange.{Exchange}
use Rattle.exchange.specs.declared.state.own_side.SectionDirection.{SectionDirection}
use Rattle.exchange.specs.offer.Added.{offer_placed_under}
use Rattle.exchange.specs.offer.MadeOffer.{MakesOffer, offer_ready_with, sections_added}
use Rattle.exchange.specs.offer.OfferPlaces.{FillsPlace, FillsPlaces, their_section_at}
use Rattle.exchange.specs.offer.OfferRules.{IsNewOfferName}
use Rattle.exchange.specs.offer.OfferSection.{new_section, next_section}
use Rattle.exchange.specs.section.Stopped.{name_of}
use Rattle.exchange.specs.state.State.{sections_of}

-- ---- sections whose names differ

-- the section has another name than this one
abbrev pub OtherName : Option (List ℕ) → MediaLine → Type 0
OtherName name m = IfSome name (λ n. IfSome (name_of m) (λ k. k ≢ n))

abbrev pub NamesDiffer : List MediaLine → Type 0
NamesDiffer [] = Unit {0}
NamesDiffer (m ∷ ms) = All (OtherName (name_of m)) ms × NamesDiffer ms

name_differ_flipped : (name other : Option (List ℕ)) → IfSome name (λ n. IfSome other (λ k. k ≢ n))
    → IfSome other (λ k. IfSome name (λ n. n ≢ k))
name_differ_flipped None None apart = tt
name_differ_flipped None (Some k) apart = tt
name_differ_flipped (Some n) None apart = tt
name_differ_flipped (Some n) (Some k) apart = λ e. apart (sym e)

-- what holds of the names
named_from : (P : List ℕ → Type 0) (ms : List MediaLine) → All P (section_mids ms) → All (λ m. IfSome (name_of m) P) ms
named_from P [] all = All-nil (λ (m : MediaLine). IfSome (name_of m) P)
named_from P (m ∷ ms) all = All-cons (λ (m : MediaLine). IfSome (name_of m) P) m ms (here (name_of m) all)
    (named_from P ms (later (name_of m) all)) where
      here : (name : Option (List ℕ)) → All P (cons_option name (section_mids ms)) → IfSome name P
      here None all = tt
      here (Some n) all = All-head P n (section_mids ms) all

      later : (name : Option (List ℕ)) → All P (cons_option name (section_mids ms)) → All P (section_mids ms)
      later None all = all
      later (Some n) all = All-tail P n (section_mids ms) all

from_named : (P : List ℕ → Type 0) (ms : List MediaLine) → All (λ m. IfSome (name_of m) P) ms → All P (section_mids ms)
from_named P [] all = All-nil P
from_named P (m ∷ ms) all =
    go (name_of m) (All-head (λ (m : MediaLine). IfSome (name_of m) P) m ms all)
    (from_named P ms (All-tail (λ (m : MediaLine). IfSome (name_of m) P) m ms all)) where
      go : (name : Option (List ℕ)) → IfSome name P → All P (section_mids ms) → All P (cons_option name (section_mids ms))
      go None here rec = rec
      go (Some n) here rec = All-cons P n (section_mids ms) here rec

-- as a list of names
offer_name_head_apart : (n : List ℕ) (names : List (List ℕ)) → AreMidsDistinct (n ∷ names) → All (λ k. k ≢ n) names
offer_name_head_apart n names distinct = λ i d lt e. distinct 0 (suc i) d (omega arith) (omega (arith, lt)) (sym e)

rest_names_distinct : (n : List ℕ) (names : List (List ℕ)) → AreMidsDistinct (n ∷ names) → AreMidsDistinct names
rest_names_distinct n names distinct = λ i j d lt within. distinct (suc i) (suc j) d (omega (arith, lt)) (omega (arith, within))

pub name_differ_from : (ms : List MediaLine) → AreMidsDistinct (section_mids ms) → NamesDiffer ms
name_differ_from [] distinct = tt
name_differ_from (m ∷ ms) distinct = (apart (name_of m) distinct, name_differ_from ms (rest (name_of m) distinct)) where
  apart : (name : Option (List ℕ)) → AreMidsDistinct (cons_option name (section_mids ms)) → All (OtherName name) ms
  apart None told = λ k d lt. tt
  apart (Some n) told = named_from (λ (k : List ℕ). k ≢ n) ms (offer_name_head_apart n (section_mids ms) told)

  rest : (name : Option (List ℕ)) → AreMidsDistinct (cons_option name (section_mids ms)) → AreMidsDistinct (section_mids ms)
  rest None told = told
  rest (Some n) told = rest_names_distinct n (section_mids ms) told

name_distinct_from : (ms : List MediaLine) → NamesDiffer ms → AreMidsDistinct (section_mids ms)
name_distinct_from [] differ = λ i j d lt within. absurd (omega arith)
name_distinct_from (m ∷ ms) differ = go (name_of m) differ.0 (name_distinct_from ms differ.1) where
  go : (name : Option (List ℕ)) → All (OtherName name) ms → AreMidsDistinct (section_mids ms)
      → AreMidsDistinct (cons_option name (section_mids ms))
  go None apart rec = rec
  go (Some n) apart rec =
      AllPairs-cons (λ (a b : List ℕ). a ≢ b) n (section_mids ms)
      (All-weaker (λ (k : List ℕ). k ≢ n) (λ (k : List ℕ). n ≢ k) (λ k other e. other (sym e)) (section_mids ms)
      (from_named (λ (k : List ℕ). k ≢ n) ms apart))
      rec

-- ---- places

other_name_next : (name : Option (List ℕ)) (old : Exchange) (ready : List SectionDirection) (theirs : Option MediaLine) (mine : MediaLine)
    → OtherName name mine → OtherName name (next_section old ready theirs mine)
other_name_next name old ready theirs mine apart =
    subst (λ (found : Option (List ℕ)). IfSome name (λ n. IfSome found (λ k. k ≢ n))) (sym (next_offer_shape old ready theirs mine).name)
    apart

other_name_over : (name : Option (List ℕ)) (mine : MediaLine) → OtherName name mine → OtherName name (rejecting mine)
other_name_over name mine apart = subst (λ (found : Option (List ℕ)). IfSome name (λ n. IfSome found (λ k. k ≢ n)))
    (sym (rejecting_shape mine).name) apart

other_names_hold : (name : Option (List ℕ)) (old : Exchange) (ready : List SectionDirection) (at : ℕ)
    (ms added filled left : List MediaLine)
    → All (OtherName name) ms → All (OtherName name) added → FillsPlaces old ready at ms added filled left
    → All (OtherName name) (filled ++ left)
other_names_hold name old ready at ms added filled left there apart fills =
    places_hold (OtherName name) (OtherName name) old ready (other_name_next name old ready) (other_name_over name) at ms added filled left
    there
    apart fills

-- each of what is added has another name than each earlier section
abbrev AreNamedApart : List MediaLine → List MediaLine → Type 0
AreNamedApart added ms = All (λ a. All (OtherName (name_of a)) ms) added

-- none of what is added has the name of the first
none_named_first : (m : MediaLine) (ms added : List MediaLine) → AreNamedApart added (m ∷ ms) → All (OtherName (name_of m)) added
none_named_first m ms added apart =
    All-weaker (λ (a : MediaLine). All (OtherName (name_of a)) (m ∷ ms)) (OtherName (name_of m))
    (λ a others. name_differ_flipped (name_of a) (name_of m) (All-head (OtherName (name_of a)) m ms others)) added apart

named_apart_from_rest : (m : MediaLine) (ms added : List MediaLine) → AreNamedApart added (m ∷ ms) → AreNamedApart added ms
named_apart_from_rest m ms added apart =
    All-weaker (λ (a : MediaLine). All (OtherName (name_of a)) (m ∷ ms)) (λ (a : MediaLine). All (OtherName (name_of a)) ms)
    (λ a others. All-tail (OtherName (name_of a)) m ms others) added apart

record NameGoesApart (ms : List MediaLine) (said : MediaLine) (between : List MediaLine) : Type 0 where
  earlier : All (OtherName (name_of said)) ms
  later : All (OtherName (name_of said)) between
  differ : NamesDiffer between
  apart : AreNamedApart between ms

as_named : (ms added : List MediaLine) (m said : MediaLine) (between : List MediaLine) → name_of said ≡ name_of m → between ≡ added
    → NamesDiffer (m ∷ ms) → NamesDiffer added → AreNamedApart added (m ∷ ms) → NameGoesApart ms said between
as_named ms added m said between name same earlier differ apart = record {
  earlier = subst (λ (found : Option (List ℕ)). All (OtherName found) ms) (sym name) earlier.0;
  later = subst (λ (found : Option (List ℕ)). All (OtherName found) between) (sym name)
      (subst (All (OtherName (name_of m))) (sym same) (none_named_first m ms added apart));
  differ = subst NamesDiffer (sym same) differ;
  apart = subst (λ (more : List MediaLine). AreNamedApart more ms) (sym same) (named_apart_from_rest m ms added apart);
}

name_goes_apart : (old : Exchange) (ready : List SectionDirection) (at : ℕ) (m : MediaLine) (ms added : List MediaLine) (said : MediaLine)
    (between : List MediaLine)
    → NamesDiffer (m ∷ ms) → NamesDiffer added → AreNamedApart added (m ∷ ms) → FillsPlace old ready at m added said between
    → NameGoesApart ms said between
name_goes_apart old ready at m ms added said between earlier differ apart (inl (runs, is, same)) =
    as_named ms added m said between (ap name_of is ∙ (next_offer_shape old ready (their_section_at old.remote at) m).name) same earlier
    differ
    apart
name_goes_apart old ready at m ms [] said between earlier differ apart (inr (over, is, same)) =
    as_named ms [] m said between (ap name_of is ∙ (rejecting_shape m).name) same earlier differ apart
name_goes_apart old ready at m ms (x ∷ xs) said between earlier differ apart (inr (over, is, same)) =
    let rest : AreNamedApart (x ∷ xs) ms = named_apart_from_rest m ms (x ∷ xs) apart in
    record {
      earlier = subst (λ (section : MediaLine). All (OtherName (name_of section)) ms) (sym is)
          (All-head (λ (a : MediaLine). All (OtherName (name_of a)) ms) x xs rest);
      later = subst (λ (section : MediaLine). All (OtherName (name_of section)) between) (sym is)
          (subst (All (OtherName (name_of x))) (sym same) differ.0);
      differ = subst NamesDiffer (sym same) differ.1;
      apart = subst (λ (more : List MediaLine). AreNamedApart more ms) (sym same)
          (All-tail (λ (a : MediaLine). All (OtherName (name_of a)) ms) x xs rest);
    }

offer_places_differ : (old : Exchange) (ready : List SectionDirection) (at : ℕ) (ms added filled left : List MediaLine)
    → NamesDiffer ms → NamesDiffer added → AreNamedApart added ms → FillsPlaces old ready at ms added filled left
    → NamesDiffer (filled ++ left)
offer_places_differ old ready at [] added [] left earlier differ apart fills = subst NamesDiffer (sym fills) differ
offer_places_differ old ready at [] added (x ∷ filled) left earlier differ apart fills = absurd fills
offer_places_differ old ready at (m ∷ ms) added [] left earlier differ apart fills = absurd fills
offer_places_differ old ready at (m ∷ ms) added (x ∷ filled) left earlier differ apart fills =
    let it : NameGoesApart ms x fills.0 = name_goes_apart old ready at m ms added x fills.0 earlier differ apart fills.1 in (
      other_names_hold (name_of x) old ready (at + 1) ms fills.0 filled left it.earlier it.later fills.2,
      offer_places_differ old ready (at + 1) ms fills.0 filled left earlier.1 it.differ it.apart fills.2,
    )

-- ---- what is added

name_weaker : (P : List ℕ → Type 0) (name : Option (List ℕ)) → MatchOption name ⊥ P → IfSome name P
name_weaker P None it = tt
name_weaker P (Some n) it = it

name_added_differ : (old : Exchange) (ready : List SectionDirection) (extensions : List MediaAttribute) (names : List (List ℕ))
    (what : List Added) → AreMidsDistinct names
    → NamesDiffer (map (new_section old ready extensions) (offer_placed_under names what))
name_added_differ old ready extensions [] what distinct = tt
name_added_differ old ready extensions (name ∷ names) [] distinct = tt
name_added_differ old ready extensions (name ∷ names) (it ∷ more) distinct = (
  subst (λ (found : Option (List ℕ)). All (OtherName found) (map (new_section old ready extensions) (offer_placed_under names more)))
      (sym (new_section_name old ready extensions (record { mid = name; added = it })))
      (All-weaker (λ (m : MediaLine). MatchOption (name_of m) ⊥ (λ k. k ≢ name)) (OtherName (Some name))
      (λ m. name_weaker (λ (k : List ℕ). k ≢ name) (name_of m))
      (map (new_section old ready extensions) (offer_placed_under names more))
      (offer_all_named (λ (k : List ℕ). k ≢ name) old ready extensions names more (offer_name_head_apart name names distinct))),
  name_added_differ old ready extensions names more (rest_names_distinct name names distinct),
)

-- a new name is no earlier one
offer_unlisted_apart : (xs ys : List (List ℕ)) (name : List ℕ) → is_group_listed (xs ++ ys) (Some name) ≡ false → All (λ k. k ≢ name) xs
offer_unlisted_apart [] ys name none = All-nil (λ (k : List ℕ). k ≢ name)
offer_unlisted_apart (x ∷ xs) ys name none =
    let parts = or_parts (bytes_eq x name) (is_group_listed (xs ++ ys) (Some name)) none in
    All-cons (λ (k : List ℕ). k ≢ name) x xs
    (λ e. true≢false (sym ((bytes_eq-Decides x name).1 e) ∙ parts.0))
    (offer_unlisted_apart xs ys name parts.1)

name_new_apart : (old : Exchange) (name : List ℕ) → IsNewOfferName old name → All (λ k. k ≢ name) (section_mids (sections_of old.local))
name_new_apart old name new = offer_unlisted_apart (section_mids (sections_of old.local)) old.names name new

name_added_apart : (old : Exchange) (ready : List SectionDirection) (extensions : List MediaAttribute) (names : List (List ℕ))
    (what : List Added) → All (IsNewOfferName old) names
    → AreNamedApart (map (new_section old ready extensions) (offer_placed_under names what)) (sections_of old.local)
name_added_apart old ready extensions names what new =
    All-weaker (λ (m : MediaLine). MatchOption (name_of m) ⊥ (IsNewOfferName old))
    (λ (m : MediaLine). All (OtherName (name_of m)) (sections_of old.local))
    (λ m. apart_so (name_of m)) (map (new_section old ready extensions) (offer_placed_under names what))
    (offer_all_named (IsNewOfferName old) old ready extensions names what new) where
      apart_so : (name : Option (List ℕ)) → MatchOption name ⊥ (IsNewOfferName old) → All (OtherName name) (sections_of old.local)
      apart_so None it = absurd it
      apart_so (Some n) it = named_from (λ (k : List ℕ). k ≢ n) (sections_of old.local) (name_new_apart old n it)

pub offer_names : (old : Exchange) (names : List (List ℕ)) (offer : Sdp) → All (IsNewOfferName old) names → AreMidsDistinct names
    → MakesOffer old names offer
    → AreMidsDistinct (section_mids (sections_of old.local)) → AreMidsDistinct (section_mids offer.media_lines)
offer_names old names offer new distinct makes earlier =
    let ready : List SectionDirection = offer_ready_with old names in
    subst (λ (sections : List MediaLine). AreMidsDistinct (section_mids sections)) (sym makes.sections.all)
    (name_distinct_from (makes.sections.filled ++ makes.sections.left)
    (offer_places_differ old ready 0 (sections_of old.local) (sections_added old names) makes.sections.filled makes.sections.left
    (name_differ_from (sections_of old.local) earlier) (name_added_differ old ready _ names old.added distinct)
    (name_added_apart old ready _ names old.added new) makes.sections.fills))
