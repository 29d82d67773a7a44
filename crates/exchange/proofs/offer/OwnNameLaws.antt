-- Sections one after another, each with a name of its own.
use Rattle.exchange.proofs.Common.{arith, ◌≡◌, ◌≢◌, ◌<◌, ◌≤◌, ◌+◌, ◌++◌, ◌||◌, ℕ, Bool, true, false, not, List, [], ◌∷◌, length, take}
use Rattle.exchange.proofs.Common.{get_or, Option, Some, None, bytes_eq, map, option_map, refl, subst, sym, ap, ◌∙◌, false≢true, length-map}
use Rattle.exchange.proofs.Common.{take_all, list_any_at, all_pairs_push, get_or_from_slice_get, slice_get-map, slice_get_within}
use Rattle.exchange.proofs.Common.{bytes_eq-Decides, BTreeSet, Updates, contains, Bor, slice_cmp, slice_get, nat_cmp}
use Rattle.exchange.proofs.Common.{claimed_slice_get_item}
use Rattle.exchange.proofs.Common.{filter_map_more, filter_map_same, mids_holds_before, MediaLine, HoldsMids, is_mid_held, AreMidsDistinct}
use Rattle.exchange.proofs.Common.{is_group_listed}
use Rattle.exchange.proofs.Common.{section_mid, section_mids}
use Rattle.exchange.proofs.state.ExchangeFollowLaws.{follows_listed_more}
use Rattle.exchange.specs.offer.OwnNames.{IsNamedAgain}
use Rattle.exchange.specs.section.Stopped.{name_of}

-- the names of the first so many sections are held, and no two are one
pub record AreOwn (sections : List MediaLine) (names : BTreeSet (Bor (List ℕ))) (at : ℕ) : Type 0 where
  pub held : HoldsMids names (section_mids (take at sections))
  pub differ : AreMidsDistinct (section_mids (take at sections))

-- ---- one name after others

own_name_turned_so : (b c : Bool) → (b || c) ≡ (c || (b || false))
own_name_turned_so true true = refl
own_name_turned_so true false = refl
own_name_turned_so false true = refl
own_name_turned_so false false = refl

own_name_listed_turned : (mid : List ℕ) (mids : List (List ℕ)) (name : Option (List ℕ))
    → is_group_listed (mid ∷ mids) name ≡ is_group_listed (mids ++ mid ∷ []) name
own_name_listed_turned mid mids None = refl
own_name_listed_turned mid mids (Some q) = own_name_turned_so (bytes_eq mid q) (is_group_listed mids (Some q))
    ∙ sym (follows_listed_more mids (mid ∷ []) (Some q))

own_name_differ_behind : (mid : List ℕ) (mids : List (List ℕ)) → is_group_listed mids (Some mid) ≡ false → AreMidsDistinct mids
    → AreMidsDistinct (mids ++ mid ∷ [])
own_name_differ_behind mid mids unlisted distinct =
    all_pairs_push (λ (a b : List ℕ). a ≢ b) mids mid distinct
    (λ k d lt same. false≢true (sym unlisted ∙ list_any_at (λ other. bytes_eq other mid) mids k d lt
    ((bytes_eq-Decides (get_or mids k d) mid).1 same)))

-- ---- the section that a name is of

record StandsUnderOwnName (sections : List MediaLine) (at : ℕ) (name : Option (List ℕ)) : Type 0 where
  section : MediaLine
  stands : slice_get sections at ≡ Some section
  named_so : name_of section ≡ name

own_name_stands_under : (sections : List MediaLine) (at : ℕ) (name : Option (List ℕ)) (o : Option MediaLine) → slice_get sections at ≡ o
    → option_map name_of o ≡ Some name
    → StandsUnderOwnName sections at name
own_name_stands_under sections at name None is mapped = cc
own_name_stands_under sections at name (Some m) is mapped = record { section = m; stands = is; named_so = cc }

own_name_stands_at : (sections : List MediaLine) (names : List (Option (List ℕ))) (at : ℕ) (name : Option (List ℕ))
    → names ≡ map name_of sections
    → at < length names → name ≡ get_or names at name → StandsUnderOwnName sections at name
own_name_stands_at sections names at name are lt is =
    own_name_stands_under sections at name (slice_get sections at) refl
    (sym (slice_get-map name_of sections at) ∙ ap (λ (all : List (Option (List ℕ))). slice_get all at) (sym are)
    ∙ claimed_slice_get_item names at name lt is)

-- ---- steps

own_name_was_listed : (added there b : Bool) → added ≡ not there → added ≡ b → there ≡ not b
own_name_was_listed added there b is test = grind arith

pub no_names_yet : (sections : List MediaLine) (names : BTreeSet (Bor (List ℕ))) → HoldsMids names [] → AreOwn sections names 0
no_names_yet sections names held = record { held = held; differ = λ i j d lt within. absurd (omega arith) }

-- a section without a name
pub own_same : (sections : List MediaLine) (names : List (Option (List ℕ))) (before : BTreeSet (Bor (List ℕ))) (at : ℕ)
    (name : Option (List ℕ)) → names ≡ map name_of sections
    → at < length names → name ≡ get_or names at name → name ≡ None → AreOwn sections before at → AreOwn sections before (at + 1)
own_same sections names before at name are lt is none own =
    let it : StandsUnderOwnName sections at name = own_name_stands_at sections names at name are lt is in
    let same : section_mids (take (at + 1) sections) ≡ section_mids (take at sections) =
    filter_map_same section_mid sections at it.section (slice_get_within sections at it.section it.stands)
    (sym (get_or_from_slice_get sections at it.section it.section it.stands)) (sym (it.named_so ∙ none)) in
    record {
      held = subst (HoldsMids before) (sym same) own.held;
      differ = subst AreMidsDistinct (sym same) own.differ;
    }

-- one of a new name
pub own_more : (sections : List MediaLine) (names : List (Option (List ℕ))) (before after : BTreeSet (Bor (List ℕ))) (at : ℕ)
    (name : Option (List ℕ)) (text : Bor (List ℕ)) (mid : List ℕ) (added : Bool)
    → names ≡ map name_of sections → at < length names → name ≡ get_or names at name → name ≡ Some mid → text.now ≡ mid
    → Updates (λ x y. slice_cmp nat_cmp x.now y.now) before after text true
    → added ≡ not (contains (λ x y. slice_cmp nat_cmp x.now y.now) before text) → added ≡ true
    → AreOwn sections before at → AreOwn sections after (at + 1)
own_more sections names before after at name text mid added are lt is some same updates told test own =
    let it : StandsUnderOwnName sections at name = own_name_stands_at sections names at name are lt is in
    let mids : List (List ℕ) = section_mids (take at sections) in
    let more : section_mids (take (at + 1) sections) ≡ mids ++ mid ∷ [] =
    filter_map_more section_mid sections at it.section mid (slice_get_within sections at it.section it.stands)
    (sym (get_or_from_slice_get sections at it.section it.section it.stands)) (sym (it.named_so ∙ some)) in
    let unlisted : is_group_listed mids (Some mid) ≡ false =
    ap (λ (word : List ℕ). is_group_listed mids (Some word)) (sym same) ∙ sym (own.held (Some text.now))
    ∙ own_name_was_listed added (is_mid_held before (Some text.now)) true told test in
    record {
      held = subst (HoldsMids after) (sym more) (λ other. mids_holds_before before after text mid mids same updates own.held other
          ∙ own_name_listed_turned mid mids other);
      differ = subst AreMidsDistinct (sym more) (own_name_differ_behind mid mids unlisted own.differ);
    }

-- one of a name that stood before
pub named_again : (sections : List MediaLine) (names : List (Option (List ℕ))) (before : BTreeSet (Bor (List ℕ))) (at : ℕ)
    (name : Option (List ℕ)) (text : Bor (List ℕ)) (mid : List ℕ) (added : Bool)
    → names ≡ map name_of sections → at < length names → name ≡ get_or names at name → name ≡ Some mid → text.now ≡ mid
    → added ≡ not (contains (λ x y. slice_cmp nat_cmp x.now y.now) before text) → added ≡ false → AreOwn sections before at
    → IsNamedAgain sections at
named_again sections names before at name text mid added are lt is some same told test own =
    let it : StandsUnderOwnName sections at name = own_name_stands_at sections names at name are lt is in
    let mids : List (List ℕ) = section_mids (take at sections) in
    record {
      m = it.section;
      stands = it.stands;
      again = ap (is_group_listed mids) (it.named_so ∙ some) ∙ ap (λ (word : List ℕ). is_group_listed mids (Some word)) (sym same)
          ∙ sym (own.held (Some text.now)) ∙ own_name_was_listed added (is_mid_held before (Some text.now)) false told test;
      differ = own.differ;
    }

-- all of them
pub all_own : (sections : List MediaLine) (names : List (Option (List ℕ))) (before : BTreeSet (Bor (List ℕ))) (at : ℕ)
    → names ≡ map name_of sections
    → length names ≤ at → AreOwn sections before at → AreMidsDistinct (section_mids sections)
all_own sections names before at are past own =
    let all : length sections ≤ at =
    omega (arith, past, ap (λ (all : List (Option (List ℕ))). length all) are, length-map sections name_of) in
    subst (λ (ms : List MediaLine). AreMidsDistinct (section_mids ms)) (take_all at sections all) own.differ
