-- States of an exchange one after another.
use Rattle.exchange.proofs.Common.{arith, ◌≡◌, ◌≢◌, ◌||◌, ◌++◌, ◌⊎◌, ℕ, Bool, true, false, cond, List, [], ◌∷◌, length, Option, Some, None}
use Rattle.exchange.proofs.Common.{All, IfSome, IsSomeAnd, MatchOption, filter_map, inl, inr, refl, subst, sym, ap, ◌∙◌, true≢false}
use Rattle.exchange.proofs.Common.{All-cons, All-nil, All-weaker, list_any-append, same_Some, AllZip-long, AllZip-right, AllZip}
use Rattle.exchange.proofs.Common.{cons_option, slice_get, locked-stays-same, locked-stays-then, row_before, CodecConfig, PayloadParams}
use Rattle.exchange.proofs.Common.{LockedStay}
use Rattle.exchange.proofs.Common.{StaysLocked, MediaLine, Sdp, AreMidsDistinct, is_group_listed, section_mids, pair_key_bytes_itself}
use Rattle.exchange.specs.declared.offer.pending.Pending.{Pending}
use Rattle.exchange.specs.declared.state.exchange.Exchange.{Exchange}
use Rattle.exchange.specs.declared.state.signaling_state.SignalingState.TheVariants.{Stable}
use Rattle.exchange.specs.offer.Names.{grown_names, new_name}
use Rattle.exchange.specs.offer.Rules.{HasOfferedShape}
use Rattle.exchange.specs.section.Places.{FollowsPlaces, HasPlaceNameAt, IsNewPlaceName, StaysInPlace, StaysInPlaces}
use Rattle.exchange.specs.section.Stopped.{name_of}
use Rattle.exchange.specs.state.ExchangeFollows.{Follows, ExchangeNamesGrow, IsExchangeNameKnown, IsExchangePlacedSo, IsExchangeSound}
use Rattle.exchange.specs.state.State.{sections_of, state_by}

-- ---- names

-- a name that isn't among more isn't among fewer
follows_unlisted : (b c : Bool) → (b ≡ true → c ≡ true) → c ≡ false → b ≡ false
follows_unlisted false c imp e = refl
follows_unlisted true c imp e = absurd (true≢false (sym (imp refl) ∙ e))

follows_still_new : (before after : List (List ℕ)) (m : MediaLine) → ExchangeNamesGrow before after → IsNewPlaceName after m
    → IsNewPlaceName before m
follows_still_new before after m grows new = follows_unlisted (is_group_listed before (name_of m)) (is_group_listed after (name_of m))
    (grows (name_of m)) new

pub follows_listed_more : (xs ys : List (List ℕ)) (name : Option (List ℕ))
    → is_group_listed (xs ++ ys) name ≡ (is_group_listed xs name || is_group_listed ys name)
follows_listed_more xs ys None = refl
follows_listed_more xs ys (Some mid) = list_any-append _ xs ys

follows_either_true : (b c : Bool) → b ≡ true → (b || c) ≡ true
follows_either_true b c e = ap (λ (x : Bool). x || c) e

pub follows_grows_so : (names : List (List ℕ)) (sections : List MediaLine) → ExchangeNamesGrow names (grown_names names sections)
follows_grows_so names sections name there = follows_listed_more names (filter_map (new_name names) sections) name
    ∙ follows_either_true _ _ there

-- ---- places

-- a section of the name of another stands where that one may
follows_place_renamed : (names : List (List ℕ)) (xs : List MediaLine) (at : ℕ) (m e : MediaLine) → name_of m ≡ name_of e
    → HasPlaceNameAt xs at e ⊎ IsNewPlaceName names e → HasPlaceNameAt xs at m ⊎ IsNewPlaceName names m
follows_place_renamed names xs at m e same stands = elim stands [
  | inl has ↦ inl (subst (λ (name : Option (List ℕ)). IsSomeAnd (slice_get xs at) (λ earlier. name ≡ name_of earlier)) (sym same) has)
  | inr new ↦ inr (subst (λ (name : Option (List ℕ)). is_group_listed names name ≡ false) (sym same) new)
]

place_follows_through : (names : List (List ℕ)) (xs : List MediaLine) (at : ℕ) (m : MediaLine) (o : Option MediaLine)
    → ((e : MediaLine) → o ≡ Some e → HasPlaceNameAt xs at e ⊎ IsNewPlaceName names e) → IsSomeAnd o (λ e. name_of m ≡ name_of e)
    → HasPlaceNameAt xs at m ⊎ IsNewPlaceName names m
place_follows_through names xs at m None each same = absurd same
place_follows_through names xs at m (Some e) each same = follows_place_renamed names xs at m e same (each e refl)

exchange_places_same : (names : List (List ℕ)) (sections : List MediaLine) → FollowsPlaces names sections sections
exchange_places_same names sections = record {
  as_many = omega arith;
  each = λ at m there. inl (subst (λ (o : Option MediaLine). IsSomeAnd o (λ earlier. name_of m ≡ name_of earlier)) (sym there) refl);
}

exchange_places_then : (names more : List (List ℕ)) (xs ys zs : List MediaLine) → ExchangeNamesGrow names more → FollowsPlaces names xs ys
    → FollowsPlaces more ys zs → FollowsPlaces names xs zs
exchange_places_then names more xs ys zs grows first second = record {
  as_many = omega (arith, first.as_many, second.as_many);
  each = λ at m there. elim (second.each at m there) [
    | inl same ↦ place_follows_through names xs at m (slice_get ys at) (λ e is. first.each at e is) same
    | inr new ↦ inr (follows_still_new names more m grows new)
  ];
}

-- ---- rows

rows_then : (xs ys zs : List PayloadParams) → length zs ≡ length ys → LockedStay xs ys → LockedStay ys zs → LockedStay xs zs
rows_then xs ys zs as_many first second i old new at_old at_new =
    let mid = row_before ys zs i new as_many at_new in
    locked-stays-then old mid.0 new (first i old mid.0 at_old mid.1) (second i mid.0 new mid.1 at_new)

exchange_locked_stay_same : (rows : List PayloadParams) → LockedStay rows rows
exchange_locked_stay_same rows i old new at_old at_new = subst (λ (row : PayloadParams). old.locked ≡ true → StaysLocked old row)
    (same_Some old new (sym at_old ∙ at_new)) (locked-stays-same old)

-- ---- states

pub follows_self : (exchange : Exchange) → Follows exchange exchange
follows_self exchange = record {
  names = λ name there. there;
  places = exchange_places_same exchange.names (sections_of exchange.local);
  rows = refl;
  stay = exchange_locked_stay_same exchange.config.params.items;
}

pub follows_then : (first second third : Exchange) → Follows first second → Follows second third → Follows first third
follows_then first second third early late = record {
  names = λ name there. late.names name (early.names name there);
  places = exchange_places_then first.names second.names (sections_of first.local) (sections_of second.local) (sections_of third.local)
      early.names
      early.places late.places;
  rows = late.rows ∙ early.rows;
  stay = rows_then first.config.params.items second.config.params.items third.config.params.items late.rows early.stay late.stay;
}

-- where names, description and rows are left as they are
pub follows_same : (before after : Exchange) → after.names ≡ before.names → after.local ≡ before.local → after.config ≡ before.config
    → Follows before after
follows_same before after names local config =
    record {
      names = λ name there. subst (λ (ns : List (List ℕ)). is_group_listed ns name ≡ true) (sym names) there;
      places = subst (λ (sdp : Option Sdp). FollowsPlaces before.names (sections_of before.local) (sections_of sdp)) (sym local)
          (exchange_places_same before.names (sections_of before.local));
      rows = ap (λ (c : CodecConfig). length c.params.items) config;
      stay = subst (λ (c : CodecConfig). LockedStay before.config.params.items c.params.items) (sym config)
          (exchange_locked_stay_same before.config.params.items);
    }

-- ---- what an exchange leaves

follows_shaped : (names : List (List ℕ)) (local : List MediaLine) (remote : Option Sdp) (at : ℕ) (m : MediaLine) (o : Option MediaLine)
    → ((e : MediaLine) → o ≡ Some e → StaysInPlace names local remote at e) → IsSomeAnd o (λ e. HasOfferedShape e m)
    → HasPlaceNameAt local at m ⊎ IsNewPlaceName names m
follows_shaped names local remote at m None each shape = absurd shape
follows_shaped names local remote at m (Some e) each shape = follows_place_renamed names local at m e shape.name (elim (each e refl) [
  | inl has ↦ inl has
  | inr free ↦ inr free.1
])

exchange_matched_some : (o : Option MediaLine) (m : MediaLine) (P : MediaLine → Type 0) → o ≡ Some m → MatchOption o (Unit {0}) P → P m
exchange_matched_some o m P is h = subst (λ (x : Option MediaLine). MatchOption x (Unit {0}) P) is h

-- an answer of the shape of an offer that keeps its places
pub answer_follows : (names : List (List ℕ)) (local : List MediaLine) (remote : Option Sdp) (offer answer : Sdp)
    → StaysInPlaces names local remote offer
    → AllZip HasOfferedShape offer.media_lines answer.media_lines → FollowsPlaces names local answer.media_lines
answer_follows names local remote offer answer kept shape = record {
  as_many = omega (arith, kept.as_many, AllZip-long HasOfferedShape offer.media_lines answer.media_lines shape);
  each = λ at m there. follows_shaped names local remote at m (slice_get offer.media_lines at) (λ e is. kept.each at e is)
      (exchange_matched_some (slice_get answer.media_lines at) m
      (λ y. IsSomeAnd (slice_get offer.media_lines at) (λ x. HasOfferedShape x y))
      there
      (AllZip-right HasOfferedShape offer.media_lines answer.media_lines shape at));
}

-- ---- names that are known

follows_or_when_true : (b c : Bool) → c ≡ true → (b || c) ≡ true
follows_or_when_true true c e = refl
follows_or_when_true false c e = e

follows_first_known : (names rest : List (List ℕ)) (o : Option (List ℕ)) (b : Bool) → is_group_listed names o ≡ b → o ≢ None
    → (b || is_group_listed (cons_option (cond b None o) rest) o) ≡ true
follows_first_known names rest None b is some = absurd (some refl)
follows_first_known names rest (Some mid) true is some = refl
follows_first_known names rest (Some mid) false is some = follows_either_true _ _ (pair_key_bytes_itself mid)

follows_later_known : (rest : List (List ℕ)) (o name : Option (List ℕ)) → is_group_listed rest name ≡ true
    → is_group_listed (cons_option o rest) name ≡ true
follows_later_known rest None name there = there
follows_later_known rest (Some mid) None there = there
follows_later_known rest (Some mid) (Some name) there = follows_or_when_true _ _ there

follows_either_later : (names rest : List (List ℕ)) (o name : Option (List ℕ))
    → (is_group_listed names name || is_group_listed rest name) ≡ true
    → (is_group_listed names name || is_group_listed (cons_option o rest) name) ≡ true
follows_either_later names rest o name = go (is_group_listed names name) where
  go : (b : Bool) → (b || is_group_listed rest name) ≡ true → (b || is_group_listed (cons_option o rest) name) ≡ true
  go true e = refl
  go false e = follows_later_known rest o name e

abbrev IsExchangeNameAmong : List (List ℕ) → List (List ℕ) → MediaLine → Type 0
IsExchangeNameAmong names news m = name_of m ≢ None → (is_group_listed names (name_of m) || is_group_listed news (name_of m)) ≡ true

follows_all_among : (names : List (List ℕ)) (sections : List MediaLine)
    → All (IsExchangeNameAmong names (filter_map (new_name names) sections)) sections
follows_all_among names [] = All-nil (IsExchangeNameAmong names [])
follows_all_among names (m ∷ ms) =
    let rest = filter_map (new_name names) ms in
    All-cons (IsExchangeNameAmong names (cons_option (new_name names m) rest)) m ms
    (λ some. follows_first_known names rest (name_of m) (is_group_listed names (name_of m)) refl some)
    (All-weaker (IsExchangeNameAmong names rest) (IsExchangeNameAmong names (cons_option (new_name names m) rest))
    (λ later known some. follows_either_later names rest (new_name names m) (name_of later) (known some)) ms (follows_all_among names ms))

pub follows_known_all : (names : List (List ℕ)) (sections : List MediaLine)
    → All (IsExchangeNameKnown (grown_names names sections)) sections
follows_known_all names sections =
    All-weaker (IsExchangeNameAmong names (filter_map (new_name names) sections)) (IsExchangeNameKnown (grown_names names sections))
    (λ m among some. follows_listed_more names (filter_map (new_name names) sections) (name_of m) ∙ among some) sections
    (follows_all_among names sections)

-- ---- exchanges that are done

-- where the answer to the open offer is taken
pub follows_done : (before after : Exchange) (pending : Pending) → IsExchangeSound before → before.pending ≡ Some pending
    → after.local ≡ Some pending.sdp
    → after.names ≡ grown_names before.names pending.sdp.media_lines → length after.config.params.items ≡ length before.config.params.items
    → LockedStay before.config.params.items after.config.params.items → Follows before after
follows_done before after pending sound is local names rows stay = record {
  names = subst (ExchangeNamesGrow before.names) (sym names) (follows_grows_so before.names pending.sdp.media_lines);
  places = subst (λ (sdp : Option Sdp). FollowsPlaces before.names (sections_of before.local) (sections_of sdp)) (sym local)
      (subst (λ (offer : Option Pending). IfSome offer (IsExchangePlacedSo before)) is sound.placed).0;
  rows = rows;
  stay = stay;
}

-- where an offer of the other side is answered
pub follows_answer : (before after : Exchange) (offer answer : Sdp)
    → StaysInPlaces before.names (sections_of before.local) before.remote offer
    → AllZip HasOfferedShape offer.media_lines answer.media_lines → after.local ≡ Some answer
    → after.names ≡ grown_names before.names answer.media_lines
    → length after.config.params.items ≡ length before.config.params.items → LockedStay before.config.params.items after.config.params.items
    → Follows before after
follows_answer before after offer answer kept shape local names rows stay = record {
  names = subst (ExchangeNamesGrow before.names) (sym names) (follows_grows_so before.names answer.media_lines);
  places = subst (λ (sdp : Option Sdp). FollowsPlaces before.names (sections_of before.local) (sections_of sdp)) (sym local)
      (answer_follows before.names (sections_of before.local) before.remote offer answer kept shape);
  rows = rows;
  stay = stay;
}

-- in the stable state no offer is open
pub follows_none_open : (open_so : Option Pending) → state_by open_so ≡ Stable → open_so ≡ None
follows_none_open None stable = refl
follows_none_open (Some pending) stable = cc

-- nothing was said yet
pub exchange_sound_new : (exchange : Exchange) → exchange.local ≡ None → exchange.pending ≡ None → IsExchangeSound exchange
exchange_sound_new exchange local none = record {
  own_names = subst (λ (o : Option Sdp). AreMidsDistinct (section_mids (sections_of o))) (sym local)
      (λ i j d lt within. absurd (omega arith));
  known = subst (λ (o : Option Sdp). All (IsExchangeNameKnown exchange.names) (sections_of o)) (sym local)
      (All-nil (IsExchangeNameKnown exchange.names));
  placed = subst (λ (o : Option Pending). IfSome o (IsExchangePlacedSo exchange)) (sym none) tt;
}

-- no two sections of an open offer have one name
pub follows_open_names : (exchange : Exchange) (pending : Pending) → IsExchangeSound exchange → exchange.pending ≡ Some pending
    → AreMidsDistinct (section_mids pending.sdp.media_lines)
follows_open_names exchange pending sound
    is = (subst (λ (offer : Option Pending). IfSome offer (IsExchangePlacedSo exchange)) is sound.placed).1

-- an exchange that is done leaves no open offer, and knows its names
pub exchange_sound_done : (after : Exchange) (names : List (List ℕ)) (sdp : Sdp) → AreMidsDistinct (section_mids sdp.media_lines)
    → after.local ≡ Some sdp
    → after.names ≡ grown_names names sdp.media_lines → after.pending ≡ None → IsExchangeSound after
exchange_sound_done after names sdp differ local named none = record {
  own_names = subst (λ (o : Option Sdp). AreMidsDistinct (section_mids (sections_of o))) (sym local) differ;
  known = subst (λ (o : Option Sdp). All (IsExchangeNameKnown after.names) (sections_of o)) (sym local)
      (subst (λ (ns : List (List ℕ)). All (IsExchangeNameKnown ns) sdp.media_lines) (sym named) (follows_known_all names sdp.media_lines));
  placed = subst (λ (o : Option Pending). IfSome o (IsExchangePlacedSo after)) (sym none) tt;
}
