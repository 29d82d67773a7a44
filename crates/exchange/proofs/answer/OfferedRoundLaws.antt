-- The rounds of sections, one after another.
use Rattle.exchange.proofs.Common.{arith, ◌≡◌, ◌<◌, ◌+◌, ◌++◌, ℕ, List, [], ◌∷◌, length, drop, take, get_or, inl, inr, refl, subst, sym, ap}
use Rattle.exchange.proofs.Common.{◌∙◌, All, drop-cons, take_at_read, All-cons, All-head, All-nil, All-tail, Round, MediaLine, Sdp}
use Rattle.exchange.proofs.Common.{HasBoundedRows, rows}
use Rattle.exchange.specs.answer.Offered.{AreOfferRounds, BringsRound, IsRoundOf}
use Rattle.str0m_formats.specs.row.PlainRowBounds.{IsBounded}

-- a section after the others that brings none
one_without_round : (offer : Sdp) (ms : List MediaLine) (m : MediaLine) (rounds : List Round) → (BringsRound offer m → ⊥)
    → AreOfferRounds offer ms rounds → AreOfferRounds offer (ms ++ m ∷ []) rounds
one_without_round offer [] m rounds none are = inl (none, are)
one_without_round offer (x ∷ xs) m rounds none are = elim are [
  | inl p ↦ inl (p.0, one_without_round offer xs m rounds none p.1)
  | inr q ↦ inr (q.0, q.1, q.2, q.3, q.4, one_without_round offer xs m q.2 none q.5)
]

-- a section after the others that brings one
rounds_behind_one : (offer : Sdp) (ms : List MediaLine) (m : MediaLine) (rounds : List Round) (round : Round) → BringsRound offer m
    → IsRoundOf m round
    → AreOfferRounds offer ms rounds → AreOfferRounds offer (ms ++ m ∷ []) (rounds ++ round ∷ [])
rounds_behind_one offer [] m rounds round brings is are = inr (brings, round, [], ap (λ (rs : List Round). rs ++ round ∷ []) are, is, refl)
rounds_behind_one offer (x ∷ xs) m rounds round brings is are = elim are [
  | inl p ↦ inl (p.0, rounds_behind_one offer xs m rounds round brings is p.1)
  | inr q ↦ inr (
    q.0,
    q.1,
    q.2 ++ round ∷ [],
    ap (λ (rs : List Round). rs ++ round ∷ []) q.3,
    q.4,
    rounds_behind_one offer xs m q.2 round brings is q.5,
  )
]

take_section : (ms : List MediaLine) (i : ℕ) (m : MediaLine) → i < length ms → m ≡ get_or ms i m → take (i + 1) ms ≡ take i ms ++ m ∷ []
take_section ms i m lt at = (take_at_read ms i m lt).1 ∙ ap (λ (y : MediaLine). take i ms ++ y ∷ []) (sym at)

pub no_round_more : (offer : Sdp) (ms : List MediaLine) (i : ℕ) (m : MediaLine) (rounds : List Round) → i < length ms → m ≡ get_or ms i m
    → (BringsRound offer m → ⊥)
    → AreOfferRounds offer (take i ms) rounds → AreOfferRounds offer (take (i + 1) ms) rounds
no_round_more offer ms i m rounds lt at none are =
    subst (λ (some : List MediaLine). AreOfferRounds offer some rounds) (sym (take_section ms i m lt at))
    (one_without_round offer (take i ms) m rounds none are)

pub one_round_more : (offer : Sdp) (ms : List MediaLine) (i : ℕ) (m : MediaLine) (rounds : List Round) (round : Round) → i < length ms
    → m ≡ get_or ms i m
    → BringsRound offer m → IsRoundOf m round → AreOfferRounds offer (take i ms) rounds
    → AreOfferRounds offer (take (i + 1) ms) (rounds ++ round ∷ [])
one_round_more offer ms i m rounds round lt at brings is are =
    subst (λ (some : List MediaLine). AreOfferRounds offer some (rounds ++ round ∷ [])) (sym (take_section ms i m lt at))
    (rounds_behind_one offer (take i ms) m rounds round brings is are)

-- ---- the round that stands first

-- the sections from one on
pub drop_section : (ms : List MediaLine) (i : ℕ) (m : MediaLine) → i < length ms → m ≡ get_or ms i m → drop i ms ≡ m ∷ drop (i + 1) ms
drop_section ms i m lt at = grind (arith, drop-cons)

pub next_rows : (offer : Sdp) (m : MediaLine) (ms : List MediaLine) (rounds later : List Round) (round : Round) → rounds ≡ round ∷ later
    → AreOfferRounds offer (m ∷ ms) rounds → BringsRound offer m → round.remote.items ≡ rows m
next_rows offer m ms rounds later round at are brings = elim are [
  | inl p ↦ absurd (p.0 brings)
  | inr q ↦ let same : q.1 ≡ round = cc (q.3, at) in subst (λ (r : Round). r.remote.items ≡ rows m) same q.4.0
]

pub rounds_behind : (offer : Sdp) (m : MediaLine) (ms : List MediaLine) (rounds later : List Round) (round : Round) → rounds ≡ round ∷ later
    → BringsRound offer m → AreOfferRounds offer (m ∷ ms) rounds → AreOfferRounds offer ms later
rounds_behind offer m ms rounds later round at brings are = elim are [
  | inl p ↦ absurd (p.0 brings)
  | inr q ↦ let same : q.2 ≡ later = cc (q.3, at) in subst (AreOfferRounds offer ms) same q.5
]

-- a section that brings none leaves the rounds as they are
pub same_rounds : (offer : Sdp) (m : MediaLine) (ms : List MediaLine) (rounds : List Round) → (BringsRound offer m → ⊥)
    → AreOfferRounds offer (m ∷ ms) rounds → AreOfferRounds offer ms rounds
same_rounds offer m ms rounds none are = elim are [
  | inl p ↦ p.1
  | inr q ↦ absurd (none q.0)
]

-- where a section brings one, there is one
pub no_rounds_left : (offer : Sdp) (m : MediaLine) (ms : List MediaLine) (rounds : List Round) → rounds ≡ [] → BringsRound offer m
    → AreOfferRounds offer (m ∷ ms) rounds → ⊥
no_rounds_left offer m ms rounds at brings are = elim are [
  | inl p ↦ p.0 brings
  | inr q ↦ let e : q.1 ∷ q.2 ≡ [] = sym q.3 ∙ at in cc
]

-- rounds of sections whose rows keep to their ranges
abbrev pub IsBoundedRound : Round → Type 0
IsBoundedRound round = All IsBounded round.remote.items

pub offer_rounds_bounded : (offer : Sdp) (ms : List MediaLine) (rounds : List Round) → AreOfferRounds offer ms rounds
    → All HasBoundedRows ms
    → All (λ round. All IsBounded round.remote.items) rounds
offer_rounds_bounded offer [] rounds is all = subst (All IsBoundedRound) (sym is) (All-nil IsBoundedRound)
offer_rounds_bounded offer (m ∷ ms) rounds are all = elim are [
  | inl p ↦ offer_rounds_bounded offer ms rounds p.1 (All-tail HasBoundedRows m ms all)
  | inr q ↦ subst (All IsBoundedRound) (sym q.3) (All-cons IsBoundedRound q.1 q.2
      (subst (All IsBounded) (sym q.4.0) (All-head HasBoundedRows m ms all))
      (offer_rounds_bounded offer ms q.2 q.5 (All-tail HasBoundedRows m ms all)))
]
