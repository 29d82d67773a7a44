-- The first pass of a round: what one row changes, and the state between two rows.
use Rattle.str0m_formats.proofs.Common.{zero, suc, ◌≡◌, ℕ, ◌+◌, ◌<◌, ◌⊎◌, inl, Bool, true, false, not, ◌||◌, ◌&&◌, cond, if◌then◌else◌}
use Rattle.str0m_formats.proofs.Common.{find, nat_lt, List, [], ◌∷◌, ◌++◌, length, take, drop, get_or, Option, Some, None, Result, Ok, Err}
use Rattle.str0m_formats.proofs.Common.{IfSome, IfErr, refl, sym, ap, ◌∙◌, subst, arith, slice_get, find-append, append_assoc}
use Rattle.str0m_formats.proofs.Common.{take_more_set, drop-set-lt, length-set, length-take-le, length_push, drop_more_same, false≢true}
use Rattle.str0m_formats.proofs.Common.{set}
use Rattle.str0m_formats.proofs.round.RoundsPasses.{EachPassPlace, pass_at_split, pass_each_push, pass_get_from_rest}
use Rattle.str0m_formats.proofs.row.PayloadParamsSets.{row_types_has-append, either_set-covered, locked_types-push, locked_types-at}
use Rattle.str0m_formats.specs.codec.Codec.{codec_content}
use Rattle.str0m_formats.specs.declared.round.negotiation_error.NegotiationError.{NegotiationError}
use Rattle.str0m_formats.specs.declared.row.payload_params.PayloadParams.{PayloadParams}
use Rattle.str0m_formats.specs.round.Choices.{IsChoice, choice_points_for}
use Rattle.str0m_formats.specs.round.Claimed.{TypeSet, has, with_type, claimed_with_option, either_set}
use Rattle.str0m_formats.specs.round.Narrowing.{narrowed}
use Rattle.str0m_formats.specs.round.Rounds.{types_taken_by, placed, locked_to, then_in_round, role_type, rtx_type, red_type}
use Rattle.str0m_formats.specs.round.Rounds.{round_red_of_audio}
use Rattle.str0m_formats.specs.round.Rounds.{RowBecomes}
use Rattle.str0m_formats.specs.round.Rounds.{RoundBegun, RoundMayBegin, StopsFirstPass}
use Rattle.str0m_formats.specs.row.PayloadParams.{AllTypesSmall, types_of, types, locked_types, open_types}

-- ---- types of at most 127

pub first_pass_none-parts : (p : ℕ → Bool) (xs ys : List ℕ) → find p (xs ++ ys) ≡ None → (find p xs ≡ None) × (find p ys ≡ None)
first_pass_none-parts p xs ys h = grind (arith, find-append)

pub row_types_small_at : (rows : List PayloadParams) (i : ℕ) (row : PayloadParams) → AllTypesSmall (types rows)
    → slice_get rows i ≡ Some row
    → AllTypesSmall (types_of row)
row_types_small_at [] i row h e = absurd (cc)
row_types_small_at (r ∷ rows) zero row h e = grind arith
row_types_small_at (r ∷ rows) (suc i) row h e = row_types_small_at rows i row
    (first_pass_none-parts (nat_lt 127) (types_of r) (types rows) h).1 e

pub choice_types_small : (points : PayloadParams → Option ℕ) (remote : List PayloadParams) (choice : Option PayloadParams)
    → IsChoice points remote choice → AllTypesSmall (types remote) → IfSome choice (λ c. AllTypesSmall (types_of c))
choice_types_small points remote None h s = tt
choice_types_small points remote (Some c) h s = grind (
  arith,
  row_types_small_at remote (length h.before) c s,
  pass_at_split h.before c h.after,
)

-- ---- what becomes of one row

pub then_in_round-ok : {A B : Type 0} (r : Result A NegotiationError) (f : A → Result B NegotiationError) (y : B) → then_in_round r f ≡ Ok y
    → (x : A) × (r ≡ Ok x) × (f x ≡ Ok y)
then_in_round-ok r f y h = grind arith

pub same_row_Ok : {A : Type 0} (x y : A) → ◌≡◌ {A = Result A NegotiationError} (Ok x) (Ok y) → x ≡ y
same_row_Ok x y h = cc

pub first_pass_same_Err : {A : Type 0} (x y : NegotiationError) → ◌≡◌ {A = Result A NegotiationError} (Err x) (Err y) → x ≡ y
first_pass_same_Err x y h = cc

-- a locked row with a choice changes in its format alone; an open one is locked
pub placed-locked_row : (taken unlocked : TypeSet) (receives : Bool) (row choice : PayloadParams) → row.locked ≡ true
    → placed taken unlocked receives row (Some choice) ≡ Ok (record row { spec = narrowed row.spec choice.spec })
unfolding placed
placed-locked_row taken unlocked receives row choice l = rw l refl

pub placed-open_row : (taken unlocked : TypeSet) (receives : Bool) (row choice : PayloadParams) → row.locked ≡ false
    → placed taken unlocked receives row (Some choice) ≡ locked_to taken unlocked receives row choice
unfolding placed
placed-open_row taken unlocked receives row choice l = rw l refl

pub first_pass_placed-no_choice : (taken unlocked : TypeSet) (receives : Bool) (row new : PayloadParams)
    → placed taken unlocked receives row None ≡ Ok new → row ≡ new
unfolding placed
first_pass_placed-no_choice taken unlocked receives row new h = same_row_Ok row new h

-- the types of a row that is locked
pub record LockedParts (taken unlocked : TypeSet) (receives : Bool) (row choice new : PayloadParams) : Type 0 where
  pub pt : ℕ
  pub pt_is : role_type taken unlocked receives choice.pt (Some row.pt) ≡ Ok pt
  pub resend : Option ℕ
  pub resend_is : rtx_type (with_type taken pt) unlocked receives choice.resend row.resend ≡ Ok resend
  pub all : record row {
    pt = pt;
    resend = resend;
    red = round_red_of_audio (codec_content row.spec.codec)
        (red_type (claimed_with_option (with_type taken pt) resend) unlocked receives choice.red row.red);
    spec = narrowed row.spec choice.spec;
    fb_transport_cc = row.fb_transport_cc && choice.fb_transport_cc;
    locked = true;
  } ≡ new

pub locked_parts : (taken unlocked : TypeSet) (receives : Bool) (row choice new : PayloadParams)
    → locked_to taken unlocked receives row choice ≡ Ok new → LockedParts taken unlocked receives row choice new
unfolding locked_to
locked_parts taken unlocked receives row choice new h = grind (arith, then_in_round-ok, same_row_Ok)

pub locked_to-locks : (taken unlocked : TypeSet) (receives : Bool) (row choice new : PayloadParams)
    → locked_to taken unlocked receives row choice ≡ Ok new → new.locked ≡ true
locked_to-locks taken unlocked receives row choice new h = grind (arith, locked_parts taken unlocked receives row choice new h)

-- a locked row stays locked and keeps its types; an open row stays as it is, or is locked
pub placed-locked : (taken unlocked : TypeSet) (receives : Bool) (row new : PayloadParams) (choice : Option PayloadParams)
    → placed taken unlocked receives row choice ≡ Ok new → row.locked ≡ true → (new.locked ≡ true) × (types_of new ≡ types_of row)
placed-locked taken unlocked receives row new None h l = grind (arith, first_pass_placed-no_choice)
placed-locked taken unlocked receives row new (Some c) h l = grind (arith, same_row_Ok, placed-locked_row)

pub first_pass_placed-open : (taken unlocked : TypeSet) (receives : Bool) (row new : PayloadParams) (choice : Option PayloadParams)
    → placed taken unlocked receives row choice ≡ Ok new → row.locked ≡ false → (new ≡ row) ⊎ (new.locked ≡ true)
first_pass_placed-open taken unlocked receives row new None h l = inl (sym (first_pass_placed-no_choice taken unlocked receives row new h))
first_pass_placed-open taken unlocked receives row new (Some c) h l = grind (arith, locked_to-locks, placed-open_row)

-- what a row adds to the types that are taken
pub claimed-taken-push : (taken unlocked : TypeSet) (receives : Bool) (before done : List PayloadParams) (i : ℕ) (row new : PayloadParams)
    (choice : Option PayloadParams) → slice_get before i ≡ Some row → placed taken unlocked receives row choice ≡ Ok new
    → (if new.locked && not row.locked then either_set (types_taken_by before done) (has (types_of new)) else types_taken_by before done)
    ≡ types_taken_by before (done ++ new ∷ [])
claimed-taken-push taken unlocked receives before done i row new choice at_row h = go row.locked new.locked covered ∙ sym all where
  longer : locked_types before ++ locked_types (done ++ new ∷ []) ≡ (locked_types before ++ locked_types done)
      ++ cond new.locked (types_of new) []
  longer = ap (λ ts. locked_types before ++ ts) (locked_types-push done new)
      ∙ sym (append_assoc (locked_types before) (locked_types done) (cond new.locked (types_of new) []))

  all : types_taken_by before (done ++ new ∷ []) ≡ either_set (types_taken_by before done) (has (cond new.locked (types_of new) []))
  all = ap has longer ∙ row_types_has-append (locked_types before ++ locked_types done) (cond new.locked (types_of new) [])

  covered : row.locked ≡ true → either_set (types_taken_by before done) (has (types_of new)) ≡ types_taken_by before done
  covered l =
      either_set-covered (types_taken_by before done) (types_of new)
      (λ t ht. ap (λ f. f t) (row_types_has-append (locked_types before) (locked_types done))
      ∙ ap (λ x. x || has (locked_types done) t)
      (locked_types-at before i row t at_row l (ap (λ ts. has ts t) (sym (placed-locked taken unlocked receives row new choice h l).1)
      ∙ ht)))

  go : (b n : Bool) → (b ≡ true → either_set (types_taken_by before done) (has (types_of new)) ≡ types_taken_by before done)
      → (if n && not b then either_set (types_taken_by before done) (has (types_of new)) else types_taken_by before done)
      ≡ either_set (types_taken_by before done) (has (cond n (types_of new) []))
  go b false h = sym (either_set-covered (types_taken_by before done) [] (λ t f. absurd (false≢true f)))
  go false true h = refl
  go true true h = sym (h refl)

-- ---- between two rows

pub record FirstState (before remote : List PayloadParams) (receives : Bool) (rows : List PayloadParams) (i : ℕ)
    (claimed unlocked : TypeSet) : Type 0 where
  pub begun : RoundBegun before remote receives (take i rows)
  pub rest : drop i rows ≡ drop i before
  pub whole : length rows ≡ length before
  pub claimed_is : claimed ≡ types_taken_by before (take i rows)
  pub unlocked_is : unlocked ≡ has (open_types before)

-- the row that is next
pub next_row : (before remote : List PayloadParams) (receives : Bool) (rows : List PayloadParams) (i : ℕ) (claimed unlocked : TypeSet)
    (row : PayloadParams) → FirstState before remote receives rows i claimed unlocked → i < length rows → row ≡ get_or rows i row
    → slice_get before i ≡ Some row
next_row before remote receives rows i claimed unlocked row s h e = pass_get_from_rest rows before i row h s.rest ∙ ap (λ r. Some r) (sym e)

first_pass_becomes_now : (before remote : List PayloadParams) (receives : Bool) (rows : List PayloadParams) (i : ℕ)
    (claimed unlocked : TypeSet)
    (row : PayloadParams) (choice : Option PayloadParams) (outcome : Result PayloadParams NegotiationError)
    → FirstState before remote receives rows i claimed unlocked → IsChoice (choice_points_for claimed receives row) remote choice
    → placed claimed unlocked receives row choice ≡ outcome
    → RowBecomes (types_taken_by before (take i rows)) (has (open_types before)) remote receives row outcome
first_pass_becomes_now before remote receives rows i claimed unlocked row choice outcome s c p = grind arith

pub first_step : (before remote : List PayloadParams) (receives : Bool) (rows : List PayloadParams) (i : ℕ)
    (claimed unlocked claimed' unlocked' : TypeSet) (row new : PayloadParams) (choice : Option PayloadParams)
    → FirstState before remote receives rows i claimed unlocked → i < length rows → row ≡ get_or rows i row
    → IsChoice (choice_points_for claimed receives row) remote choice → placed claimed unlocked receives row choice ≡ Ok new
    → claimed' ≡ (if new.locked && not row.locked then either_set claimed (has (types_of new)) else claimed) → unlocked' ≡ unlocked
    → FirstState before remote receives (set rows i new) (i + 1) claimed' unlocked'
first_step before remote receives rows i claimed unlocked claimed' unlocked' row new choice s h e c p k u =
    let at_row = next_row before remote receives rows i claimed unlocked row s h e in
    let there : length (take i rows) ≡ i = length-take-le i rows (omega arith) in
    let front : take i rows ++ new ∷ [] ≡ take (i + 1) (set rows i new) = sym (take_more_set rows i new h) in
    let now = first_pass_becomes_now before remote receives rows i claimed unlocked row choice (Ok new) s c p in
    let Next : ℕ → Type 0 = λ n. slice_get before n ≡ Some row in
    let each = pass_each_push (λ d r n. RowBecomes (types_taken_by before d) (has (open_types before)) remote receives r (Ok n)) before
    (take i rows) row
    new s.begun.each (subst Next (sym there) at_row) now in
    let Front : List PayloadParams → Type 0 =
    λ d. EachPassPlace (λ d r n. RowBecomes (types_taken_by before d) (has (open_types before)) remote receives r (Ok n)) before d in
    record {
      begun = record {
        within = omega (arith, ap length front, length_push (take i rows) new, there, s.whole);
        each = subst Front front each;
      };
      rest = drop-set-lt (i + 1) rows i new (omega arith) ∙ drop_more_same rows before i s.rest;
      whole = length-set rows i new ∙ s.whole;
      claimed_is =
          k ∙ ap (λ t. cond (new.locked && not row.locked) (either_set t (has (types_of new))) t) s.claimed_is
          ∙ claimed-taken-push claimed unlocked receives before (take i rows) i row new choice at_row p ∙ ap (types_taken_by before) front;
      unlocked_is = u ∙ s.unlocked_is;
    }

-- where the next row can't be placed, the round stops there
pub first_stops : (before remote : List PayloadParams) (receives : Bool) (rows : List PayloadParams) (i : ℕ) (claimed unlocked : TypeSet)
    (row : PayloadParams) (choice : Option PayloadParams) (cause : NegotiationError)
    → RoundMayBegin before remote → FirstState before remote receives rows i claimed unlocked → i < length rows → row ≡ get_or rows i row
    → IsChoice (choice_points_for claimed receives row) remote choice → placed claimed unlocked receives row choice ≡ Err cause
    → StopsFirstPass before remote receives cause
first_stops before remote receives rows i claimed unlocked row choice cause may s h e c p =
    let there : length (take i rows) ≡ i = length-take-le i rows (omega arith) in
    let Next : ℕ → Type 0 = λ n. slice_get before n ≡ Some row in
    record {
      may = may;
      done = take i rows;
      begun = s.begun;
      row = row;
      next = subst Next (sym there) (next_row before remote receives rows i claimed unlocked row s h e);
      stops = first_pass_becomes_now before remote receives rows i claimed unlocked row choice (Err cause) s c p;
    }

-- a fact of the error, where a result is that error
pub first_pass_IfErr_from : {A : Type 0} (result : Result A NegotiationError) (cause : NegotiationError) (P : NegotiationError → Type 0)
    → result ≡ Err cause → P cause → IfErr result P
first_pass_IfErr_from result cause P h p = grind arith
