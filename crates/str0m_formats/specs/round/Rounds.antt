-- A round of negotiation: what it leaves, or why it is refused, read off finished lists of rows.
use Rattle.std.specs.Prelude.{◌≡◌, ◌≤◌, ℕ, Bool, true, ◌&&◌, Option, Some, None, Result, Ok, Err, List, ◌∷◌, ◌++◌, length, take, slice_get, find, nat_lt, if◌then◌else◌, ok_or}
use Rattle.str0m_formats.specs.codec.Codec.{CodecContent, audio, codec_content}
use Rattle.str0m_formats.specs.declared.round.negotiation_error.NegotiationError.{NegotiationError}
use Rattle.str0m_formats.specs.declared.round.negotiation_error.NegotiationError.TheVariants.{TypeTooLarge, ClaimedTwice, Exhausted}
use Rattle.str0m_formats.specs.declared.row.payload_params.PayloadParams.{PayloadParams}
use Rattle.str0m_formats.specs.round.Choices.{IsChoice, choice_points_for}
use Rattle.str0m_formats.specs.round.Claimed.{TypeSet, has, with_type, claimed_with_option, either_set, free, AllTypesDistinct}
use Rattle.str0m_formats.specs.round.Narrowing.{narrowed}
use Rattle.str0m_formats.specs.row.PayloadParams.{AllTypesSmall, types, locked_types, open_types}

-- what a step gives, where it is not refused
abbrev pub then_in_round : {A B : Type 0} → Result A NegotiationError → (A → Result B NegotiationError) → Result B NegotiationError
then_in_round (Ok x) f = f x
then_in_round (Err cause) f = Err cause

-- ---- A row that is locked

-- its own type where that is not taken, else the first free one
abbrev pub own_or_free_claim : TypeSet → TypeSet → Option ℕ → Result ℕ NegotiationError
own_or_free_claim taken unlocked None = ok_or (free (either_set taken unlocked)) Exhausted
own_or_free_claim taken unlocked (Some own) = if taken own then ok_or (free (either_set taken unlocked)) Exhausted else Ok own

-- the type of a role: the one asked for where that is not taken. Where the remote receives there is no other
unfoldable pub role_type : TypeSet → TypeSet → Bool → ℕ → Option ℕ → Result ℕ NegotiationError
role_type taken unlocked receives asked own =
    if taken asked then (if receives then Err (ClaimedTwice asked) else own_or_free_claim taken unlocked own) else Ok asked

-- the RTX type: none where none is asked for
unfoldable pub rtx_type : TypeSet → TypeSet → Bool → Option ℕ → Option ℕ → Result (Option ℕ) NegotiationError
rtx_type taken unlocked receives None own = Ok None
rtx_type taken unlocked receives (Some asked) own = then_in_round (role_type taken unlocked receives asked own) (λ t. Ok (Some t))

-- the RED type: only where both sides have one, and never a cause
unfoldable pub red_type : TypeSet → TypeSet → Bool → Option ℕ → Option ℕ → Option ℕ
red_type taken unlocked receives (Some asked) (Some own) =
    if taken asked then (if receives then None else free (either_set taken unlocked)) else Some asked
red_type taken unlocked receives _ _ = None

-- a RED goes with audio alone (RFC 2198)
abbrev pub round_red_of_audio : CodecContent → Option ℕ → Option ℕ
round_red_of_audio audio red = red
round_red_of_audio _ red = None

-- an open row once it is locked to its choice: the primary type counts as taken for the RTX, both for the RED
unfoldable pub locked_to : TypeSet → TypeSet → Bool → PayloadParams → PayloadParams → Result PayloadParams NegotiationError
locked_to taken unlocked receives row choice =
    then_in_round (role_type taken unlocked receives choice.pt (Some row.pt)) (λ pt.
    let taken1 = with_type taken pt in
    then_in_round (rtx_type taken1 unlocked receives choice.resend row.resend) (λ resend.
    let taken2 = claimed_with_option taken1 resend in
    Ok (record row {
      pt = pt;
      resend = resend;
      red = round_red_of_audio (codec_content row.spec.codec) (red_type taken2 unlocked receives choice.red row.red);
      spec = narrowed row.spec choice.spec;
      fb_transport_cc = row.fb_transport_cc && choice.fb_transport_cc;
      locked = true;
    })))

-- a row after the first pass, by its choice
unfoldable pub placed : TypeSet → TypeSet → Bool → PayloadParams → Option PayloadParams → Result PayloadParams NegotiationError
placed taken unlocked receives row None = Ok row
placed taken unlocked receives row (Some choice) =
    if row.locked then Ok (record row { spec = narrowed row.spec choice.spec }) else locked_to taken unlocked receives row choice

-- what becomes of a row in the first pass
pub record RowBecomes (taken unlocked : TypeSet) (remote : List PayloadParams) (receives : Bool) (row : PayloadParams) (outcome : Result PayloadParams NegotiationError) : Type 0 where
  pub choice : Option PayloadParams
  pub is_choice : IsChoice (choice_points_for taken receives row) remote choice
  pub placed_so : placed taken unlocked receives row choice ≡ outcome

-- the types that are taken: those of rows locked before the round, and of rows that it has locked so far
abbrev pub types_taken_by : List PayloadParams → List PayloadParams → TypeSet
types_taken_by before done = has (locked_types before ++ locked_types done)

-- the first pass over some rows from the first on
pub record RoundBegun (before remote : List PayloadParams) (receives : Bool) (done : List PayloadParams) : Type 0 where
  pub within : length done ≤ length before
  pub each : (i : ℕ) (row new : PayloadParams) → slice_get before i ≡ Some row → slice_get done i ≡ Some new
      → RowBecomes (types_taken_by before (take i done)) (has (open_types before)) remote receives row (Ok new)

-- ---- A row that stays open

-- a type is kept where no locked row has it; else it becomes the first free one
abbrev pub kept_or_free_claim : TypeSet → TypeSet → TypeSet → ℕ → Option ℕ
kept_or_free_claim locked taken unlocked t = if locked t then free (either_set taken unlocked) else Some t

abbrev pub kept_red : TypeSet → TypeSet → TypeSet → Option ℕ → Option ℕ
kept_red locked taken unlocked None = None
kept_red locked taken unlocked (Some t) = kept_or_free_claim locked taken unlocked t

abbrev pub kept_rtx : TypeSet → TypeSet → TypeSet → Option ℕ → Result (Option ℕ) NegotiationError
kept_rtx locked taken unlocked None = Ok None
kept_rtx locked taken unlocked (Some t) = then_in_round (ok_or (kept_or_free_claim locked taken unlocked t) Exhausted) (λ new. Ok (Some new))

-- a row after the second pass: primary, RED, RTX in this order. Each type that it has then counts as taken for the next
unfoldable pub settled_row : TypeSet → TypeSet → TypeSet → PayloadParams → Result PayloadParams NegotiationError
settled_row locked taken unlocked row =
    if row.locked then Ok row else
    then_in_round (ok_or (kept_or_free_claim locked taken unlocked row.pt) Exhausted) (λ pt.
    let taken1 = with_type taken pt in
    let red = kept_red locked taken1 unlocked row.red in
    let taken2 = claimed_with_option taken1 red in
    then_in_round (kept_rtx locked taken2 unlocked row.resend) (λ resend.
    Ok (record row { pt = pt; resend = resend; red = red })))

-- the types that are taken in the second pass: those of locked rows, and those of open rows so far. Of the latter those that
-- a row keeps were open before the round, so that they are no free types anyway; the others are those that it was given
abbrev pub types_taken_after : List PayloadParams → List PayloadParams → TypeSet
types_taken_after mid done = has (locked_types mid ++ open_types done)

-- the second pass over some rows from the first on, beside the types that were open before the round
pub record Settled (unlocked : TypeSet) (mid done : List PayloadParams) : Type 0 where
  pub within : length done ≤ length mid
  pub each : (i : ℕ) (row new : PayloadParams) → slice_get mid i ≡ Some row → slice_get done i ≡ Some new
      → settled_row (has (locked_types mid)) (types_taken_after mid (take i done)) unlocked row ≡ Ok new

-- an open row can't be settled, and each row before it was done
pub record StopsSettling (unlocked : TypeSet) (mid : List PayloadParams) (cause : NegotiationError) : Type 0 where
  pub done : List PayloadParams
  pub before_it : Settled unlocked mid done
  pub row : PayloadParams
  pub next : slice_get mid (length done) ≡ Some row
  pub stops : settled_row (has (locked_types mid)) (types_taken_after mid done) unlocked row ≡ Err cause

-- ---- A round

-- a round may begin: no type is above 127, and no type stands twice among locked rows
pub record RoundMayBegin (before remote : List PayloadParams) : Type 0 where
  pub small : AllTypesSmall (types before ++ types remote)
  pub once : AllTypesDistinct (locked_types before)

-- the first pass over all rows
pub record AllRoundsBegun (before remote : List PayloadParams) (receives : Bool) (mid : List PayloadParams) : Type 0 where
  pub may : RoundMayBegin before remote
  pub begun : RoundBegun before remote receives mid
  pub whole : length mid ≡ length before

-- a round leaves these rows
pub record RoundLeaves (before remote : List PayloadParams) (receives : Bool) (after : List PayloadParams) : Type 0 where
  pub mid : List PayloadParams
  pub first : AllRoundsBegun before remote receives mid
  pub second : Settled (has (open_types before)) mid after
  pub whole : length after ≡ length mid

-- a type stands a second time in a list, and none did before it
pub record IsFirstClaimRepeat (types : List ℕ) (t : ℕ) : Type 0 where
  pub seen : List ℕ
  pub rest : List ℕ
  pub split : types ≡ seen ++ t ∷ rest
  pub distinct : AllTypesDistinct seen
  pub again : has seen t ≡ true

-- a row can't be locked, and each row before it was done
pub record StopsFirstPass (before remote : List PayloadParams) (receives : Bool) (cause : NegotiationError) : Type 0 where
  pub may : RoundMayBegin before remote
  pub done : List PayloadParams
  pub begun : RoundBegun before remote receives done
  pub row : PayloadParams
  pub next : slice_get before (length done) ≡ Some row
  pub stops : RowBecomes (types_taken_by before done) (has (open_types before)) remote receives row (Err cause)

-- the first pass is done, and an open row can't be settled
pub record StopsSecondPass (before remote : List PayloadParams) (receives : Bool) (cause : NegotiationError) : Type 0 where
  pub mid : List PayloadParams
  pub first : AllRoundsBegun before remote receives mid
  pub second : StopsSettling (has (open_types before)) mid cause

-- why a round is refused
pub data RoundRefused (before remote : List PayloadParams) (receives : Bool) : NegotiationError → Type 0 where
  too_large : (t : ℕ) → find (nat_lt 127) (types before ++ types remote) ≡ Some t → RoundRefused before remote receives (TypeTooLarge t)
  twice_before : (t : ℕ) → AllTypesSmall (types before ++ types remote) → IsFirstClaimRepeat (locked_types before) t → RoundRefused before remote receives (ClaimedTwice t)
  in_first : (cause : NegotiationError) → StopsFirstPass before remote receives cause → RoundRefused before remote receives cause
  in_second : (cause : NegotiationError) → StopsSecondPass before remote receives cause → RoundRefused before remote receives cause

-- a round has one outcome: these rows and no others, and no cause; or this cause and no other, and no rows
abbrev pub RoundLeavesOnly : List PayloadParams → List PayloadParams → Bool → List PayloadParams → Type 0
RoundLeavesOnly before remote receives after =
    ((other : List PayloadParams) → RoundLeaves before remote receives other → other ≡ after)
    × ((cause : NegotiationError) → RoundRefused before remote receives cause → ⊥)

abbrev pub RoundRefusedOnly : List PayloadParams → List PayloadParams → Bool → NegotiationError → Type 0
RoundRefusedOnly before remote receives cause =
    ((other : NegotiationError) → RoundRefused before remote receives other → other ≡ cause)
    × ((after : List PayloadParams) → RoundLeaves before remote receives after → ⊥)
