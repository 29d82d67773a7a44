-- What comes of rounds with the sections of a text.
use Rattle.lint.specs.Prelude.{Codec, IsChoice, MediaLine, OutcomeOfRound, PayloadParams, RoundRan, Reading, Sdp, is_media, choice_points_with, receives, rows, same_codec, score, section_direction}
use Rattle.lint.specs.declared.code.Code.{Code}
use Rattle.lint.specs.declared.code.Code.TheVariants.{Round}
use Rattle.lint.specs.declared.code.Fate.{Fate}
use Rattle.lint.specs.declared.code.Fate.TheVariants.{Locked, NoCodec, OtherFormat, OtherRow, TakenType, RefusedRound}
use Rattle.lint.specs.declared.finding.Finding.{Finding}
use Rattle.lint.specs.declared.notes.Notes.{Notes}
use Rattle.std.specs.List.{list_any}
use Rattle.std.specs.Prelude.{◌≡◌, ◌==◌, ℕ, Bool, true, false, ◌&&◌, ◌||◌, not, Option, Some, None, Ok, Err, List, [], ◌∷◌, ◌++◌, if◌then◌else◌, filter_map, map, option_map, is_some}
use Rattle.str0m_formats.specs.declared.round.negotiation_error.NegotiationError.TheVariants.{TypeTooLarge, ClaimedTwice, Exhausted, Memory}
use Rattle.str0m_sdp.specs.section.Companions.{is_type}

-- some row of these fits it
abbrev pub fits_some_row : List PayloadParams → PayloadParams → Bool
fits_some_row ours theirs = list_any (λ row. is_some (score row.spec theirs.spec)) ours

abbrev pub has_row_of_codec : List PayloadParams → Codec → Bool
has_row_of_codec ours codec = list_any (λ row. same_codec row.spec.codec codec) ours

-- a row has this payload type, in whatever role
abbrev pub row_has_type : PayloadParams → ℕ → Bool
row_has_type row pt = row.pt == pt || (is_type pt row.resend || is_type pt row.red)

-- a locked row that doesn't fit has the type
unfoldable pub row_blocks_type : PayloadParams → PayloadParams → Bool
row_blocks_type theirs row = row.locked && (row_has_type row theirs.pt && not (is_some (score row.spec theirs.spec)))

-- the remote receives, and such a row has the type
abbrev pub is_row_type_taken : Bool → List PayloadParams → PayloadParams → Bool
is_row_type_taken receives after theirs = receives && list_any (row_blocks_type theirs) after

-- the type of the remote row with which a row goes: none where it stays open; where it was open and the remote receives, its own
-- type now, since it has that of its choice then; else that of its choice
abbrev pub row_partner_type : Bool → PayloadParams → PayloadParams → Option PayloadParams → Option ℕ
row_partner_type receives old new choice =
    if not new.locked then None
    else if receives && not old.locked then Some new.pt
    else option_map (λ row. row.pt) choice

pub record IsRowPartner (remote : List PayloadParams) (receives : Bool) (old new : PayloadParams) (partner : Option ℕ) : Type 0 where
  pub choice : Option PayloadParams
  pub is_choice : IsChoice (choice_points_with old) remote choice
  pub is : partner ≡ row_partner_type receives old new choice

-- of each row before a round and after it, in order
abbrev pub AreRowPartners : List PayloadParams → Bool → List PayloadParams → List PayloadParams → List (Option ℕ) → Type 0
AreRowPartners remote receives (old ∷ before) (new ∷ after) (partner ∷ partners) =
    IsRowPartner remote receives old new partner × AreRowPartners remote receives before after partners
AreRowPartners remote receives (old ∷ before) (new ∷ after) [] = ⊥
AreRowPartners remote receives [] after partners = partners ≡ []
AreRowPartners remote receives (old ∷ before) [] partners = partners ≡ []

-- of a row that fits, in a round that is accepted
abbrev pub accepted_fate : Bool → List PayloadParams → List (Option ℕ) → PayloadParams → Fate
accepted_fate receives after partners theirs =
    if list_any (is_type theirs.pt) partners then Locked
    else if is_row_type_taken receives after theirs then TakenType
    else OtherRow

-- of a row that fits; nothing where the round is refused for something else
abbrev pub fitting_fate : Bool → List PayloadParams → OutcomeOfRound → List (Option ℕ) → PayloadParams → Option Fate
fitting_fate receives after (Ok done) partners theirs = Some (accepted_fate receives after partners theirs)
fitting_fate receives after (Err (ClaimedTwice pt)) partners theirs = if row_has_type theirs pt then Some TakenType else None
fitting_fate receives after (Err (TypeTooLarge pt)) partners theirs = None
fitting_fate receives after (Err Exhausted) partners theirs = None
fitting_fate receives after (Err Memory) partners theirs = None

-- what comes of a remote row
abbrev pub fate : List PayloadParams → Bool → List PayloadParams → OutcomeOfRound → List (Option ℕ) → PayloadParams → Option Fate
fate before receives after outcome partners theirs =
    if fits_some_row before theirs then fitting_fate receives after outcome partners theirs
    else if has_row_of_codec before theirs.spec.codec then Some OtherFormat
    else Some NoCodec

abbrev pub fate_as_list : Option Fate → List Fate
fate_as_list None = []
fate_as_list (Some it) = it ∷ []

abbrev pub refusal_fate : OutcomeOfRound → List Fate
refusal_fate (Ok done) = []
refusal_fate (Err cause) = RefusedRound ∷ []

-- what is said of a round, in order: of the round, where it is refused, and of each row of the remote
pub record AreFatesOf (before remote : List PayloadParams) (receives : Bool) (outcome : OutcomeOfRound) (after : List PayloadParams) (fates : List Fate) : Type 0 where
  pub partners : List (Option ℕ)
  pub partners_are : AreRowPartners remote receives before after partners
  pub fates_are : fates ≡ refusal_fate outcome ++ filter_map (fate before receives after outcome partners) remote

-- a round with what is said of it
pub record RoundSays (m : MediaLine) (before : List PayloadParams) (fates : List Fate) (after : List PayloadParams) : Type 0 where
  pub outcome : OutcomeOfRound
  pub ran : RoundRan before (rows m) (receives (section_direction m.attrs)) outcome after
  pub said : AreFatesOf before (rows m) (receives (section_direction m.attrs)) outcome after fates

-- one of two, by a truth
abbrev pub RoundWhereTrue : Bool → Type 0 → Type 0 → Type 0
RoundWhereTrue true A B = A
RoundWhereTrue false A B = B

-- what is said of the rounds of the audio and video sections, in order, which lead from the rows before them to the rows after them
abbrev pub RoundsSay : List MediaLine → List PayloadParams → List Fate → List PayloadParams → Type 0
RoundsSay [] before fates after = (fates ≡ []) × (after ≡ before)
RoundsSay (m ∷ sections) before fates after = RoundWhereTrue (is_media m.typ)
    ((own rest : List Fate) × (mid : List PayloadParams) × (fates ≡ own ++ rest) × RoundSays m before own mid × RoundsSay sections mid rest after)
    (RoundsSay sections before fates after)

abbrev pub codes : List Finding → List Code
codes findings = map (λ finding. finding.code) findings

-- findings are added, of these fates, in order
abbrev pub AddsFates : List Fate → Notes → Notes → Type 0
AddsFates fates old new = codes new.findings ≡ codes old.findings ++ map Round fates

-- the findings are those of the rounds with a text, against these rows: none of a text that is refused; of one that is read, those of its
-- sections' rounds, in order
pub record SaysRounds (text : List ℕ) (ours : List PayloadParams) (findings : List Finding) : Type 0 where
  pub refused : ((v : Sdp × List ℕ) → Reading text v → ⊥) → findings ≡ []
  pub said : (sdp : Sdp) (rest : List ℕ) → Reading text (sdp, rest)
      → (fates : List Fate) × (codes findings ≡ map Round fates) × (after : List PayloadParams) × RoundsSay sdp.media_lines ours fates after
