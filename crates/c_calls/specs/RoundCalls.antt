-- A section of one's own that lists what is agreed.
use Rattle.c_calls.specs.Prelude.{CodecConfig, MediaLine, MediaType, NegotiatedText, OutcomeOfRound, PayloadParams, Sdp, Writable, c_outcome, locked_of_kind, made}
use Rattle.c_parts.specs.declared.row.Outcome as c
use Rattle.std.specs.Prelude.{◌≡◌, ◌≢◌, ◌⊎◌, ℕ, List, [], Option, Some, slice_set, ◌++◌, None, drop, length, map, take, slice_get}
use Rattle.str0m_sdp.specs.declared.attribute.media_type.MediaType.TheVariants.{Audio, Video}
use Rattle.str0m_values.specs.declared.media_kind.MediaKind.TheVariants as kind

-- of a section's type: those of its kind that are locked; none where it carries no media
abbrev pub round_rows_of_type : MediaType → List PayloadParams → List PayloadParams
round_rows_of_type Audio rows = locked_of_kind kind.Audio rows
round_rows_of_type Video rows = locked_of_kind kind.Video rows
round_rows_of_type _ rows = []

-- the section there, which is writable, has the locked rows of its kind, of which there are some, and nothing else has changed
abbrev pub ListsRoundRows : List PayloadParams → Sdp → ℕ → Sdp → Type 0
ListsRoundRows rows before at after =
    (frame : MediaLine) × (slice_get before.media_lines at ≡ Some frame) × Writable before at × (round_rows_of_type frame.typ rows ≢ [])
    × (after ≡ record before { media_lines = slice_set before.media_lines at (made frame (round_rows_of_type frame.typ rows)) })

-- nothing can be listed in the section there: no row of its kind is locked, or rows printed there might not be read again
abbrev pub CantListRoundRows : List PayloadParams → Sdp → ℕ → Type 0
CantListRoundRows rows own at =
    (frame : MediaLine) × (slice_get own.media_lines at ≡ Some frame) × ((round_rows_of_type frame.typ rows ≡ []) ⊎ (Writable own at → ⊥))

-- a section that lists what is agreed, of what two handles own
abbrev pub AnsweredRound : Option CodecConfig → Option Sdp → ℕ → Option Sdp → Type 0
AnsweredRound (Some config) (Some before) at (Some after) = ListsRoundRows config.params.items before at after
AnsweredRound _ _ at _ = ⊥

-- nothing can be listed there, of what two handles own
abbrev pub CantAnswer : Option CodecConfig → Option Sdp → ℕ → Type 0
CantAnswer (Some config) (Some own) at = CantListRoundRows config.params.items own at
CantAnswer _ _ at = ⊥

-- ---- rounds that were run for a caller

-- as many of the first items as there is room for; after them the room is as it was
abbrev pub cut_to_room : {X : Type 0} → List X → List X → List X
cut_to_room items before = take (length before) items ++ drop (length items) before

-- the rounds of the text lead from one configuration to the other, in which nothing but the rows has changed; their outcomes are
-- counted, and stand in the room
abbrev pub RanRounds : List ℕ → CodecConfig → CodecConfig → List c.Outcome → List c.Outcome → ℕ → Type 0
RanRounds text before after room_before room_after needed =
    (outcomes : List OutcomeOfRound) × NegotiatedText text before.params.items outcomes after.params.items
    × (after ≡ record before { params = after.params }) × (needed ≡ length outcomes) × (room_after ≡ cut_to_room (map c_outcome outcomes) room_before)

-- the same of what a handle owns
abbrev pub RanHeldRound : List ℕ → Option CodecConfig → Option CodecConfig → List c.Outcome → List c.Outcome → ℕ → Type 0
RanHeldRound text (Some before) (Some after) = RanRounds text before after
RanHeldRound text None after = λ room_before room_after needed. ⊥
RanHeldRound text (Some before) None = λ room_before room_after needed. ⊥
