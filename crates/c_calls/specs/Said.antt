-- What a call answers that writes into the caller's room.
use Rattle.c_calls.specs.Told.{done, no_memory, no_room, no_section}
use Rattle.c_parts.specs.Room.{room_begun_with}
use Rattle.std.specs.Prelude.{◌≡◌, ◌⊎◌, ℕ, List, length, Option, Some, None, nat_le, if◌then◌else◌}

-- the status, the room and the count after a call, from the room and the count before it and what it finds: that is put into the room
-- where it fits, and is counted in any case; where there is no such section or item, both stay
abbrev pub said_into_room : {X : Type 0} → List X × ℕ → Option (List X) → ℕ × List X × ℕ
said_into_room before None = (no_section, before.0, before.1)
said_into_room before (Some items) =
    if nat_le (length items) (length before.0) then (done, room_begun_with items before.0, length items) else (no_room, before.0, length items)

-- a call that takes no memory answers so
abbrev pub PutsText : {X : Type 0} → Option (List X) → List X × ℕ → ℕ × List X × ℕ → Type 0
PutsText found before after = after ≡ said_into_room before found

-- and one that takes memory, unless it is refused: then room and count stay
abbrev pub Says : {X : Type 0} → Option (List X) → List X × ℕ → ℕ × List X × ℕ → Type 0
Says found before after = PutsText found before after ⊎ (after ≡ (no_memory, before.0, before.1))

-- the same of some text that is such
abbrev pub SaysSome : (List ℕ → Type 0) → List ℕ × ℕ → ℕ × List ℕ × ℕ → Type 0
SaysSome IsSuch before after = ((text : List ℕ) × IsSuch text × PutsText (Some text) before after) ⊎ (after ≡ (no_memory, before.0, before.1))

-- one thing is written where it is found; else the place stays
abbrev pub SaysOne : {X : Type 0} → Option X → X → ℕ × X → Type 0
SaysOne None before after = after ≡ (no_section, before)
SaysOne (Some found) before after = after ≡ (done, found)
