-- Room that the caller gives.
use Rattle.std.specs.Prelude.{◌++◌, List, drop, length}

-- the room with these items at its beginning; after them it is as it was
abbrev pub room_begun_with : {X : Type 0} → List X → List X → List X
room_begun_with items room = items ++ drop (length items) room
