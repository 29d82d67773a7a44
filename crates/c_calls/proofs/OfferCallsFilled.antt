-- What a full handle owns.
use Rattle.c_calls.specs.Common.{OfHandle}
use Rattle.c_parts.specs.Parts.{IsRoomFull}
use Rattle.std.specs.Prelude.{Option, None, Some}

-- what is so of everything is so of what it owns
pub offer_of_full : {X : Type 0} (P : X → Type 0) (inner : Option X) → IsRoomFull inner → ((x : X) → P x) → OfHandle inner P
offer_of_full P None full so = absurd full
offer_of_full P (Some x) full so = so x
