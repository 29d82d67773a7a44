-- What is full holds something.
use Rattle.c_parts.specs.Parts.{IsRoomFull}
use Rattle.std.proofs.Common.{◌≡◌, refl}
use Rattle.std.specs.Prelude.{Option, None, Some}

pub part_full_is : {X : Type 0} (o : Option X) → IsRoomFull o → (x : X) × (o ≡ Some x)
part_full_is None full = absurd full
part_full_is (Some x) full = (x, refl)
