-- What a handle owns: what a box owns, or nothing where it is empty.
use Rattle.std.specs.Box.Ownership.{box_owns}
use Rattle.std.specs.Global.{Global}
use Rattle.std.specs.Prelude.{Option, None, Some}
use Rattle.std_heap.specs.contracts.GlobalAllocator.TheImpl.{ghosts}
use base.Fml.{Fml, ftrue}
use denote.RattleType.{RattleType}
use denote.RawPtr.{Ptr}

abbrev pub parts_owned : (R : RattleType) → Global → Ptr → Option R.Denot → Fml
parts_owned R alloc p None = ftrue
parts_owned R alloc p (Some x) = box_owns (ghosts.dealloc_token alloc) R p x

-- ---- handles that own something

abbrev pub IsRoomFull : {X : Type 0} → Option X → Type 0
IsRoomFull None = ⊥
IsRoomFull (Some _) = Unit {0}
