-- What a handle owns is the same on each thread, where the value is.
use Rattle.c_parts.specs.Parts.{parts_owned}
use Rattle.std.proofs.Crossing as heap
use Rattle.std.specs.Global.{Global}
use Rattle.std.specs.Prelude.{Option, None, Some}
use Rattle.std_alloc.proofs.SendSync.{lies}
use base.Shift.{Keyless}
use denote.Memory.{lone}
use denote.Param.Send.{IsSend}
use denote.RattleType.{RattleType}
use denote.RawPtr.{Ptr}
use mir.Raw.{raw}

pub owned_parts_keyless : (R : RattleType) → IsSend R → (a : Global) (p : Ptr) (o : Option R.Denot) → Keyless (parts_owned R a p o)
owned_parts_keyless R s a p None = tt
owned_parts_keyless R s a p (Some x) = (lies R s p x, heap.frees.frees a (raw (lone R.mir)) p)
