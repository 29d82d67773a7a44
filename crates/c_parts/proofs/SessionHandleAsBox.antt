-- A handle and its parts own what a box at the same types owns.
use Rattle.c_parts.proofs.PartsSteps.{boxed}
use Rattle.c_parts.specs.contracts.parts.Parts as Parts
use Rattle.c_parts.specs.contracts.session_handle.SessionHandle as Handle
use Rattle.std_alloc.proofs.BoxSteps.Form.{Bx}
use Rattle.std_heap.proofs.Global.TheLaws as heap
use Rattle.std_heap.specs.contracts.Global as Heap
use Rattle.std_heap.specs.contracts.GlobalAllocator.TheImpl.{ghosts, dict}
use Rattle.str0m_sdp.proofs.session.Sdp.TheLaws as inner
use Rattle.str0m_sdp.specs.contracts.session.Sdp as Inner
use denote.Signature.{Slot, plain}
use mathlib.Core.List.{[]}
use mir.Syntax.{impl, tnil, dnil}

abbrev pub SessionBoxed : Bx
SessionBoxed = boxed Inner.the_row inner.the_row_laws Heap.the_row heap.the_row_laws ghosts dict (impl [] tnil dnil)

abbrev pub FromSessionParts : Slot 0
FromSessionParts = plain (λ _. Parts.the_row Inner.the_row Heap.the_row ghosts)

abbrev pub FromSessionHandle : Slot 0
FromSessionHandle = plain (λ _. Handle.the_row)
