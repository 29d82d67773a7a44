-- A handle and its parts own what a box at the same types owns.
use Rattle.c_parts.proofs.PartsSteps.{boxed}
use Rattle.c_parts.specs.contracts.exchange_handle.ExchangeHandle as Handle
use Rattle.c_parts.specs.contracts.parts.Parts as Parts
use Rattle.exchange.proofs.state.exchange.Exchange.TheLaws as inner
use Rattle.exchange.specs.contracts.state.exchange.Exchange as Inner
use Rattle.std_alloc.proofs.BoxSteps.Form.{Bx}
use Rattle.std_heap.proofs.Global.TheLaws as heap
use Rattle.std_heap.specs.contracts.Global as Heap
use Rattle.std_heap.specs.contracts.GlobalAllocator.TheImpl.{ghosts, dict}
use denote.Signature.{Slot, plain}
use mathlib.Core.List.{[]}
use mir.Syntax.{impl, tnil, dnil}

abbrev pub ExchangeBoxed : Bx
ExchangeBoxed = boxed Inner.the_row inner.the_row_laws Heap.the_row heap.the_row_laws ghosts dict (impl [] tnil dnil)

abbrev pub FromExchangeParts : Slot 0
FromExchangeParts = plain (λ _. Parts.the_row Inner.the_row Heap.the_row ghosts)

abbrev pub FromExchangeHandle : Slot 0
FromExchangeHandle = plain (λ _. Handle.the_row)
