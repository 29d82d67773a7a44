-- A handle and its parts own what a box at the same types owns.
use Rattle.c_parts.proofs.PartsSteps.{boxed}
use Rattle.c_parts.specs.contracts.config_handle.ConfigHandle as Handle
use Rattle.c_parts.specs.contracts.parts.Parts as Parts
use Rattle.std_alloc.proofs.BoxSteps.Form.{Bx}
use Rattle.std_heap.proofs.Global.TheLaws as heap
use Rattle.std_heap.specs.contracts.Global as Heap
use Rattle.std_heap.specs.contracts.GlobalAllocator.TheImpl.{ghosts, dict}
use Rattle.str0m_formats.proofs.row.codec_config.CodecConfig.TheLaws as inner
use Rattle.str0m_formats.specs.contracts.row.codec_config.CodecConfig as Inner
use denote.Signature.{Slot, plain}
use mathlib.Core.List.{[]}
use mir.Syntax.{impl, tnil, dnil}

abbrev pub ConfigBoxed : Bx
ConfigBoxed = boxed Inner.the_row inner.the_row_laws Heap.the_row heap.the_row_laws ghosts dict (impl [] tnil dnil)

abbrev pub FromConfigParts : Slot 0
FromConfigParts = plain (λ _. Parts.the_row Inner.the_row Heap.the_row ghosts)

abbrev pub FromConfigHandle : Slot 0
FromConfigHandle = plain (λ _. Handle.the_row)
