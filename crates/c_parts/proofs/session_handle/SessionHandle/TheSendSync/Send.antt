-- A handle may go to another thread where what it owns may.
use Rattle.c_parts.proofs.PartsCrossing.{owned_parts_keyless}
use Rattle.c_parts.specs.contracts.session_handle.SessionHandle.{the_row, the_type}
use Rattle.std_alloc.proofs.SendSync.{quiet}
use Rattle.std_heap.proofs.Global.TheSendSync as heap
use Rattle.str0m_sdp.proofs.session.Sdp.TheSendSync.{the_send as inner}
use Rattle.str0m_sdp.specs.contracts.session.Sdp as Inner
use denote.Param.Send.{IsSend, AllSend, owning_send, struct_send, sendable}
use denote.Struct.Owning.{shape, fields, to}
use denote.Struct.Struct.{exits_of}

pub send : IsSend the_row
send =
    let all : AllSend (fields the_type) = (search sendable, (heap.the_field_send, tt)) in
    owning_send the_type all (λ d. owned_parts_keyless Inner.the_row inner d.alloc d.ptr d.inner)
    (λ k. quiet (to the_type) (exits_of k (fields the_type)) ((struct_send (shape the_type) all).leaving k))
