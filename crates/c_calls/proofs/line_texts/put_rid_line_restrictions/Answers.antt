use Rattle.c_calls.proofs.LineTextsRid.{rid_rest_of}
use Rattle.c_calls.proofs.line_texts.put_rid_line_restrictions.Goals as goal
use Rattle.std.proofs.Common.{◌≡◌, ◌∙◌, ℕ, List, ◌++◌, ap, drop, inl, sym}
use Rattle.str0m_sdp.specs.attribute.Attribute.{media_attribute_text}
use Rattle.str0m_sdp.specs.attribute.Rid.{rid_pts_part, restrictions_part}
use Rattle.str0m_sdp.specs.declared.label.TheConstants as label

pub returns : goal.returns
returns c =
    let rest : List ℕ = rid_pts_part c.in-Rid.pt ++ restrictions_part c.in-Rid.pt c.in-Rid.restriction in
    let is = c.in-Ok.ensures.ok ∙ ap media_attribute_text c.in-Rid.is in
    let parts = rid_rest_of label.RID.now c.in-Rid.id.0 c.in-Rid.direction rest c.in-Ok.text.bytes.items is in
    let text : c.line_text_behind_front.result.now ≡ drop 1 rest =
    c.line_text_behind_front.ensures ∙ rw (c.len.ensures, c.deref.ensures) (rw c.as_str.ensures (rw c.as_bytes.ensures.value parts.1)) in
    rw c.in-Rid.is (inl (rw (sym text) c.put_said.ensures))
