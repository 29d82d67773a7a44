-- A copy that the derived `clone` makes equals its source.
use Rattle.str0m_sdp.proofs.Common.{arith, ◌≡◌, elements, same_from_all_zip}
use Rattle.str0m_sdp.specs.contracts.attribute.MediaAttributeClone.TheImpl as attribute
use Rattle.str0m_sdp.specs.contracts.attribute.simulcast.SimulcastClone.TheImpl as simulcast
use Rattle.str0m_sdp.specs.contracts.section.media_line.MediaLineClone.TheImpl as line
use Rattle.str0m_sdp.specs.contracts.session.SdpClone.TheImpl as sdp
use Rattle.str0m_sdp.specs.contracts.session.SessionClone.TheImpl as session
use Rattle.str0m_sdp.specs.declared.attribute.MediaAttribute.{MediaAttribute}
use Rattle.str0m_sdp.specs.declared.attribute.simulcast.Simulcast.{Simulcast}
use Rattle.str0m_sdp.specs.declared.section.media_line.MediaLine.{MediaLine}
use Rattle.str0m_sdp.specs.declared.session.Sdp.{Sdp}
use Rattle.str0m_sdp.specs.declared.session.Session.{Session}

pub simulcast_copied : (a b : Simulcast) → simulcast.is_clone-value.it a b → b ≡ a
simulcast_copied a b h = grind (arith, elements)

pub attribute_copied : (a b : MediaAttribute) → attribute.is_clone-value.it a b → b ≡ a
attribute_copied a b h = grind (arith, elements)

pub attribute_line_copied : (a b : MediaLine) → line.is_clone-value.it a b → b ≡ a
attribute_line_copied a b h =
    let attrs : b.attrs ≡ a.attrs = same_from_all_zip _ a.attrs b.attrs h.1.1.1.1.1.0 attribute_copied in
    grind (arith, elements)

pub session_copied : (a b : Session) → session.is_clone-value.it a b → b ≡ a
session_copied a b h = grind (arith, elements)

pub sdp_copied : (a b : Sdp) → sdp.is_clone-value.it a b → b ≡ a
sdp_copied a b h =
    let session : b.session ≡ a.session = session_copied a.session b.session h.0 in
    let lines : b.media_lines ≡ a.media_lines = same_from_all_zip _ a.media_lines b.media_lines h.1.0 attribute_line_copied in
    λ i. record { session = session i; media_lines = lines i }
