-- When two attributes are equal: each variant by its fields, and two variants never.
use Rattle.str0m_formats.specs.contracts.codec.Codec as codec
use Rattle.str0m_formats.specs.contracts.format.format_param.FormatParamPartialEq.TheImpl as param_eq
use Rattle.str0m_sdp.proofs.Common.{◌≡◌, Decides, param_Decides, FormatParam, ParamEqualityTest, param_eq_along, param_equality}
use Rattle.str0m_sdp.proofs.Common.{param_eq_word}
use Rattle.str0m_sdp.proofs.session.CandidateEqual.{eq_candidate}
use Rattle.str0m_sdp.specs.contracts.attribute.MediaAttribute as media_type
use Rattle.str0m_sdp.specs.contracts.attribute.MediaAttributePartialEq.TheImpl as media_eq
use Rattle.str0m_sdp.specs.contracts.attribute.SessionAttribute as session_type
use Rattle.str0m_sdp.specs.contracts.attribute.SessionAttributePartialEq.TheImpl as session_eq
use Rattle.str0m_sdp.specs.contracts.attribute.setup.Setup as setup
use Rattle.str0m_sdp.specs.contracts.attribute.simulcast.RestrictionIdPartialEq.TheImpl as id_eq
use Rattle.str0m_sdp.specs.contracts.attribute.simulcast.SimulcastPartialEq.TheImpl as simulcast_eq
use Rattle.str0m_sdp.specs.declared.attribute.MediaAttribute.{MediaAttribute}
use Rattle.str0m_sdp.specs.declared.attribute.SessionAttribute.{SessionAttribute}
use Rattle.str0m_sdp.specs.declared.attribute.simulcast.RestrictionId.{RestrictionId}
use Rattle.str0m_sdp.specs.declared.attribute.simulcast.Simulcast.{Simulcast}

abbrev attribute_eq_param : ParamEqualityTest FormatParam
attribute_eq_param = record { test = param_eq.eq-value.it; decides = param_Decides }

abbrev eq_restriction_id : ParamEqualityTest RestrictionId
eq_restriction_id = hlevel param_equality

pub restriction_id_Decides : (a b : RestrictionId) → Decides (id_eq.eq-value.it a b) (a ≡ b)
restriction_id_Decides a b = eq_restriction_id.decides a b

abbrev eq_simulcast : ParamEqualityTest Simulcast
eq_simulcast = hlevel (eq_restriction_id, param_equality)

pub simulcast_Decides : (a b : Simulcast) → Decides (simulcast_eq.eq-value.it a b) (a ≡ b)
simulcast_Decides a b = eq_simulcast.decides a b

abbrev eq_media : ParamEqualityTest MediaAttribute
eq_media =
    param_eq_along media_type.as_values media_type.the_make media_type.the_eta
    (hlevel (
      eq_candidate,
      attribute_eq_param,
      eq_restriction_id,
      eq_simulcast,
      param_eq_word codec.the_type tt,
      param_eq_word setup.the_type tt,
      param_equality,
    ))

pub media_Decides : (a b : MediaAttribute) → Decides (media_eq.eq-value.it a b) (a ≡ b)
media_Decides a b = eq_media.decides a b

abbrev eq_session : ParamEqualityTest SessionAttribute
eq_session = param_eq_along session_type.as_values session_type.the_make session_type.the_eta
    (hlevel (eq_candidate, param_eq_word setup.the_type tt, param_equality))

pub session_Decides : (a b : SessionAttribute) → Decides (session_eq.eq-value.it a b) (a ≡ b)
session_Decides a b = eq_session.decides a b
