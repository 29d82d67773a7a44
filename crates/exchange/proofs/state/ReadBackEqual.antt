-- When two values of a description are equal, by the derived `==`.
use Rattle.exchange.proofs.Common.{Decides, pointwise, ◌≡◌, ℕ, List, Option, SessionAttribute, MediaType, Session, IceCreds}
use Rattle.std.specs.Option.{option_eq}
use Rattle.str0m_formats.proofs.{ParamEqualityTest, param_eq_along, param_equality}
use Rattle.str0m_sdp.proofs.{session_Decides as attribute_Decides}
use Rattle.str0m_sdp.specs.contracts.attribute.SessionAttributePartialEq.TheImpl as attribute_eq
use Rattle.str0m_sdp.specs.contracts.attribute.bandwidth.BandwidthPartialEq.TheImpl as bandwidth_eq
use Rattle.str0m_sdp.specs.contracts.attribute.media_type.MediaType as media_type
use Rattle.str0m_sdp.specs.contracts.attribute.media_type.MediaTypePartialEq.TheImpl as type_eq
use Rattle.str0m_sdp.specs.contracts.session.SessionPartialEq.TheImpl as session_eq
use Rattle.str0m_sdp.specs.declared.attribute.bandwidth.Bandwidth.{Bandwidth}
use Rattle.str0m_values.specs.contracts.ice_creds.IceCredsPartialEq.TheImpl as creds_eq
use Rattle.str0m_values.specs.contracts.payload_type.PtPartialEq.TheImpl as pt_eq

abbrev read_back_eq_types : ParamEqualityTest (List ℕ)
read_back_eq_types = hlevel param_equality

pub read_back_types_Decides : (a b : List ℕ) → Decides (pointwise pt_eq.eq-value.it a b) (a ≡ b)
read_back_types_Decides a b = read_back_eq_types.decides a b

abbrev read_back_eq_creds : ParamEqualityTest IceCreds
read_back_eq_creds = hlevel param_equality

pub read_back_creds_Decides : (a b : IceCreds) → Decides (creds_eq.eq-value.it a b) (a ≡ b)
read_back_creds_Decides a b = read_back_eq_creds.decides a b

abbrev media_type_equality : ParamEqualityTest MediaType
media_type_equality = param_eq_along media_type.as_values media_type.the_make media_type.the_eta (hlevel param_equality)

pub read_back_type_Decides : (a b : MediaType) → Decides (type_eq.eq-value.it a b) (a ≡ b)
read_back_type_Decides a b = media_type_equality.decides a b

abbrev read_back_eq_bandwidth : ParamEqualityTest Bandwidth
read_back_eq_bandwidth = hlevel param_equality

abbrev read_back_may_have_bandwidth : ParamEqualityTest (Option Bandwidth)
read_back_may_have_bandwidth = hlevel (read_back_eq_bandwidth, param_equality)

pub read_back_bandwidth_Decides : (a b : Option Bandwidth) → Decides (option_eq bandwidth_eq.eq-value.it a b) (a ≡ b)
read_back_bandwidth_Decides a b = read_back_may_have_bandwidth.decides a b

abbrev read_back_eq_attribute : ParamEqualityTest SessionAttribute
read_back_eq_attribute = record { test = attribute_eq.eq-value.it; decides = attribute_Decides }

abbrev eq_whole_session : ParamEqualityTest Session
eq_whole_session = hlevel (read_back_eq_attribute, read_back_eq_bandwidth, param_equality)

pub whole_session_Decides : (a b : Session) → Decides (session_eq.eq-value.it a b) (a ≡ b)
whole_session_Decides a b = eq_whole_session.decides a b
