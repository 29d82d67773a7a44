-- A description prints with version 2 where no other is said.
use Rattle.std.specs.Fmt.{digits}
use Rattle.str0m_sdp.proofs.Common.{◌≡◌, refl}
use Rattle.str0m_sdp.specs.declared.session.Sdp.{Sdp}
use Rattle.str0m_sdp.specs.session.Session.{sdp_text, versioned_text}

pub version_two : (sdp : Sdp) → versioned_text 2 sdp ≡ sdp_text sdp
unfolding digits
version_two sdp = refl
