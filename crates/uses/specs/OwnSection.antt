-- A section of one's own, and the description around it.
use Rattle.std.specs.Prelude.{ℕ, false, List, [], ◌∷◌, None, codes}
use Rattle.str0m_sdp.specs.declared.attribute.MediaAttribute.TheVariants as media
use Rattle.str0m_sdp.specs.declared.attribute.SessionAttribute.TheVariants as session
use Rattle.str0m_sdp.specs.declared.attribute.media_type.MediaType.TheVariants.{Audio}
use Rattle.str0m_sdp.specs.declared.attribute.proto.Proto.TheVariants.{Srtp}
use Rattle.str0m_sdp.specs.declared.attribute.setup.Setup.TheVariants.{ActPass}
use Rattle.str0m_sdp.specs.declared.section.media_line.MediaLine.{MediaLine}
use Rattle.str0m_sdp.specs.declared.session.Sdp.{Sdp}
use Rattle.str0m_values.specs.declared.fingerprint.Fingerprint.{Fingerprint}
use Rattle.str0m_values.specs.declared.ice_creds.IceCreds.{IceCreds}

-- audio both ways under a name, with the credentials and the fingerprint of the transport
abbrev pub own_frame : List ℕ → IceCreds → Fingerprint → MediaLine
own_frame mid creds fingerprint = record {
  typ = Audio;
  disabled = false;
  proto = Srtp;
  pts = [];
  bw = None;
  attrs = media.Mid mid ∷ (media.SendRecv ∷ (media.Setup ActPass ∷ (media.IceUfrag creds.ufrag ∷ (media.IcePwd creds.pass
      ∷ (media.Fingerprint fingerprint ∷ (media.RtcpMux ∷ []))))));
}

-- a session of one section, which its group lists
abbrev pub own_sdp : ℕ → List ℕ → MediaLine → Sdp
own_sdp id mid frame = record {
  session = record { id = id; bw = None; attrs = session.Group (codes "BUNDLE") (mid ∷ []) ∷ [] };
  media_lines = frame ∷ [];
}
