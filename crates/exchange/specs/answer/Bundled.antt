-- What the sections of a bundle share.
use Rattle.exchange.specs.Prelude.{HoldsMids, Sdp}
use Rattle.exchange.specs.answer.InBundle.{bundle_names, is_so_of_bundle_tag, tagged_section}
use Rattle.exchange.specs.declared.answer.bundled.Bundled.{Bundled}
use Rattle.exchange.specs.section.Reached.{section_has_creds, has_fingerprint}
use Rattle.std.specs.Prelude.{◌≡◌}

-- their names, and what is in force at the section whose transport they share
pub record IsBundledBy (sdp : Sdp) (bundled : Bundled) : Type 0 where
  pub names : HoldsMids bundled.names (bundle_names sdp)
  pub creds : bundled.has_creds ≡ is_so_of_bundle_tag (section_has_creds sdp.session) (tagged_section sdp)
  pub fingerprint : bundled.has_fingerprint ≡ is_so_of_bundle_tag (has_fingerprint sdp.session) (tagged_section sdp)
