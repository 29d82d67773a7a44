use Rattle.str0m_formats.proofs.{static_is}
use Rattle.str0m_sdp.proofs.Common.{◌≡◌, ◌++◌, Some, None, [], ◌∷◌, map, map-append, append-nil, sym, ap, ◌∙◌}
use Rattle.str0m_sdp.proofs.Common.{FormatParams, static_spec}
use Rattle.str0m_sdp.proofs.section.mappings.push_static_mapping.Goals as goal
use Rattle.str0m_sdp.specs.section.Mappings.{codec_of_type}

pub returns-in_ok-push-in-Some : goal.returns-in_ok-push-in-Some
returns-in_ok-push-in-Some c =
    let pt = c.args.pt in
    let spec = c.in-Some.spec in
    let old = map codec_of_type c.args.mapped.now.items in
    let found = (rw c.in-Some.is at c.from_static_pt.ensures).found in
    let is : static_spec pt ≡ Some spec = sym (static_is pt _ c.from_static_pt.ensures) ∙ c.in-Some.is in
    rw (c.in_ok-push-in-Some.ensures.items, map-append codec_of_type c.args.mapped.now.items (c.new.result ∷ []), c.new.ensures, is)
    (ap (λ (format : FormatParams). old ++ (pt, record spec { format = format }) ∷ []) (sym found.2))

pub returns-in-None : goal.returns-in-None
returns-in-None c =
    let is : static_spec c.args.pt ≡ None = sym (static_is c.args.pt _ c.from_static_pt.ensures) ∙ c.in-None.is in
    rw is (sym (append-nil (map codec_of_type c.args.mapped.now.items)))
