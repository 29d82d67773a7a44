use Rattle.exchange.proofs.Common.{ap, ◌∙◌, is_group_listed}
use Rattle.exchange.proofs.section.StoppedLaws.{bundled_so}
use Rattle.exchange.proofs.section.stopped.is_bundled_in.Goals as goal
use Rattle.exchange.specs.answer.InBundle.{bundle_names}

pub returns : goal.returns
returns c =
    bundled_so c.args.sdp.now c.args.section.now c.is_mid_held.result
    (c.is_mid_held.ensures ∙ c.requires c.name_of.result ∙ ap (is_group_listed (bundle_names c.args.sdp.now)) c.name_of.ensures)
