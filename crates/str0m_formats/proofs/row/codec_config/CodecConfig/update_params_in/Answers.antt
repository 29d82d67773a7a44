use Rattle.str0m_formats.proofs.Common.{◌≡◌, ◌++◌, Err, List, length, take, drop, Bool, refl, sym, ap, ◌∙◌, subst, rules, take_at, receives}
use Rattle.str0m_formats.proofs.Common.{same_from_all_zip}
use Rattle.str0m_formats.proofs.round.RoundsPromised.{leaves_round, refused_round}
use Rattle.str0m_formats.proofs.round.RoundsWhole.{round_refused_as_copied}
use Rattle.str0m_formats.proofs.row.codec_config.CodecConfig.update_params_in.Goals as goal
use Rattle.str0m_formats.specs.declared.round.negotiation_error.NegotiationError.TheVariants.{Memory}
use Rattle.str0m_formats.specs.declared.row.payload_params.PayloadParams.{PayloadParams}
use Rattle.str0m_formats.specs.round.Rounds.{RoundLeaves}

pub returns-in_err-rows : goal.returns-in_err-rows
returns-in_err-rows g c =
    let is : c.from_residual.result ≡ Err Memory = search rules in
    refused_round c.args.remote.now (receives c.args.dir) c.args.self.now c.from_residual.result Memory is (λ other. absurd (other refl))

pub returns-in_err-run_round : goal.returns-in_err-run_round
returns-in_err-run_round g c =
    let cause = c.in_err-run_round.field-0.0 in
    let same : c.in_ok-rows.rows.items ≡ c.args.self.now.params.items = search (rules, same_from_all_zip) in
    let is : c.from_residual-in_err-run_round.result ≡ Err cause = search rules in
    let refused =
    round_refused_as_copied c.args.self.now.params.items _ _ c.args.remote.now (receives c.args.dir) _ cause
    c.deref_mut.ensures.value same c.sdp_is_receiving.ensures c.in_err-run_round.ensures.err in
    refused_round c.args.remote.now (receives c.args.dir) c.args.self.now c.from_residual-in_err-run_round.result cause is
    (λ other. refused)

pub returns : goal.returns
returns g c =
    let after = c.run_round.new.rows in
    let len : length after ≡ c.in_ok-rows.rows.len = c.run_round.auto.rows ∙ c.deref_mut.ensures.len in
    let whole : after ≡ take c.in_ok-rows.rows.len (after ++ drop (length after) c.in_ok-rows.rows.items) =
    sym (ap (λ n. take n (after ++ drop (length after) c.in_ok-rows.rows.items)) (sym len)
    ∙ take_at after (drop (length after) c.in_ok-rows.rows.items) (length after) refl) in
    let same : c.in_ok-rows.rows.items ≡ c.args.self.now.params.items = search (rules, same_from_all_zip) in
    let After : List PayloadParams → Type 0 =
    λ rows. RoundLeaves c.args.self.now.params.items c.args.remote.now (receives c.args.dir) rows in
    let Now : List PayloadParams → Type 0 = λ rows. RoundLeaves rows c.args.remote.now (receives c.args.dir) after in
    let Dir : Bool → Type 0 = λ b. RoundLeaves c.deref_mut.result.now c.args.remote.now b after in
    leaves_round c.args.remote.now (receives c.args.dir) c.args.self.now _
    (subst After whole (subst Now same
    (subst Now c.deref_mut.ensures.value (subst Dir c.sdp_is_receiving.ensures c.in_ok-run_round.ensures.ok)))) refl
