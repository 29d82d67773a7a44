use Rattle.str0m_formats.proofs.Common.{◌≡◌, ℕ, Option, Some, Result, Ok, Err, sym, ap, ◌∙◌, subst, rules, ok_or}
use Rattle.str0m_formats.proofs.round.ClaimedSets.{with_row_types}
use Rattle.str0m_formats.proofs.round.SettlingPass.{settled_if_locked, settled_stops, settled_by, red_step}
use Rattle.str0m_formats.proofs.round.claims.Claims.settle.Goals as goal
use Rattle.str0m_formats.specs.declared.round.negotiation_error.NegotiationError.{NegotiationError}
use Rattle.str0m_formats.specs.declared.round.negotiation_error.NegotiationError.TheVariants.{Exhausted}
use Rattle.str0m_formats.specs.round.Claimed.{TypeSet, with_type, claimed_with_option}
use Rattle.str0m_formats.specs.round.Claims.{ClaimsServe}
use Rattle.str0m_formats.specs.round.Rounds.{then_in_round, kept_rtx}

pub returns-then-row-clause-value : goal.returns-then-row-clause-value
returns-then-row-clause-value g c = λ locked taken serves. settled_if_locked locked taken (g.C.Claimed.holds c.args.self.now.unlocked)
    c.args.row.now c.if-row.true

pub returns-in_err-pt-clause-value : goal.returns-in_err-pt-clause-value
returns-in_err-pt-clause-value g c = λ locked taken serves.
    let is : c.from_residual.result ≡ Err c.in_err-pt.field-0.0 = search rules in
    let stops : ok_or c.keep.result Exhausted ≡ Err c.in_err-pt.field-0.0 = search rules in
    ap (λ (r : Result (Unit {0}) NegotiationError). then_in_round r (λ u. Ok c.args.row.now)) is
    ∙ settled_stops locked taken (g.C.Claimed.holds c.args.self.now.unlocked) c.args.row.now c.keep.result c.in_err-pt.field-0.0
    c.if-row.false (c.keep.ensures.value locked taken serves) stops

pub returns-in_err-resend-clause-value : goal.returns-in_err-resend-clause-value
returns-in_err-resend-clause-value g c = λ locked taken serves.
    let holds = g.C.Claimed.holds in
    let unlocked : TypeSet = holds c.args.self.now.unlocked in
    let row = c.args.row.now in
    let pt : c.keep.result ≡ Some c.in_ok-pt.pt = search rules in
    let After : Option ℕ → Type 0 =
    λ given. ClaimsServe (holds c.keep.new.self.claimed) unlocked locked (claimed_with_option taken given) in
    let one : TypeSet = with_type taken c.in_ok-pt.pt in
    let two : TypeSet = claimed_with_option one c.keep_red-red.result in
    let same1 = ap holds c.keep.ensures.unlocked in
    let same2 = ap holds c.keep_red-red.ensures.unlocked in
    let red = red_step (holds c.keep.new.self.claimed) (holds c.keep_red-red.new.self.claimed) unlocked (holds c.keep.new.self.unlocked)
    (holds c.keep_red-red.new.self.unlocked) locked one c.keep_red-red.result row.red
    same1 same2 (subst After pt (c.keep.ensures.claimed locked taken serves)) c.keep_red-red.ensures.value c.keep_red-red.ensures.claimed in
    let is : c.from_residual-in_err-resend.result ≡ Err c.in_err-resend.field-0.0 = search rules in
    ap (λ (r : Result (Unit {0}) NegotiationError). then_in_round r (λ u. Ok c.args.row.now)) is
    ∙ settled_by locked taken unlocked row c.in_ok-pt.pt c.keep_red-red.result (Err c.in_err-resend.field-0.0) c.if-row.false
    (sym pt ∙ c.keep.ensures.value locked taken serves) red.0
    (sym c.in_err-resend.was ∙ c.keep_rtx.ensures.value locked two red.1 ∙ ap (λ u. kept_rtx locked two u row.resend) (same2 ∙ same1))

pub returns-clause-value : goal.returns-clause-value
returns-clause-value g c = λ locked taken serves.
    let holds = g.C.Claimed.holds in
    let unlocked : TypeSet = holds c.args.self.now.unlocked in
    let row = c.args.row.now in
    let pt : c.keep.result ≡ Some c.in_ok-pt.pt = search rules in
    let After : Option ℕ → Type 0 =
    λ given. ClaimsServe (holds c.keep.new.self.claimed) unlocked locked (claimed_with_option taken given) in
    let one : TypeSet = with_type taken c.in_ok-pt.pt in
    let two : TypeSet = claimed_with_option one c.keep_red-red.result in
    let same1 = ap holds c.keep.ensures.unlocked in
    let same2 = ap holds c.keep_red-red.ensures.unlocked in
    let red = red_step (holds c.keep.new.self.claimed) (holds c.keep_red-red.new.self.claimed) unlocked (holds c.keep.new.self.unlocked)
    (holds c.keep_red-red.new.self.unlocked) locked one c.keep_red-red.result row.red
    same1 same2 (subst After pt (c.keep.ensures.claimed locked taken serves)) c.keep_red-red.ensures.value c.keep_red-red.ensures.claimed in
    settled_by locked taken unlocked row c.in_ok-pt.pt c.keep_red-red.result (Ok c.in_ok-resend.resend) c.if-row.false
    (sym pt ∙ c.keep.ensures.value locked taken serves) red.0
    (sym c.in_ok-resend.was ∙ c.keep_rtx.ensures.value locked two red.1 ∙ ap (λ u. kept_rtx locked two u row.resend) (same2 ∙ same1))

pub returns-clause-claimed : goal.returns-clause-claimed
returns-clause-claimed g c = λ locked taken serves.
    let holds = g.C.Claimed.holds in
    let unlocked : TypeSet = holds c.args.self.now.unlocked in
    let pt : c.keep.result ≡ Some c.in_ok-pt.pt = search rules in
    let After : Option ℕ → Type 0 =
    λ given. ClaimsServe (holds c.keep.new.self.claimed) unlocked locked (claimed_with_option taken given) in
    let one : TypeSet = with_type taken c.in_ok-pt.pt in
    let two : TypeSet = claimed_with_option one c.keep_red-red.result in
    let same1 = ap holds c.keep.ensures.unlocked in
    let same2 = ap holds c.keep_red-red.ensures.unlocked in
    let red = red_step (holds c.keep.new.self.claimed) (holds c.keep_red-red.new.self.claimed) unlocked (holds c.keep.new.self.unlocked)
    (holds c.keep_red-red.new.self.unlocked) locked one c.keep_red-red.result c.args.row.now.red
    same1 same2 (subst After pt (c.keep.ensures.claimed locked taken serves)) c.keep_red-red.ensures.value c.keep_red-red.ensures.claimed in
    let Unlocked : TypeSet → Type 0 =
    λ u. ClaimsServe (holds c.keep_rtx.new.self.claimed) u locked (claimed_with_option two c.in_ok-resend.resend) in
    let Taken : TypeSet → Type 0 = λ set. ClaimsServe (holds c.keep_rtx.new.self.claimed) unlocked locked set in
    rw c.if-row.false (subst Taken (with_row_types taken c.in_ok-pt.pt c.in_ok-resend.resend c.keep_red-red.result)
    (subst Unlocked (same2 ∙ same1) (c.in_ok-resend.ensures.claimed locked two red.1)))
