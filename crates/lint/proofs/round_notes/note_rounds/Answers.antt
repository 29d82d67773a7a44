use Rattle.lint.proofs.Common.{◌≡◌, ◌+◌, ◌<◌, true, false, length, get_or, take, subst, sym, ◌∙◌, ap, arith, rules, CodecConfig, is_media}
use Rattle.lint.proofs.FateLaws.{FatesSaidSoFar, round_step, fate_round_skip_step}
use Rattle.lint.proofs.round_notes.note_rounds.Goals.{then-is_media+in_ok-note_round, else-is_media}
use Rattle.lint.proofs.round_notes.note_rounds.Goals as goal
use Rattle.lint.specs.declared.notes.Notes.{Notes}

pub loop-section-preserved : goal.loop-section-preserved
loop-section-preserved c =
    let now = c.loop-section in
    let m = c.section-item.result in
    let all = c.args.sections.now in
    let i = now.section-index in
    let old = c.args.notes.now in
    let ours = c.args.config.now.params.items in
    let inside : i < length all = omega (arith, now.auto, c.loop-section-test.true) in
    let is : m ≡ get_or all i m = search rules in
    elim c.if-is_media.branch [
      | then-is_media+in_ok-note_round w ↦
          let one : is_media m.typ ≡ true = search rules in
          let notes : w.note_round.new.notes ≡ c.if-is_media.notes = search rules in
          let config : w.note_round.new.config ≡ c.if-is_media.config = search rules in
          let so_far = round_step all i m old now.notes w.note_round.new.notes ours now.config.params.items
          w.note_round.new.config.params.items inside is one now.invariant.1 w.in_ok-note_round.ensures.said in (
            ap (λ (n : Notes). n.last) (sym notes) ∙ w.in_ok-note_round.ensures.last ∙ now.invariant.0,
            subst (λ (n : Notes). FatesSaidSoFar old n (take (i + 1) all) ours c.if-is_media.config.params.items) notes
                (subst (λ (f : CodecConfig). FatesSaidSoFar old w.note_round.new.notes (take (i + 1) all) ours f.params.items) config
                so_far),
          )
      | else-is_media w ↦
          let none : is_media m.typ ≡ false = search rules in
          let notes : now.notes ≡ c.if-is_media.notes = search rules in
          let config : now.config ≡ c.if-is_media.config = search rules in
          let so_far = fate_round_skip_step all i m old now.notes ours now.config.params.items inside is none now.invariant.1 in (
            ap (λ (n : Notes). n.last) (sym notes) ∙ now.invariant.0,
            subst (λ (n : Notes). FatesSaidSoFar old n (take (i + 1) all) ours c.if-is_media.config.params.items) notes
                (subst (λ (f : CodecConfig). FatesSaidSoFar old now.notes (take (i + 1) all) ours f.params.items) config so_far),
          )
    ]
