use Rattle.str0m_signal.proofs.Common.{rules, sym, ◌++◌, ◌∷◌, [], refl, codes}
use Rattle.str0m_signal.proofs.line.LinesChainLaws.{chain_more, chain_one_fewer, chain_taken_none}
use Rattle.str0m_signal.proofs.line.LinesLaws.{line_found}
use Rattle.str0m_signal.proofs.session.SectionLaws.{section_field_both}
use Rattle.str0m_signal.proofs.session.header.skip_header_repeats.Goals as goal
use Rattle.str0m_signal.specs.line.Lines.{OneLine}
use Rattle.str0m_signal.specs.line.LinesReading.{lines_of}
use Rattle.str0m_signal.specs.session.Section.{IsSessionField}

pub loop-after-init : goal.loop-after-init
loop-after-init c = (search rules, ([], refl))

pub loop-after-preserved : goal.loop-after-preserved
loop-after-preserved c =
    let next = line_found (section_field_both (codes "r=")) (lines_of c.loop-after.rest.now) c.in-Some.field-0-0.now
    (lines_of c.in-Some.after.now)
    (sym c.in-Some.ensures) in (
      search rules,
      (
        c.loop-after.invariant.1.0 ++ c.in-Some.field-0-0.now ∷ [],
        chain_more (OneLine (IsSessionField (codes "r="))) (lines_of c.args.text.now) c.loop-after.invariant.1.0
            (lines_of c.loop-after.rest.now)
            c.in-Some.field-0-0.now (lines_of c.in-Some.after.now) c.loop-after.invariant.1.1 next,
      ),
    )

pub loop-after-smaller : goal.loop-after-smaller
loop-after-smaller c =
    let next = line_found (section_field_both (codes "r=")) (lines_of c.loop-after.rest.now) c.in-Some.field-0-0.now
    (lines_of c.in-Some.after.now)
    (sym c.in-Some.ensures) in
    chain_one_fewer (IsSessionField (codes "r=")) (lines_of c.loop-after.rest.now) c.in-Some.field-0-0.now (lines_of c.in-Some.after.now)
    next

pub returns : goal.returns
returns c = (
  c.loop-after.invariant.1.0,
  (c.loop-after.invariant.1.1, (chain_taken_none (section_field_both (codes "r=")) c.loop-after.rest.now c.in_default.ensures).1),
)
