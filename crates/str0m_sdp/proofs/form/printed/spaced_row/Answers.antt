use Rattle.std.specs.Prelude.{decimal}
use Rattle.str0m_sdp.proofs.Common.{ap, codes, arith, ◌+◌, ◌++◌, ◌≡◌, ◌∙◌}
use Rattle.str0m_sdp.proofs.form.PrintedNumbers.{spaced_at}
use Rattle.str0m_sdp.proofs.form.printed.spaced_row.Goals as goal

pub returns : goal.returns
returns c =
    let same : 0 + c.from.result ≡ c.args.number = omega (arith, c.from.ensures) in
    spaced_at (λ row. row.now) c.args.rows.now 0 c.from.result _ c.requires.spaced
    (omega (arith, c.requires.whole, c.from.ensures, c.ranges.number.fits))
    ∙ ap (λ n. decimal n ++ codes " ") same
