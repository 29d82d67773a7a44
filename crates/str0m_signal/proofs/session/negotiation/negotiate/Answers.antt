use Rattle.str0m_formats.specs.declared.row.codec_config.CodecConfig.{CodecConfig}
use Rattle.str0m_signal.proofs.Common.{All, types, AllTypesDistinct, IsPlain}
use Rattle.str0m_signal.proofs.back.ReadBackRows.{rows_still_printable}
use Rattle.str0m_signal.proofs.session.NegotiationLaws.{round_kept_or_same, rounds_bounded}
use Rattle.str0m_signal.proofs.session.negotiation.negotiate.Goals as goal
use Rattle.str0m_signal.specs.back.ReadBack.{CanRowsBeReadBack}

pub returns-clause-distinct : goal.returns-clause-distinct
returns-clause-distinct c =
    round_kept_or_same (λ (config : CodecConfig). AllTypesDistinct (types config.params.items)) _ c.update_all.result c.args.config.now
    c.update_all.new.self
    (λ outcomes promises. promises.distinct) c.update_all.ensures.promises c.update_all.ensures.err

pub returns-clause-plain : goal.returns-clause-plain
returns-clause-plain c = λ bounded.
    round_kept_or_same (λ (config : CodecConfig). All IsPlain config.params.items) _ c.update_all.result c.args.config.now
    c.update_all.new.self
    (λ outcomes promises before. promises.plain before (rw c.as_slice.ensures.value (rounds_bounded c.args.sections.now
    c.in_ok-rounds.rounds.items c.in_ok-rounds.ensures bounded)))
    c.update_all.ensures.promises c.update_all.ensures.err

pub returns-clause-printable : goal.returns-clause-printable
returns-clause-printable c = λ bounded.
    round_kept_or_same (λ (config : CodecConfig). CanRowsBeReadBack config.params.items) _ c.update_all.result c.args.config.now
    c.update_all.new.self
    (λ outcomes promises. rows_still_printable _ _ promises.rows
    (λ before. promises.plain before (rw c.as_slice.ensures.value (rounds_bounded c.args.sections.now c.in_ok-rounds.rounds.items
    c.in_ok-rounds.ensures bounded)))
    promises.distinct)
    c.update_all.ensures.promises c.update_all.ensures.err
