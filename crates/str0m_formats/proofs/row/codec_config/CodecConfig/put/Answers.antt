use Rattle.std.proofs.lemmas.Fn.{filter_same}
use Rattle.str0m_formats.proofs.Common.{ap, ◌∙◌, rules}
use Rattle.str0m_formats.proofs.row.DefaultRows.{put_rows_ok}
use Rattle.str0m_formats.proofs.row.codec_config.CodecConfig.put.Goals as goal
use Rattle.str0m_formats.specs.row.DefaultRows.{rows_except}

pub returns-clause-ok : goal.returns-clause-ok
returns-clause-ok c = put_rows_ok _ c.args.codec c.args.self.now.params.items _ _ _
    (filter_same _ _ _ (λ x b f' k. search rules) _ _ c.retain.ensures.filtered ∙ ap (rows_except c.args.codec) c.make_room.ensures.rows)
    c.extend_from_slice.ensures.items
