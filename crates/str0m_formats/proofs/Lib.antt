pub mod Common
-- What crates above name of the laws of rooms, which are private as their code is.
pub use Rattle.str0m_formats.proofs.codec.CodecNames.{codec_read_as, codec_read_only}
pub use Rattle.str0m_formats.proofs.codec.CodecSpecStatic.{static_needs_none, static_is, static_small}
pub use Rattle.str0m_formats.proofs.format.FormatKeyAgain.{IsKeyed, keyed_or_hidden, keyed_shown}
pub use Rattle.str0m_formats.proofs.format.FormatLineAgain.{format_linked_texts, printed_pairs}
pub use Rattle.str0m_formats.proofs.format.FormatLinePairs.{IsFormatLineOf, IsOwnParam, format_all_of_both, format_said, line_of_pairs}
pub use Rattle.str0m_formats.proofs.format.FormatLinePairs.{params_print}
pub use Rattle.str0m_formats.proofs.format.FormatParamAgain.{param_decimal_reads, parsed_param_printed}
pub use Rattle.str0m_formats.proofs.format.FormatParamEqual.{param_Decides}
pub use Rattle.str0m_formats.proofs.format.FormatParamLaws.{parsed_param}
pub use Rattle.str0m_formats.proofs.format.FormatParamsDerived.{ParamEqualityTest, param_eq_along, param_eq_word, param_equality}
pub use Rattle.str0m_formats.proofs.format.FormatParamsShown.{IsSolidPair, param_decimal_solid, joined_pair}
pub use Rattle.str0m_formats.proofs.format.MergedPairsKeys.{Pairs}
pub use Rattle.str0m_formats.proofs.format.MergedPairsLaws.{pair_key_bytes_itself}
pub use Rattle.str0m_formats.proofs.format.PairsAgain.{IsPairsLine, keyed_line, pairs_again}
pub use Rattle.str0m_formats.proofs.format.PairsLaws.{pairs_read_is, pairs_read_only}
pub use Rattle.str0m_formats.proofs.format.PairsSolid.{IsSolid, solid_lacks}
pub use Rattle.str0m_formats.proofs.round.ClaimedSets.{claimed_slice_get_item}
pub use Rattle.str0m_formats.proofs.round.ClaimedTimes.{one_time_if, type_times-append, type_times-cons, type_times-none, type_times-some}
pub use Rattle.str0m_formats.proofs.round.RoundsLocked.{locked-stays-same, locked-stays-then}
pub use Rattle.str0m_formats.proofs.round.RoundsPasses.{pass_at_place}
pub use Rattle.str0m_formats.proofs.round.RoundsRunSteps.{rounds_ran_from}
pub use Rattle.str0m_formats.proofs.round.RoundsWhole.{row_before}
pub use Rattle.str0m_formats.proofs.row.PlainRowFormats.{plain_row_can_be_read_back}
