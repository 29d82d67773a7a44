pub mod Common
-- What crates above name of the laws of rooms, which are private as their code is.
pub use Rattle.str0m_sdp.proofs.attribute.AttributeEqual.{media_Decides, session_Decides}
pub use Rattle.str0m_sdp.proofs.section.MadeSectionConsistent.{section_frame_agrees}
pub use Rattle.str0m_sdp.proofs.section.MadeSectionRead.{DescribesRows}
pub use Rattle.str0m_sdp.proofs.section.MadeSectionValues.{section_describes_read_back, format_line_printed, section_pairs_line_read}
pub use Rattle.str0m_sdp.proofs.section.MadeSectionValues.{values_printed}
pub use Rattle.str0m_sdp.proofs.section.MadeSectionValues.{section_values_read}
pub use Rattle.str0m_sdp.proofs.section.MappingsFilterMap.{all_mapped, map_more, one_mapped}
pub use Rattle.str0m_sdp.proofs.section.RowAttributesReads.{fmtp_lines, reads, red_reads}
pub use Rattle.str0m_sdp.proofs.section.SectionAccessorsFinding.{first_by_find_map, first_from_find_map}
pub use Rattle.str0m_sdp.proofs.section.SectionAccessorsLists.{filter_map_more, filter_map_same}
pub use Rattle.str0m_sdp.proofs.section.SectionDirectionHolders.{mid_counted}
pub use Rattle.str0m_sdp.proofs.section.SectionRowsBoundLaws.{rows_bounded}
pub use Rattle.str0m_sdp.proofs.section.SectionRowsParts.{row_count-append, rows_or_false, rows_uncounted}
pub use Rattle.str0m_sdp.proofs.section.TypeTablesMarks.{mark_any_more, mark_any_same}
pub use Rattle.str0m_sdp.proofs.session.DistinctCandidatesLaws.{distinct_push}
pub use Rattle.str0m_sdp.proofs.session.OrderedMids.{mids_holds_before, mids_holds_behind}
pub use Rattle.str0m_sdp.proofs.session.SessionLaws.{mids_apart}
