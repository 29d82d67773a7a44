-- A section that was read, whose types and lines are those of plain, distinct rows, describes these rows.
use Rattle.str0m_sdp.proofs.Common.{arith, ◌≡◌, ◌≢◌, ◌≤◌, false, List, [], map, All, AllZip, flat_map, recursion_from_All, IsPlain, types}
use Rattle.str0m_sdp.proofs.Common.{SameRow, AllTypesDistinct, FormatParam, PayloadParams, count_by}
use Rattle.str0m_sdp.proofs.section.MadeSectionConsistent.{consistent, names_one}
use Rattle.str0m_sdp.proofs.section.MappingsBack.{IsMappingSaid, unlocked_row, section, mapped_is}
use Rattle.str0m_sdp.proofs.section.RowAttributesAnswers.{row_entries}
use Rattle.str0m_sdp.proofs.section.RowAttributesQuestions.{row_attrs_of}
use Rattle.str0m_sdp.proofs.section.SectionRowsAgain.{rows_are, rows_same}
use Rattle.str0m_sdp.specs.declared.attribute.MediaAttribute.{MediaAttribute}
use Rattle.str0m_sdp.specs.declared.attribute.proto.Proto.TheVariants.{Srtp}
use Rattle.str0m_sdp.specs.declared.section.media_line.MediaLine.{MediaLine}
use Rattle.str0m_sdp.specs.section.Consistency.{is_mid, is_setup, is_direction, Consistent}
use Rattle.str0m_sdp.specs.section.MadeSection.{is_of_type}
use Rattle.str0m_sdp.specs.section.Mappings.{mapped}
use Rattle.str0m_sdp.specs.section.SectionRows.{rows as rows_of, NamesOnePrimaryRow}

-- what a frame says beside its types: one mid, one setup at most, one direction over Srtp, and no line of a type
pub record IsBareSectionFrame (m : MediaLine) (frame : List MediaAttribute) : Type 0 where
  pub bare : All (λ attr. is_of_type attr ≡ false) frame
  pub mid : count_by is_mid frame ≡ 1
  pub setup : count_by is_setup frame ≤ 1
  pub direction : m.proto ≡ Srtp → count_by is_direction frame ≡ 1

-- the section is consistent, names one primary type in each line of a companion, maps the types of the rows in order, and
-- describes the rows
pub record DescribesRows (m : MediaLine) (rows : List PayloadParams) : Type 0 where
  pub consistent : Consistent m
  pub names_one : All (NamesOnePrimaryRow m) m.attrs
  pub types_are : mapped m ≡ flat_map row_entries rows
  pub rows_are : rows_of m ≡ map unlocked_row rows
  pub same : AllZip SameRow (rows_of m) rows

module _ (values : PayloadParams → List (List FormatParam)) where
  made_section_describing : (frame : MediaLine) (rows : List PayloadParams) → IsBareSectionFrame frame frame.attrs → All IsPlain rows
      → AllTypesDistinct (types rows)
      → All (λ row. IsMappingSaid row (values row)) rows → rows ≢ [] → DescribesRows (section values frame rows) rows
  made_section_describing frame rows f plain d said some = grind
      (arith, consistent, names_one, mapped_is, rows_are, rows_same, recursion_from_All)

  pub made_section_describes : (m : MediaLine) (frame : List MediaAttribute) (rows : List PayloadParams) → IsBareSectionFrame m frame
      → m.attrs ≡ row_attrs_of values frame rows → m.pts ≡ types rows → All IsPlain rows → AllTypesDistinct (types rows)
      → All (λ row. IsMappingSaid row (values row)) rows → rows ≢ [] → DescribesRows m rows
  made_section_describes m frame rows f attrs pts plain d said some = grind
      (arith, made_section_describing (record m { attrs = frame }) rows)
