-- Sources of RTP packets as C holds them.
use Rattle.c_parts.specs.Row.{bit, row_number_or}
use Rattle.c_parts.specs.declared.source.SectionSource.{SectionSource}
use Rattle.std.specs.Prelude.{List, [], ◌∷◌, is_some, map}
use Rattle.str0m_sdp.specs.declared.section.media_line.MediaLine.{MediaLine}
use Rattle.str0m_sdp.specs.declared.section.ssrc_info.SsrcInfo.{SsrcInfo}
use Rattle.str0m_sdp.specs.section.SsrcInfo.{infos}

-- a source (`zax_source`), and the one that it repairs, where it repairs one (RFC 5576)
abbrev pub c_source : SsrcInfo → SectionSource
c_source info = record {
  ssrc = info.ssrc;
  repairs = row_number_or 0 info.repairs;
  is_repair = bit 1 (is_some info.repairs);
  reserved = 0 ∷ 0 ∷ 0 ∷ [];
}

-- those of a section
abbrev pub c_sources : MediaLine → List SectionSource
c_sources section = map c_source (infos section.attrs)
