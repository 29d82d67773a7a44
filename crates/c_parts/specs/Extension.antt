-- Header extensions as C holds them.
use Rattle.c_parts.specs.declared.extension.SectionExtension.{SectionExtension}
use Rattle.std.specs.Prelude.{ℕ, List, [], ◌∷◌, filter_map, map}
use Rattle.str0m_sdp.specs.declared.section.media_line.MediaLine.{MediaLine}
use Rattle.str0m_sdp.specs.section.SectionAccessors.{ext_map_of}
use Rattle.str0m_values.specs.declared.extension.Extension.{Extension}

-- an extension (`zax_extension`): the number of its line (RFC 8285, section 5)
abbrev pub c_extension : ℕ × Extension → SectionExtension
c_extension mapped = record { id = mapped.0; reserved = 0 ∷ 0 ∷ 0 ∷ [] }

-- those of a section
abbrev pub c_extensions : MediaLine → List SectionExtension
c_extensions section = map c_extension (filter_map ext_map_of section.attrs)
