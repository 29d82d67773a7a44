-- Texts of a section that a call writes.
use Rattle.c_calls.specs.LineTexts.{text_of_line}
use Rattle.c_calls.specs.Prelude.{MediaLine, Msid, Sdp, Simulcast, SimulcastLayer, first, infos, last, msid_of, msid_text, rows, simulcast_of}
use Rattle.c_calls.specs.SectionCalls.{text_in}
use Rattle.c_calls.specs.SourceTexts.{source_text}
use Rattle.c_calls.specs.declared.line_texts.LineText.TheVariants.{Uri, RidName, Restrictions, Semantics}
use Rattle.c_calls.specs.declared.row_calls.RowText.TheVariants.{Codec, Format}
use Rattle.c_calls.specs.declared.section_texts.SectionText.{SectionText}
use Rattle.c_calls.specs.declared.section_texts.SectionText.TheVariants as text
use Rattle.c_calls.specs.declared.source_texts.SourceText.TheVariants.{Cname, Stream, Track}
use Rattle.std.specs.Prelude.{ℕ, List, [], ◌++◌, Option, Some, None, filter_map, nat_eq, option_and_then, option_map, slice_get, if◌then◌else◌}

-- which of them a number is (`enum section_text` of capi/proved_calls.h)
abbrev pub text_numbered : ℕ → SectionText
text_numbered n =
    if nat_eq n 0 then text.Row Codec else (if nat_eq n 1 then text.Row Format else (if nat_eq n 2 then text.Msid else
    (if nat_eq n 3 then text.Line Uri else (if nat_eq n 4 then text.Line RidName else (if nat_eq n 5 then text.Line Restrictions else
    (if nat_eq n 6 then text.Layer else (if nat_eq n 7 then text.Source Cname else (if nat_eq n 8 then text.Source Stream else
    (if nat_eq n 9 then text.Source Track else text.Line Semantics)))))))))

-- the ids of a stream and a track, as they print; nothing where there are none
abbrev pub ids_text : Option Msid → List ℕ
ids_text None = []
ids_text (Some msid) = msid_text msid

-- layers, those that are sent first; none where there is no line of them
abbrev pub section_layers_both_ways : Option Simulcast → List SimulcastLayer
section_layers_both_ways None = []
section_layers_both_ways (Some simulcast) = simulcast.send.0 ++ simulcast.recv.0

abbrev pub section_layer_name : SimulcastLayer → List ℕ
section_layer_name layer = layer.restriction_id.0

-- the text of a section, by the first line that says it, or of what stands at an index among several; nothing where there is none such
abbrev pub section_text : SectionText → MediaLine → ℕ → Option (List ℕ)
section_text (text.Row what) m index = text_in what (rows m) index
section_text text.Msid m index = Some (ids_text (first (filter_map msid_of m.attrs)))
section_text (text.Line what) m index = slice_get (filter_map (text_of_line what) m.attrs) index
section_text (text.Source what) m index = option_map (source_text what) (slice_get (infos m.attrs) index)
section_text text.Layer m index = option_map section_layer_name (slice_get (section_layers_both_ways (last (filter_map simulcast_of m.attrs))) index)

-- that of the section there
abbrev pub text_at : SectionText → Sdp → ℕ → ℕ → Option (List ℕ)
text_at what sdp at index = option_and_then (λ (section : MediaLine). section_text what section index) (slice_get sdp.media_lines at)
