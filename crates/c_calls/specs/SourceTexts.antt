-- What calls write of the sources of a section.
use Rattle.c_calls.specs.Prelude.{SsrcInfo}
use Rattle.c_calls.specs.declared.source_texts.SourceText.{SourceText}
use Rattle.c_calls.specs.declared.source_texts.SourceText.TheVariants.{Cname, Stream, Track}
use Rattle.std.specs.Prelude.{ℕ, List, [], unwrap_or}

-- the name of its endpoint (RFC 5576, section 6.1), the ids of its stream and its track; nothing where none is said
abbrev pub source_text : SourceText → SsrcInfo → List ℕ
source_text Cname info = unwrap_or info.cname []
source_text Stream info = unwrap_or info.stream_id []
source_text Track info = unwrap_or info.track_id []
