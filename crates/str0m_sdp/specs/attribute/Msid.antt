-- The ids of a stream and a track, as they print (RFC 8830, section 2).
use Rattle.std.specs.Prelude.{ℕ, List, ◌++◌, codes}
use Rattle.str0m_sdp.specs.declared.attribute.msid.Msid.{Msid}

abbrev pub msid_text : Msid → List ℕ
msid_text msid = msid.stream_id ++ (codes " " ++ msid.track_id)
