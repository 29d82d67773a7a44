-- The candidates that a description lists (RFC 8839, section 5.1).
use Rattle.std.specs.Prelude.{Bool, List, ◌++◌, Option, Some, None, filter_map, flat_map}
use Rattle.str0m_sdp.specs.Prelude.{Candidate}
use Rattle.str0m_sdp.specs.declared.attribute.MediaAttribute.{MediaAttribute}
use Rattle.str0m_sdp.specs.declared.attribute.MediaAttribute.TheVariants as media
use Rattle.str0m_sdp.specs.declared.attribute.SessionAttribute.{SessionAttribute}
use Rattle.str0m_sdp.specs.declared.attribute.SessionAttribute.TheVariants as session
use Rattle.str0m_sdp.specs.declared.section.media_line.MediaLine.{MediaLine}
use Rattle.str0m_sdp.specs.declared.session.Sdp.{Sdp}
use Rattle.str0m_sdp.specs.declared.session.Session.{Session}
use Rattle.str0m_sdp.specs.declared.session.candidates.Candidates.{Candidates}
use Rattle.str0m_values.specs.contracts.candidate.CandidatePartialEq.TheImpl as candidate

-- the candidate that an attribute of a session holds
abbrev pub session_candidate : SessionAttribute → Option Candidate
session_candidate (session.Candidate candidate) = Some candidate
session_candidate _ = None

-- and that an attribute of a section holds
abbrev pub media_candidate : MediaAttribute → Option Candidate
media_candidate (media.Candidate candidate) = Some candidate
media_candidate _ = None

-- those of a session, in attribute order
abbrev pub session_candidates : Session → List Candidate
session_candidates session = filter_map session_candidate session.attrs

-- those of a section, in attribute order
abbrev pub section_candidates : MediaLine → List Candidate
section_candidates line = filter_map media_candidate line.attrs

-- those of the session, then those of each section in order
abbrev pub all_candidates : Sdp → List Candidate
all_candidates sdp = session_candidates sdp.session ++ flat_map section_candidates sdp.media_lines

-- whether all parts of two candidates are equal
abbrev pub same_candidate : Candidate → Candidate → Bool
same_candidate a b = candidate.eq-value.it a b

-- those that an iterator is still to give
abbrev pub candidates_left : Candidates → List Candidate
candidates_left candidates = filter_map session_candidate candidates.session.now ++ filter_map media_candidate candidates.media.now
