-- A candidate whose texts lie in the text that was read, and its parts, without where they lie.
use Rattle.std.specs.Prelude.{option_map}
use Rattle.str0m_values.specs.CandidateReading.{CandidateLead, CandidateExtras, candidate_of}
use Rattle.str0m_values.specs.declared.candidate.Candidate.{Candidate}
use Rattle.str0m_values.specs.declared.candidate_text.FoundCandidate.{FoundCandidate}
use Rattle.str0m_values.specs.declared.candidate_text.FoundCandidateExtras.{FoundCandidateExtras as FoundExtras}
use Rattle.str0m_values.specs.declared.candidate_text.FoundCandidateLead.{FoundCandidateLead as FoundLead}

abbrev pub seen_candidate_lead : FoundLead → CandidateLead
seen_candidate_lead lead = record { foundation = lead.foundation.now; component_id = lead.component_id; proto = lead.proto; prio = lead.prio }

abbrev pub seen_candidate_extras : FoundExtras → CandidateExtras
seen_candidate_extras extras = record { raddr = extras.raddr; tcptype = extras.tcptype; ufrag = option_map (λ t. t.now) extras.ufrag }

abbrev pub seen_candidate : FoundCandidate → Candidate
seen_candidate found = candidate_of (seen_candidate_lead found.lead) found.addr found.kind (seen_candidate_extras found.extras)
