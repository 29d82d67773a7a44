use Rattle.str0m_sdp.proofs.Common.{ap, ◌∙◌}
use Rattle.str0m_sdp.proofs.attribute.RandomMsidLaws.{msid_words_twice}
use Rattle.str0m_sdp.proofs.attribute.msid.Msid.random.Goals as goal
use Rattle.str0m_sdp.specs.attribute.RandomMsid.{after_msid_drawn_words}

pub returns-clause-stream : goal.returns-clause-stream
returns-clause-stream g c = c.draw_msid_id-2.ensures.stream
    ∙ (ap (λ stream. after_msid_drawn_words 30 stream) c.draw_msid_id.ensures.stream ∙ msid_words_twice 30 30 _)
