use Rattle.str0m_sdp.proofs.Common.{arith, refl, common_steps}
use Rattle.str0m_sdp.proofs.attribute.RandomMsidLaws.{no_msid_letters, one_more_msid_letter, one_more_msid_word}
use Rattle.str0m_sdp.proofs.attribute.RandomMsidLaws.{after_msid_drawn_words-none}
use Rattle.str0m_sdp.proofs.attribute.random_msid.draw_msid_id.Goals as goal

pub loop-i-init : goal.loop-i-init
loop-i-init g c = record {
  room = c.requires.room;
  len = grind (arith, common_steps);
  letters = no_msid_letters _ _ c.requires.empty;
  stream = rw after_msid_drawn_words-none refl;
}

pub loop-i-preserved : goal.loop-i-preserved
loop-i-preserved g c = grind (arith, one_more_msid_letter, one_more_msid_word)
