use Rattle.str0m_sdp.proofs.Common.{◌≡◌, ◌≤◌, map, string_bytes, string_len, string_capacity}
use Rattle.str0m_sdp.proofs.attribute.random_msid.draw_msid_id.Given as goal
use Rattle.str0m_sdp.specs.attribute.RandomMsid.{msid_drawn_words, after_msid_drawn_words, msid_letter_of}

-- the letters so far are those of the words so far, and there is room for the others
abbrev pub invariant-loop-i : goal.invariant-loop-i
invariant-loop-i g l = record {
  room : 30 ≤ string_capacity l.id;
  len : string_len l.id ≡ l._i;
  letters : string_bytes l.id ≡ map msid_letter_of (msid_drawn_words l._i (g.R.Rng.stream l.initial.rng));
  stream : g.R.Rng.stream l.rng ≡ after_msid_drawn_words l._i (g.R.Rng.stream l.initial.rng);
}
