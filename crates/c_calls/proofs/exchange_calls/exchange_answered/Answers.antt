use Rattle.c_calls.proofs.exchange_calls.exchange_answered.Goals as goal

-- what the exchange says of the answer, of the description that is put in its place
pub returns-in-Ok-clause-answered : goal.returns-in-Ok-clause-answered
returns-in-Ok-clause-answered c = rw (c.into_sdp.ensures, c.version-version.ensures) (record {
  stable = c.in-Ok.ensures.stable;
  read = c.in-Ok.ensures.read;
  different = c.in-Ok.ensures.different;
  placed = c.in-Ok.ensures.placed;
  answers = c.in-Ok.ensures.answers;
  shape = c.in-Ok.ensures.shape;
  exactly = c.in-Ok.ensures.exactly;
  rules = c.in-Ok.ensures.rules;
  bundle = c.in-Ok.ensures.bundle;
  tracks = c.in-Ok.ensures.tracks;
  read_back = c.in-Ok.ensures.read_back;
  negotiated = c.in-Ok.ensures.negotiated;
  stay = c.in-Ok.ensures.stay;
  distinct = c.in-Ok.ensures.distinct;
  plain = c.in-Ok.ensures.plain;
  distances = c.in-Ok.ensures.distances;
  local = c.in-Ok.ensures.local;
  next = c.in-Ok.ensures.next;
  names = c.in-Ok.ensures.names;
  own_same = c.in-Ok.ensures.own_same;
  else_same = c.in-Ok.ensures.else_same;
  follows = c.in-Ok.ensures.follows;
  sound = c.in-Ok.ensures.sound;
  version_is = c.in-Ok.ensures.version;
})
