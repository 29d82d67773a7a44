use Rattle.c_calls.proofs.offer_calls.offered.Goals as goal

-- what the exchange says of the offer, of the description that is put in its place
pub returns-in-Ok-clause-offered : goal.returns-in-Ok-clause-offered
returns-in-Ok-clause-offered c = rw (c.into_sdp.ensures, c.version-version.ensures) (record {
  stable = c.in-Ok.ensures.stable;
  names = c.in-Ok.offer.added;
  fresh = c.in-Ok.ensures.names;
  as_many = c.in-Ok.ensures.as_many;
  new = c.in-Ok.ensures.new;
  says = c.in-Ok.ensures.says;
  places = c.in-Ok.ensures.places;
  rules = c.in-Ok.ensures.rules;
  different = c.in-Ok.ensures.different;
  read_back = c.in-Ok.ensures.read_back;
  version_is = c.in-Ok.ensures.version;
  waits = c.in-Ok.ensures.waits;
  follows = c.in-Ok.ensures.follows;
  sound = c.in-Ok.ensures.sound;
})
