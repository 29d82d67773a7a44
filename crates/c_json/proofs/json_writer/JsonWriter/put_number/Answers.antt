use Rattle.c_json.proofs.JsonWriterLaws.{json_begun_number}
use Rattle.c_json.proofs.json_writer.JsonWriter.put_number.Goals as goal
use Rattle.c_json.specs.JsonWriter.{JsonLevel, WantsJsonValue}
use Rattle.std.proofs.Common.{List, subst, sym}

pub invariant_of-self-2 : goal.invariant_of-self-2
invariant_of-self-2 c =
    json_begun_number c.u64.result c.self.inside.out c.u64.new.self c.args.number c.ranges.number.fits c.u64.ensures c.self.invariant
    (subst (λ (ls : List JsonLevel). WantsJsonValue ls) (sym c.self.view_is) c.requires)
