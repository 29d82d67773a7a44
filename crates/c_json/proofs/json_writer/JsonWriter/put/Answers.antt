use Rattle.c_json.proofs.JsonWriterLaws.{json_begun_token}
use Rattle.c_json.proofs.json_writer.JsonWriter.put.Goals as goal
use Rattle.c_json.specs.JsonWriter.{JsonLevel, MayBeJson}
use Rattle.json.specs.Reads.{token_of}
use Rattle.std.proofs.Common.{List, subst, sym}

pub invariant_of-self-2 : goal.invariant_of-self-2
invariant_of-self-2 c =
    json_begun_token c.token.result c.self.inside.out c.token.new.self (token_of c.args.token) c.token.ensures c.self.invariant
    (subst (λ (ls : List JsonLevel). MayBeJson ls (token_of c.args.token)) (sym c.self.view_is) c.requires)
