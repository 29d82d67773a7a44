use Rattle.str0m_values.proofs.Common.{sym, arith, length-append}
use Rattle.str0m_values.proofs.CutLaws.{cut_found}
use Rattle.str0m_values.proofs.FingerprintPieces.{hash_front_cut, hash_front_whole}
use Rattle.str0m_values.proofs.fingerprint.first_hash_byte.Goals as goal

pub returns-in-Some-clause-front : goal.returns-in-Some-clause-front
returns-in-Some-clause-front c = (
  c.in-Some.piece.now,
  hash_front_cut c.args.text.now c.in-Some.piece.now c.in-Some.rest.now (sym c.in-Some.ensures),
  c.hex_u8.ensures,
)

pub returns-in-Some-clause-shorter : goal.returns-in-Some-clause-shorter
returns-in-Some-clause-shorter c =
    let found = cut_found 58 c.args.text.now c.in-Some.piece.now c.in-Some.rest.now (sym c.in-Some.ensures) in
    rw found.0 (omega (arith, length-append c.in-Some.piece.now))

pub returns-in-None-clause-front : goal.returns-in-None-clause-front
returns-in-None-clause-front c = (c.args.text.now, hash_front_whole c.args.text.now (sym c.in-None.ensures), c.hex_u8-in-None.ensures)
