use Rattle.str0m_values.proofs.Common.{sym}
use Rattle.str0m_values.proofs.CutLaws.{cut_none_lacks, cut_found}
use Rattle.str0m_values.proofs.FingerprintLaws.{bytes_refused, fingerprint_was_err, named_space}
use Rattle.str0m_values.proofs.fingerprint.read_fingerprint.Goals as goal
use Rattle.str0m_values.specs.declared.fingerprint.FingerprintError.TheVariants.{Memory}

pub returns-in_default : goal.returns-in_default
returns-in_default c = cut_none_lacks 32 c.args.text.now (sym c.in_default.ensures)

pub returns-in_err-bytes : goal.returns-in_err-bytes
returns-in_err-bytes c =
    let found = cut_found 32 c.args.text.now c.in-Some.name.now c.in-Some.rest.now (sym c.in-Some.ensures) in
    rw (fingerprint_was_err c.from_residual.result _ c.from_residual.ensures)
    (bytes_refused c.args.text.now c.in-Some.name.now c.in-Some.rest.now c.in_err-bytes.field-0.0
    (record { whole = found.0; word = found.1 }) c.in_err-bytes.ensures)

pub returns-in_err-hash_func : goal.returns-in_err-hash_func
returns-in_err-hash_func c =
    let found = cut_found 32 c.args.text.now c.in-Some.name.now c.in-Some.rest.now (sym c.in-Some.ensures) in
    rw (fingerprint_was_err c.from_residual-in_err-hash_func.result Memory c.from_residual-in_err-hash_func.ensures)
    (named_space c.args.text.now c.in-Some.name.now c.in-Some.rest.now (record { whole = found.0; word = found.1 }))

pub returns : goal.returns
returns c =
    let found = cut_found 32 c.args.text.now c.in-Some.name.now c.in-Some.rest.now (sym c.in-Some.ensures) in
    let e = c.in_ok-hash_func.ensures.copy in
    (c.in-Some.rest.now, record { whole = rw e found.0; word = rw e found.1 }, c.in_ok-bytes.ensures)
