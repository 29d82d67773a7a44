use Rattle.str0m_values.proofs.FingerprintLaws as laws
use Rattle.str0m_values.proofs.fingerprint.Fingerprint.from_str.Goals as goal

pub returns-clause-only : goal.returns-clause-only
returns-clause-only c = laws.one_fingerprint c.args.text.now c.read_fingerprint.result c.read_fingerprint.ensures

pub returns-clause-no_space : goal.returns-clause-no_space
returns-clause-no_space c = laws.no_space c.args.text.now c.read_fingerprint.result c.read_fingerprint.ensures

pub returns-clause-refuses : goal.returns-clause-refuses
returns-clause-refuses c = laws.fingerprint_refused c.args.text.now c.read_fingerprint.result c.read_fingerprint.ensures

pub returns-clause-itself : goal.returns-clause-itself
returns-clause-itself c = laws.fingerprint_itself c.args.text.now c.read_fingerprint.result c.read_fingerprint.ensures
