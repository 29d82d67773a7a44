-- A text is read as one fingerprint at most, and what is printed is read as itself.
use Rattle.str0m_values.proofs.Common.{◌≡◌, ◌<◌, ℕ, List, [], ◌∷◌, All, length, Some, Result, Ok, Err, arith, refl, sym, ap, ◌∙◌, subst}
use Rattle.str0m_values.proofs.Common.{AllZip, some_pair_parts, none-some, Any, IsErr, IsErrOf, IsErrAnd}
use Rattle.str0m_values.proofs.CutLaws.{cut_at, cut_none}
use Rattle.str0m_values.proofs.FingerprintPairs.{printed_hash_read}
use Rattle.str0m_values.proofs.FingerprintZipLaws.{AllZip-at}
use Rattle.str0m_values.specs.Cuts.{cut}
use Rattle.str0m_values.specs.CutsParts.{Lacks}
use Rattle.str0m_values.specs.Fingerprint.{IsNamed, IsHexByte, hash_pieces, IsFingerprint, HasBadByte, IsBytesReading, IsFingerprintReading}
use Rattle.str0m_values.specs.Fingerprint.{GivesFingerprint, CanFingerprintBeReadBack, fingerprint_text, pairs_text}
use Rattle.str0m_values.specs.declared.fingerprint.Fingerprint.{Fingerprint}
use Rattle.str0m_values.specs.declared.fingerprint.FingerprintError.{FingerprintError}
use Rattle.str0m_values.specs.declared.fingerprint.FingerprintError.TheVariants.{NoSpace, BadByte, Memory}

-- ---- the name

named_cut : (text name rest : List ℕ) → IsNamed text name rest → cut 32 text ≡ Some (name, rest)
named_cut text name rest h = ap (cut 32) h.whole ∙ cut_at 32 name rest h.word

pub named_one : (text a b x y : List ℕ) → IsNamed text a x → IsNamed text b y → (a ≡ b) × (x ≡ y)
named_one text a b x y h k = some_pair_parts a b x y (sym (named_cut text a x h) ∙ named_cut text b y k)

pub named_space : (text name rest : List ℕ) → IsNamed text name rest → ¬ (Lacks 32 text)
named_space text name rest h lacks = none-some (name, rest) (sym (cut_none 32 text lacks) ∙ named_cut text name rest h)

-- ---- the bytes

bytes_one : (pieces : List (List ℕ)) (a b : List ℕ) → AllZip IsHexByte pieces a → AllZip IsHexByte pieces b → a ≡ b
bytes_one [] [] [] h k = refl
bytes_one [] [] (y ∷ ys) h k = absurd k
bytes_one [] (x ∷ xs) b h k = absurd h
bytes_one (piece ∷ pieces) [] b h k = absurd h
bytes_one (piece ∷ pieces) (x ∷ xs) [] h k = absurd k
bytes_one (piece ∷ pieces) (x ∷ xs) (y ∷ ys) h k = grind (arith, bytes_one pieces xs ys h.1 k.1)

-- where each piece is a byte, none is bad
fingerprint_no_bad_hash_piece : (pieces : List (List ℕ)) (bytes : List ℕ) → AllZip IsHexByte pieces bytes
    → Any (λ piece. (byte : ℕ) → ¬ (IsHexByte piece byte)) pieces → ⊥
fingerprint_no_bad_hash_piece pieces bytes h any =
    let at = AllZip-at IsHexByte pieces bytes any.0 any.1 h any.2 in
    any.4 at.0 (rw any.3 at at.1)

-- ---- the whole

same_fingerprint : (text : List ℕ) (f g : Fingerprint) → IsFingerprint text f → IsFingerprint text g → f ≡ g
same_fingerprint text f g h k =
    grind (arith, named_one text f.hash_func g.hash_func h.0 k.0 h.1 k.1, bytes_one (hash_pieces h.0) f.bytes g.bytes h.2)

fingerprint_good : (text : List ℕ) (f : Fingerprint) → IsFingerprint text f → ¬ (HasBadByte text)
fingerprint_good text f h bad = grind (
  arith,
  named_one text f.hash_func bad.0 h.0 bad.1 h.1 bad.2,
  fingerprint_no_bad_hash_piece (hash_pieces h.0) f.bytes h.2,
)

pub one_fingerprint : (text : List ℕ) (r : Result Fingerprint FingerprintError) → IsFingerprintReading text r → (f : Fingerprint)
    → IsFingerprint text f → GivesFingerprint f r
one_fingerprint text (Ok g) h f is = same_fingerprint text g f h is
one_fingerprint text (Err NoSpace) h f is = absurd (named_space text f.hash_func is.0 is.1 h)
one_fingerprint text (Err BadByte) h f is = absurd (fingerprint_good text f is h)
one_fingerprint text (Err Memory) h f is = refl

pub no_space : (text : List ℕ) (r : Result Fingerprint FingerprintError) → IsFingerprintReading text r
    → (IsErrOf r NoSpace → Lacks 32 text) × (Lacks 32 text → IsErrOf r NoSpace)
no_space text r h = grind (arith, named_space)

pub fingerprint_refused : (text : List ℕ) (r : Result Fingerprint FingerprintError) → IsFingerprintReading text r → HasBadByte text
    → IsErr r
fingerprint_refused text (Ok f) h bad = absurd (fingerprint_good text f h bad)
fingerprint_refused text (Err e) h bad = refl

-- a fingerprint with a byte and no space in its name is what its printed text is read as
fingerprint_reads_back : (f : Fingerprint) (bytes : List ℕ) → f.bytes ≡ bytes → CanFingerprintBeReadBack f
    → IsFingerprint (fingerprint_text f) f
fingerprint_reads_back f [] e can = let some = can.some in absurd (omega (arith, ap length e))
fingerprint_reads_back f (first ∷ more) e can =
    let small : All (λ byte. byte < 256) (first ∷ more) = subst (λ (bytes : List ℕ). All (λ byte. byte < 256) bytes) e can.bytes in
    let read = subst (λ (bytes : List ℕ). AllZip IsHexByte (hash_pieces (pairs_text bytes)) bytes) (sym e)
    (printed_hash_read first more small)
    in
    (pairs_text f.bytes, record { whole = refl; word = can.word }, read)

pub fingerprint_itself : (text : List ℕ) (r : Result Fingerprint FingerprintError) → IsFingerprintReading text r → (f : Fingerprint)
    → CanFingerprintBeReadBack f
    → text ≡ fingerprint_text f → GivesFingerprint f r
fingerprint_itself text r h f can e = one_fingerprint text r h f
    (subst (λ (t : List ℕ). IsFingerprint t f) (sym e) (fingerprint_reads_back f f.bytes refl can))

-- ---- what a refusal inside says of the whole

pub bytes_refused : (text name rest : List ℕ) (e : FingerprintError) → IsNamed text name rest → IsBytesReading rest (Err e)
    → IsFingerprintReading text (Err e)
bytes_refused text name rest e named h = grind (arith, named_space)

pub fingerprint_was_err : {T E : Type 0} (r : Result T E) (e : E) → IsErr r × IsErrAnd r (λ x. x ≡ e) → r ≡ Err e
fingerprint_was_err r e h = grind arith
