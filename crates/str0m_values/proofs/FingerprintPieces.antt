-- The pieces of a text, first by first, and the bytes that are read of them.
use Rattle.std.specs.List.{onto_first}
use Rattle.str0m_values.proofs.Common.{◌+◌, suc, Result, Ok, Err}
use Rattle.str0m_values.proofs.Common.{◌≡◌, ◌≢◌, ◌<◌, ℕ, inl, inr, List, [], ◌∷◌, ◌++◌, length, get_or, drop, Option, Some, None}
use Rattle.str0m_values.proofs.Common.{arith, refl, sym, ap, ◌∙◌, subst, append_assoc, cases_eq, eq-eqb, ne_eqb, none-some, digit_value}
use Rattle.str0m_values.proofs.Common.{AllZip}
use Rattle.str0m_values.proofs.Common.{IfSome, IsSome, some_pair_parts, length-append}
use Rattle.str0m_values.proofs.CutLaws.{before_cut_some, before_cut_none}
use Rattle.str0m_values.proofs.FingerprintPairs.{two_digits_read}
use Rattle.str0m_values.proofs.FingerprintZipLaws.{AllZip-push}
use Rattle.str0m_values.specs.Cuts.{cut, IsTheOnly}
use Rattle.str0m_values.specs.Fingerprint.{IsBytesReading, IsBytesReadingAfter}
use Rattle.str0m_values.specs.Fingerprint.{IsHexByte, IsFingerprintWrittenBy, HasBadHashPiece, IsHashFront, hash_pieces, hash_pieces_after}
use Rattle.str0m_values.specs.declared.fingerprint.FingerprintError.{FingerprintError}
use Rattle.str0m_values.specs.declared.fingerprint.FingerprintError.TheVariants.{NoSpace, BadByte, Memory}

-- ---- the first piece

-- it reaches to the first `:`
pub hash_front_cut : (text piece rest : List ℕ) → cut 58 text ≡ Some (piece, rest) → hash_pieces text ≡ piece ∷ hash_pieces rest
hash_front_cut [] piece rest e = absurd cc
hash_front_cut (x ∷ xs) piece rest e =
    elim (cases_eq x 58) [
      | inl same ↦ let pair = some_pair_parts [] piece xs rest (rw (eq-eqb x 58 same) at e) in
          rw (eq-eqb x 58 same, ← pair.0, ← pair.1) refl
      | inr other ↦
          let p = before_cut_some x (cut 58 xs) piece rest (rw (ne_eqb x 58 other) at e) in
          rw (ne_eqb x 58 other) (ap (onto_first x) (hash_front_cut xs p.0 rest p.1) ∙ ap (λ front. front ∷ hash_pieces rest) p.2)
    ]

-- or is the whole
pub hash_front_whole : (text : List ℕ) → cut 58 text ≡ None → hash_pieces text ≡ text ∷ []
hash_front_whole [] e = refl
hash_front_whole (x ∷ xs) e =
    elim (cases_eq x 58) [
      | inl same ↦ absurd (none-some ([], xs) (sym (rw (eq-eqb x 58 same) at e)))
      | inr other ↦ rw (ne_eqb x 58 other, hash_front_whole xs (before_cut_none x (cut 58 xs) (rw (ne_eqb x 58 other) at e))) refl
    ]

-- ---- two hex digits

-- a hex digit is no character that isn't a digit
digit_apart : (c digit : ℕ) → digit_value c ≡ 36 → digit_value digit < 16 → digit ≢ c
digit_apart c digit far lt = λ e. omega (arith, ap digit_value e, far, lt)

-- they read as the byte that they write, and as no other
written_pair_only : (high low byte : ℕ) → IsFingerprintWrittenBy high low byte → IsTheOnly (IsHexByte (high ∷ low ∷ [])) (Some byte)
written_pair_only high low byte h =
    let read = two_digits_read high low _ _ byte (digit_apart 43 high refl h.0) refl refl h.0 h.1 (sym h.2) in
    record { found = read; only = λ other is. ap Some (sym read.value ∙ is.value) }

hash_pair_alone : (text : List ℕ) (byte : ℕ) → length text ≡ 2 → IsFingerprintWrittenBy (get_or text 0 0) (get_or text 1 0) byte
    → IsHashFront text (Some byte) None
hash_pair_alone [] byte two h = absurd (omega (arith, two))
hash_pair_alone (high ∷ []) byte two h = absurd (omega (arith, two))
hash_pair_alone (high ∷ low ∷ []) byte two h =
    let e : hash_pieces (high ∷ low ∷ []) ≡ (high ∷ low ∷ []) ∷ [] =
    rw (ne_eqb high 58 (digit_apart 58 high refl h.0), ne_eqb low 58 (digit_apart 58 low refl h.1)) refl in
    (high ∷ low ∷ [], e, written_pair_only high low byte h)
hash_pair_alone (high ∷ low ∷ more ∷ rest) byte two h = absurd (omega (arith, two))

pub hash_pair_last : (text : List ℕ) (byte : Option ℕ) → length text ≡ 2
    → IfSome byte (IsFingerprintWrittenBy (get_or text 0 0) (get_or text 1 0)) → IfSome byte (λ b. IsHashFront text (Some b) None)
hash_pair_last text None two h = tt
hash_pair_last text (Some byte) two h = hash_pair_alone text byte two h

pub hash_pair_front : (text : List ℕ) (byte : Option ℕ) → 2 < length text → get_or text 2 0 ≡ 58
    → IfSome byte (IsFingerprintWrittenBy (get_or text 0 0) (get_or text 1 0)) → IsSome byte → IsHashFront text byte (Some (drop 3 text))
hash_pair_front [] byte long is h some = absurd (omega (arith, long))
hash_pair_front (high ∷ []) byte long is h some = absurd (omega (arith, long))
hash_pair_front (high ∷ low ∷ []) byte long is h some = absurd (omega (arith, long))
hash_pair_front (high ∷ low ∷ colon ∷ rest) None long is h some = absurd cc
hash_pair_front (high ∷ low ∷ colon ∷ rest) (Some byte) long is h some =
    let e : hash_pieces (high ∷ low ∷ colon ∷ rest) ≡ (high ∷ low ∷ []) ∷ hash_pieces rest =
    rw (ne_eqb high 58 (digit_apart 58 high refl h.0), ne_eqb low 58 (digit_apart 58 low refl h.1), eq-eqb colon 58 is) refl in
    (high ∷ low ∷ [], e, written_pair_only high low byte h)

-- ---- the loop over the pieces

-- the pieces before what is left are these bytes
abbrev pub AreHashBytesBefore : List ℕ → List ℕ → List ℕ → Type 0
AreHashBytesBefore text left bytes = (pieces : List (List ℕ)) × (hash_pieces text ≡ pieces ++ hash_pieces left)
    × AllZip IsHexByte pieces bytes

pub hash_bytes_more : (text left rest bytes : List ℕ) (byte : ℕ) → AreHashBytesBefore text left bytes
    → IsHashFront left (Some byte) (Some rest)
    → AreHashBytesBefore text rest (bytes ++ byte ∷ [])
hash_bytes_more text left rest bytes byte h front = (
  h.0 ++ front.0 ∷ [],
  h.1 ∙ (ap (λ l. h.0 ++ l) front.1 ∙ sym (append_assoc h.0 (front.0 ∷ []) (hash_pieces rest))),
  AllZip-push IsHexByte h.0 bytes front.0 byte h.2 front.2.found,
)

pub hash_bytes_all : (text left bytes : List ℕ) (byte : ℕ) → AreHashBytesBefore text left bytes → IsHashFront left (Some byte) None
    → AllZip IsHexByte (hash_pieces text) (bytes ++ byte ∷ [])
hash_bytes_all text left bytes byte h front =
    subst (λ (pieces : List (List ℕ)). AllZip IsHexByte pieces (bytes ++ byte ∷ [])) (sym (h.1 ∙ ap (λ l. h.0 ++ l) front.1))
    (AllZip-push IsHexByte h.0 bytes front.0 byte h.2 front.2.found)

hash_piece_there : (before : List (List ℕ)) (piece : List ℕ) (after : List (List ℕ))
    → get_or (before ++ piece ∷ after) (length before) piece ≡ piece
hash_piece_there [] piece after = refl
hash_piece_there (first ∷ before) piece after = hash_piece_there before piece after

-- a piece that is no byte stands in the text
pub hash_bytes_bad : (text left bytes : List ℕ) (rest : Option (List ℕ)) → AreHashBytesBefore text left bytes → IsHashFront left None rest
    → HasBadHashPiece text
hash_bytes_bad text left bytes rest h front =
    let e = h.1 ∙ ap (λ l. h.0 ++ l) front.1 in
    rw e (
      length h.0,
      front.0,
      omega (arith, length-append h.0 (front.0 ∷ hash_pieces_after rest)),
      hash_piece_there h.0 front.0 (hash_pieces_after rest),
      λ byte is. none-some byte (front.2.only byte is),
    )

-- ---- what is read of the rest is read of the whole

AllZip-append : (pieces others : List (List ℕ)) (bytes more : List ℕ) → AllZip IsHexByte pieces bytes → AllZip IsHexByte others more
    → AllZip IsHexByte (pieces ++ others) (bytes ++ more)
AllZip-append [] others [] more h k = k
AllZip-append [] others (byte ∷ bytes) more h k = absurd h
AllZip-append (piece ∷ pieces) others [] more h k = absurd h
AllZip-append (piece ∷ pieces) others (byte ∷ bytes) more h k = (h.0, AllZip-append pieces others bytes more h.1 k)

hash_piece_behind : (before after : List (List ℕ)) (k : ℕ) (d : List ℕ) → get_or (before ++ after) (length before + k) d ≡ get_or after k d
hash_piece_behind [] after k d = ap (λ n. get_or after n d) (omega arith)
hash_piece_behind (first ∷ before) after k d =
    let e : suc (length before) + k ≡ suc (length before + k) = omega arith in
    ap (λ n. get_or (first ∷ before ++ after) n d) e ∙ hash_piece_behind before after k d

hash_rest_bad : (text left bytes : List ℕ) → AreHashBytesBefore text left bytes → HasBadHashPiece left → HasBadHashPiece text
hash_rest_bad text left bytes h bad = rw h.1 (
  length h.0 + bad.0,
  bad.1,
  omega (arith, length-append h.0 (hash_pieces left), bad.2),
  hash_piece_behind h.0 (hash_pieces left) bad.0 bad.1 ∙ bad.3,
  bad.4,
)

pub hash_rest_read : (text left bytes : List ℕ) (r : Result (List ℕ) FingerprintError) → AreHashBytesBefore text left bytes
    → IsBytesReadingAfter bytes left r → IsBytesReading text r
hash_rest_read text left bytes (Ok all) h read =
    rw (read.1, h.1) (AllZip-append h.0 (hash_pieces left) bytes read.0 h.2 read.2)
hash_rest_read text left bytes (Err NoSpace) h read = read
hash_rest_read text left bytes (Err BadByte) h read = hash_rest_bad text left bytes h read
hash_rest_read text left bytes (Err Memory) h read = tt
