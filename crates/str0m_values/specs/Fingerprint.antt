-- Fingerprints of certificates in texts (RFC 8122, section 5).
use Rattle.std.specs.Char.{digit_value}
use Rattle.std.specs.Fmt.{digit_glyph}
use Rattle.std.specs.List.{AllZip, slice_split}
use Rattle.std.specs.Prelude.{◌≡◌, ◌<◌, ◌==◌, ◌+◌, ◌*◌, ◌/◌, ◌%◌, ⊤, ℕ, true, List, [], ◌∷◌, ◌++◌, length, All, Any, Option, Some, None, Result, Ok, Err, codes, if◌then◌else◌, flat_map}
use Rattle.std.specs.Str.{str_eq_ignore_ascii_case}
use Rattle.str0m_values.specs.Cuts.{IsTheOnly}
use Rattle.str0m_values.specs.CutsParts.{Lacks, IsNumber}
use Rattle.str0m_values.specs.declared.fingerprint.Fingerprint.{Fingerprint}
use Rattle.str0m_values.specs.declared.fingerprint.FingerprintError.{FingerprintError}
use Rattle.str0m_values.specs.declared.fingerprint.FingerprintError.TheVariants.{NoSpace, BadByte, Memory}

-- ---- printed

-- a byte as two upper-case hex digits
abbrev pub hex_pair : ℕ → List ℕ
hex_pair byte = digit_glyph true (byte / 16) ∷ digit_glyph true (byte % 16) ∷ []

-- bytes as such pairs, with `:` before each but the first
abbrev pub pairs_text : List ℕ → List ℕ
pairs_text [] = []
pairs_text (first ∷ more) = hex_pair first ++ flat_map (λ byte. 58 ∷ hex_pair byte) more

-- the name, a space, and the bytes
abbrev pub fingerprint_text : Fingerprint → List ℕ
fingerprint_text f = f.hash_func ++ (32 ∷ pairs_text f.bytes)

-- ---- read

-- the text is a name that holds no space, a space, and a rest
pub record IsNamed (text name rest : List ℕ) : Type 0 where
  pub whole : text ≡ name ++ (32 ∷ rest)
  pub word : Lacks 32 name

-- what stands between the `:`s
abbrev pub hash_pieces : List ℕ → List (List ℕ)
hash_pieces text = slice_split (λ b. b == 58) text

-- the piece is the byte, in hexadecimal as std reads it
abbrev pub IsHexByte : List ℕ → ℕ → Type 0
IsHexByte piece byte = IsNumber 16 255 piece byte

-- the two characters are hex digits that write the byte
abbrev pub IsFingerprintWrittenBy : ℕ → ℕ → ℕ → Type 0
IsFingerprintWrittenBy high low byte = (digit_value high < 16) × (digit_value low < 16) × (byte ≡ digit_value high * 16 + digit_value low)

-- the text is read as this fingerprint
abbrev pub IsFingerprint : List ℕ → Fingerprint → Type 0
IsFingerprint text f = (rest : List ℕ) × IsNamed text f.hash_func rest × AllZip IsHexByte (hash_pieces rest) f.bytes

-- some piece of the text is no byte
abbrev pub HasBadHashPiece : List ℕ → Type 0
HasBadHashPiece text = Any (λ piece. (byte : ℕ) → ¬ (IsHexByte piece byte)) (hash_pieces text)

-- some piece after the first space is no byte
abbrev pub HasBadByte : List ℕ → Type 0
HasBadByte text = (name : List ℕ) × (rest : List ℕ) × IsNamed text name rest × HasBadHashPiece rest

-- the answer is this fingerprint, memory aside
abbrev pub GivesFingerprint : Fingerprint → Result Fingerprint FingerprintError → Type 0
GivesFingerprint f (Ok g) = g ≡ f
GivesFingerprint f (Err e) = e ≡ Memory

-- the pieces that follow the first
abbrev pub hash_pieces_after : Option (List ℕ) → List (List ℕ)
hash_pieces_after None = []
hash_pieces_after (Some rest) = hash_pieces rest

-- the byte of the text's first piece, if it is one, and what follows the piece's `:`, if any
abbrev pub IsHashFront : List ℕ → Option ℕ → Option (List ℕ) → Type 0
IsHashFront text byte rest = (piece : List ℕ) × (hash_pieces text ≡ piece ∷ hash_pieces_after rest) × IsTheOnly (IsHexByte piece) byte

-- what the bytes of a text are read as, or why they aren't
abbrev pub IsBytesReading : List ℕ → Result (List ℕ) FingerprintError → Type 0
IsBytesReading text (Ok bytes) = AllZip IsHexByte (hash_pieces text) bytes
IsBytesReading text (Err NoSpace) = ⊥
IsBytesReading text (Err BadByte) = HasBadHashPiece text
IsBytesReading text (Err Memory) = ⊤

-- the same where bytes stand before
abbrev pub IsBytesReadingAfter : List ℕ → List ℕ → Result (List ℕ) FingerprintError → Type 0
IsBytesReadingAfter before text (Ok bytes) = (more : List ℕ) × (bytes ≡ before ++ more) × AllZip IsHexByte (hash_pieces text) more
IsBytesReadingAfter before text (Err e) = IsBytesReading text (Err e)

-- what a text is read as, or why it isn't; memory is asked for only after a space
abbrev pub IsFingerprintReading : List ℕ → Result Fingerprint FingerprintError → Type 0
IsFingerprintReading text (Ok f) = IsFingerprint text f
IsFingerprintReading text (Err NoSpace) = Lacks 32 text
IsFingerprintReading text (Err BadByte) = HasBadByte text
IsFingerprintReading text (Err Memory) = ¬ (Lacks 32 text)

-- ---- printed and read

-- what is needed for the printed text to read as the fingerprint: a name that holds no space, and a byte
pub record CanFingerprintBeReadBack (f : Fingerprint) : Type 0 where
  pub word : Lacks 32 f.hash_func
  pub some : 0 < length f.bytes
  pub bytes : All (λ byte. byte < 256) f.bytes

-- ---- preferred

-- the place of a hash function in the order of preference
abbrev pub hash_preference_of : List ℕ → ℕ
hash_preference_of name =
    if str_eq_ignore_ascii_case name (codes "sha-256") then 0
    else (if str_eq_ignore_ascii_case name (codes "sha-1") then 1 else 2)
