-- The ids that a generator draws: which words it gives, and which letters they stand for.
use Rattle.rand_core.specs.Stream.{Stream, next_u32}
use Rattle.std.specs.Prelude.{ℕ, zero, suc, ◌%◌, List, [], ◌∷◌, map, codes, slice_index}

-- the next n words of a generator
unfoldable pub msid_drawn_words : ℕ → Stream → List ℕ
msid_drawn_words zero stream = []
msid_drawn_words (suc n) stream = (next_u32 stream).0 ∷ msid_drawn_words n (next_u32 stream).1

-- what a generator will answer once n words are drawn
unfoldable pub after_msid_drawn_words : ℕ → Stream → Stream
after_msid_drawn_words zero stream = stream
after_msid_drawn_words (suc n) stream = after_msid_drawn_words n (next_u32 stream).1

-- the letter of a word: its rest modulo 62 in 0 to 9, A to Z, a to z
unfoldable pub msid_letter_of : ℕ → ℕ
msid_letter_of word = slice_index (codes "0123456789ABCDEFGHIJKLMNOPQRSTUVWXYZabcdefghijklmnopqrstuvwxyz") (word % 62)

-- an id, whose 30 letters are token characters (RFC 8830, section 2): those of the next 30 words
abbrev pub random_id : Stream → List ℕ
random_id stream = map msid_letter_of (msid_drawn_words 30 stream)
