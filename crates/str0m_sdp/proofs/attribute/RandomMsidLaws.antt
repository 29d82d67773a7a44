-- One more word at the end of those drawn, and that each letter is ASCII.
use Rattle.rand_core.specs.Stream.{Stream, next_u32}
use Rattle.str0m_sdp.proofs.Common.{◌≡◌, ℕ, zero, suc, ◌+◌, ◌<◌, ◌++◌, [], ◌∷◌, List, refl, ap, arith, map, ◌∙◌, codes, nat_lt, ltb-true}
use Rattle.str0m_sdp.proofs.Common.{map-append, ◌%◌, add-one, add-zero, add-suc, AllPass, AllPass-from_list_all}
use Rattle.str0m_sdp.specs.attribute.RandomMsid.{msid_drawn_words, after_msid_drawn_words, msid_letter_of}

msid_drawn_words-none : (stream : Stream) → msid_drawn_words 0 stream ≡ []
unfolding msid_drawn_words
msid_drawn_words-none stream = refl

pub after_msid_drawn_words-none : (stream : Stream) → after_msid_drawn_words 0 stream ≡ stream
unfolding after_msid_drawn_words
after_msid_drawn_words-none stream = refl

-- no letter of no word
pub no_msid_letters : (text : List ℕ) (stream : Stream) → text ≡ [] → text ≡ map msid_letter_of (msid_drawn_words 0 stream)
no_msid_letters text stream empty = rw (msid_drawn_words-none, empty) refl

msid_drawn_words-more : (n : ℕ) (stream : Stream) → msid_drawn_words (suc n) stream ≡ msid_drawn_words n stream
    ++ (next_u32 (after_msid_drawn_words n stream)).0 ∷ []
unfolding msid_drawn_words after_msid_drawn_words
msid_drawn_words-more zero stream = refl
msid_drawn_words-more (suc n) stream = ap (λ rest. (next_u32 stream).0 ∷ rest) (msid_drawn_words-more n (next_u32 stream).1)

after_msid_drawn_words-more : (n : ℕ) (stream : Stream) → after_msid_drawn_words (suc n) stream
    ≡ (next_u32 (after_msid_drawn_words n stream)).1
unfolding after_msid_drawn_words
after_msid_drawn_words-more zero stream = refl
after_msid_drawn_words-more (suc n) stream = after_msid_drawn_words-more n (next_u32 stream).1

-- one more letter, of one more word
pub one_more_msid_letter : (old new : List ℕ) (n word letter : ℕ) (first now : Stream) → old ≡ map msid_letter_of (msid_drawn_words n first)
    → now ≡ after_msid_drawn_words n first → word ≡ (next_u32 now).0 → letter ≡ msid_letter_of word → new ≡ old ++ letter ∷ []
    → new ≡ map msid_letter_of (msid_drawn_words (n + 1) first)
one_more_msid_letter old new n word letter first now so_far at drawn is pushed =
    grind (
      arith,
      add-one,
      msid_drawn_words-more n first,
      map-append msid_letter_of (msid_drawn_words n first)
          ((next_u32 (after_msid_drawn_words n first)).0 ∷ []),
    )

pub one_more_msid_word : (n : ℕ) (first now next : Stream) → now ≡ after_msid_drawn_words n first → next ≡ (next_u32 now).1
    → next ≡ after_msid_drawn_words (n + 1) first
one_more_msid_word n first now next at drawn = rw (add-one, after_msid_drawn_words-more n first, drawn, at) refl

-- n words and then m
pub msid_words_twice : (m n : ℕ) (stream : Stream) → after_msid_drawn_words m (after_msid_drawn_words n stream)
    ≡ after_msid_drawn_words (m + n) stream
unfolding after_msid_drawn_words
msid_words_twice m zero stream = rw add-zero refl
msid_words_twice m (suc n) stream = msid_words_twice m n (next_u32 stream).1 ∙ rw (add-suc m n) refl

msid_letters_ascii : AllPass (λ letter. nat_lt letter 128) (codes "0123456789ABCDEFGHIJKLMNOPQRSTUVWXYZabcdefghijklmnopqrstuvwxyz")
msid_letters_ascii = AllPass-from_list_all (λ letter. nat_lt letter 128)
    (codes "0123456789ABCDEFGHIJKLMNOPQRSTUVWXYZabcdefghijklmnopqrstuvwxyz")
    refl

pub msid_letter_of-ascii : (word : ℕ) → msid_letter_of word < 128
unfolding msid_letter_of
msid_letter_of-ascii word = ltb-true _ _ (msid_letters_ascii (word % 62) 0 (omega arith))
