-- Pairs that stand one after the other are read one by one, exactly where each stands.
use Rattle.str0m_signal.proofs.Common.{◌≡◌, ℕ, zero, suc, ◌<◌, List, [], ◌∷◌, length, Option, Some, None, refl, subst, arith, ◌>>=◌}
use Rattle.str0m_signal.proofs.Common.{cuts_bind_some, cuts_some_is, Pairs}
use Rattle.str0m_signal.specs.form.Fmtp.{AreFmtpPairsOneByOne}
use Rattle.str0m_signal.specs.form.FmtpReading.{fmtp_pairs_after, fmtp_pairs_at}

-- what is read of the rest of a text is in Q
abbrev pub LeftPairs : (List ℕ → Option ((List ℕ × List ℕ) × Option (List ℕ))) → (Option Pairs → Type 0) → List ℕ → Type 0
LeftPairs read Q rest = (k : ℕ) × (length rest < k) × Q (fmtp_pairs_at read k rest)

-- so are these, once this was read of it
abbrev pub NextPair : (List ℕ → Option ((List ℕ × List ℕ) × Option (List ℕ))) → (Option Pairs → Type 0)
    → Option ((List ℕ × List ℕ) × Option (List ℕ)) → Type 0
NextPair read Q None = Q None
NextPair read Q (Some (pair, None)) = Q (Some (pair ∷ []))
NextPair read Q (Some (pair, Some more)) = LeftPairs read (λ o. Q (o >>= λ pairs. Some (pair ∷ pairs))) more

module _ (read : List ℕ → Option ((List ℕ × List ℕ) × Option (List ℕ)))
    (shorter : (text : List ℕ) (pair : List ℕ × List ℕ) (more : List ℕ) → read text ≡ Some (pair, Some more) → length more < length text)
  where
    pair_step : (Q : Option Pairs → Type 0) (rest : List ℕ) (k : ℕ) (o : Option ((List ℕ × List ℕ) × Option (List ℕ)))
        → read rest ≡ o → length rest < k → Q (fmtp_pairs_at read k rest) → NextPair read Q o
    unfolding fmtp_pairs_at
    pair_step Q rest zero o e lt so_far = absurd (omega arith)
    pair_step Q rest (suc k) None e lt so_far = let one : fmtp_pairs_at read (suc k) rest ≡ None = rw e refl in subst Q one so_far
    pair_step Q rest (suc k) (Some (pair, None)) e lt so_far = let one : fmtp_pairs_at read (suc k) rest ≡ Some (pair ∷ []) = rw e refl in
        subst Q one so_far
    pair_step Q rest (suc k) (Some (pair, Some more)) e lt so_far =
        let one : fmtp_pairs_at read (suc k) rest ≡ (fmtp_pairs_at read k more >>= λ pairs. Some (pair ∷ pairs)) = rw e refl in
        (k, omega (arith, shorter rest pair more e), subst Q one so_far)

    pub next_pair_of : (Q : Option Pairs → Type 0) (rest : List ℕ) (o : Option ((List ℕ × List ℕ) × Option (List ℕ))) → read rest ≡ o
        → LeftPairs read Q rest → NextPair read Q o
    next_pair_of Q rest o e left = pair_step Q rest left.0 o e left.1 left.2

    module _ (F : List ℕ → List ℕ × List ℕ → Option (List ℕ) → Type 0)
        (sound : (text : List ℕ) (pair : List ℕ × List ℕ) (next : Option (List ℕ)) → read text ≡ Some (pair, next) → F text pair next)
        (complete : (text : List ℕ) (pair : List ℕ × List ℕ) (next : Option (List ℕ)) → F text pair next → read text ≡ Some (pair, next))
      where
        pair_more : (text : List ℕ) (p : List ℕ × List ℕ) (more : List ℕ) (qs : Pairs) → F text p (Some more)
            → AreFmtpPairsOneByOne F more qs
            → AreFmtpPairsOneByOne F text (p ∷ qs)
        pair_more text p more [] h k = absurd k
        pair_more text p more (q ∷ qs) h k = (more, h, k)

        pub all_pairs_found : (n : ℕ) (text : List ℕ) (pairs : Pairs) → fmtp_pairs_at read n text ≡ Some pairs
            → AreFmtpPairsOneByOne F text pairs
        unfolding fmtp_pairs_at
        all_pairs_found zero text pairs e = absurd cc
        all_pairs_found (suc n) text pairs e =
            let a = cuts_bind_some (read text) (λ p. fmtp_pairs_after (fmtp_pairs_at read n) p.0 p.1) pairs e in
            go a.0.0 a.0.1 (sound text a.0.0 a.0.1 a.1) a.2 (all_pairs_found n)
          where
            go : (p : List ℕ × List ℕ) (next : Option (List ℕ)) → F text p next
                → fmtp_pairs_after (fmtp_pairs_at read n) p next ≡ Some pairs
                → ((more : List ℕ) (ps : Pairs) → fmtp_pairs_at read n more ≡ Some ps → AreFmtpPairsOneByOne F more ps)
                → AreFmtpPairsOneByOne F text pairs
            go p None h e again = subst (AreFmtpPairsOneByOne F text) (cuts_some_is (p ∷ []) pairs e) h
            go p (Some more) h e again =
                let b = cuts_bind_some (fmtp_pairs_at read n more) (λ ps. Some (p ∷ ps)) pairs e in
                subst (AreFmtpPairsOneByOne F text) (cuts_some_is (p ∷ b.0) pairs b.2) (pair_more text p more b.0 h (again more b.0 b.1))

        pub all_pairs_given : (pairs : Pairs) (n : ℕ) (text : List ℕ) → AreFmtpPairsOneByOne F text pairs → length text < n
            → fmtp_pairs_at read n text ≡ Some pairs
        unfolding fmtp_pairs_at
        all_pairs_given pairs zero text h lt = absurd (omega arith)
        all_pairs_given [] (suc n) text h lt = absurd h
        all_pairs_given (p ∷ []) (suc n) text h lt = rw (complete text p None h) refl
        all_pairs_given (p ∷ (q ∷ qs)) (suc n) text h lt =
            let one = complete text p (Some h.0) h.1 in
            let again = all_pairs_given (q ∷ qs) n h.0 h.2 (omega (arith, shorter text p h.0 one)) in
            rw (one, again) refl
