-- Texts that stand in a list, one of which is refused.
use Rattle.c_parts.specs.Fault.{FaultRefusesBytes}
use Rattle.c_parts.specs.Side.{RefusesSideCandidate, RefusesSideCandidates, RefusesSideList, listed_texts}
use Rattle.c_parts.specs.declared.fault.Fault.{Fault}
use Rattle.c_parts.specs.declared.fault.Fault.TheVariants.{NotUtf8, NoFingerprint, NoCandidate, Refused}
use Rattle.exchange.specs.declared.state.exchange_error.ExchangeError.TheVariants.{Memory}
use Rattle.exchange.specs.section.Trickled.{IsTrickled}
use Rattle.std.proofs.Common.{◌≡◌, ◌<◌, ◌+◌, ℕ, List, [], ◌∷◌, ◌++◌, arith, get_or, length, subst, sym, take}
use Rattle.std.proofs.lemmas.Grind.{common_steps}
use Rattle.std.proofs.lemmas.List.{get_or-map, length-map}
use Rattle.std.proofs.lemmas.List.Elements.{All-get_or}
use Rattle.std.specs.Borrow.{Bor}
use Rattle.std.specs.List.{AllZip}
use Rattle.std.specs.Str.{IsUtf8}
use Rattle.str0m_values.proofs.FingerprintZipLaws.{AllZip-at, AllZip-push}
use Rattle.str0m_values.specs.declared.candidate.Candidate.{Candidate}

-- the text at a place of the list
listed_text_at : (texts : List (Bor (List ℕ))) (i : ℕ) (d : Bor (List ℕ)) → i < length texts
    → get_or (listed_texts texts) i d.now ≡ (get_or texts i d).now
listed_text_at texts i d lt = get_or-map (λ (text : Bor (List ℕ)). text.now) texts i d d.now lt

inside_listed : (texts : List (Bor (List ℕ))) (i : ℕ) → i < length texts → i < length (listed_texts texts)
inside_listed texts i lt = grind (arith, lt, length-map texts (λ (text : Bor (List ℕ)). text.now))

-- one that isn't UTF-8 isn't in a list of texts that are
pub list_refused : (texts : List (Bor (List ℕ))) (i : ℕ) (d : Bor (List ℕ)) → i < length texts
    → (fault : Fault) → FaultRefusesBytes (get_or texts i d).now (λ error. error ≡ Memory) fault
    → RefusesSideList (listed_texts texts) fault
list_refused texts i d lt NotUtf8 so = λ all. so
    (subst IsUtf8 (listed_text_at texts i d lt) (All-get_or IsUtf8 (listed_texts texts) i d.now (inside_listed texts i lt) all))
list_refused texts i d lt NoFingerprint so = so
list_refused texts i d lt NoCandidate so = so
list_refused texts i d lt (Refused error) so = so

-- one that is no candidate isn't in a list of lines that are
pub listed_candidates_refused : (lines : List (Bor (List ℕ))) (i : ℕ) (d : Bor (List ℕ)) → i < length lines
    → (fault : Fault) → RefusesSideCandidate (get_or lines i d).now fault → RefusesSideCandidates (listed_texts lines) fault
listed_candidates_refused lines i d lt NotUtf8 so = λ all. so
    (subst IsUtf8 (listed_text_at lines i d lt) (All-get_or IsUtf8 (listed_texts lines) i d.now (inside_listed lines i lt) all))
listed_candidates_refused lines i d lt NoFingerprint so = so
listed_candidates_refused lines i d lt NoCandidate so = λ candidates zip.
    let found = AllZip-at IsTrickled (listed_texts lines) candidates i d.now zip (inside_listed lines i lt) in
    so found.0 (subst (λ (text : List ℕ). IsTrickled text found.0) (listed_text_at lines i d lt) found.1)
listed_candidates_refused lines i d lt (Refused error) so = so

-- one line more, which is a candidate
pub listed_candidates_more : (lines : List (Bor (List ℕ))) (i : ℕ) (d : Bor (List ℕ)) → i < length lines
    → (candidates : List Candidate) (candidate : Candidate) → AllZip IsTrickled (listed_texts (take i lines)) candidates
    → IsTrickled (get_or lines i d).now candidate
    → AllZip IsTrickled (listed_texts (take (i + 1) lines)) (candidates ++ candidate ∷ [])
listed_candidates_more lines i d lt candidates candidate zip so =
    let more : listed_texts (take (i + 1) lines) ≡ listed_texts (take i lines) ++ (get_or lines i d).now ∷ [] =
    grind (arith, common_steps, lt) in
    subst (λ (texts : List (List ℕ)). AllZip IsTrickled texts (candidates ++ candidate ∷ [])) (sym more)
    (AllZip-push IsTrickled (listed_texts (take i lines)) candidates (get_or lines i d).now candidate zip so)
