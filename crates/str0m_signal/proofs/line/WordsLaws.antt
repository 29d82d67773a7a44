-- Lists of words are read both ways.
use Rattle.str0m_signal.proofs.Common.{rules, ◌≡◌, ◌≢◌, ◌⊎◌, ◌<◌, ◌≤◌, ℕ, List, [], ◌∷◌, ◌++◌, Option, Some, None, refl, sym, ap, ◌∙◌}
use Rattle.str0m_signal.proofs.Common.{arith, inl, inr, codes, digit_value, lt-ltb, eq-eqb, ne_eqb, cases_eq, ◌>>=◌, cut, strip, lacks, num}
use Rattle.str0m_signal.proofs.Common.{PartedAddress, Lacks, IsRest, IsNum, beginning_is, beginning_only, cuts_bind_some, cuts_if_some}
use Rattle.str0m_signal.proofs.Common.{cuts_some_is}
use Rattle.str0m_signal.proofs.Common.{cut_none}
use Rattle.str0m_signal.proofs.Common.{cut_none_lacks, cut_at, cut_found, strip_found, lacks_cut_true, lacks_cut_from, number_lacks}
use Rattle.str0m_signal.proofs.Common.{candidate_num_both}
use Rattle.str0m_signal.proofs.Common.{Reads, append-nil}
use Rattle.str0m_signal.proofs.form.FormLaws.{text_both, form_two_both}
use Rattle.str0m_signal.proofs.line.PartLaws.{parted_both}
use Rattle.str0m_signal.specs.form.FormReading.{text_read, two_read, parted_read}
use Rattle.str0m_signal.specs.form.Forms.{IsText, TwoFormParts}
use Rattle.str0m_signal.specs.line.Lines.{EndsIn}
use Rattle.str0m_signal.specs.line.Words.{IsWordText, IsKeptWordName, IsHexPair, IsWordSpace, AreGroupNames, IsGroup, IsMsidSemantic}
use Rattle.str0m_signal.specs.line.WordsReading.{word_text_read, name_read, digit_read, hex_pair_read, without_word_space}
use Rattle.str0m_signal.specs.line.WordsReading.{group_names_after}
use Rattle.str0m_signal.specs.line.WordsReading.{names_read, group_fields_read, behind_word_space, msid_semantic_fields_read}

-- ---- items

pub word_both : Reads IsWordText word_text_read
word_both = grind (arith, cuts_if_some, text_both, lacks_cut_from, lacks_cut_true)

pub word_name_both : Reads IsKeptWordName name_read
word_name_both = search (rules, cuts_bind_some, word_both, cuts_some_is, beginning_is, beginning_only)

digit_given : (c : ℕ) → digit_value c < 16 → digit_read c ≡ Some (digit_value c)
digit_given c h = rw (lt-ltb (digit_value c) 16 h) refl

hex_pair_found : (text : List ℕ) (byte : ℕ) → hex_pair_read text ≡ Some byte → IsHexPair text byte
hex_pair_found [] byte e = absurd cc
hex_pair_found (high ∷ []) byte e = absurd cc
hex_pair_found (high ∷ low ∷ []) byte e = grind arith
hex_pair_found (high ∷ low ∷ more ∷ text) byte e = absurd cc

pub hex_pair_both : Reads IsHexPair hex_pair_read
hex_pair_both = grind (arith, hex_pair_found, digit_given)

digit_other : (x c : ℕ) → 16 ≤ digit_value c → digit_value x < 16 → x ≢ c
digit_other x c far lt = λ e. let lt' : digit_value c < 16 = rw (← e) lt in absurd (omega arith)

hex_pair_lacks : (text : List ℕ) (byte : ℕ) → IsHexPair text byte → Lacks 58 text
hex_pair_lacks text byte h = rw h.2 (digit_other h.0 58 (omega arith) h.3, (digit_other h.1 58 (omega arith) h.4, tt))

-- ---- lists

pub words_both : Reads (PartedAddress 32 IsWordText) (parted_read 32 word_text_read)
words_both = parted_both 32 word_both (λ text x h. h.0.1)

pub word_names_list_both : Reads (PartedAddress 32 IsKeptWordName) (parted_read 32 name_read)
word_names_list_both = parted_both 32 word_name_both (λ text x h. h.0.1)

pub hex_pairs_both : Reads (PartedAddress 58 IsHexPair) (parted_read 58 hex_pair_read)
hex_pairs_both = parted_both 58 hex_pair_both hex_pair_lacks

pub source_words_both : Reads (PartedAddress 32 (IsNum 4294967295)) (parted_read 32 (num 4294967295))
source_words_both = parted_both 32 (candidate_num_both 4294967295)
    (λ text n h. number_lacks 32 text (omega arith) (λ e. absurd (omega arith)) h.numeral)

-- ---- a space at the end

-- what is left out is nothing or a space
word_space_left_out : (text : List ℕ) → (end : List ℕ) × (text ≡ without_word_space text ++ end) × IsWordSpace end
word_space_left_out [] = ([], refl, inl refl)
word_space_left_out (x ∷ []) =
    elim (cases_eq x 32) [
      | inl e ↦ (32 ∷ [], rw (eq-eqb x 32 e, e) refl, inr refl)
      | inr other ↦ ([], rw (ne_eqb x 32 other) refl, inl refl)
    ]
word_space_left_out (x ∷ y ∷ ys) = let h = word_space_left_out (y ∷ ys) in (h.0, ap (λ (t : List ℕ). x ∷ t) h.1, h.2)

-- only the end counts
pub word_space_behind : (a b : List ℕ) → IsRest b → without_word_space (a ++ b) ≡ a ++ without_word_space b
word_space_behind [] b h = refl
word_space_behind (x ∷ []) [] h = absurd (omega (arith, h))
word_space_behind (x ∷ []) (y ∷ ys) h = refl
word_space_behind (x ∷ z ∷ zs) b h = ap (λ (t : List ℕ). x ∷ t) (word_space_behind (z ∷ zs) b h)

word_whole : (text : List ℕ) → Lacks 32 text → without_word_space text ≡ text
word_whole [] h = refl
word_whole (x ∷ []) h = rw (ne_eqb x 32 h.0) refl
word_whole (x ∷ y ∷ ys) h = ap (λ (t : List ℕ). x ∷ t) (word_whole (y ∷ ys) h.1)

-- what doesn't end in a space stays as it is
end_whole : (text : List ℕ) → (EndsIn 32 text → ⊥) → without_word_space text ≡ text
end_whole [] h = refl
end_whole (x ∷ []) h = elim (cases_eq x 32) [ inl e ↦ absurd (h ([], rw e refl)) | inr other ↦ rw (ne_eqb x 32 other) refl ]
end_whole (x ∷ y ∷ ys) h = ap (λ (t : List ℕ). x ∷ t) (end_whole (y ∷ ys) (λ k. h (x ∷ k.0, ap (λ (t : List ℕ). x ∷ t) k.1)))

pub word_space_gone : (text rest : List ℕ) → (text ≡ rest ++ (32 ∷ [])) ⊎ ((rest ≡ text) × (EndsIn 32 text → ⊥))
    → rest ≡ without_word_space text
word_space_gone text rest o = grind (arith, word_space_behind, append-nil, end_whole)

parted_rest : (names : List (List ℕ)) (text : List ℕ) → PartedAddress 32 IsKeptWordName text names → IsRest text
parted_rest [] text h = absurd h
parted_rest (x ∷ []) text h = h.0.0
parted_rest (x ∷ (y ∷ ys)) text h = rw h.2 (filled h.0 h.1)
  where
    filled : (a b : List ℕ) → IsRest (a ++ (32 ∷ b))
    filled [] b = omega arith
    filled (z ∷ zs) b = omega arith

behind_word : (a b : List ℕ) → IsRest b → without_word_space b ≡ b → without_word_space (a ++ (32 ∷ b)) ≡ a ++ (32 ∷ b)
behind_word a b h whole = grind (arith, word_space_behind)

parted_words_whole : (names : List (List ℕ)) (text : List ℕ) → PartedAddress 32 IsKeptWordName text names → without_word_space text ≡ text
parted_words_whole [] text h = absurd h
parted_words_whole (x ∷ []) text h = word_whole text h.0.1
parted_words_whole (x ∷ (y ∷ ys)) text h = grind (
  arith,
  behind_word h.0 h.1,
  parted_rest (y ∷ ys) h.1 h.4,
  parted_words_whole (y ∷ ys) h.1 h.4,
)

word_names_whole : (text typ : List ℕ) (names : List (List ℕ)) → AreGroupNames text typ names → without_word_space text ≡ text
word_names_whole text typ [] h = word_whole text h.0.1
word_names_whole text typ (x ∷ xs) h = grind (arith, behind_word h.0 h.1, parted_rest (x ∷ xs) h.1 h.5, parted_words_whole (x ∷ xs) h.1 h.5)

-- ---- groups

word_names_found : (text : List ℕ) (group : List ℕ × List (List ℕ)) (o : Option (List ℕ × List ℕ)) → cut 32 text ≡ o
    → group_names_after text o ≡ Some group → AreGroupNames text group.0 group.1
word_names_found text group None cut-is e = grind (arith, cuts_bind_some, text_both, cuts_some_is, cut_none_lacks)
word_names_found text group (Some p) cut-is e =
    let a = cuts_bind_some (text_read p.0) (λ typ. parted_read 32 name_read p.1 >>= λ names. Some (typ, names)) group e in
    let b = cuts_bind_some (parted_read 32 name_read p.1) (λ names. Some (a.0, names)) group a.2 in
    let found = cut_found 32 text p.0 p.1 cut-is in
    rw (← cuts_some_is (a.0, b.0) group b.2)
    (listed text a.0 b.0 (p.0, p.1, found.0, found.1, text_both.sound p.0 a.0 a.1, word_names_list_both.sound p.1 b.0 b.1))
  where
    listed : (text typ : List ℕ) (names : List (List ℕ)) → TwoFormParts 32 IsText (PartedAddress 32 IsKeptWordName) text (typ, names)
        → AreGroupNames text typ names
    listed text typ [] h = absurd h.5
    listed text typ (x ∷ xs) h = h

word_names_given : (text typ : List ℕ) (names : List (List ℕ)) → AreGroupNames text typ names → names_read text ≡ Some (typ, names)
word_names_given text typ [] h = rw (cut_none 32 text h.0.1, text_both.complete text typ (h.0.0, h.1)) refl
word_names_given text typ (x ∷ xs) h = ap names_read h.2
    ∙ rw (cut_at 32 h.0 h.1 h.3, text_both.complete h.0 typ h.4, word_names_list_both.complete h.1 (x ∷ xs) h.5) refl

group_whole : (text names end : List ℕ) → text ≡ names ++ end → IsWordSpace end → without_word_space names ≡ names
    → without_word_space text ≡ names
group_whole text names end is o whole = grind (arith, append-nil, word_space_behind)

pub group_both : Reads IsGroup group_fields_read
group_both = record {
  sound = λ text group e.
      let end = word_space_left_out text in (
        without_word_space text,
        end.0,
        end.1,
        end.2,
        word_names_found (without_word_space text) group (cut 32 (without_word_space text))
            refl e,
      );
  complete = λ text group h.
      ap names_read (group_whole text h.0 h.1 h.2 h.3 (word_names_whole h.0 group.0 group.1 h.4))
      ∙ word_names_given h.0 group.0 group.1 h.4;
}

-- ---- semantics of streams

semantic_word_fields : Reads (TwoFormParts 32 IsText (PartedAddress 32 IsWordText)) (two_read 32 text_read (parted_read 32 word_text_read))
semantic_word_fields = form_two_both 32 text_both words_both

no_word_space_ahead : (a b : List ℕ) → IsRest a → Lacks 32 a → strip (codes " ") (a ++ b) ≡ None
no_word_space_ahead [] b h lacks = absurd (omega (arith, h))
no_word_space_ahead (x ∷ xs) b h lacks = rw (ne_eqb 32 x (λ e. lacks.0 (sym e))) refl

semantic_words_found : (text : List ℕ) (meant : List ℕ × List (List ℕ)) (o : Option (List ℕ)) → strip (codes " ") text ≡ o
    → two_read 32 text_read (parted_read 32 word_text_read) (behind_word_space text o) ≡ Some meant → IsMsidSemantic text meant
semantic_words_found text meant None is e = ([], text, refl, inl refl, semantic_word_fields.sound text meant e)
semantic_words_found text meant (Some rest) is e = (
  codes " ",
  rest,
  strip_found (codes " ") text rest is,
  inr refl,
  semantic_word_fields.sound rest meant e,
)

semantic_words_given : (text lead words : List ℕ) (meant : List ℕ × List (List ℕ)) → text ≡ lead ++ words → IsWordSpace lead
    → TwoFormParts 32 IsText (PartedAddress 32 IsWordText) words meant → msid_semantic_fields_read text ≡ Some meant
semantic_words_given text lead words meant is (inl none) h =
    let plain : text ≡ words = is ∙ ap (λ (t : List ℕ). t ++ words) none in
    let front : strip (codes " ") words ≡ None = ap (strip (codes " ")) h.2 ∙ no_word_space_ahead h.0 (32 ∷ h.1) h.4.0 h.3 in
    ap msid_semantic_fields_read plain
    ∙ ap (λ (o : Option (List ℕ)). two_read 32 text_read (parted_read 32 word_text_read) (behind_word_space words o)) front
    ∙ semantic_word_fields.complete words meant h
semantic_words_given text lead words meant is (inr space) h =
    ap msid_semantic_fields_read (is ∙ ap (λ (t : List ℕ). t ++ words) space) ∙ semantic_word_fields.complete words meant h

pub msid_semantic_both : Reads IsMsidSemantic msid_semantic_fields_read
msid_semantic_both = record {
  sound = λ text meant e. semantic_words_found text meant (strip (codes " ") text) refl e;
  complete = λ text meant h. semantic_words_given text h.0 h.1 meant h.2 h.3 h.4;
}
