-- Words, names and bytes are printed as they were read.
use Rattle.str0m_signal.proofs.Common.{◌≡◌, ◌≤◌, ◌<◌, ◌/◌, ◌%◌, ℕ, true, List, [], ◌∷◌, ◌++◌, refl, sym, subst, arith, lit≤, inl, inr}
use Rattle.str0m_signal.proofs.Common.{codes, digit_value, AllByRecursion, flat_map, join_by, append-nil, PartedAddress, Lacks, IsRest}
use Rattle.str0m_signal.proofs.Common.{IsLongestShortText, LacksCut-append, digit_glyph, hex_pair, pairs_text, hash_glyph_value}
use Rattle.str0m_signal.proofs.form.FmtpPrinted.{fmtp_behind_lacks}
use Rattle.str0m_signal.proofs.form.FormPiecesAgain.{Again, text_again, two_again, parted_again}
use Rattle.str0m_signal.proofs.line.WordsCharacterStarts.{StartsWithin, front_starts, behind_starts, kept_word_filled}
use Rattle.str0m_signal.specs.form.Forms.{IsText, TwoFormParts}
use Rattle.str0m_signal.specs.line.Words.{IsWordText, IsKeptWordName, IsHexPair, IsGroup, AreGroupNames, IsMsidSemantic}

pub word_again : Again IsWordText (λ x. x)
word_again = grind arith

-- ---- names, which are cut

-- what is kept of a text is its own longest beginning
pub kept_again : (room : ℕ) (text kept : List ℕ) → IsLongestShortText room text kept → IsLongestShortText room kept kept
kept_again room text kept h = grind (arith, append-nil)

pub word_kept_lacks : (c room : ℕ) (text kept : List ℕ) → IsLongestShortText room text kept → Lacks c text → Lacks c kept
word_kept_lacks c room text kept h lacks = LacksCut-append c kept h.begins.0 (subst (Lacks c) h.begins.1 lacks)

-- a name of which something is kept
abbrev pub IsFilledWord : List ℕ → List ℕ → Type 0
IsFilledWord text name = IsKeptWordName text name × IsRest name

name_again : Again IsFilledWord (λ x. x)
name_again = record {
  form = λ text name h.
      (((h.1, word_kept_lacks 32 16 text name h.0.1 h.0.0.1), kept_again 16 text name h.0.1), h.1);
  lacks = λ c far text name h lacks. word_kept_lacks c 16 text name h.0.1 lacks;
}

-- ---- bytes

pub word_glyph_lacks : (c d : ℕ) → 16 ≤ digit_value c → d < 16 → digit_glyph true d ≡ c → ⊥
word_glyph_lacks c d far lt e = grind arith

word_pair_small : (text : List ℕ) (byte : ℕ) → IsHexPair text byte → (byte / 16 < 16) × (byte % 16 < 16)
word_pair_small text byte (high, low, e, first, second, sum) = (omega arith, omega arith)

hex_pair_again : Again IsHexPair hex_pair
hex_pair_again = grind (arith, word_pair_small, hash_glyph_value, word_glyph_lacks)

abbrev pub fingerprint_pair : List ℕ × List ℕ → List ℕ
fingerprint_pair hash = hash.0 ++ (32 ∷ join_by hex_pair (codes ":") hash.1)

pub hash_again : Again (TwoFormParts 32 IsText (PartedAddress 58 IsHexPair)) fingerprint_pair
hash_again = two_again 32 (lit≤ tt) text_again (parted_again hex_pair_again 58)

pub word_pairs_are_joined : (bytes : List ℕ) → join_by hex_pair (codes ":") bytes ≡ pairs_text bytes
word_pairs_are_joined bytes = grind arith

-- ---- groups

-- no name is empty
abbrev pub AreWordsFilled : List (List ℕ) → Type 0
AreWordsFilled names = AllByRecursion IsRest names

word_names_filled : (text : List ℕ) (names : List (List ℕ)) → StartsWithin 3 text → PartedAddress 32 IsKeptWordName text names
    → AreWordsFilled names
word_names_filled text [] starts h = tt
word_names_filled text (x ∷ []) starts h = (kept_word_filled text x h.0.0 starts h.1, tt)
word_names_filled text (x ∷ (y ∷ ys)) starts h =
    let whole : StartsWithin 3 (h.0 ++ (32 ∷ h.1)) = subst (StartsWithin 3) h.2 starts in (
      kept_word_filled h.0 x h.3.0.0 (front_starts 3 h.0 (32 ∷ h.1) whole) h.3.1,
      word_names_filled h.1 (y ∷ ys) (behind_starts 3 (codes " ") h.1 (lit≤ tt) (behind_starts 3 h.0 (32 ∷ h.1) (lit≤ tt) whole)) h.4,
    )

word_kind_and_names : (text typ : List ℕ) (names : List (List ℕ)) → StartsWithin 3 text → AreGroupNames text typ names
    → AreWordsFilled names
word_kind_and_names text typ [] starts h = tt
word_kind_and_names text typ (name ∷ names) starts h =
    grind (arith, word_names_filled h.1 (name ∷ names), behind_starts 3 h.0 (32 ∷ h.1), behind_starts 3 (codes " ") h.1)

-- no name of a group that was read is empty
pub group_filled : (text : List ℕ) (group : List ℕ × List (List ℕ)) → StartsWithin 3 text → IsGroup text group → AreWordsFilled group.1
group_filled text group starts h = grind (arith, word_kind_and_names, front_starts)

word_filled_names : (text : List ℕ) (names : List (List ℕ)) → PartedAddress 32 IsKeptWordName text names → AreWordsFilled names
    → PartedAddress 32 IsFilledWord text names
word_filled_names text [] h filled = h
word_filled_names text (x ∷ []) h filled = (h, filled.0)
word_filled_names text (x ∷ (y ∷ ys)) h filled = (h.0, h.1, h.2, (h.3, filled.0), word_filled_names h.1 (y ∷ ys) h.4 filled.1)

word_only_names : (text : List ℕ) (names : List (List ℕ)) → PartedAddress 32 IsFilledWord text names
    → PartedAddress 32 IsKeptWordName text names
word_only_names text [] h = h
word_only_names text (x ∷ []) h = h.0
word_only_names text (x ∷ (y ∷ ys)) h = (h.0, h.1, h.2, h.3.0, word_only_names h.1 (y ∷ ys) h.4)

group_filled_again : Again (TwoFormParts 32 IsText (PartedAddress 32 IsFilledWord))
    (λ group. group.0 ++ (32 ∷ join_by (λ x. x) (codes " ") group.1))
group_filled_again = two_again 32 (lit≤ tt) text_again (parted_again name_again 32)

abbrev pub names_text : List ℕ → List (List ℕ) → List ℕ
names_text typ names = typ ++ flat_map (λ name. codes " " ++ name) names

names_form : (text typ : List ℕ) (names : List (List ℕ)) → AreGroupNames text typ names → AreWordsFilled names
    → AreGroupNames (names_text typ names) typ names
names_form text typ [] h filled = grind (arith, append-nil, word_again)
names_form text typ (name ∷ names) h filled =
    let is = group_filled_again.form text (typ, name ∷ names) (h.0, h.1, h.2, h.3, h.4, word_filled_names h.1 (name ∷ names) h.5 filled) in
    (is.0, is.1, is.2, is.3, is.4, word_only_names is.1 (name ∷ names) is.5)

word_names_lack : (c : ℕ) → 16 ≤ digit_value c → (text typ : List ℕ) (names : List (List ℕ)) → AreGroupNames text typ names
    → AreWordsFilled names
    → Lacks c text → Lacks c (names_text typ names)
word_names_lack c far text typ [] h filled lacks =
    subst (Lacks c) (sym (append-nil typ)) (word_again.lacks c far text typ h lacks)
word_names_lack c far text typ (name ∷ names) h filled lacks =
    group_filled_again.lacks c far text (typ, name ∷ names) (h.0, h.1, h.2, h.3, h.4, word_filled_names h.1 (name ∷ names) h.5 filled) lacks

-- a group none of whose names is empty
abbrev pub IsFilledGroup : List ℕ → List ℕ × List (List ℕ) → Type 0
IsFilledGroup text group = IsGroup text group × AreWordsFilled group.1

pub group_again : Again IsFilledGroup (λ group. names_text group.0 group.1)
group_again = record {
  form = λ text group h.
      let again = names_form h.0.0 group.0 group.1 h.0.4 h.1 in
      ((names_text group.0 group.1, [], sym (append-nil (names_text group.0 group.1)), inl refl, again), h.1);
  lacks = λ c far text group h lacks.
      word_names_lack c far h.0.0 group.0 group.1 h.0.4 h.1 (LacksCut-append c h.0.0 h.0.1 (subst (Lacks c) h.0.2 lacks));
}

-- ---- what the ids of streams mean

abbrev pub meaning_text : List ℕ × List (List ℕ) → List ℕ
meaning_text meant = codes " " ++ (meant.0 ++ (32 ∷ join_by (λ x. x) (codes " ") meant.1))

meant_again : Again (TwoFormParts 32 IsText (PartedAddress 32 IsWordText)) (λ meant. meant.0 ++ (32 ∷ join_by (λ x. x) (codes " ") meant.1))
meant_again = two_again 32 (lit≤ tt) text_again (parted_again word_again 32)

pub meaning_again : Again IsMsidSemantic meaning_text
meaning_again = record {
  form = λ text meant h.
      (codes " ", meant.0 ++ (32 ∷ join_by (λ x. x) (codes " ") meant.1), refl, inr refl, meant_again.form h.1 meant h.4);
  lacks = λ c far text meant h lacks.
      let words : Lacks c h.1 = fmtp_behind_lacks c h.0 h.1 (subst (Lacks c) h.2 lacks) in
      let whole : Lacks c (h.4.0 ++ (32 ∷ h.4.1)) = subst (Lacks c) h.4.2 words in
      let space = fmtp_behind_lacks c h.4.0 (32 ∷ h.4.1) whole in
      (space.0, meant_again.lacks c far h.1 meant h.4 words);
}
