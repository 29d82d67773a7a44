-- Where the key of an fmtp pair ends.
use Rattle.str0m_signal.proofs.Common.{◌≡◌, ◌≢◌, ◌<◌, ◌+◌, ◌-◌, ℕ, zero, suc, List, [], ◌∷◌, length, take, drop, get_or, Option, Some, None}
use Rattle.str0m_signal.proofs.Common.{refl, sym, ap, ◌∙◌, arith, length-take, slice_range, num_rest_true, eq-eqb, ne_eqb, cut, ◌>>=◌, true}
use Rattle.str0m_signal.proofs.Common.{false, add-one, if◌then◌else◌, is_rest, lacks, when}
use Rattle.str0m_signal.specs.form.FmtpReading.{is_pair_blank, key_cut, NoneEndsKey, key_and_rest_read, fmtp_key_read, pair_read}
use Rattle.str0m_signal.specs.form.FmtpReading.{fmtp_value_read, fmtp_next_read, skip_pair_blanks}
use Rattle.str0m_values.specs.Cuts.{before_cut}

key_at : (text : List ℕ) (i : ℕ) → i < length text → get_or text i 0 ≡ 61 → NoneEndsKey text i
    → Some (take i text, drop (suc i) text) ≡ key_cut text
key_at [] i lt e h = absurd (omega (arith, lt))
key_at (x ∷ xs) zero lt e h = rw (eq-eqb x 61 e) refl
key_at (x ∷ xs) (suc i) lt e h =
    let one = h 0 (omega arith) in
    rw (ne_eqb x 61 one.0, one.1) (ap (before_cut x) (key_at xs i (omega (arith, lt)) e (λ k less. h (suc k) (omega (arith, less)))))

-- a key ends at the first `=`
pub key_ends : (text : List ℕ) (i : ℕ) → i < length text → get_or text i 0 ≡ 61 → NoneEndsKey text i
    → Some (take i text, drop (i + 1) text) ≡ key_cut text
key_ends text i lt e h = rw (add-one i) (key_at text i lt e h)

-- a blank before is in no key
pub key_blank : (text : List ℕ) (i : ℕ) → i < length text → get_or text i 0 ≢ 61 → is_pair_blank (get_or text i 0) ≡ true
    → NoneEndsKey text i
    → None ≡ key_cut text
key_blank [] i lt e b h = absurd (omega (arith, lt))
key_blank (x ∷ xs) zero lt e b h = rw (ne_eqb x 61 e, b) refl
key_blank (x ∷ xs) (suc i) lt e b h =
    let one = h 0 (omega arith) in
    rw (ne_eqb x 61 one.0, one.1)
    (ap (before_cut x) (key_blank xs i (omega (arith, lt)) e b (λ k less. h (suc k) (omega (arith, less)))))

pub key_nowhere : (text : List ℕ) → NoneEndsKey text (length text) → None ≡ key_cut text
key_nowhere [] h = refl
key_nowhere (x ∷ xs) h =
    let one = h 0 (omega arith) in
    rw (ne_eqb x 61 one.0, one.1) (ap (before_cut x) (key_nowhere xs (λ k less. h (suc k) (omega (arith, less)))))

pub none_ends_more : (text : List ℕ) (i : ℕ) → NoneEndsKey text i → get_or text i 0 ≢ 61 → is_pair_blank (get_or text i 0) ≡ false
    → NoneEndsKey text (i + 1)
none_ends_more text i h other plain = λ k lt. grind (arith, h k)

-- a cut at `=` before which there is no blank
abbrev plain_cut : Option (List ℕ × List ℕ) → Option (List ℕ × List ℕ)
plain_cut o = o >>= λ f. if lacks 32 f.0 then (if lacks 9 f.0 then Some f else None) else None

key_cut_plain : (text : List ℕ) → key_cut text ≡ plain_cut (cut 61 text)
key_cut_plain [] = refl
key_cut_plain (x ∷ xs) = grind (arith, key_cut_plain xs)

key_of_plain : (o : Option (List ℕ × List ℕ))
    → (o >>= λ fields. fmtp_key_read fields.0 >>= λ key. Some (key, fields.1)) ≡ (plain_cut o >>= λ f. when (is_rest f.0) f)
key_of_plain None = refl
key_of_plain (Some p) = grind arith

pub key_by_cut : (text : List ℕ) → key_and_rest_read text ≡ (key_cut text >>= λ f. when (is_rest f.0) f)
key_by_cut text = key_of_plain (cut 61 text) ∙ ap (λ (o : Option (List ℕ × List ℕ)). o >>= λ f. when (is_rest f.0) f)
    (sym (key_cut_plain text))

pub key_found : (text : List ℕ) (at : ℕ) → 0 < at → at < length text → Some (take at text, drop (at + 1) text) ≡ key_cut text
    → Some (slice_range text 0 at, drop (at + 1) text) ≡ key_and_rest_read text
key_found text at some lt e =
    let from_start : at - 0 ≡ at = omega arith in
    let filled : is_rest (take at text) ≡ true = num_rest_true (take at text) (omega (arith, length-take at text)) in
    rw from_start (sym (key_by_cut text ∙ rw (← e, filled) refl))

pub key_empty : (text : List ℕ) → Some (take 0 text, drop 1 text) ≡ key_cut text → None ≡ key_and_rest_read text
key_empty text e = sym (key_by_cut text ∙ rw (← e) refl)

pub key_none : (text : List ℕ) → None ≡ key_cut text → None ≡ key_and_rest_read text
key_none text e = sym (key_by_cut text ∙ rw (← e) refl)

-- a pair is read by its key, its value, and what stands behind
pub pair_by_key : (text : List ℕ) → pair_read text ≡ (key_and_rest_read text >>= λ k. fmtp_value_read k.1
    >>= λ value. fmtp_next_read (skip_pair_blanks value.1) >>= λ next. Some ((k.0, value.0), next))
pair_by_key text = grind arith
