-- The lines of a header are read exactly where their forms hold.
use Rattle.std.proofs.Math.Seq.{drop-append_seam}
use Rattle.str0m_signal.proofs.Common.{rules, ◌≡◌, ℕ, List, [], ◌∷◌, ◌++◌, length, Some, refl, sym, ap, subst, ◌∙◌, arith, inl, inr, codes}
use Rattle.str0m_signal.proofs.Common.{ltb-true, bytes_eq-Decides, some_pair_parts, Lacks, ◌>>=◌, cut, strip, when, is_rest, cut_at}
use Rattle.str0m_signal.proofs.Common.{cut_found, strip_found, cuts_when_some, num_when_true, cuts_bind_some, cuts_some_is, AllByRecursion}
use Rattle.str0m_signal.proofs.Common.{drop}
use Rattle.str0m_signal.proofs.Common.{digits_lack}
use Rattle.str0m_signal.proofs.Common.{num_rest_true, cuts_reads_either, Reads}
use Rattle.str0m_signal.proofs.form.FormLaws.{digits_both}
use Rattle.str0m_signal.proofs.line.LinesLaws.{line_found, line_given}
use Rattle.str0m_signal.proofs.session.SectionLaws.{section_field_both}
use Rattle.str0m_signal.specs.form.FormReading.{digits_read}
use Rattle.str0m_signal.specs.line.Lines.{Line}
use Rattle.str0m_signal.specs.session.Header.{IsExactHeaderLine, IsDigits, IsOrigin, IsHeaderField, IsHeaderInfo, IsHeaderOpening}
use Rattle.str0m_signal.specs.session.HeaderReading.{exact_read, origin_read, one_field_read, info_read, opening_read}
use Rattle.str0m_signal.specs.session.Section.{IsSessionField}

pub header_exact_line_both : (word : List ℕ) → Reads (IsExactHeaderLine word) (exact_read word)
header_exact_line_both word = grind (arith, cuts_when_some, bytes_eq-Decides, num_when_true)

-- at most 64 bits
origin_digits : Reads IsDigits (digits_read 18446744073709551615)
origin_digits = record {
  sound = λ text n e. let is = (digits_both 18446744073709551615).sound text n e in record { numeral = is.0; value = is.1; fits = is.2 };
  complete = λ text n h. (digits_both 18446744073709551615).complete text n (h.numeral, h.value, h.fits);
}

origin_both : Reads IsOrigin origin_read
origin_both = record { sound = found; complete = given }
  where
    found : (content : List ℕ) (id : ℕ) → origin_read content ≡ Some id → IsOrigin content id
    found content id e =
        let a = cuts_bind_some (strip (codes "o=") content) (λ body. cut 32 body >>= λ name. when (is_rest name.0) name.0
        >>= λ word. cut 32 name.1 >>= λ number. digits_read 18446744073709551615 number.0 >>= λ id. when (is_rest number.1) number.1
        >>= λ more. Some id) id e in
        let n = cuts_bind_some (cut 32 a.0) (λ name. when (is_rest name.0) name.0 >>= λ word. cut 32 name.1
        >>= λ number. digits_read 18446744073709551615 number.0 >>= λ id. when (is_rest number.1) number.1 >>= λ more. Some id) id a.2
        in
        let w = cuts_bind_some (when (is_rest n.0.0) n.0.0) (λ word. cut 32 n.0.1 >>= λ number. digits_read 18446744073709551615 number.0
        >>= λ id. when (is_rest number.1) number.1 >>= λ more. Some id) id n.2 in
        let d = cuts_bind_some (cut 32 n.0.1) (λ number. digits_read 18446744073709551615 number.0
        >>= λ id. when (is_rest number.1) number.1
        >>= λ more. Some id) id w.2 in
        let v = cuts_bind_some (digits_read 18446744073709551615 d.0.0) (λ id. when (is_rest d.0.1) d.0.1 >>= λ more. Some id) id d.2 in
        let m = cuts_bind_some (when (is_rest d.0.1) d.0.1) (λ more. Some v.0) id v.2 in
        let word = cuts_when_some (is_rest n.0.0) n.0.0 w.0 w.1 in
        let more = cuts_when_some (is_rest d.0.1) d.0.1 m.0 m.1 in
        let name = cut_found 32 a.0 n.0.0 n.0.1 n.1 in
        let number = cut_found 32 n.0.1 d.0.0 d.0.1 d.1 in
        record {
          name = n.0.0;
          number = d.0.0;
          more = d.0.1;
          joined = strip_found (codes "o=") content a.0 a.1 ∙ ap (λ (x : List ℕ). codes "o=" ++ x)
              (name.0 ∙ ap (λ (x : List ℕ). n.0.0 ++ (32 ∷ x)) number.0);
          name_is = (ltb-true 0 (length n.0.0) word.0, name.1);
          number_is = subst (IsDigits d.0.0) (cuts_some_is v.0 id m.2) (origin_digits.sound d.0.0 v.0 v.1);
          more_is = ltb-true 0 (length d.0.1) more.0;
        }

    given : (content : List ℕ) (id : ℕ) → IsOrigin content id → origin_read content ≡ Some id
    given content id h =
        let behind = h.number ++ (32 ∷ h.more) in
        let lacks : Lacks 32 h.number = digits_lack 32 h.number (omega arith) h.number_is.numeral.1 in
        ap origin_read h.joined ∙ rw (
          cut_at 32 h.name behind h.name_is.1,
          num_rest_true h.name h.name_is.0,
          cut_at 32 h.number h.more lacks,
          origin_digits.complete h.number id h.number_is,
          num_rest_true h.more h.more_is,
        ) refl

header_one_field_behind : (letter : List ℕ) → length letter ≡ 2 → (content text : List ℕ) → IsSessionField letter content text
    → text ≡ drop 2 content
header_one_field_behind letter two content text h = sym (rw (h.0, ← two) (drop-append_seam letter text))

-- what a field of two characters says stands after them
header_field_behind : (letters : List (List ℕ)) → AllByRecursion (λ letter. length letter ≡ 2) letters → (content text : List ℕ)
    → IsHeaderField letters content text → text ≡ drop 2 content
header_field_behind [] two content text h = absurd h
header_field_behind (letter ∷ letters) two content text h = elim h
    [ inl k ↦ header_one_field_behind letter two.0 content text k | inr k ↦ header_field_behind letters two.1 content text k ]

header_fields_both : (letters : List (List ℕ)) → AllByRecursion (λ letter. length letter ≡ 2) letters
    → Reads (IsHeaderField letters) (one_field_read letters)
header_fields_both [] two = record { sound = λ content text e. absurd cc; complete = λ content text h. absurd h }
header_fields_both (letter ∷ letters) two =
    cuts_reads_either (section_field_both letter) (header_fields_both letters two.1)
    (λ content text other h k. header_one_field_behind letter two.0 content text h
    ∙ sym (header_field_behind letters two.1 content other k))

pub header_info_both : Reads IsHeaderInfo info_read
header_info_both = search (rules, header_fields_both)

pub header_opening_found : (lines : List Line) (id : ℕ) (rest : List Line) → opening_read lines ≡ Some (id, rest)
    → IsHeaderOpening lines id rest
header_opening_found lines id rest e =
    search (
      rules,
      cuts_bind_some,
      some_pair_parts,
      line_found,
      line_found (section_field_both (codes "s=")),
      header_exact_line_both,
      origin_both,
      section_field_both (codes "s="),
    )

pub header_opening_given : (lines : List Line) (id : ℕ) (rest : List Line) → IsHeaderOpening lines id rest
    → opening_read lines ≡ Some (id, rest)
header_opening_given lines id rest h =
    rw (
      line_given (header_exact_line_both (codes "v=0")) lines (codes "v=0") h.after_version h.version_is,
      line_given origin_both h.after_version id h.after_origin h.origin_is,
      line_given (section_field_both (codes "s=")) h.after_origin h.name rest h.name_is,
    ) refl
