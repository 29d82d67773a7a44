-- A text that ends in CR LF and is read to its end as one line is that line.
use Rattle.str0m_signal.proofs.Common.{◌≡◌, ℕ, List, [], ◌∷◌, ◌++◌, refl, sym, ap, ◌∙◌, subst, inl, inr, Lacks, append-nil, append_assoc}
use Rattle.str0m_signal.proofs.Common.{append_cancel_right, printed_line_end}
use Rattle.str0m_signal.proofs.form.FmtpPrinted.{fmtp_behind_lacks}
use Rattle.str0m_signal.specs.back.Writable.{IsReadBackLine}
use Rattle.str0m_signal.specs.line.Lines.{AreLines, FirstLine, IsLine, Line, lines_joined}

-- the line's content is all that stands before the end
line_content_whole : (text front : List ℕ) (line : Line) → text ≡ front ++ printed_line_end → text ≡ line.content ++ (line.ending ++ [])
    → IsLine line [] → Lacks 13 line.content → text ≡ line.content ++ printed_line_end
line_content_whole text front line e joined is no_cr =
    elim is.ends [
      | inl lf ↦ absurd (
          let both : (front ++ (13 ∷ [])) ++ (10 ∷ []) ≡ line.content ++ (10 ∷ [])
          = append_assoc front (13 ∷ []) (10 ∷ []) ∙ sym e ∙ joined ∙ ap (λ (t : List ℕ). line.content ++ (t ++ [])) lf.0 in
          let content = append_cancel_right (front ++ (13 ∷ [])) line.content (10 ∷ []) both in
          (fmtp_behind_lacks 13 front (13 ∷ []) (subst (Lacks 13) (sym content) no_cr)).0 refl
          )
      | inr more ↦ elim more [
        | inl crlf ↦ joined ∙ ap (λ (t : List ℕ). line.content ++ (t ++ [])) crlf
        | inr last ↦ absurd (
            let content : front ++ (13 ∷ (10 ∷ [])) ≡ line.content
            = sym e ∙ joined ∙ ap (λ (t : List ℕ). line.content ++ (t ++ [])) last.0 ∙ append-nil line.content in
            (fmtp_behind_lacks 10 front (13 ∷ (10 ∷ [])) (subst (Lacks 10) (sym content) is.inside)).1.0 refl
            )
      ]
    ]

pub line_whole_read : {A : Type 0} (F : List ℕ → A → Type 0) (text front : List ℕ) (a : A) → text ≡ front ++ printed_line_end
    → FirstLine F text (a, []) → IsReadBackLine F text a
line_whole_read {A} F text front a e (lines, rest, (joined, are), (line, first, no_cr, form), left) =
    let none : lines_joined rest ≡ [] = sym left in
    let is : IsLine line (lines_joined rest) = (subst AreLines first are).0 in
    let whole : text ≡ line.content ++ (line.ending ++ [])
    = joined ∙ ap lines_joined first ∙ ap (λ (t : List ℕ). line.content ++ (line.ending ++ t)) none in
    let alone : IsLine line [] = subst (IsLine line) none is in
    (line.content, line_content_whole text front line e whole alone no_cr, alone.inside, no_cr, form)
