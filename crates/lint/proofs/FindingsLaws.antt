-- What the findings of a text come to.
use Rattle.lint.proofs.Common.{◌≡◌, ◌↔◌, ◌+◌, ◌-◌, ◌≤◌, ℕ, true, false, true≢false, cond, eqb, List, [], ◌∷◌, ◌++◌, length, refl, sym, ap}
use Rattle.lint.proofs.Common.{subst, ◌∙◌, arith, eqb-true, append-nil, Sdp, sdp_text, Line, Reading, AtMostOneAnswer}
use Rattle.lint.specs.Findings.{AreFindingsOf, AreFindingsSilent, EndsReading, IsNotOutOfMemory, KeepsUnread, OnlyChanges}
use Rattle.lint.specs.Findings.{AddsOtherFindings}
use Rattle.lint.specs.Findings.{TellsUnread}
use Rattle.lint.specs.Findings.{end_lines, is_changed}
use Rattle.lint.specs.Findings.{is_refused, lines_kept, kept_numbers}
use Rattle.lint.specs.Lines.{IsLineNumber, last_line, unread_lines}
use Rattle.lint.specs.Told.{NothingLost, told_of}
use Rattle.lint.specs.declared.finding.Finding.{Finding}
use Rattle.lint.specs.declared.notes.Notes.{Notes}
use Rattle.std.proofs.lemmas.Bool.{false≢true}
use Rattle.str0m_sdp.specs.declared.session.error.SdpError.{SdpError}
use Rattle.str0m_sdp.specs.declared.session.error.SdpError.TheVariants.{ParseError, Inconsistent, Memory}
use Rattle.str0m_signal.specs.line.LinesReading.{line_behind_first, is_crlf, lines_of, longer_line_first}
use Rattle.str0m_signal.specs.session.ReaderAnswers.{ReaderRefuses}

some_longer_line : (x : ℕ) (lines : List Line) → 1 ≤ length (longer_line_first x lines)
some_longer_line x [] = omega arith
some_longer_line x (line ∷ lines) = omega arith

-- a text that isn't empty has a line
pub some_line : (c : ℕ) (rest : List ℕ) → 1 ≤ length (lines_of (c ∷ rest))
unfolding lines_of
some_line c rest = elim (eqb c 10) as
    (λ b. 1 ≤ length (cond b (record { content = []; ending = 10 ∷ [] } ∷ lines_of rest)
    (cond (is_crlf c rest) (record { content = []; ending = 13 ∷ 10 ∷ [] } ∷ line_behind_first (lines_of rest))
    (longer_line_first c (lines_of rest))))) [
      | true ↦ omega arith
      | false ↦ elim (is_crlf c rest) as
          (λ b. 1 ≤ length (cond b (record { content = []; ending = 13 ∷ 10 ∷ [] } ∷ line_behind_first (lines_of rest))
          (longer_line_first c (lines_of rest)))) [
            | true ↦ omega arith
            | false ↦ some_longer_line c (lines_of rest)
          ]
    ]

-- the number of the line at which the rest begins
abbrev pub first_unread : List ℕ → List ℕ → ℕ
first_unread text rest = length (lines_of text) - length (lines_of rest) + 1

pub some_lines : (rest : List ℕ) → eqb (length rest) 0 ≡ false → 1 ≤ length (lines_of rest)
some_lines [] some = absurd (true≢false some)
some_lines (c ∷ rest) some = some_line c rest

pub unread_numbered : (text rest : List ℕ) → eqb (length rest) 0 ≡ false → IsLineNumber (last_line text) (first_unread text rest)
unread_numbered text rest some = let lines = some_lines rest some in (omega arith, omega arith)

pub finding_rest_is_empty : (rest : List ℕ) → eqb (length rest) 0 ≡ true → rest ≡ []
finding_rest_is_empty [] none = refl
finding_rest_is_empty (x ∷ rest) none = let no : length (x ∷ rest) ≡ 0 = eqb-true (length (x ∷ rest)) 0 none in absurd (omega (arith, no))

-- what is compared is the text and what is printed of it
pub finding_same_as_printed : (text before printed : List ℕ) (sdp : Sdp) (old new : Notes) → before ≡ text → printed ≡ sdp_text sdp
    → (is_changed old.findings ≡ false → (is_changed new.findings ≡ false) ↔ (told_of before ≡ told_of printed))
    → is_changed old.findings ≡ false → (is_changed new.findings ≡ false) ↔ (told_of text ≡ told_of (sdp_text sdp))
finding_same_as_printed text before printed sdp old new whole is changed unchanged =
    let now = changed unchanged in
    let both : told_of before ≡ told_of text = ap told_of whole in
    let shown : told_of printed ≡ told_of (sdp_text sdp) = ap told_of is in
    (λ u. sym both ∙ now.0 u ∙ shown, λ e. now.1 (both ∙ e ∙ sym shown))

-- nothing is left of the text
pub tells_whole : (text : List ℕ) (sdp : Sdp) (rest : List ℕ) (old mid new : Notes) → rest ≡ []
    → KeepsUnread (kept_numbers text sdp) old mid → OnlyChanges mid new
    → (is_changed mid.findings ≡ false → (is_changed new.findings ≡ false) ↔ (told_of text ≡ told_of (sdp_text sdp))) → new.last ≡ mid.last
    → TellsUnread text sdp rest old new
tells_whole text sdp rest old mid new none k c changed last = record {
  kept_are = c.kept_stay ∙ k.kept_are;
  ends_are = c.ends_stay ∙ k.ends_stay ∙ sym (append-nil (end_lines old.findings))
      ∙ ap (λ (r : List ℕ). end_lines old.findings ++ unread_lines text r) (sym none);
  refused_stays = c.refused_stays ∙ k.refused_stays;
  changed = λ _ unchanged. changed (k.changed_stays ∙ unchanged);
  last_stays = last ∙ k.last_stays;
}

finding_some_rest : (x : ℕ) (rest : List ℕ) → x ∷ rest ≡ [] → ⊥
finding_some_rest x rest e = absurd cc

pub tells_rest : (text : List ℕ) (sdp : Sdp) (rest : List ℕ) (number : ℕ) (old mid late new : Notes) → eqb (length rest) 0 ≡ false
    → number ≡ first_unread text rest
    → KeepsUnread (kept_numbers text sdp) old mid → OnlyChanges mid late → late.last ≡ mid.last → EndsReading number late new
    → TellsUnread text sdp rest old new
tells_rest text sdp [] number old mid late new some is k c last e = absurd (true≢false some)
tells_rest text sdp (x ∷ rest) number old mid late new some is k c last e = record {
  kept_are = e.kept_stay ∙ c.kept_stay ∙ k.kept_are;
  ends_are = e.ends_are ∙ ap (λ (ns : List ℕ). ns ++ number ∷ []) (c.ends_stay ∙ k.ends_stay)
      ∙ ap (λ (n : ℕ). end_lines old.findings ++ n ∷ []) is;
  refused_stays = e.refused_stays ∙ c.refused_stays ∙ k.refused_stays;
  changed = λ none unchanged. absurd (finding_some_rest x rest none);
  last_stays = e.last_stays ∙ last ∙ k.last_stays;
}

-- what is said after it is about something else
pub tells_else : (text : List ℕ) (sdp : Sdp) (rest : List ℕ) (old mid new : Notes) → TellsUnread text sdp rest old mid
    → AddsOtherFindings mid new
    → new.last ≡ mid.last
    → TellsUnread text sdp rest old new
tells_else text sdp rest old mid new t s last = record {
  kept_are = s.only.kept_stay ∙ t.kept_are;
  ends_are = s.only.ends_stay ∙ t.ends_are;
  refused_stays = s.only.refused_stays ∙ t.refused_stays;
  changed = λ none unchanged. let now = t.changed none unchanged in
      (λ u. now.0 (sym s.changed_stays ∙ u), λ e. s.changed_stays ∙ now.1 e);
  last_stays = last ∙ t.last_stays;
}

-- what is refused, and not for memory, has no reading
pub no_reading : (error : SdpError) (text : List ℕ) → ReaderRefuses error (Reading text) → IsNotOutOfMemory error → (v : Sdp × List ℕ)
    → Reading text v
    → ⊥
no_reading (ParseError message) text h is = h
no_reading (Inconsistent message) text h is = absurd h
no_reading Memory text h is = absurd is

finding_no_rest_left : (text rest : List ℕ) → unread_lines text rest ≡ [] → rest ≡ []
finding_no_rest_left text [] e = refl
finding_no_rest_left text (x ∷ rest) e = absurd cc

-- where nothing is said to be lost, nothing is
nothing_lost : (text : List ℕ) (sdp : Sdp) (rest : List ℕ) (old new : Notes) → Reading text (sdp, rest) → old.findings ≡ []
    → TellsUnread text sdp rest old new
    → AreFindingsSilent new.findings → NothingLost text
nothing_lost text sdp rest old new reading none t s =
    let ended : unread_lines text rest ≡ [] = ap (λ (fs : List Finding). end_lines fs ++ unread_lines text rest) (sym none) ∙ sym t.ends_are
    ∙ s.no_end in
    let whole : rest ≡ [] = finding_no_rest_left text rest ended in
    (sdp, subst (λ (r : List ℕ). Reading text (sdp, r)) whole reading, (t.changed whole (ap is_changed none)).0 s.not_changed)

-- where nothing is lost, nothing is said to be
finding_are_silent : (text : List ℕ) (sdp : Sdp) (rest : List ℕ) (old new : Notes) → Reading text (sdp, rest)
    → AtMostOneAnswer (Reading text)
    → old.findings ≡ []
    → TellsUnread text sdp rest old new → NothingLost text → AreFindingsSilent new.findings
finding_are_silent text sdp rest old new reading one none t (s, r, same) =
    let is : (sdp, rest) ≡ (s, []) = one (sdp, rest) (s, []) reading r in
    let whole : rest ≡ [] = ap (λ (v : Sdp × List ℕ). v.1) is in
    let own : told_of text ≡ told_of (sdp_text sdp) = same ∙ ap (λ (v : Sdp × List ℕ). told_of (sdp_text v.0)) (sym is) in
    record {
      not_refused = t.refused_stays ∙ ap is_refused none;
      no_end = t.ends_are ∙ ap (λ (fs : List Finding). end_lines fs ++ unread_lines text rest) none ∙ ap (unread_lines text) whole;
      not_changed = (t.changed whole (ap is_changed none)).1 own;
    }

pub said_read : (text : List ℕ) (sdp : Sdp) (rest : List ℕ) (old new : Notes) → Reading text (sdp, rest) → AtMostOneAnswer (Reading text)
    → old.findings ≡ [] → TellsUnread text sdp rest old new → AreFindingsOf text new.findings
said_read text sdp rest old new reading one none t =
    let refused : is_refused new.findings ≡ false = t.refused_stays ∙ ap is_refused none in
    record {
      refused = (λ is. absurd (false≢true (sym refused ∙ is)), λ unread. absurd (unread (sdp, rest) reading));
      unread = λ s r h. t.ends_are ∙ ap (λ (fs : List Finding). end_lines fs ++ unread_lines text rest) none
          ∙ ap (λ (v : Sdp × List ℕ). unread_lines text v.1) (one (sdp, rest) (s, r) reading h);
      kept_are = λ s r h. t.kept_are ∙ ap (λ (fs : List Finding). lines_kept fs ++ kept_numbers text sdp) none
          ∙ ap (λ (v : Sdp × List ℕ). kept_numbers text v.0) (one (sdp, rest) (s, r) reading h);
      silent = (nothing_lost text sdp rest old new reading none t, finding_are_silent text sdp rest old new reading one none t);
    }

pub said_refused : (text : List ℕ) (findings : List Finding) → is_refused findings ≡ true → ((v : Sdp × List ℕ) → Reading text v → ⊥)
    → AreFindingsOf text findings
said_refused text findings is none = record {
  refused = (λ _. none, λ _. is);
  unread = λ s r h. absurd (none (s, r) h);
  kept_are = λ s r h. absurd (none (s, r) h);
  silent = (λ s. absurd (true≢false (sym is ∙ s.not_refused)), λ n. absurd (none (n.0, []) n.1));
}
