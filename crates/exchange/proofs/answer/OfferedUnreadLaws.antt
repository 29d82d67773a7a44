-- The line at which reading ends.
use Rattle.exchange.proofs.Common.{arith, ◌≡◌, ◌≢◌, ◌≤◌, ◌+◌, ◌-◌, ◌++◌, ◌==◌, ℕ, List, [], ◌∷◌, length, take, min, length-append}
use Rattle.exchange.proofs.Common.{length-take-le, refl, subst, sym, ap, ◌∙◌, row_count-append, Sdp, line_feeds, line_number, Line, Lines}
use Rattle.exchange.proofs.Common.{IsFromLine, IsReading, Reading, lines_joined-append}
use Rattle.exchange.specs.answer.Offered.{IsOfferedCutShort}
use Rattle.std.proofs.Math.Seq.{take-append_seam}
use Rattle.std.proofs.lemmas.List.Sums.{count_by-le-length}
use Rattle.str0m_signal.proofs.{reading_leaves}
use Rattle.str0m_signal.specs.line.Lines.{lines_joined}

-- the lines before the rest, and the rest
offered_front_lines_first : (text rest : List ℕ) (from : IsFromLine text rest) → text ≡ lines_joined from.before ++ rest
offered_front_lines_first text rest from =
    from.lines_are.0 ∙ lines_joined-append from.before from.after ∙ ap (λ (t : List ℕ). lines_joined from.before ++ t) (sym from.rest_is)

-- what stands before the rest has as many line feeds as lines, and is shorter than the text
pub offered_feeds_before_rest : (text rest : List ℕ) (n : ℕ) (from : IsFromLine text rest) → rest ≢ [] → n ≡ length text - length rest
    → line_feeds (take n text) ≡ length from.before
offered_feeds_before_rest text rest n from some is =
    let front : List ℕ = lines_joined from.before in
    let whole : text ≡ front ++ rest = offered_front_lines_first text rest from in
    let long : n ≡ length front = omega (arith, is, ap (λ (t : List ℕ). length t) whole, length-append front rest) in
    let taken : take n text ≡ front = ap (λ (k : ℕ). take k text) long ∙ ap (λ (t : List ℕ). take (length front) t) whole
    ∙ take-append_seam front rest in
    let before : line_feeds (take n text) ≡ line_feeds front = ap line_feeds taken in
    let both : line_feeds text ≡ line_feeds front + line_feeds rest = ap line_feeds whole ∙ row_count-append (λ c. c == 10) front rest in
    omega (arith, before, both, line_number text rest from some)

-- so its number is the next
pub offered_rest_numbered : (text rest : List ℕ) (n most line : ℕ) (from : IsFromLine text rest) → rest ≢ [] → n ≡ length text - length rest
    → length text ≤ most
    → line ≡ min (line_feeds (take n text) + 1) most → line ≡ length from.before + 1
offered_rest_numbered text rest n most line from some is bounded told =
    let feeds : line_feeds (take n text) ≡ length from.before = offered_feeds_before_rest text rest n from some is in
    let whole : length text ≡ length (lines_joined from.before) + length rest =
    ap (λ (t : List ℕ). length t) (offered_front_lines_first text rest from) ∙ length-append (lines_joined from.before) rest in
    let left : 1 ≤ length rest = some_long rest some in
    let short : n ≤ length text = omega (arith, is) in
    let few : line_feeds (take n text) ≤ n = omega (arith, count_by-le-length (λ c. c == 10) (take n text), length-take-le n text short) in
    let room : line_feeds (take n text) + 1 ≤ most = omega (arith, few, is, whole, left, bounded) in
    omega (arith, told, feeds, room)
  where
    some_long : (xs : List ℕ) → xs ≢ [] → 1 ≤ length xs
    some_long [] some = absurd (some refl)
    some_long (x ∷ xs) some = omega arith

pub offered_cut_short : (text rest : List ℕ) (offer : Sdp) (line : ℕ) → Reading text (offer, rest) → rest ≢ []
    → ((from : IsFromLine text rest) → rest ≢ [] → line ≡ length from.before + 1) → IsOfferedCutShort text line
offered_cut_short text rest offer line read left number =
    let leaves = reading_leaves read.0 offer read.1 read.3 in
    let are : Lines text (leaves.before ++ read.1) = subst (Lines text) leaves.are read.2 in
    record {
      offer = offer;
      read = leaves.before;
      unread = read.1;
      lines_are = are;
      reading = subst (λ (lines : List Line). IsReading lines offer read.1) leaves.are read.3;
      some = λ none. left (read.4 ∙ ap lines_joined none);
      number = number (record { before = leaves.before; after = read.1; lines_are = are; rest_is = read.4 }) left;
    }
