-- What holds of the rows that answer a section.
use Rattle.exchange.proofs.Common.{arith, ◌≡◌, ◌≢◌, ◌==◌, ◌&&◌, ◌≤◌, ℕ, Bool, true, false, List, Option, Some, None, All, IfSome}
use Rattle.exchange.proofs.Common.{if◌then◌else◌, filter, find, refl, subst, sym, ap, ◌∙◌, option_map, and_parts, eqb-true, eq-eqb}
use Rattle.exchange.proofs.Common.{false≢true, All-contains_itself, Contains, is_some, PayloadParams, AllTypesDistinct, has, type_times}
use Rattle.exchange.proofs.Common.{distinct}
use Rattle.exchange.proofs.Common.{MediaLine, rows, ◌>>=◌}
use Rattle.exchange.proofs.answer.RowsListLaws.{rows_All-distinct, rows_All-filter_map, list_contains_type, row_types_distinct-once}
use Rattle.exchange.proofs.answer.RowsListLaws.{list_found, rows_found_some}
use Rattle.exchange.proofs.answer.RowsListLaws.{list_keeps_type}
use Rattle.exchange.proofs.answer.RowsListLaws.{list_marks, row_types_times-filter}
use Rattle.exchange.specs.answer.Rows.{IsAgreedRow, BelongsInAnswer, SaysWhatIsOffered, agreed_row_type, answer_to, answer_under}
use Rattle.exchange.specs.answer.Rows.{answered_rows}
use Rattle.exchange.specs.answer.Rows.{as_answered, is_answered, is_row_carried_in, row_matches, own_types}
use Rattle.str0m_formats.specs.round.MatchScore.{score}

-- ---- one row

row_is_some : {A : Type 0} (o : Option A) → is_some o ≡ true → o ≢ None
row_is_some None h = λ e. false≢true h
row_is_some (Some x) h = λ e. cc

row_some : {A : Type 0} (o : Option A) → o ≢ None → is_some o ≡ true
row_some None h = absurd (h refl)
row_some (Some x) h = refl

row_and_both : {a b : Bool} → a ≡ true → b ≡ true → (a && b) ≡ true
row_and_both {a} {b} e f = ap (λ (x : Bool). x && b) e ∙ f

-- a type that is agreed on stands in the m-line
row_type_in_m_line : (listed : List ℕ) (ours theirs : Option ℕ) → IfSome (agreed_row_type listed ours theirs) (Contains listed)
row_type_in_m_line listed None theirs = tt
row_type_in_m_line listed (Some a) None = tt
row_type_in_m_line listed (Some a) (Some b) = go (a == b && has listed a) refl where
  go : (test : Bool) → (a == b && has listed a) ≡ test → IfSome (if test then Some a else None) (Contains listed)
  go true e = list_contains_type listed a (and_parts (a == b) (has listed a) e).1
  go false e = tt

row_second_true : (a b : Bool) → (a && b) ≡ true → b ≡ true
row_second_true a b h = (and_parts a b h).1

row_says : (section : MediaLine) (theirs ours : PayloadParams) → SaysWhatIsOffered section (as_answered section theirs ours)
unfolding as_answered
row_says section theirs ours = record {
  resend = row_type_in_m_line section.pts ours.resend theirs.resend;
  red = row_type_in_m_line section.pts ours.red theirs.red;
  transport_cc = row_second_true ours.fb_transport_cc _;
  fir = row_second_true ours.fb_fir _;
  nack = row_second_true ours.fb_nack _;
  pli = row_second_true ours.fb_pli _;
  remb = row_second_true ours.fb_remb _;
}

under_own_type : (section : MediaLine) (theirs ours : PayloadParams) → (as_answered section theirs ours).pt ≡ ours.pt
unfolding as_answered
under_own_type section theirs ours = refl

-- what is found of an answer under a type
pub record FoundRow (own : List PayloadParams) (section : MediaLine) (pt : ℕ) (row : PayloadParams) : Type 0 where
  pub agreed : Contains section.pts pt → IsAgreedRow own section row
  pub under : row.pt ≡ pt
  pub offered : SaysWhatIsOffered section row

matched_row : (own : List PayloadParams) (section : MediaLine) (theirs ours : PayloadParams) → Contains own ours
    → Contains (rows section) theirs
    → row_matches section.typ theirs ours ≡ true → FoundRow own section theirs.pt (as_answered section theirs ours)
matched_row own section theirs ours known offered h =
    let locked = and_parts ours.locked _ h in
    let typed = and_parts (ours.pt == theirs.pt) _ locked.1 in
    let carried = and_parts (is_row_carried_in section.typ ours) _ typed.1 in
    let same : ours.pt ≡ theirs.pt = eqb-true _ _ typed.0 in
    record {
      agreed = λ listed. record {
        ours = ours;
        theirs = theirs;
        known = known;
        offered = offered;
        locked = locked.0;
        carried = carried.0;
        same_type = sym same;
        listed = subst (Contains section.pts) (sym same) listed;
        match = row_is_some (score ours.spec theirs.spec) carried.1;
        said = refl;
      };
      under = under_own_type section theirs ours ∙ same;
      offered = row_says section theirs ours;
    }

answered : (own : List PayloadParams) (section : MediaLine) (pt : ℕ) (theirs : PayloadParams) → theirs.pt ≡ pt
    → Contains (rows section) theirs
    → IfSome (answer_to own section theirs) (FoundRow own section pt)
answered own section pt theirs is offered = go (find (row_matches section.typ theirs) own) (list_found (row_matches section.typ theirs) own)
  where
    go : (o : Option PayloadParams) → IfSome o (λ ours. (row_matches section.typ theirs ours ≡ true) × Contains own ours)
        → IfSome (option_map (as_answered section theirs) o) (FoundRow own section pt)
    go None h = tt
    go (Some ours) h = subst (λ (n : ℕ). FoundRow own section n (as_answered section theirs ours)) is
        (matched_row own section theirs ours h.1 offered h.0)

row_found_under : (own : List PayloadParams) (section : MediaLine) (pt : ℕ)
    → IfSome (answer_under own section (rows section) pt) (FoundRow own section pt)
unfolding answer_under
row_found_under own section pt = go (find (λ row. row.pt == pt) (rows section)) (list_found (λ row. row.pt == pt) (rows section)) where
  go : (o : Option PayloadParams) → IfSome o (λ theirs. ((theirs.pt == pt) ≡ true) × Contains (rows section) theirs)
      → IfSome (o >>= answer_to own section) (FoundRow own section pt)
  go None h = tt
  go (Some theirs) h = answered own section pt theirs (eqb-true _ _ h.0) h.1

-- ---- all rows

row_IfSome_weaker : {A : Type 0} (P Q : A → Type 0) → ((x : A) → P x → Q x) → (o : Option A) → IfSome o P → IfSome o Q
row_IfSome_weaker P Q f None h = tt
row_IfSome_weaker P Q f (Some x) h = f x h

-- the types of the m-line, each once
abbrev row_types_once : MediaLine → List ℕ
row_types_once section = distinct ◌==◌ section.pts

row_types_listed_once : (section : MediaLine) → All (Contains section.pts) (row_types_once section)
row_types_listed_once section = rows_All-distinct (Contains section.pts) ◌==◌ section.pts (All-contains_itself section.pts)

pub all_rows_agreed : (own : List PayloadParams) (section : MediaLine) (answer : List PayloadParams) → answer ≡ answered_rows own section
    → All (IsAgreedRow own section) answer
unfolding answered_rows
all_rows_agreed own section answer is = subst (All (IsAgreedRow own section)) (sym is)
    (rows_All-filter_map (Contains section.pts) (IsAgreedRow own section) (answer_under own section (rows section))
    (λ pt listed. row_IfSome_weaker (FoundRow own section pt) (IsAgreedRow own section) (λ row h. h.agreed listed)
    (answer_under own section (rows section) pt) (row_found_under own section pt))
    (row_types_once section) (row_types_listed_once section))

pub answered_rows_say : (own : List PayloadParams) (section : MediaLine) (answer : List PayloadParams) → answer ≡ answered_rows own section
    → All (SaysWhatIsOffered section) answer
unfolding answered_rows
answered_rows_say own section answer is = subst (All (SaysWhatIsOffered section)) (sym is)
    (rows_All-filter_map (Contains section.pts) (SaysWhatIsOffered section) (answer_under own section (rows section))
    (λ pt listed. row_IfSome_weaker (FoundRow own section pt) (SaysWhatIsOffered section) (λ row h. h.offered)
    (answer_under own section (rows section) pt) (row_found_under own section pt))
    (row_types_once section) (row_types_listed_once section))

pub rows_in_order : (own : List PayloadParams) (section : MediaLine) (answer : List PayloadParams) → answer ≡ answered_rows own section
    → own_types answer ≡ filter (is_answered own section) (distinct ◌==◌ section.pts)
unfolding answered_rows
rows_in_order own section answer is =
    ap own_types is
    ∙ list_marks (λ row. row.pt) (answer_under own section (rows section))
    (λ pt. row_IfSome_weaker (FoundRow own section pt) (λ row. row.pt ≡ pt) (λ row h. h.under) (answer_under own section (rows section) pt)
    (row_found_under own section pt))
    (row_types_once section)

pub answers_once : (own : List PayloadParams) (section : MediaLine) (answer : List PayloadParams) → answer ≡ answered_rows own section
    → AllTypesDistinct (own_types answer)
answers_once own section answer is = λ t. go t (rows_in_order own section answer is) where
  go : (t : ℕ) → own_types answer ≡ filter (is_answered own section) (distinct ◌==◌ section.pts) → type_times (own_types answer) t ≤ 1
  go t e =
      let fewer = row_types_times-filter (is_answered own section) (row_types_once section) t in
      let once = row_types_distinct-once section.pts t in
      let same = ap (λ (ts : List ℕ). type_times ts t) e in
      omega (arith, fewer, once, same)

-- a row that belongs in the answer has an answer
has_answer : (own : List PayloadParams) (section : MediaLine) (ours : PayloadParams) → BelongsInAnswer own section ours
    → is_answered own section ours.pt ≡ true
unfolding answer_under
has_answer own section ours b = ap (λ (o : Option PayloadParams). is_some (o >>= answer_to own section)) b.offered
    ∙ mapped (find (row_matches section.typ b.theirs) own) (rows_found_some (row_matches section.typ b.theirs) own ours b.known passes)
  where
    mapped : (o : Option PayloadParams) → is_some o ≡ true → is_some (option_map (as_answered section b.theirs) o) ≡ true
    mapped None h = h
    mapped (Some x) h = refl

    is_under : (b.theirs.pt == ours.pt) ≡ true
    is_under = (subst (λ (o : Option PayloadParams). IfSome o (λ theirs. ((theirs.pt == ours.pt) ≡ true)
        × Contains (rows section) theirs))
        b.offered (list_found (λ row. row.pt == ours.pt) (rows section))).0

    passes : row_matches section.typ b.theirs ours ≡ true
    passes = row_and_both b.locked (row_and_both (eq-eqb _ _ (sym (eqb-true _ _ is_under)))
        (row_and_both b.carried (row_some (score ours.spec b.theirs.spec) b.match)))

pub answered_rows_stand : (own : List PayloadParams) (section : MediaLine) (answer : List PayloadParams)
    → answer ≡ answered_rows own section
    → (ours : PayloadParams) → BelongsInAnswer own section ours → Contains (own_types answer) ours.pt
answered_rows_stand own section answer is ours b =
    subst (λ (ts : List ℕ). Contains ts ours.pt) (sym (rows_in_order own section answer is))
    (list_keeps_type (is_answered own section) section.pts ours.pt b.listed (has_answer own section ours b))
