-- What is said of rounds, one more at a time.
use Rattle.lint.proofs.Common.{◌≡◌, ◌+◌, ◌<◌, ℕ, Bool, true, false, Option, Some, None, Ok, Err, filter_map, List, [], ◌∷◌, ◌++◌, length}
use Rattle.lint.proofs.Common.{map, take, get_or, refl, sym, ap, subst, ◌∙◌, arith, append_assoc, append-nil, length-take-le, map-append}
use Rattle.lint.proofs.Common.{filter_map-append, on_err_weaker, cons_option, take_more, rounds_ran_from, CodecConfig, PayloadParams}
use Rattle.lint.proofs.Common.{Negotiates}
use Rattle.lint.proofs.Common.{OutcomeOfRound, is_media, MediaLine, Sdp, section_direction, rows, Reading, AtMostOneAnswer, receives}
use Rattle.lint.specs.Fates.{AddsFates, AreRowPartners, IsRowPartner, RoundSays, RoundsSay, SaysRounds, RoundWhereTrue, codes, fate}
use Rattle.lint.specs.Fates.{refusal_fate}
use Rattle.lint.specs.Fates.{fate_as_list}
use Rattle.lint.specs.Findings.{AddsOneFinding}
use Rattle.lint.specs.declared.code.Code.{Code}
use Rattle.lint.specs.declared.code.Code.TheVariants.{Round}
use Rattle.lint.specs.declared.code.Fate.{Fate}
use Rattle.lint.specs.declared.finding.Finding.{Finding}
use Rattle.lint.specs.declared.notes.Notes.{Notes}

pub adds_no_fate : (old : Notes) → AddsFates [] old old
adds_no_fate old = sym (append-nil (codes old.findings))

pub adds_one_fate : (line : ℕ) (fate : Fate) (old new : Notes) → AddsOneFinding line (Round fate) old new → AddsFates (fate ∷ []) old new
adds_one_fate line fate old new (f, e, c, l) =
    ap codes e ∙ map-append (λ (finding : Finding). finding.code) old.findings (f ∷ [])
    ∙ ap (λ (k : Code). codes old.findings ++ k ∷ []) c

pub adds_more_fates : (first second : List Fate) (old mid new : Notes) → AddsFates first old mid → AddsFates second mid new
    → AddsFates (first ++ second) old new
adds_more_fates first second old mid new a b =
    b ∙ ap (λ (cs : List Code). cs ++ map Round second) a
    ∙ append_assoc (codes old.findings) (map Round first) (map Round second)
    ∙ ap (λ (cs : List Code). codes old.findings ++ cs) (sym (map-append Round first second))

-- one more row
row_partners_push : (remote : List PayloadParams) (receives : Bool) (before after : List PayloadParams) (partners : List (Option ℕ))
    (old new : PayloadParams) (partner : Option ℕ)
    → length before ≡ length after → AreRowPartners remote receives before after partners → IsRowPartner remote receives old new partner
    → AreRowPartners remote receives (before ++ old ∷ []) (after ++ new ∷ []) (partners ++ partner ∷ [])
row_partners_push remote receives [] [] partners old new partner same are is = rw are (is, refl)
row_partners_push remote receives [] (x ∷ after) partners old new partner same are is = absurd (omega (arith, same))
row_partners_push remote receives (x ∷ before) [] partners old new partner same are is = absurd (omega (arith, same))
row_partners_push remote receives (x ∷ before) (y ∷ after) [] old new partner same are is = absurd are
row_partners_push remote receives (x ∷ before) (y ∷ after) (p ∷ partners) old new partner same are is =
    let shorter : length before ≡ length after = omega (arith, same) in
    (are.0, row_partners_push remote receives before after partners old new partner shorter are.1 is)

pub row_partners_step : (remote : List PayloadParams) (receives : Bool) (before after : List PayloadParams) (partners : List (Option ℕ))
    (i : ℕ)
    (old new : PayloadParams) (partner : Option ℕ)
    → i < length before → i < length after → old ≡ get_or before i old → new ≡ get_or after i new
    → AreRowPartners remote receives (take i before) (take i after) partners → IsRowPartner remote receives old new partner
    → AreRowPartners remote receives (take (i + 1) before) (take (i + 1) after) (partners ++ partner ∷ [])
row_partners_step remote receives before after partners i old new partner h k e f are is =
    let front : take i before ++ old ∷ [] ≡ take (i + 1) before =
    sym (take_more before i old h ∙ ap (λ (x : PayloadParams). take i before ++ x ∷ []) (sym e)) in
    let back : take i after ++ new ∷ [] ≡ take (i + 1) after =
    sym (take_more after i new k ∙ ap (λ (x : PayloadParams). take i after ++ x ∷ []) (sym f)) in
    let n : length (take i before) ≡ i = length-take-le i before (omega (arith, h)) in
    let m : length (take i after) ≡ i = length-take-le i after (omega (arith, k)) in
    let pushed = row_partners_push remote receives (take i before) (take i after) partners old new partner (n ∙ sym m) are is in
    subst (λ (ys : List PayloadParams). AreRowPartners remote receives (take (i + 1) before) ys (partners ++ partner ∷ [])) back
    (subst (λ (xs : List PayloadParams). AreRowPartners remote receives xs (take i after ++ new ∷ []) (partners ++ partner ∷ [])) front
    pushed)

-- one more section without a round
pub rounds_skip : (sections : List MediaLine) (m : MediaLine) (before : List PayloadParams) (fates : List Fate) (after : List PayloadParams)
    → is_media m.typ ≡ false → RoundsSay sections before fates after → RoundsSay (sections ++ m ∷ []) before fates after
rounds_skip [] m before fates after not_one say = rw not_one say
rounds_skip (s ∷ sections) m before fates after not_one say =
    elim (is_media s.typ) as (λ b. RoundWhereTrue b ((own rest : List Fate) × (mid : List PayloadParams) × (fates ≡ own ++ rest)
    × RoundSays s before own mid × RoundsSay sections mid rest after) (RoundsSay sections before fates after)
    → RoundWhereTrue b ((own rest : List Fate) × (mid : List PayloadParams) × (fates ≡ own ++ rest) × RoundSays s before own mid
    × RoundsSay (sections ++ m ∷ []) mid rest after) (RoundsSay (sections ++ m ∷ []) before fates after)) [
      | true ↦ λ (own, rest, mid, is, one, more). (own, rest, mid, is, one, rounds_skip sections m mid rest after not_one more)
      | false ↦ λ more. rounds_skip sections m before fates after not_one more
    ] say

-- one more with its round
pub rounds_push : (sections : List MediaLine) (m : MediaLine) (before : List PayloadParams) (fates last : List Fate)
    (now after : List PayloadParams)
    → is_media m.typ ≡ true → RoundsSay sections before fates now → RoundSays m now last after
    → RoundsSay (sections ++ m ∷ []) before (fates ++ last) after
rounds_push [] m before fates last now after is_one say own =
    let here : RoundSays m before last after = subst (λ (rows : List PayloadParams). RoundSays m rows last after) say.1 own in
    rw is_one (last, [], after, ap (λ (fs : List Fate). fs ++ last) say.0 ∙ sym (append-nil last), here, (refl, refl))
rounds_push (s ∷ sections) m before fates last now after is_one say own =
    elim (is_media s.typ) as (λ b. RoundWhereTrue b ((first rest : List Fate) × (mid : List PayloadParams) × (fates ≡ first ++ rest)
    × RoundSays s before first mid × RoundsSay sections mid rest now) (RoundsSay sections before fates now)
    → RoundWhereTrue b ((first rest : List Fate) × (mid : List PayloadParams) × (fates ++ last ≡ first ++ rest)
    × RoundSays s before first mid
    × RoundsSay (sections ++ m ∷ []) mid rest after) (RoundsSay (sections ++ m ∷ []) before (fates ++ last) after)) [
      | true ↦ λ (first, rest, mid, is, one, more). (
        first,
        rest ++ last,
        mid,
        ap (λ (fs : List Fate). fs ++ last) is ∙ append_assoc first rest last,
        one,
        rounds_push sections m mid rest last now after is_one more own,
      )
      | false ↦ λ more. rounds_push sections m before fates last now after is_one more own
    ] say

one_fate_of : (o : Option Fate) → cons_option o [] ≡ fate_as_list o
one_fate_of None = refl
one_fate_of (Some it) = refl

pub rows_step : (h : PayloadParams → Option Fate) (xs : List PayloadParams) (i : ℕ) (x : PayloadParams) (old mid new : Notes)
    → i < length xs → x ≡ get_or xs i x
    → AddsFates (filter_map h (take i xs)) old mid → AddsFates (fate_as_list (h x)) mid new
    → AddsFates (filter_map h (take (i + 1) xs)) old new
rows_step h xs i x old mid new inside is a b =
    let front : take i xs ++ x ∷ [] ≡ take (i + 1) xs =
    sym (take_more xs i x inside ∙ ap (λ (y : PayloadParams). take i xs ++ y ∷ []) (sym is)) in
    let same : filter_map h (take i xs) ++ fate_as_list (h x) ≡ filter_map h (take (i + 1) xs) =
    ap (λ (fs : List Fate). filter_map h (take i xs) ++ fs) (sym (one_fate_of (h x))) ∙ sym (filter_map-append h (take i xs) (x ∷ []))
    ∙ ap (filter_map h) front in
    subst (λ (fs : List Fate). AddsFates fs old new) same (adds_more_fates (filter_map h (take i xs)) (fate_as_list (h x)) old mid new a b)

-- the sections so far, with what is said of their rounds
abbrev pub FatesSaidSoFar : Notes → Notes → List MediaLine → List PayloadParams → List PayloadParams → Type 0
FatesSaidSoFar old now sections before after = (fates : List Fate) × AddsFates fates old now × RoundsSay sections before fates after

pub fate_round_skip_step : (all : List MediaLine) (i : ℕ) (m : MediaLine) (old now : Notes) (before after : List PayloadParams)
    → i < length all
    → m ≡ get_or all i m
    → is_media m.typ ≡ false → FatesSaidSoFar old now (take i all) before after → FatesSaidSoFar old now (take (i + 1) all) before after
fate_round_skip_step all i m old now before after inside is not_one (fates, adds, say) =
    let front : take i all ++ m ∷ [] ≡ take (i + 1) all =
    sym (take_more all i m inside ∙ ap (λ (y : MediaLine). take i all ++ y ∷ []) (sym is)) in (
      fates,
      adds,
      subst (λ (ms : List MediaLine). RoundsSay ms before fates after) front
          (rounds_skip (take i all) m before fates after not_one say),
    )

pub round_step : (all : List MediaLine) (i : ℕ) (m : MediaLine) (old mid new : Notes) (before now after : List PayloadParams)
    → i < length all → m ≡ get_or all i m
    → is_media m.typ ≡ true → FatesSaidSoFar old mid (take i all) before now
    → ((fates : List Fate) × AddsFates fates mid new × RoundSays m now fates after)
    → FatesSaidSoFar old new (take (i + 1) all) before after
round_step all i m old mid new before now after inside is one (fates, adds, say) (own, more, round) =
    let front : take i all ++ m ∷ [] ≡ take (i + 1) all =
    sym (take_more all i m inside ∙ ap (λ (y : MediaLine). take i all ++ y ∷ []) (sym is)) in (
      fates ++ own,
      adds_more_fates fates own old mid new adds more,
      subst (λ (ms : List MediaLine). RoundsSay ms before (fates ++ own) after)
          front (rounds_push (take i all) m before fates own now after one say round),
    )

-- a round leaves as many rows as there were
pub fate_rounds_same_count : (remote : List PayloadParams) (receives : Bool) (old new : CodecConfig) (result : OutcomeOfRound)
    → Negotiates remote receives old new result
    → length old.params.items ≡ length new.params.items
fate_rounds_same_count remote receives old new (Ok done) n = sym n.promises.rows
fate_rounds_same_count remote receives old new (Err cause) n = ap (λ (config : CodecConfig). length config.params.items) (sym n.err)

-- what is said of a round that was run
pub round_says : (m : MediaLine) (old new : CodecConfig) (outcome : OutcomeOfRound) (partners : List (Option ℕ))
    → Negotiates (rows m) (receives (section_direction m.attrs)) old new outcome
    → AreRowPartners (rows m) (receives (section_direction m.attrs)) old.params.items new.params.items partners
    → RoundSays m old.params.items
    (refusal_fate outcome ++ filter_map (fate old.params.items (receives (section_direction m.attrs)) new.params.items outcome partners)
    (rows m)) new.params.items
round_says m old new outcome partners n are =
    let remote = rows m in
    let dir = receives (section_direction m.attrs) in
    let err = on_err_weaker outcome (ap (λ (config : CodecConfig). config.params.items)) n.err in
    record {
      outcome = outcome;
      ran = rounds_ran_from old.params.items remote new.params.items dir outcome n.ok n.cause err;
      said = record { partners = partners; partners_are = are; fates_are = refl };
    }

-- the same, by the names that code has for each
pub round_said : (m : MediaLine) (old new : CodecConfig) (outcome : OutcomeOfRound) (partners shown : List (Option ℕ))
    (first mid last : Notes)
    (remote told before after : List PayloadParams) (dir flag : Bool)
    → remote ≡ rows m → told ≡ rows m → dir ≡ receives (section_direction m.attrs) → flag ≡ receives (section_direction m.attrs)
    → before ≡ old.params.items → after ≡ new.params.items → shown ≡ partners → Negotiates remote dir old new outcome
    → (length before ≡ length after → AreRowPartners told flag before after partners)
    → AddsFates (refusal_fate outcome) first mid → AddsFates (filter_map (fate before flag after outcome shown) told) mid last
    → (fates : List Fate) × AddsFates fates first last × RoundSays m old.params.items fates new.params.items
round_said m old new outcome partners shown first mid last remote told before after dir flag is_remote is_told is_dir is_flag is_before
    is_after is_shown n are a b =
    let sure : Negotiates (rows m) (receives (section_direction m.attrs)) old new outcome =
    subst (λ (d : Bool). Negotiates (rows m) d old new outcome) is_dir
    (subst (λ (r : List PayloadParams). Negotiates r dir old new outcome) is_remote n) in
    let count : length before ≡ length after = ap length is_before ∙ fate_rounds_same_count remote dir old new outcome n
    ∙ sym (ap length is_after) in
    let own : AddsFates (filter_map (fate before flag after outcome partners) told) mid last =
    subst (λ (ps : List (Option ℕ)). AddsFates (filter_map (fate before flag after outcome ps) told) mid last) is_shown b in
    let P : List PayloadParams → Bool → List PayloadParams → List PayloadParams → Type 0 =
    λ r f x y. AreRowPartners r f x y partners × AddsFates (filter_map (fate x f y outcome partners) r) mid last in
    let one : P (rows m) flag before after = subst (λ (r : List PayloadParams). P r flag before after) is_told (are count, own) in
    let two : P (rows m) (receives (section_direction m.attrs)) before after =
    subst (λ (f : Bool). P (rows m) f before after) is_flag one in
    let three : P (rows m) (receives (section_direction m.attrs)) old.params.items after =
    subst (λ (x : List PayloadParams). P (rows m) (receives (section_direction m.attrs)) x after) is_before two in
    let four : P (rows m) (receives (section_direction m.attrs)) old.params.items new.params.items =
    subst (λ (y : List PayloadParams). P (rows m) (receives (section_direction m.attrs)) old.params.items y) is_after three in
    let fates : List Fate = filter_map (fate old.params.items (receives (section_direction m.attrs)) new.params.items outcome partners)
    (rows m) in (
      refusal_fate outcome ++ fates,
      adds_more_fates (refusal_fate outcome) fates first mid last a four.1,
      round_says m old new outcome partners sure four.0,
    )

-- those of a description
pub described_fates : (sections lines : List MediaLine) (config ours after : List PayloadParams) (old new : Notes) → sections ≡ lines
    → config ≡ ours
    → ((fates : List Fate) × AddsFates fates old new × RoundsSay sections config fates after)
    → (fates : List Fate) × (end : List PayloadParams) × AddsFates fates old new × RoundsSay lines ours fates end
described_fates sections lines config ours after old new is_lines is_ours (fates, adds, say) = (
  fates,
  after,
  adds,
  subst (λ (rs : List PayloadParams). RoundsSay lines rs fates after) is_ours
      (subst (λ (ms : List MediaLine). RoundsSay ms config fates after) is_lines say),
)

-- a text is read so, and nothing is said before
pub says_read : (text : List ℕ) (ours : List PayloadParams) (sdp : Sdp) (rest : List ℕ) (old new : Notes) → Reading text (sdp, rest)
    → AtMostOneAnswer (Reading text)
    → old.findings ≡ [] → ((fates : List Fate) × (after : List PayloadParams) × AddsFates fates old new
    × RoundsSay sdp.media_lines ours fates after)
    → SaysRounds text ours new.findings
says_read text ours sdp rest old new reading one none (fates, after, adds, say) = record {
  refused = λ never. absurd (never (sdp, rest) reading);
  said = λ s r other.
      let is : (sdp, rest) ≡ (s, r) = one (sdp, rest) (s, r) reading other in
      let all : codes new.findings ≡ map Round fates = adds ∙ ap (λ (fs : List Finding). codes fs ++ map Round fates) none in
      (fates, all, after, subst (λ (v : Sdp × List ℕ). RoundsSay (v.0).media_lines ours fates after) is say);
}

-- a text is refused
pub fate_says_none : (text : List ℕ) (ours : List PayloadParams) (old : Notes) → ((v : Sdp × List ℕ) → Reading text v → ⊥)
    → old.findings ≡ []
    → SaysRounds text ours old.findings
fate_says_none text ours old never none = record {
  refused = λ _. none;
  said = λ s r other. absurd (never (s, r) other);
}
