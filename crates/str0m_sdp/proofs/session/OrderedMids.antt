-- Laws of mids in the order of their bytes.
use Rattle.std.proofs.Math.Bool.{or_comm}
use Rattle.std.proofs.lemmas.Map.Text.{is_eq-slice_cmp}
use Rattle.str0m_sdp.proofs.Common.{arith, ◌≡◌, ◌<◌, ◌+◌, ◌++◌, ◌||◌, not, cond, ℕ, Bool, true, false, List, [], ◌∷◌, length, take, get_or}
use Rattle.str0m_sdp.proofs.Common.{Option, Some, None, append_assoc, filter_map, refl, sym, ap, ◌∙◌, Bor, BTreeSet, Updates, contains}
use Rattle.str0m_sdp.proofs.Common.{cons_option, nat_cmp, bytes_eq, ◌<|>◌, when, slice_cmp}
use Rattle.str0m_sdp.proofs.section.TypeTablesMarks.{mark_any_more}
use Rattle.str0m_sdp.specs.declared.section.media_line.MediaLine.{MediaLine}
use Rattle.str0m_sdp.specs.session.OrderedMids.{HoldsMids, is_mid_held, part_mid}
use Rattle.str0m_sdp.specs.session.SessionConsistency.{is_group_listed, mids_in_part, section_mid, takes_part_in_group}
use Rattle.str0m_sdp.specs.session.SessionFault.{first_mid_again}

-- ---- what is held

mids_cond_either : (b other : Bool) → cond b true other ≡ (b || other)
mids_cond_either b other = grind arith

-- one name more
mids_held_more : (old new : BTreeSet (Bor (List ℕ))) (name : Bor (List ℕ)) (mid : List ℕ) → name.now ≡ mid
    → Updates (λ x y. slice_cmp nat_cmp x.now y.now) old new name true
    → (q : List ℕ) → is_mid_held new (Some q) ≡ (bytes_eq mid q || is_mid_held old (Some q))
mids_held_more old new name mid same more q =
    more.0 (record { ref_ptr = (0, 0); now = q })
    ∙ ap (λ (b : Bool). cond b true (is_mid_held old (Some q))) (is_eq-slice_cmp name.now q)
    ∙ mids_cond_either (bytes_eq name.now q) (is_mid_held old (Some q))
    ∙ ap (λ (text : List ℕ). bytes_eq text q || is_mid_held old (Some q)) same

-- a mid before those that are held
pub mids_holds_before : (old new : BTreeSet (Bor (List ℕ))) (name : Bor (List ℕ)) (mid : List ℕ) (mids : List (List ℕ)) → name.now ≡ mid
    → Updates (λ x y. slice_cmp nat_cmp x.now y.now) old new name true → HoldsMids old mids → HoldsMids new (mid ∷ mids)
mids_holds_before old new name mid mids same more holds None = refl
mids_holds_before old new name mid mids same more holds (Some q) =
    mids_held_more old new name mid same more q ∙ ap (λ (b : Bool). bytes_eq mid q || b) (holds (Some q))

-- one after them
pub mids_holds_behind : (old new : BTreeSet (Bor (List ℕ))) (name : Bor (List ℕ)) (mid : List ℕ) (mids : List (List ℕ)) (i : ℕ)
    → i < length mids
    → mid ≡ get_or mids i mid → name.now ≡ mid
    → Updates (λ x y. slice_cmp nat_cmp x.now y.now) old new name true → HoldsMids old (take i mids) → HoldsMids new (take (i + 1) mids)
mids_holds_behind old new name mid mids i lt is same more holds None = refl
mids_holds_behind old new name mid mids i lt is same more holds (Some q) =
    mids_held_more old new name mid same more q
    ∙ ap (λ (b : Bool). bytes_eq mid q || b) (holds (Some q))
    ∙ or_comm (bytes_eq mid q) (is_group_listed (take i mids) (Some q))
    ∙ sym (mark_any_more (λ other. bytes_eq other q) mids i mid lt is)

-- ---- the first that stands again

pub mids_whole_before : (whole left before passed : List (List ℕ)) (mid : List ℕ) → whole ≡ left ++ passed → left ≡ before ++ mid ∷ []
    → whole ≡ before ++ (mid ∷ passed)
mids_whole_before whole left before passed mid all last = grind (arith, append_assoc)

mid_was_there : (added there : Bool) → added ≡ not there → added ≡ false → there ≡ true
mid_was_there added there is test = grind arith

mid_was_new : (added there : Bool) → added ≡ not there → added ≡ true → there ≡ false
mid_was_new added there is test = grind arith

-- a mid that was held stands again, and before all others
pub mid_found_here : (names : BTreeSet (Bor (List ℕ))) (name : Bor (List ℕ)) (mid : List ℕ) (mids : List (List ℕ)) (added : Bool)
    → name.now ≡ mid → HoldsMids names mids → added ≡ not (contains (λ x y. slice_cmp nat_cmp x.now y.now) names name) → added ≡ false
    → Some mid ≡ first_mid_again (mid ∷ mids)
mid_found_here names name mid mids added same holds told test =
    let listed : is_group_listed mids (Some mid) ≡ true =
    ap (λ (text : List ℕ). is_group_listed mids (Some text)) (sym same) ∙ sym (holds (Some name.now))
    ∙ mid_was_there added (is_mid_held names (Some name.now)) told test in
    sym (ap (λ (b : Bool). when b mid <|> first_mid_again mids) listed)

-- one that was new doesn't
pub mid_found_later : (names : BTreeSet (Bor (List ℕ))) (name : Bor (List ℕ)) (mid : List ℕ) (mids : List (List ℕ)) (added : Bool)
    (found : Option (List ℕ))
    → name.now ≡ mid → HoldsMids names mids → added ≡ not (contains (λ x y. slice_cmp nat_cmp x.now y.now) names name) → added ≡ true
    → found ≡ first_mid_again mids → found ≡ first_mid_again (mid ∷ mids)
mid_found_later names name mid mids added found same holds told test so_far =
    let unlisted : is_group_listed mids (Some mid) ≡ false =
    ap (λ (text : List ℕ). is_group_listed mids (Some text)) (sym same) ∙ sym (holds (Some name.now))
    ∙ mid_was_new added (is_mid_held names (Some name.now)) told test in
    so_far ∙ sym (ap (λ (b : Bool). when b mid <|> first_mid_again mids) unlisted)

-- ---- the sections that take part

-- one section more, which takes part or not
one_group_member : (m : MediaLine) (rest : List MediaLine) (b : Bool)
    → cons_option (cond b (section_mid m) None) (filter_map section_mid rest) ≡ filter_map section_mid (cond b (m ∷ rest) rest)
one_group_member m rest b = grind arith

pub group_parts_same : (names : BTreeSet (Bor (List ℕ))) (group : List (List ℕ)) (sections : List MediaLine) → HoldsMids names group
    → filter_map (part_mid names) sections ≡ mids_in_part group sections
group_parts_same names group [] holds = refl
group_parts_same names group (m ∷ ms) holds = grind (arith, takes_part_in_group, group_parts_same names group ms holds, one_group_member)
