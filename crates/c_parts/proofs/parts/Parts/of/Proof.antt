-- `of` takes the box apart, and the parts own what it owned.
use Rattle.c_parts.proofs.PartsSteps.{◌≡◌, refl, ap, [], ◌∷◌, ◌++◌, a_type, dcons, dnil, inst_fn, Val, SProp, id⊢, ftrue, fsep, WpFn}
use Rattle.c_parts.proofs.PartsSteps.{tables, ‵, raw, ◌⊛◌, ◌$◌, ◌∵◌, !, qed, by, keep, use1, join, prop, agg, no_more, and_then, of_opd}
use Rattle.c_parts.proofs.PartsSteps.{returns, enter, alloc_all, pass_all, free_all, look_at, get, sets, lands_as, no, bounded, plain, only}
use Rattle.c_parts.proofs.PartsSteps.{calls_at, Stays, stay_dropped, walk_of, Goes-blank, fm, proved_at, leaves, B, D, word, box_typed}
use Rattle.c_parts.proofs.PartsSteps.{box_in, alive, boxed, asked_parts_triple, takes_parts, hands_parts, begins_parts, box_in_one}
use Rattle.c_parts.proofs.PartsSteps.{box_both}
use Rattle.c_parts.proofs.PartsSteps.{answer_parts}
use Rattle.c_parts.proofs.PartsSteps.{told_parts, spent_parts}
use Rattle.c_parts.proofs.PartsSteps.{field_of_parts}
use Rattle.c_parts.proofs.parts.Parts.of.Code as code
use Rattle.c_parts.proofs.parts.Parts.of.Statement.{statement}
use Rattle.c_parts.specs.contracts.parts.Parts.of.{ended, clauses}
use Rattle.c_parts.specs.contracts.parts.Parts.of.Key.{name as #self}
use Rattle.std_alloc.proofs.boxed.Box.into_raw_with_allocator.Met.{met}
use Rattle.std_alloc.specs.contracts.boxed.Box.into_raw_with_allocator as callee

pub of_spec : {M : Type 1} → statement M
of_spec 𝓤 𝓛 𝓜 𝓡 wired X Z LX LZ g d dd dx allocator freed dropped =
    let H = 𝓛.H in let 𝓣 = tables 𝓤 H 𝓜 𝓡 𝓡.env in let E = boxed X LX Z LZ g d dd in
    let S = ended X Z g d dd dx in let c = clauses X Z g d dd dx 𝓛 𝓜.mem 𝓡.returns in
    let T = callee.ended X Z g d dd dx in let e = callee.clauses X Z g d dd dx 𝓛 𝓜.mem 𝓡.returns in
    let given = bounded (a_type ∷ a_type ∷ []) (X, (Z, tt)) (dcons d (dcons dd (dcons dx dnil))) in let fn = inst_fn given code.function in
    let gone : Stays S.signature.params S.kept = (stay_dropped (plain (λ _. B E)) no, tt) in
    proved_at 𝓛 S gone c 𝓜 𝓡 (Goes-blank 𝓛 2 (plain (λ _. B E)) no (λ κs x f. tt), tt) (#self given) fn
    (code.unfolded 𝓤 H 𝓜 𝓡 wired (X, (Z, tt)) d dd dx) (λ z are.
    let v : D E = z.0.3.0 in let Post : Val → SProp 𝓤 = (walk_of 𝓛 S gone c).post z in
    qed 𝓛 ((raw (alive 𝓛 S.signature z.0.0 z.0.1) ⊛ ‵ (fsep ((B E).own_val v z.0.4.0) ftrue)) ∷ raw ((c z.0.0 z.0.3).requires z.1) ∷ []) ∵
    -- the box is one word, which is handed on
    takes_parts ! $ begins_parts E v z.0.4.0 (λ vs. prop (WpFn 𝓤 H 𝓣.C 𝓣.Λ fn (vs ++ []) Post)) ! refl (λ b o hv at fits.
    let k = asked_parts_triple 𝓛 T e in let w = word E hv b o in let y : k.Ghost = ((z.0.0, z.0.1, tt, (v, tt), (w ∷ [], tt)), tt) in
    box_in E ! v b o v.value at refl $ hands_parts ! $ join ! $ use1 𝓛 (raw (k.pre y)) (id⊢ 𝓤 _) $
    enter ! 𝓣.C 𝓣.Λ fn (w ∷ []) Post
    $ alloc_all ! (λ l. pass_all ! refl (box_typed E hv b o fits, tt) $ sets ! (of_opd ! (get ! refl)) refl (box_typed E hv b o fits) $
    calls_at ! (fm 𝓛 𝓜 𝓡) k (met 𝓤 𝓛 𝓜 𝓡 (code.calls-std_alloc::boxed::Box::into_raw_with_allocator 𝓡.env wired) X Z LX LZ g d dd dx
    allocator freed dropped) y (and_then ! (get ! refl) (no_more !)) (λ u.
    -- the pair that comes back is the parts' word, and owns what they do
    answer_parts 𝓛 T e y u ! tt (λ r ls. box_both E v.alloc v.value r (u ∷ []) ! $
    let made : D E = record { ptr = r.0; alloc = r.1; value = v.value } in box_in_one E made (u ∷ []) ! (λ b' o' hv' is fits'.
    let typed = box_typed E hv' b' o' fits' in lands_as ! (ap only is) refl typed $
    -- its fields are moved
    sets ! (field_of_parts 0 ! refl refl refl) refl (tt, tt) $ sets ! (field_of_parts 1 ! refl refl refl) refl fits' $
    sets ! (of_opd ! (get ! refl)) refl fits' $ sets ! (agg ! (and_then ! (get ! refl) (and_then ! (get ! refl) (no_more !)))) refl typed $
    -- [nothing of the box; the value is the box's; the parts; the tokens]
    told_parts 𝓛 (v.value ≡ v.value) refl $ spent_parts ! $ returns ! (look_at ! 0 refl) $ free_all ! refl $ keep ! (3 ∷ 0 ∷ 2 ∷ 1 ∷ []) $
    by ! (leaves 𝓛 S gone c z (word E hv' b' o') (record { ptr = r.0; alloc = r.1; value = v.value }) ((tt, (tt, tt)), tt) (tt, tt))))))))
