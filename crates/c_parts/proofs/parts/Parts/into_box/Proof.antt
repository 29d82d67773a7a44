-- `into_box` hands what the parts own to `from_raw`.
use Rattle.c_parts.proofs.PartsSteps.{◌≡◌, refl, [], ◌∷◌, ◌++◌, inst_fn, Val, vptr, SProp, id⊢, fst∗, ftrue, fsep, WpFn, fact, ◌⊑◌, tables}
use Rattle.c_parts.proofs.PartsSteps.{‵, raw, ◌⊛◌, at_ret, ◌$◌, ◌∵◌, !, qed, by, move, keep, use1, join, split3, group, prop, no_more}
use Rattle.c_parts.proofs.PartsSteps.{and_then, of_opd, returns, enter, first, blocks, exec, alloc_all, pass_all, free_all, look_at, get}
use Rattle.c_parts.proofs.PartsSteps.{sets, lands_last, env, RattleType, no, block_ptr, plain, calls_at_last, Stays, stay_dropped, walk_of}
use Rattle.c_parts.proofs.PartsSteps.{Goes-blank, after, fm, proved_at, leaves, D, R, P, B, args, word, box_typed, alive, boxed}
use Rattle.c_parts.proofs.PartsSteps.{asked_parts_triple, takes_parts, begins_parts, one_box, box_apart, answer_parts, spent_parts}
use Rattle.c_parts.proofs.PartsSteps.{field_of_parts}
use Rattle.c_parts.proofs.parts.Parts.into_box.Code as code
use Rattle.c_parts.proofs.parts.Parts.into_box.Statement.{statement}
use Rattle.c_parts.specs.contracts.parts.Parts as parts
use Rattle.c_parts.specs.contracts.parts.Parts.into_box.{ended, clauses}
use Rattle.c_parts.specs.contracts.parts.Parts.into_box.Key.{name as #self}
use Rattle.std_alloc.proofs.boxed.Box.from_raw.Met.{met}
use Rattle.std_alloc.specs.contracts.boxed.Box.from_raw as callee

pub into_box_spec : {M : Type 1} → statement M
into_box_spec 𝓤 𝓛 𝓜 𝓡 wired X Z LX LZ g d dd allocator freed =
    let H = 𝓛.H in let 𝓣 = tables 𝓤 H 𝓜 𝓡 𝓡.env in let E = boxed X LX Z LZ g d dd in
    let S = ended X Z g d dd in let c = clauses X Z g d dd 𝓛 𝓜.mem 𝓡.returns in
    let T = callee.ended X Z g d dd in let e = callee.clauses X Z g d dd 𝓛 𝓜.mem 𝓡.returns in
    let fn = inst_fn (args E) code.function in let From : RattleType = parts.the_row (R E) (P E) g in
    let gone : Stays S.signature.params S.kept = (stay_dropped (plain (λ _. From)) no, tt) in
    proved_at 𝓛 S gone c 𝓜 𝓡 (Goes-blank 𝓛 2 (plain (λ _. From)) no (λ κs x f. tt), tt) (#self (args E)) fn
    (code.unfolded 𝓤 H 𝓜 𝓡 wired (X, (Z, tt)) d dd) (λ z are.
    let held : D E = record { ptr = z.0.3.0.ptr; alloc = z.0.3.0.alloc; value = z.0.3.0.value } in let Post : Val → SProp 𝓤 =
    (walk_of 𝓛 S gone c).post z in
    let lasting = raw (fact 𝓤 (z.0.0.0 ⊑ X.lives)) ⊛ raw (fact 𝓤 (z.0.0.1.0 ⊑ Z.lives)) ⊛ ‵ ftrue in
    qed 𝓛 ((raw (alive 𝓛 S.signature z.0.0 z.0.1) ⊛ ‵ (fsep ((B E).own_val held z.0.4.0) ftrue)) ∷ lasting ∷ []) ∵
    -- the parts are one word, an allocator and a pointer
    takes_parts ! $ begins_parts E held z.0.4.0 (λ vs. prop (WpFn 𝓤 H 𝓣.C 𝓣.Λ fn (vs ++ []) Post)) ! refl
    (λ b o hv at fits. box_apart E held b o hv ! $
    let k = asked_parts_triple 𝓛 T e in let w = word E hv b o in let y : k.Ghost =
    ((z.0.0, z.0.1, tt, (held.alloc, (block_ptr b o, tt)), (hv ∷ [], (vptr b o ∷ [], tt))), held.value) in
    -- [the two lifetimes; nothing; the arguments; what lies there; the tokens], and of it what `from_raw` requires
    move ! (3 ∷ []) $ split3 ! $ keep ! (0 ∷ 1 ∷ 4 ∷ 3 ∷ 5 ∷ []) $ group ! 3 $ move ! (2 ∷ 1 ∷ 0 ∷ []) $ join ! $ join !
    $ use1 𝓛 (raw (k.pre y)) (id⊢ 𝓤 _) $
    enter ! 𝓣.C 𝓣.Λ fn (w ∷ []) Post $ alloc_all ! (λ l. pass_all ! refl (box_typed E hv b o fits, tt) $
    sets ! (field_of_parts 0 ! refl refl refl) refl (tt, tt) $ sets ! (field_of_parts 1 ! refl refl refl) refl fits $
    first ! $ blocks ! $ sets ! (of_opd ! (get ! refl)) refl fits $
    calls_at_last ! (fm 𝓛 𝓜 𝓡) k (met 𝓤 𝓛 𝓜 𝓡 (code.calls-std_alloc::boxed::Box::from_raw 𝓡.env wired) X Z LX LZ g d dd allocator freed) y
    (and_then ! (get ! refl) (and_then ! (get ! refl) (no_more !))) (λ u.
    -- the box that comes back has the value
    answer_parts 𝓛 T e y u ! tt (λ r ls. use1 𝓛 (raw (fact 𝓤 (r.value ≡ held.value)))
    (fst∗ 𝓤 (fact 𝓤 (r.value ≡ held.value)) (fact 𝓤 (r.alloc ≡ held.alloc))) $ move ! (1 ∷ []) $
    one_box E r u ! (λ typed.
    lands_last ! refl typed $ exec ! 𝓣.C 𝓣.Λ (env fn.locals l) (after 3 fn.body) (at_ret (env fn.locals l) Post)
    $ sets ! (of_opd ! (get ! refl)) refl typed $
    -- [nothing of the parts; the box; its value; the tokens]
    spent_parts ! $ returns ! (look_at ! 0 refl) $ free_all ! refl $ keep ! (3 ∷ 0 ∷ 1 ∷ 2 ∷ [])
    $ by ! (leaves 𝓛 S gone c z u r ((tt, (tt, tt)), tt) (tt, tt))))))))
