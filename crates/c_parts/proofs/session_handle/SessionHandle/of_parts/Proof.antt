-- `of_parts` moves two fields, and what they own goes with them.
use Rattle.c_parts.proofs.PartsSteps.{◌≡◌, refl, [], ◌∷◌, ◌++◌, Val, SProp, id⊢, ftrue, fsep, WpFn, tables, ‵, raw, ◌⊛◌, ◌$◌, ◌∵◌, !, qed}
use Rattle.c_parts.proofs.PartsSteps.{by, keep, use1, prop, agg, no_more, and_then, of_opd, returns, enter, alloc_all, pass_all, free_all}
use Rattle.c_parts.proofs.PartsSteps.{look_at, get, sets, RattleType, type_at, Stays, stay_dropped, walk_of, Goes-dropped, proved_at}
use Rattle.c_parts.proofs.PartsSteps.{leaves, D, B, word, box_typed, box_in, takes_parts, begins_parts, told_parts, spent_parts}
use Rattle.c_parts.proofs.PartsSteps.{field_of_parts}
use Rattle.c_parts.proofs.SessionHandleAsBox.{SessionBoxed as E, FromSessionParts as From}
use Rattle.c_parts.proofs.session_handle.SessionHandle.of_parts.Code as code
use Rattle.c_parts.proofs.session_handle.SessionHandle.of_parts.Statement.{statement}
use Rattle.c_parts.specs.contracts.session_handle.SessionHandle.of_parts.{ended, clauses}
use Rattle.c_parts.specs.contracts.session_handle.SessionHandle.of_parts.Key.{name as #self}
use Rattle.std.specs.Prelude.{Some}

abbrev gone : Stays (ended).signature.params (ended).kept
gone = (stay_dropped From (ended).kept.0, tt)

pub of_parts_spec : {M : Type 1} → statement M
of_parts_spec 𝓤 𝓛 𝓜 𝓡 wired =
    let H = 𝓛.H in let 𝓣 = tables 𝓤 H 𝓜 𝓡 𝓡.env in let c = clauses 𝓛 𝓜.mem 𝓡.returns in let fn = code.function in
    proved_at 𝓛 ended gone c 𝓜 𝓡 (Goes-dropped 𝓛 0 From (ended).kept.0 (λ κs x f. refl), tt) #self fn (code.unfolded 𝓤 H 𝓜 𝓡 wired)
    (λ z are.
    let Post : Val → SProp 𝓤 = (walk_of 𝓛 ended gone c).post z in let To : RattleType = type_at (ended).signature.result tt in
    let held : D E = record { ptr = z.0.3.0.ptr; alloc = z.0.3.0.alloc; value = z.0.3.0.value } in
    let made : To.Denot = record { ptr = held.ptr; alloc = held.alloc; inner = Some held.value } in
    qed 𝓛 ((‵ ftrue ⊛ ‵ (fsep ((B E).own_val held z.0.4.0) ftrue)) ∷ raw ((c tt z.0.3).requires z.1) ∷ []) ∵
    -- the parts are one word, which is the handle's, too
    takes_parts ! $ begins_parts E held z.0.4.0 (λ vs. prop (WpFn 𝓤 H 𝓣.C 𝓣.Λ fn (vs ++ []) Post)) ! refl
    (λ b o hv at fits. let w = word E hv b o in
    box_in E ! held b o held.value at refl $ use1 𝓛 (‵ (To.own_val made (w ∷ []))) (id⊢ 𝓤 _) $
    enter ! 𝓣.C 𝓣.Λ fn (w ∷ []) Post $ alloc_all ! (λ l. pass_all ! refl (box_typed E hv b o fits, tt) $
    sets ! (field_of_parts 0 ! refl refl refl) refl (tt, tt) $ sets ! (field_of_parts 1 ! refl refl refl) refl fits $
    sets ! (of_opd ! (get ! refl)) refl (tt, tt) $ sets ! (agg ! (and_then ! (get ! refl) (and_then ! (get ! refl) (no_more !)))) refl
    (box_typed E hv b o fits) $
    -- [nothing of the parts; the fact; the handle; no tokens]
    told_parts 𝓛 (made.inner ≡ Some held.value) refl $ spent_parts ! $ returns ! (look_at ! 0 refl) $ free_all ! refl
    $ keep ! (3 ∷ 0 ∷ 2 ∷ 1 ∷ []) $
    by ! (leaves 𝓛 ended gone c z w made (tt, tt) (tt, tt)))))
