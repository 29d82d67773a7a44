-- `into_parts` moves two fields of a full handle, and what they own goes with them.
use Rattle.c_parts.proofs.ExchangeHandleAsBox.{ExchangeBoxed as E, FromExchangeHandle as From}
use Rattle.c_parts.proofs.PartsFullness.{part_full_is}
use Rattle.c_parts.proofs.PartsSteps.{◌≡◌, refl, [], ◌∷◌, ◌++◌, Val, SProp, id⊢, ftrue, fsep, WpFn, fact, tables, ‵, raw, ◌⊛◌, ◌$◌, ◌∵◌, ! }
use Rattle.c_parts.proofs.PartsSteps.{qed, by, move, keep, use1, rewrite, prop, agg, no_more, and_then, of_opd, returns, enter, alloc_all}
use Rattle.c_parts.proofs.PartsSteps.{pass_all, free_all, look_at, get, sets, RattleType, yes, type_at, heard, Stays, stay_dropped, walk_of}
use Rattle.c_parts.proofs.PartsSteps.{Goes-dropped, proved_at, leaves, X, D, B, word, box_typed, box_in, takes_parts, begins_parts}
use Rattle.c_parts.proofs.PartsSteps.{told_parts}
use Rattle.c_parts.proofs.PartsSteps.{spent_parts}
use Rattle.c_parts.proofs.PartsSteps.{field_of_parts}
use Rattle.c_parts.proofs.exchange_handle.ExchangeHandle.into_parts.Code as code
use Rattle.c_parts.proofs.exchange_handle.ExchangeHandle.into_parts.Statement.{statement}
use Rattle.c_parts.specs.Parts.{IsRoomFull}
use Rattle.c_parts.specs.contracts.exchange_handle.ExchangeHandle as Handle
use Rattle.c_parts.specs.contracts.exchange_handle.ExchangeHandle.into_parts.{ended, clauses}
use Rattle.c_parts.specs.contracts.exchange_handle.ExchangeHandle.into_parts.Key.{name as #self}
use Rattle.std.specs.Prelude.{Option, Some}

abbrev gone : Stays (ended).signature.params (ended).kept
gone = (stay_dropped From yes, tt)

pub into_parts_spec : {M : Type 1} → statement M
into_parts_spec 𝓤 𝓛 𝓜 𝓡 wired =
    let H = 𝓛.H in let 𝓣 = tables 𝓤 H 𝓜 𝓡 𝓡.env in let c = clauses 𝓛 𝓜.mem 𝓡.returns in let fn = code.function in
    proved_at 𝓛 ended gone c 𝓜 𝓡 (Goes-dropped 𝓛 0 From yes (λ κs x f. refl), tt) #self fn (code.unfolded 𝓤 H 𝓜 𝓡 wired) (λ z are.
    let Post : Val → SProp 𝓤 = (walk_of 𝓛 ended gone c).post z in let To : RattleType = type_at (ended).signature.result tt in let h =
    z.0.3.0 in
    qed 𝓛 ((‵ ftrue ⊛ ‵ (fsep ((Handle.the_row).own_val h z.0.4.0) ftrue)) ∷ raw (fact 𝓤 (IsRoomFull h.inner)) ∷ []) ∵
    -- a full handle owns what a box does
    move ! (1 ∷ []) $ heard ! (IsRoomFull h.inner) (λ full. let x = (part_full_is h.inner full).0 in
    let holds : h.inner ≡ Some x = (part_full_is h.inner full).1 in
    let held : D E = record { ptr = h.ptr; alloc = h.alloc; value = x } in let made : To.Denot =
    record { ptr = h.ptr; alloc = h.alloc; value = x } in
    takes_parts ! $ rewrite ! 0 (λ (o : Option (X E)). ‵
    ((Handle.the_row).own_val (record { ptr = h.ptr; alloc = h.alloc; inner = o }) z.0.4.0))
    holds refl $
    use1 𝓛 (‵ ((B E).own_val held z.0.4.0)) (id⊢ 𝓤 _) $
    -- the handle is one word, which is the parts', too
    begins_parts E held z.0.4.0 (λ vs. prop (WpFn 𝓤 H 𝓣.C 𝓣.Λ fn (vs ++ []) Post)) ! refl (λ b o hv at fits. let w = word E hv b o in
    box_in E ! held b o x at refl $ use1 𝓛 (‵ (To.own_val made (w ∷ []))) (id⊢ 𝓤 _) $
    enter ! 𝓣.C 𝓣.Λ fn (w ∷ []) Post $ alloc_all ! (λ l. pass_all ! refl (box_typed E hv b o fits, tt) $
    sets ! (field_of_parts 0 ! refl refl refl) refl (tt, tt) $ sets ! (field_of_parts 1 ! refl refl refl) refl fits $
    sets ! (of_opd ! (get ! refl)) refl (tt, tt) $ sets ! (agg ! (and_then ! (get ! refl) (and_then ! (get ! refl) (no_more !)))) refl
    (box_typed E hv b o fits) $
    -- [nothing of the handle; the fact; the parts; no tokens]
    told_parts 𝓛 (h.inner ≡ Some x) holds $ spent_parts ! $ returns ! (look_at ! 0 refl) $ free_all ! refl $ keep ! (3 ∷ 0 ∷ 2 ∷ 1 ∷ []) $
    by ! (leaves 𝓛 ended gone c z w made (tt, tt) (tt, tt))))))
