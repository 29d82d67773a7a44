-- `empty` puts null beside the allocator, and an empty handle owns nothing more.
use Rattle.c_parts.proofs.ExchangeHandleAsBox.{ExchangeBoxed as E}
use Rattle.c_parts.proofs.PartsSteps.{◌≡◌, refl, List, [], ◌∷◌, ◌++◌, w64, Val, vint, vstruct, of_list, has_ty, SProp, id⊢, ftrue, fsep}
use Rattle.c_parts.proofs.PartsSteps.{WpFn, tables, ‵, raw, ◌⊛◌, ◌$◌, ◌∵◌, !, qed, by, move, keep, use1, fjoin, fpack, feq_i, prop, regoal}
use Rattle.c_parts.proofs.PartsSteps.{agg, lit, no_more, and_then, returns, enter, alloc_all, pass_all, free_all, look_at, get, sets}
use Rattle.c_parts.proofs.PartsSteps.{RattleType, Valss, RawPtr, yes, null_ptr, ptr_val, type_at, plain, nothing, Stays, stay_dropped}
use Rattle.c_parts.proofs.PartsSteps.{walk_of, Goes-dropped, handle_tells, proved_at, leaves, lit<, within, shape, to, and_tt, α}
use Rattle.c_parts.proofs.PartsSteps.{takes_parts}
use Rattle.c_parts.proofs.PartsSteps.{told_parts, spent_parts}
use Rattle.c_parts.proofs.exchange_handle.ExchangeHandle.empty.Code as code
use Rattle.c_parts.proofs.exchange_handle.ExchangeHandle.empty.Statement.{statement}
use Rattle.c_parts.specs.contracts.exchange_handle.ExchangeHandle as Handle
use Rattle.c_parts.specs.contracts.exchange_handle.ExchangeHandle.empty.{ended, clauses}
use Rattle.c_parts.specs.contracts.exchange_handle.ExchangeHandle.empty.Key.{name as #self}
use Rattle.std.specs.Prelude.{None}
use Rattle.std_heap.specs.contracts.Global as Heap

abbrev gone : Stays (ended).signature.params (ended).kept
gone = (stay_dropped (plain (λ _. Heap.the_row)) yes, tt)

pub empty_spec : {M : Type 1} → statement M
empty_spec 𝓤 𝓛 𝓜 𝓡 wired =
    let H = 𝓛.H in let 𝓣 = tables 𝓤 H 𝓜 𝓡 𝓡.env in let c = clauses 𝓛 𝓜.mem 𝓡.returns in let fn = code.function in
    proved_at 𝓛 ended gone c 𝓜 𝓡 (Goes-dropped 𝓛 0 (plain (λ _. Heap.the_row)) yes (λ κs x f. refl), tt) #self fn
    (code.unfolded 𝓤 H 𝓜 𝓡 wired) (λ z are.
    let Post : Val → SProp 𝓤 = (walk_of 𝓛 ended gone c).post z in let To : RattleType = type_at (ended).signature.result tt in
    let a = z.0.3.0 in let made : To.Denot = record { ptr = null_ptr; alloc = a; inner = None } in
    qed 𝓛 ((‵ ftrue ⊛ ‵ (fsep ((Heap.the_row).own_val a z.0.4.0) ftrue)) ∷ raw ((c tt z.0.3).requires z.1) ∷ []) ∵
    -- the allocator is one word
    takes_parts ! $ handle_tells E.al ! a z.0.4.0
    (λ hv is fits. regoal ! (λ (vs : List Val). prop (WpFn 𝓤 H 𝓣.C 𝓣.Λ fn (vs ++ []) Post)) is refl
    $
    let w : Val = vstruct (of_list (vint w64 0 ∷ hv ∷ [])) in
    enter ! 𝓣.C 𝓣.Λ fn (hv ∷ []) Post $ alloc_all ! (λ l. pass_all ! refl (fits, tt) $
    sets ! (agg ! (and_then ! (lit ! tt) (and_then ! (get ! refl) (no_more !)))) refl
    (and_tt (has_ty (α E.al) hv) fits.0, (record { fits = lit< tt }, (fits.1, tt))) $
    -- what null and the allocator own is all that an empty handle owns
    nothing ! $ move ! (1 ∷ 0 ∷ []) $ fjoin ! $ feq_i ! (List Val) (vint w64 0 ∷ []) (ptr_val null_ptr ∷ []) refl $ fjoin !
    $ feq_i ! (List Val) (w ∷ []) (w ∷ []) refl $ fjoin ! $
    fpack ! (Valss (RawPtr ∷ Heap.the_row ∷ [])) (within (shape Handle.the_type) (to Handle.the_type made) (w ∷ []))
    (vint w64 0 ∷ [], (hv ∷ [], tt)) $
    nothing ! $ move ! (1 ∷ 0 ∷ []) $ fjoin ! $ use1 𝓛 (‵ (To.own_val made (w ∷ []))) (id⊢ 𝓤 _) $
    -- [nothing of the allocator; the fact; the handle; no tokens]
    told_parts 𝓛 (made.inner ≡ None) refl $ spent_parts ! $ returns ! (look_at ! 0 refl) $ free_all ! refl $ keep ! (3 ∷ 0 ∷ 2 ∷ 1 ∷ []) $
    by ! (leaves 𝓛 ended gone c z w made (tt, tt) (tt, tt)))))
