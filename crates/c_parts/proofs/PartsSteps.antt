-- What the walks of handles cite, under one roof, and the steps that they share. Each has one parameter, which is used up.
--   boxed                            a type and an allocator's type with their laws, as the steps of boxes ask for them
--   takes_parts, hands_parts         what a walk begins with is the parameter and the tokens; the same put back for a callee
--   begins_parts                     the parameter owns what a box does: its words are one word, and what it owns is taken apart
--   box_in_one, one_box              what a box owns is owned at one word; that word is of a box's type
--   box_apart                        what was taken apart, as an allocator and a pointer with what lies there
--   box_both                         an allocator and a pointer in a tuple, and what lies there, are what a box owns
--   asked_parts_triple, answer_parts a callee's contract; its answer is what is said, the result and the tokens
--   field_of_parts                   field k of the word that a local holds
--   told_parts, spent_parts          a fact, and nothing of the parameter, as a walk's end asks for them
pub use Rattle.core.proofs.alloc.Calls.{α, handle_tells, Goes-blank}
pub use Rattle.core.proofs.alloc.Shapes.{after}
pub use Rattle.core.proofs.atomic.Steps.{fm}
pub use Rattle.std.proofs.Common.{lit<}
pub use Rattle.std.proofs.raw_atomic.Walks.{proved_at, leaves}
pub use Rattle.std_alloc.proofs.BoxSteps.Form.{X, D, R, P, B, args, word, box_typed}
pub use Rattle.std_alloc.proofs.BoxSteps.Steps.{box_in}
pub use Rattle.std_alloc.proofs.ResultValues.{and_tt}
pub use base.Fml.{ftrue, fsep}
pub use base.Logic.{SProp, id⊢, fst∗}
pub use contract.BorrowLft.{◌⊑◌}
pub use contract.Monad.{fact}
pub use contract.Running.{tables}
pub use denote.Exit.{yes, no}
pub use denote.Param.{bounded}
pub use denote.RattleType.{RattleType, Valss}
pub use denote.RawPtr.{RawPtr, block_ptr, null_ptr, ptr_val}
pub use denote.Signature.{type_at, plain}
pub use denote.Steps.{heard, nothing, only}
pub use denote.Struct.Owning.{shape, to}
pub use denote.Struct.Struct.{within}
pub use denote.Triple.Call.{calls_at, calls_at_last}
pub use denote.Triple.Entry.{alive}
pub use denote.Triple.Walked.{Stays, stay_dropped, walk_of, Goes-dropped}
pub use mathlib.Core.List.{List, [], ◌∷◌, ◌++◌}
pub use mathlib.Core.Path.{◌≡◌, refl, ap}
pub use mir.MapTy.{inst_fn}
pub use mir.Syntax.{w64, a_type, dcons, dnil}
pub use mir.Val.{Val, vptr, vint, vstruct, of_list, has_ty}
pub use prog.Wp.{WpFn}
pub use types.ByLocal.{alloc_all, pass_all, free_all, look_at, get, sets, lands_as, lands_last, env}
pub use types.Kit.{‵, raw, ◌⊛◌, at_ret, ◌$◌, ◌∵◌, !, qed, by, move, keep, use1, join, split3, group, rewrite, prop, regoal, fjoin, fpack}
pub use types.Kit.{feq_i}
pub use types.Part.{agg}
pub use types.Run.{lit, no_more, and_then, of_opd, returns, enter, first, blocks, exec}
use Prim.Native.Nat.{ℕ, zero, ◌+◌}
use Rattle.core.proofs.alloc.Calls.{token, Fits}
use Rattle.core.specs.declared.alloc.Allocator.{Ghosts}
use Rattle.std_alloc.proofs.BoxSteps.Form.{Bx, τ, box_ty, handle}
use Rattle.std_alloc.proofs.BoxSteps.Steps.{box_out}
use Rattle.std_alloc.specs.Box.Ownership.{box_owns}
use base.Fml.{Fml, Share, fat}
use base.Fraction.{full_share}
use base.Logic.{sep, emp}
use contract.Monad.{fact_i}
use denote.Memory.{part_at}
use denote.Param.Laws.{Laws}
use denote.RattleType.{owns}
use denote.RawPtr.{Ptr}
use denote.Struct.Tuple.{Tuple}
use denote.Triple.Clauses.{Ended, Clauses, Lasts, lasts, at_exit, closing}
use denote.Triple.Entry.{Res}
use denote.Triple.Spec.{triple_of}
use denote.Triple.Statement.{Contract}
use lib.Dec.{T}
use mathlib.Core.Option.{some as present}
use mathlib.Core.Path.{sym, subst}
use mir.Fields.{get_v, set_v}
use mir.Raw.{raw as bare}
use mir.Syntax.{Dict, Sym, Ty, Tys, ty_struct, place, field, copy, rv_opd}
use mir.Val.{WT, Vals}
use prog.Memory.{field_at}
use prog.Wp.{Env, Spot, spot_of}
use seplogic.Ra.Ura.{Ura}
use types.ByLocal.{get_in, at}
use types.Kit.{some, later, drop, use0, split, pick, fsplit, await, Item, Goal, Soaks, Seq, Step, step}
use types.Logic.{sem, Logic}
use types.Part.{whole, sub, Part}
use types.Run.{stop, fld, Walks, Rv}

abbrev pub boxed : (X : RattleType) → Laws X → (Z : RattleType) → Laws Z → Ghosts Z.Denot → Dict → Dict → Bx
boxed X LX Z LZ g d drops = record { row = X; laws = LX; al = record { row = Z; laws = LZ; g = g; d = d; drops = drops } }

abbrev pub asked_parts_triple : {M : Type 1} {𝓤 : Ura M} (𝓛 : Logic 𝓤) (S : Ended) → Clauses 𝓤 S → Contract 𝓤
asked_parts_triple 𝓛 S c = triple_of 𝓛 S.signature (closing 𝓛 S c)

module _ {M : Type 1} {𝓤 : Ura M} (𝓛 : Logic 𝓤) {K : Type 0} {Γ : List (Item 𝓤)} {G : Goal 𝓤 𝓛.H} where
  pub told_parts : (φ : Type 0) → φ → Step K 𝓛 (raw (fact 𝓤 φ) ∷ Γ) G Γ G
  told_parts φ x = use0 𝓛 (raw (fact 𝓤 φ)) (fact_i 𝓤 φ (emp 𝓤) x)

  pub answer_parts : (S : Ended) (c : Clauses 𝓤 S) (y : (asked_parts_triple 𝓛 S c).Ghost) (u : Val) → K → Soaks G
      → ((r : Res S.signature y.0.0) (ls : Lasts S y.0.0 y.0.3)
      → Seq K 𝓛 (raw ((c y.0.0 y.0.3).ensures y.1 r (at_exit S y.0.0 y.0.3 ls)) ∷ ‵ ((type_at S.signature.result y.0.0).own_val r (u ∷ []))
      ∷ raw (alive 𝓛 S.signature y.0.0 y.0.1) ∷ Γ) G)
      → Seq K 𝓛 (raw ((asked_parts_triple 𝓛 S c).post y u) ∷ Γ) G
  answer_parts S c y u t soaks k =
      let Result : Res S.signature y.0.0 → Item 𝓤 = λ r. ‵ ((type_at S.signature.result y.0.0).own_val r (u ∷ [])) in
      let Said : Res S.signature y.0.0 → Item 𝓤 =
      λ r. some (λ (ls : Lasts S y.0.0 y.0.3). ‵ (lasts S y.0.0 y.0.3 ls) ⊛ raw
      ((c y.0.0 y.0.3).ensures y.1 r (at_exit S y.0.0 y.0.3 ls))) in
      use1 𝓛 (later (some (λ (r : Res S.signature y.0.0). (raw (alive 𝓛 S.signature y.0.0 y.0.1) ⊛ Result r) ⊛ Said r))) (id⊢ 𝓤 _) $
      await t soaks $ pick t (λ r. split t $ split t $ move t (2 ∷ 1 ∷ 0 ∷ []) $ pick t (λ ls. split t $ drop t $ k r ls))

module _ {M : Type 1} {𝓤 : Ura M} {𝓛 : Logic 𝓤} {K : Type 0} {Γ : List (Item 𝓤)} {G : Goal 𝓤 𝓛.H} where
  pub takes_parts : K → {P : Fml} {tokens : Item 𝓤} → Step K 𝓛 (‵ P ∷ tokens ∷ Γ) G ((tokens ⊛ ‵ (fsep P ftrue)) ∷ Γ) G
  takes_parts t = step (λ s. split t $ move t (1 ∷ []) $ fsplit t $ move t (1 ∷ []) $ drop t $ s)

  pub hands_parts : K → {P : Fml} {tokens : Item 𝓤} → Step K 𝓛 ((tokens ⊛ ‵ (fsep P ftrue)) ∷ Γ) G (‵ P ∷ tokens ∷ Γ) G
  hands_parts t = step (λ s. nothing t $ move t (1 ∷ 0 ∷ []) $ fjoin t $ move t (1 ∷ 0 ∷ []) $ join t $ s)

  pub spent_parts : K → Step K 𝓛 (‵ (fsep ftrue ftrue) ∷ Γ) G Γ G
  spent_parts t = step (λ s. nothing t $ nothing t $ fjoin t $ s)

module _ {M : Type 1} {𝓤 : Ura M} {𝓛 : Logic 𝓤} {K : Type 0} {Γ : List (Item 𝓤)} where
  open 𝓛 use {H}

  pub field_of_parts : (k : ℕ) → K → {E : Env 𝓤 H} {i : ℕ} {q : Share} {ν : Sym} {τs : Tys} {vs : Vals} {b : ℕ} {τ : Ty} {d : ℕ}
      → spot_of 𝓤 H E i ≡ (ty_struct ν τs, b, zero) → field_at zero τs k ≡ present (τ, d)
      → at 𝓛 i Γ ≡ ‵ (fat q (ty_struct ν τs) b zero (vstruct vs))
      → Rv K 𝓛 Γ E (rv_opd (copy (place i (field k ∷ [])))) (get_v vs k)
  field_of_parts k t {E} {i} {q} {ν} {τs} {vs} {b} {τ} {d} spot lies holds = of_opd t (get_in t
      (subst (λ (s : Spot 𝓤 H). Walks K 𝓛 Γ E s (field k ∷ []) (τ, b, zero + d)) (sym spot) (fld t lies (stop t)))
      (subst (λ (j : Item 𝓤). Part K 𝓛 j q τ b (zero + d) (get_v vs k) (λ u. ‵ (fat q (ty_struct ν τs) b zero (vstruct (set_v vs k u)))))
      (sym holds) (sub t k lies (whole t))))

module _ (E : Bx) {M : Type 1} {𝓤 : Ura M} {𝓛 : Logic 𝓤} {K : Type 0} {Γ : List (Item 𝓤)} {G : Goal 𝓤 𝓛.H} where
  pub begins_parts : (d : D E) (vs : List Val) (At : List Val → Goal 𝓤 𝓛.H) → K → At vs ≡ G
      → ((b o : ℕ) (hv : Val) → d.ptr ≡ block_ptr b o → Fits E.al hv
      → Seq K 𝓛 (‵ (part_at (R E) full_share d.value b o) ∷ ‵ (token E.al d.alloc (bare (τ E)) (block_ptr b o)) ∷ ‵ (handle E d.alloc hv)
      ∷ Γ) (At (word E hv b o ∷ [])))
      → Seq K 𝓛 (‵ ((B E).own_val d vs) ∷ Γ) G
  begins_parts d vs At t goal k = box_out E t d vs (λ b o hv at is fits. regoal t At is goal $ k b o hv at fits)

  pub box_in_one : (d : D E) (vs : List Val) → K
      → ((b o : ℕ) (hv : Val) → vs ≡ word E hv b o ∷ [] → Fits E.al hv → Seq K 𝓛 (‵ ((B E).own_val d (word E hv b o ∷ [])) ∷ Γ) G)
      → Seq K 𝓛 (‵ ((B E).own_val d vs) ∷ Γ) G
  box_in_one d vs t k = box_out E t d vs (λ b o hv at is fits. box_in E t d b o d.value at refl $ k b o hv is fits)

  pub one_box : (d : D E) (u : Val) → K → (T (has_ty (box_ty E) u) × WT u → Seq K 𝓛 (‵ ((B E).own_val d (u ∷ [])) ∷ Γ) G)
      → Seq K 𝓛 (‵ ((B E).own_val d (u ∷ [])) ∷ Γ) G
  one_box d u t k = box_in_one d (u ∷ []) t (λ b o hv is fits. rewrite t 0 (λ (vs : List Val). ‵ ((B E).own_val d vs)) (sym is) refl $
      k (subst (λ (v : Val). T (has_ty (box_ty E) v) × WT v) (sym (ap only is)) (box_typed E hv b o fits)))

  pub box_apart : (d : D E) (b o : ℕ) (hv : Val) → K
      → Step K 𝓛 (‵ (owns (P E ∷ RawPtr ∷ []) (d.alloc, (block_ptr b o, tt)) (hv ∷ [], (vptr b o ∷ [], tt)))
      ∷ ‵ (box_owns (token E.al d.alloc) (R E) (block_ptr b o) d.value) ∷ Γ) G
      (‵ (part_at (R E) full_share d.value b o) ∷ ‵ (token E.al d.alloc (bare (τ E)) (block_ptr b o)) ∷ ‵ (handle E d.alloc hv) ∷ Γ) G
  box_apart d b o hv t = step (λ s. fjoin t $ move t (1 ∷ []) $ nothing t
      $ feq_i t (List Val) (vptr b o ∷ []) (ptr_val (block_ptr b o) ∷ []) refl $ fjoin t $ move t (1 ∷ 0 ∷ []) $ fjoin t $ s)

  pub box_both : (a : E.al.row.Denot) (x : X E) (r : Ptr × E.al.row.Denot) (vs : List Val) → K
      → Step K 𝓛 (‵ ((B E).own_val (record { ptr = r.0; alloc = r.1; value = x }) vs) ∷ Γ) G
      (raw (sep 𝓤 (fact 𝓤 (r.1 ≡ a)) (sem 𝓛 (box_owns (token E.al a) (R E) r.0 x))) ∷ ‵ ((Tuple (RawPtr ∷ P E ∷ [])).own_val r vs) ∷ Γ) G
  box_both a x r vs t = step (λ s. use1 𝓛 (raw (fact 𝓤 (r.1 ≡ a)) ⊛ ‵ (box_owns (token E.al a) (R E) r.0 x)) (id⊢ 𝓤 _) $ split t
      $ heard t (r.1 ≡ a) (λ same.
      rewrite t 0 (λ (c : E.al.row.Denot). ‵ (box_owns (token E.al c) (R E) r.0 x)) (sym same) refl $ move t (1 ∷ 0 ∷ []) $ fjoin t $ s))
