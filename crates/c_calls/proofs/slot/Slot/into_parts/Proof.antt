-- `into_parts` tests the pointer, and hands on what the slot owns.
use mathlib.Core.Path.{◌≡◌, refl, sym, subst}
use mathlib.Core.List.{List, [], ◌∷◌, ◌++◌}
use Rattle.std.specs.declared.option.Option.TheVariants.{None, Some}
use seplogic.Ra.Ura.{Ura}
use mir.Val.{Val, of_list}
use base.Logic.{SProp, ent, emp, id⊢}
use base.Fml.{ftrue, fsep}
use prog.Memory.{Memory}
use prog.Routine.{Routine}
use prog.Wp.{WpFn, Tables}
use types.Logic.{Logic}
use contract.Monad.{Fun}
use contract.Running.{tables, tables_of}
use sound.WpLaws.{WpFn-mono}
use types.Kit.{keep, at_ret, given, learn, feq_l, fpick, use0, fpack, feq_i, Item, ‵, raw, ◌⊛◌, ◌$◌, ◌∵◌, !, qed, by, move, drop, use1, join, split, fsplit, fjoin, suffices, done}
use types.Part.{whole, sub, agg}
use types.Run.{bin, first, branches, exec, stop, fld, lit, no_more, and_then, of_opd, returns, enter}
use types.ByLocal.{sets_last, env, alloc_all, pass_all, free_all, look_at, get, get_in, sets}
use denote.Exit.{yes}
use Rattle.std.proofs.Common.{lit<}
use denote.RattleType.{Valss}
use denote.RawPtr.{block_ptr, tests_null, Testable, Ptr, null_ptr, ptr_val}
use mir.Val.{vstruct, vcons, vnil}
use Rattle.std.proofs.alloc.Calls.{handle_tells}
use Rattle.std_alloc.proofs.BoxSteps.Form.{P}
use Rattle.std_alloc.proofs.ResultValues.{and_tt}
use Rattle.c_calls.specs.contracts.slot.Slot as slots
use denote.Signature.{type_at}
use denote.Steps.{nothing}
use denote.Triple.Spec.{triple_of}
use denote.Triple.Table.{entered}
use denote.Triple.Walked.{says, Stays, stay_dropped, walk_of, ends_at, Goes-dropped, walk_Meets}
use Rattle.std_alloc.proofs.BoxSteps.Form.{D, B, word, box_typed}
use Rattle.std_alloc.proofs.BoxSteps.Steps.{box_out, box_in}
use Rattle.c_calls.proofs.AsBox.{E, FromSlot as From}
use Rattle.c_calls.specs.contracts.slot.Slot.into_parts as F
use Rattle.c_calls.specs.contracts.slot.Slot.into_parts.Key.{name as #self}
use Rattle.c_calls.proofs.slot.Slot.into_parts.Statement as stated
use Rattle.c_calls.proofs.slot.Slot.into_parts.Code as code
use types.Match.{live}
use contract.Monad.{fact_use}
use base.Logic.{guard_i}
use mir.Raw.{raw as bare}
use types.Logic.{sem}
use Rattle.std.specs.declared.option.Option.{Option}
use Rattle.core.proofs.alloc.Shapes.{after}
use Rattle.core.proofs.option.Made.{Some-of, none_of}
use Rattle.std.proofs.GlobalToken.{dealloc_token-Testable}
use Rattle.std.proofs.alloc.Calls.{token}
use Rattle.std_alloc.proofs.BoxSteps.Form.{τ}
use Rattle.c_calls.specs.declared.objects.Object.{Object as Inner}
use Rattle.c_calls.specs.contracts.parts.Parts as parts
use Rattle.c_calls.specs.contracts.objects.Object as inside
use Rattle.std_heap.specs.contracts.Global as Heap
use Rattle.std_heap.specs.contracts.GlobalAllocator.TheImpl.{ghosts}

abbrev stayed : Stays (F.ended).signature.params (F.ended).kept
stayed = (stay_dropped From yes, tt)

module _ {M : Type 1} {𝓤 : Ura M} (𝓛 : Logic 𝓤) (at_mem : Memory → SProp 𝓤) (run : Routine → Fun 𝓤) (𝓣 : Tables 𝓤 𝓛.H) where
  open 𝓛 use {H}

  abbrev X : denote.RattleType.RattleType
  X = parts.the_row inside.the_row Heap.the_row ghosts

  at_each : (a : Heap.the_row.Denot) (p : Ptr) (vs : List Val) (o : Option Inner)
      → ent 𝓤 ((walk_of 𝓛 F.ended stayed (F.clauses 𝓛 at_mem run)).pre ((tt, tt, tt, (record { at = p; alloc = a; value = o }, tt), (vs, tt)), tt))
      (WpFn 𝓤 H 𝓣.C 𝓣.Λ code.function (vs ++ []) ((walk_of 𝓛 F.ended stayed (F.clauses 𝓛 at_mem run)).post ((tt, tt, tt, (record { at = p; alloc = a; value = o }, tt), (vs, tt)), tt)))
  at_each a p vs None =
      let y : (walk_of 𝓛 F.ended stayed (F.clauses 𝓛 at_mem run)).Ghost = ((tt, tt, tt, (record { at = p; alloc = a; value = None }, tt), (vs, tt)), tt) in
      let Post = (walk_of 𝓛 F.ended stayed (F.clauses 𝓛 at_mem run)).post y in
      let Out = type_at (F.signature).result tt in
      qed 𝓛 ((‵ ftrue ⊛ ‵ (fsep ((slots.the_row).own_val (record { at = p; alloc = a; value = None }) vs) ftrue)) ∷ raw (emp 𝓤) ∷ []) ∵ split ! $ drop ! $ fsplit ! $
      fsplit ! $ fpick ! (λ vss. fsplit ! $ feq_l ! (λ ev. fsplit ! $ feq_l ! (λ ep. fsplit ! $ handle_tells E.al ! a vss.1.0 (λ hv ea fa. move ! (1 ∷ []) $ drop ! $ move ! (1 ∷ []) $ feq_l ! (λ ip.
      let w : Val = vstruct (vcons (ptr_val null_ptr) (vcons hv vnil)) in
      let ws : vs ≡ w ∷ [] = subst (λ (q : Ptr). vs ≡ vstruct (of_list (ptr_val q ∷ hv ∷ [])) ∷ []) ip
      (subst (λ (us : List Val). vs ≡ vstruct (of_list (ptr_val p ∷ (us ++ []))) ∷ []) ea (subst (λ (ps : List Val). vs ≡ vstruct (of_list (ps ++ (vss.1.0 ++ []))) ∷ []) ep ev)) in
      let Γ : List (Item 𝓤) = ‵ ((P E).own_val a (hv ∷ [])) ∷ [] in
      keep ! (0 ∷ []) $ by ! (subst (λ (us : List Val). ent 𝓤 (types.Kit.⋆ 𝓛 Γ) (WpFn 𝓤 H 𝓣.C 𝓣.Λ code.function (us ++ []) Post)) (sym ws)
      (qed 𝓛 Γ ∵ enter ! 𝓣.C 𝓣.Λ code.function (w ∷ []) _ $ alloc_all ! (λ ls. pass_all ! refl ((and_tt _ fa.0, (record { fits = lit< tt }, (fa.1, tt))), tt) $
      let Ev = env (code.function).locals ls in
      sets ! (of_opd ! (get_in ! (fld ! refl (stop !)) (sub ! 0 refl (whole !)))) refl (tt, record { fits = lit< tt }) $ sets ! (of_opd ! (get_in ! (fld ! refl (stop !)) (sub ! 1 refl (whole !)))) refl fa $
      sets ! (bin ! (get ! refl) (lit ! tt) tt) refl (tt, tt) $ first ! $ branches ! (get ! refl)
      (λ _. sets_last ! (agg ! (and_then ! (lit ! tt) (no_more !))) refl (tt, (record { fits = lit< tt }, tt)) $ exec ! 𝓣.C 𝓣.Λ Ev (after 4 (code.function).body) (at_ret Ev Post) $
      sets ! (of_opd ! (get ! refl)) refl (tt, (record { fits = lit< tt }, tt)) $
      use0 𝓛 (‵ (Out.own_val None (live 0 vnil ∷ []))) (none_of 𝓛 X) $ move ! (0 ∷ []) $
      returns ! (look_at ! 0 refl) $ free_all ! refl $ keep ! (0 ∷ []) $
      suffices ! _ (ends_at 𝓛 F.ended stayed (F.clauses 𝓛 at_mem run) y (live 0 vnil) None (tt, tt) (tt, tt)) $ says ! refl $
      nothing ! $ nothing ! $ fjoin ! $ join ! $ nothing ! $ join ! $ done !)
      (λ wrong. absurd wrong)))))))))
  at_each a p vs (Some x) =
      let y : (walk_of 𝓛 F.ended stayed (F.clauses 𝓛 at_mem run)).Ghost = ((tt, tt, tt, (record { at = p; alloc = a; value = Some x }, tt), (vs, tt)), tt) in
      let Post = (walk_of 𝓛 F.ended stayed (F.clauses 𝓛 at_mem run)).post y in
      let Out = type_at (F.signature).result tt in
      let v : D E = record { ptr = p; alloc = a; value = x } in
      let d : X.Denot = record { ptr = p; alloc = a; value = x } in
      qed 𝓛 ((‵ ftrue ⊛ ‵ (fsep ((B E).own_val v vs) ftrue)) ∷ raw (emp 𝓤) ∷ []) ∵ split ! $ drop ! $ fsplit ! $
      box_out E ! v vs (λ b o hv e ws fa. move ! (1 ∷ []) $
      let q : Ptr = block_ptr b o in let tok = token E.al a (bare (τ E)) q in
      use1 𝓛 (given (Testable q) (‵ tok)) (fact_use 𝓤 (Testable q) (dealloc_token-Testable 𝓛 a (bare (τ E)) q) (guard_i 𝓤 (Testable q) (sem 𝓛 tok))) $ learn ! (λ t. move ! (1 ∷ []) $
      box_in E ! v b o x e refl $
      let w = word E hv b o in
      use1 𝓛 (‵ (X.own_val d (w ∷ []))) (id⊢ 𝓤 _) $
      let typed = box_typed E hv b o fa in
      let v₁ : Val = live 1 (vcons w vnil) in
      let Γ : List (Item 𝓤) = ‵ (X.own_val d (w ∷ [])) ∷ [] in
      keep ! (0 ∷ []) $ by ! (subst (λ (us : List Val). ent 𝓤 (types.Kit.⋆ 𝓛 Γ) (WpFn 𝓤 H 𝓣.C 𝓣.Λ code.function (us ++ []) Post)) (sym ws)
      (qed 𝓛 Γ ∵ enter ! 𝓣.C 𝓣.Λ code.function (w ∷ []) _ $ alloc_all ! (λ ls. pass_all ! refl (typed, tt) $
      let Ev = env (code.function).locals ls in
      sets ! (of_opd ! (get_in ! (fld ! refl (stop !)) (sub ! 0 refl (whole !)))) refl (tt, tt) $ sets ! (of_opd ! (get_in ! (fld ! refl (stop !)) (sub ! 1 refl (whole !)))) refl fa $
      sets ! (bin ! (get ! refl) (lit ! tt) (tests_null q t)) refl (tt, tt) $ first ! $ branches ! (get ! refl)
      (λ wrong. absurd wrong)
      (λ _. sets ! (of_opd ! (get ! refl)) refl (tt, tt) $ sets ! (agg ! (and_then ! (get ! refl) (and_then ! (get ! refl) (no_more !)))) refl typed $
      sets_last ! (agg ! (and_then ! (lit ! tt) (and_then ! (get ! refl) (no_more !)))) refl (and_tt _ typed.0, (record { fits = lit< tt }, (typed.1, tt))) $ exec ! 𝓣.C 𝓣.Λ Ev (after 4 (code.function).body) (at_ret Ev Post) $
      sets ! (of_opd ! (get ! refl)) refl (and_tt _ typed.0, (record { fits = lit< tt }, (typed.1, tt))) $
      use1 𝓛 (‵ (Out.own_val (Some d) (v₁ ∷ []))) (Some-of 𝓛 X d w) $
      returns ! (look_at ! 0 refl) $ free_all ! refl $ keep ! (0 ∷ []) $
      suffices ! _ (ends_at 𝓛 F.ended stayed (F.clauses 𝓛 at_mem run) y v₁ (Some d) (tt, tt) (tt, tt)) $ says ! refl $
      nothing ! $ nothing ! $ fjoin ! $ join ! $ nothing ! $ join ! $ done !))))))

  walk : (z : (walk_of 𝓛 F.ended stayed (F.clauses 𝓛 at_mem run)).Ghost)
      → ent 𝓤 ((walk_of 𝓛 F.ended stayed (F.clauses 𝓛 at_mem run)).pre z) (WpFn 𝓤 H 𝓣.C 𝓣.Λ code.function (z.0.4.0 ++ []) ((walk_of 𝓛 F.ended stayed (F.clauses 𝓛 at_mem run)).post z))
  walk z = at_each z.0.3.0.alloc z.0.3.0.at z.0.4.0 z.0.3.0.value

pub into_parts_spec : {M : Type 1} → stated.statement M
unfolding tables_of
into_parts_spec 𝓤 𝓛 𝓜 𝓡 wired =
    let 𝓣 : Tables 𝓤 𝓛.H = tables_of 𝓤 𝓛.H 𝓜 (tables 𝓤 𝓛.H 𝓜 𝓡 𝓡.env) in
    entered 𝓤 𝓛.H (triple_of 𝓛 F.signature (F.spec 𝓛 𝓜.mem 𝓡.returns)) 𝓣.C 𝓣.Λ #self code.function (code.unfolded 𝓤 𝓛.H 𝓜 𝓡 wired)
    (walk_Meets 𝓛 F.ended stayed (Goes-dropped 𝓛 0 From yes (λ κs x f. refl), tt) (F.clauses 𝓛 𝓜.mem 𝓡.returns) (WpFn 𝓤 𝓛.H 𝓣.C 𝓣.Λ code.function) (WpFn-mono 𝓤 𝓛.H 𝓛.laws 𝓣 code.function)
    (walk 𝓛 𝓜.mem 𝓡.returns 𝓣))
