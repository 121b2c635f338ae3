-- `put` writes a value over the room of an empty place.
use mathlib.Core.Path.{◌≡◌, refl, sym, subst, ◌∙◌}
use Prim.Native.Nat.{ℕ, ◌+◌, ◌*◌, ◌<◌, ◌^◌}
use native.Mathlib.Omega.{arith}
use mathlib.Core.List.{List, [], ◌∷◌}
use lib.ListN.{length, set, get_or, length-set}
use seplogic.Ra.Ura.{Ura}
use base.Fml.{fat, fsep, ftrue, flft}
use base.Fraction.{full_share}
use base.Logic.{SProp, ent}
use contract.BorrowLft.{◌⊑◌}
use contract.Monad.{Fun, fact}
use contract.Running.{tables, tables_of}
use mir.MapTy.{inst_fn}
use mir.Syntax.{Fn, w64}
use mir.Val.{Val, vptr, vint, vunit}
use prog.Memory.{Memory}
use prog.Routine.{Routine}
use prog.Wp.{Env, WpFn, Tables}
use sound.WpLaws.{WpFn-mono}
use types.ByLocal.{alloc_all, pass_all, free_all, look_at, get, get_in, through, sets, env, take_at, give_at}
use types.Kit.{‵, raw, ◌⊛◌, at_ret, ◌$◌, ◌∵◌, !, qed, move, keep, drop, use1, use2, split, join, rewrite, fsplit, fsplit3, fjoin, fjoin3, feq_i, suffices, done}
use types.Logic.{Logic}
use types.Part.{whole, sub}
use types.Run.{enter, init, stop, fld, bin, size_lit, of_opd, unit_lit, assigns_last, first, blocks, exec, returns}
use denote.Builtin.{usize}
use denote.Exit.{yes, no}
use denote.Param.Laws.{param_laws}
use denote.RattleType.{owns}
use denote.RawPtr.{Ptr}
use denote.Signature.{plain, types_at}
use denote.Steps.{heard, nothing}
use denote.Triple.Clauses.{Clauses, Ended, closing}
use denote.Triple.Entry.{Vals}
use denote.Triple.Spec.{Meets, triple_of}
use denote.Triple.Table.{entered}
use denote.Triple.Walked.{Stays, says, stay_dropped, stay_ref, walk_of, ends_at, Goes-dropped, Goes-ref, walk_Meets}
use borrow.Table.OneValue.{part_in}
use Rattle.std.specs.Prelude.{Some, None}
use Rattle.std_alloc.proofs.RawLayout.{as_written}
use Rattle.core.proofs.mem.Param.{El, R, args, el_x, elτ, Good, lawful, one}
use Rattle.core.proofs.ptr.Rows.{times_below, one_below}
use Rattle.core.proofs.slots.Bodies.{after, knowing}
use Rattle.vtl_pages.specs.Owned.{place_owned, row_owned}
use Rattle.vtl_pages.proofs.Opened.{start_val, start_good, StartRow, CellsRow, start_ty, cells_open, cells_close}
use Rattle.vtl_pages.proofs.Rows.{bytes, Place, row_without, place_out, place_in}
use Rattle.vtl_pages.specs.contracts.cells.Cells.put as F
use Rattle.vtl_pages.specs.contracts.cells.Cells.put.Key.{name as #self}
use Rattle.vtl_pages.proofs.cells.Start.TheLaws.{lowers}
use Rattle.vtl_pages.proofs.cells.Cells.put.Statement as stated
use Rattle.vtl_pages.proofs.cells.Cells.put.Code as code

module _ (E : El) where
  abbrev here : Fn
  here = inst_fn (args E) code.function

  abbrev ended : Ended
  ended = F.ended E.row

  abbrev stayed : Stays ended.signature.params ended.kept
  stayed = (stay_ref (0 ∷ []) tt (plain (λ _. CellsRow E)), (stay_dropped (plain (λ _. StartRow E)) no, (stay_dropped (plain (λ _. usize)) yes, (stay_dropped (plain (λ _. R E)) no, tt))))

  module _ {M : Type 1} {𝓤 : Ura M} (𝓛 : Logic 𝓤) (at_mem : Memory → SProp 𝓤) (run : Routine → Fun 𝓤) (𝓣 : Tables 𝓤 𝓛.H) where
    open 𝓛 use {H}

    abbrev held : Clauses 𝓤 ended
    held = F.clauses E.row 𝓛 at_mem run

    abbrev Bound : Type 0
    Bound = (walk_of 𝓛 ended stayed held).Ghost

    abbrev Goes : Bound → Type 1
    Goes y = ent 𝓤 ((walk_of 𝓛 ended stayed held).pre y) (WpFn 𝓤 H 𝓣.C 𝓣.Λ here ((walk_of 𝓛 ended stayed held).args y) ((walk_of 𝓛 ended stayed held).post y))

    abbrev passed : (z : Bound) → Vals ended.signature z.0.0 → Bound
    passed z vss = ((z.0.0, z.0.1, z.0.2, z.0.3, vss), z.1)

    abbrev spelled : Bound → Val → Bound
    spelled z v = let a = z.0.3 in passed z (vptr a.0.ref_ptr.0 a.0.ref_ptr.1 ∷ [], (start_val a.1.0.address ∷ [], (vint w64 a.1.1.0 ∷ [], (v ∷ [], tt))))

    walk : (z : Bound) → z.0.3.1.1.0 < 2 ^ 64 → (v : Val) → Good E v → Goes (spelled z v)
    walk z word v good =
        let κ = z.0.0.0 in let κ₁ = z.0.0.1.0 in let q = z.0.1.0 in let q₁ = z.0.1.1.0 in
        let rb : ℕ = z.0.3.0.ref_ptr.0 in let ro : ℕ = z.0.3.0.ref_ptr.1 in
        let d : (CellsRow E).Denot = z.0.3.0.now in let p : Ptr = z.0.3.1.0.address in let i : ℕ = z.0.3.1.1.0 in let x : el_x E = z.0.3.1.1.1.0 in
        let Post : Val → SProp 𝓤 = (walk_of 𝓛 ended stayed held).post (spelled z v) in
        let Asks : Type 0 = (p ≡ d.address) × (i < length d.places) × (get_or d.places i None ≡ None) in
        let new : (CellsRow E).Denot = record { mark = d.mark; address = d.address; places = set d.places i (Some x) } in
        let s : ℕ = bytes E in
        qed 𝓛 (((‵ (flft κ q) ⊛ ‵ (flft κ₁ q₁) ⊛ ‵ ftrue) ⊛ ‵ (owns (types_at ended.signature.params z.0.0) z.0.3 (spelled z v).0.4)) ∷ (raw (fact 𝓤 (κ₁ ⊑ E.row.lives)) ⊛ raw (fact 𝓤 Asks)) ∷ []) ∵
        move ! (1 ∷ []) $ split ! $ drop ! $ heard ! Asks (λ asked.
        split ! $ split ! $ move ! (2 ∷ []) $ fsplit3 ! $ fsplit3 ! $ move ! (4 ∷ []) $ fsplit3 ! $ keep ! (4 ∷ 5 ∷ 7 ∷ 1 ∷ 8 ∷ []) $
        enter ! 𝓣.C 𝓣.Λ here (vptr rb ro ∷ start_val p ∷ vint w64 i ∷ v ∷ []) _ $
        alloc_all ! (λ l. pass_all ! refl ((tt, tt), (start_good E p, ((tt, record { fits = word }), (good, tt)))) $
        let En : Env 𝓤 H = env here.locals l in
        cells_open E ! tt d rb ro (λ b o vs at small.
        let tiny : s < 2 ^ 64 = omega (arith, one_below (length d.places) s (2 ^ 63) (omega arith) small) in
        let far : i * s < 2 ^ 64 = omega (arith, times_below i (length d.places) s (2 ^ 63) (omega arith) small) in
        use1 𝓛 (‵ (fsep (place_owned (R E) b (i * s + o) (get_or d.places i None)) (row_without E b o d.places i))) (place_out E 𝓛 b d.places i o (i * s + o) asked.1 refl) $ fsplit ! $
        rewrite ! 0 (λ (c : Place E). ‵ (place_owned (R E) b (i * s + o) c)) asked.2 refl $ as_written ! (elτ E) b (i * s + o) $
        take_at ! 2 $ rewrite ! 0 (λ (r : Ptr). ‵ (fat full_share (start_ty E) (l 2) 0 (start_val r))) (asked.0 ∙ at) refl $ give_at ! 2 $
        -- [the room; the other places; the mark; its cell; the open borrow; what is seen; what is; what the value owns; a token]
        first ! $ blocks ! $
        sets ! (bin ! (get ! refl) (size_lit ! (record { fits = tiny })) (record { fits = far })) refl (tt, record { fits = far }) $
        sets ! (bin ! (get_in ! (fld ! refl (stop !)) (sub ! 0 refl (whole !))) (get ! refl) tt) refl (tt, tt) $
        sets ! (of_opd ! (get ! refl)) refl good $ assigns_last ! (of_opd ! (get ! refl)) (through ! refl (stop !)) (init ! 0 refl good) $
        exec ! 𝓣.C 𝓣.Λ En (after 1 here.body) (at_ret En Post) $ sets ! (of_opd ! (unit_lit !)) refl (tt, tt) $
        move ! (0 ∷ 7 ∷ []) $ use2 𝓛 (‵ (place_owned (R E) b (i * s + o) (Some x))) (part_in 𝓛 (R E) refl full_share x b (i * s + o) v) $ fjoin ! $
        use1 𝓛 (‵ (row_owned (R E) b o new.places)) (place_in E 𝓛 b d.places i o (i * s + o) (Some x) asked.1 refl) $
        cells_close E ! tt new b o rb ro vs at (subst (λ k. k * s < 2 ^ 63) (sym (length-set d.places i (Some x))) small) $
        returns ! (look_at ! 0 refl) $ free_all ! refl $
        suffices ! _ (ends_at 𝓛 ended stayed held (spelled z v) vunit tt (new, (tt, (tt, (tt, tt)))) (tt, (tt, (tt, (tt, tt))))) $ says ! (refl, refl) $
        feq_i ! (List Val) (vptr rb ro ∷ []) (vptr rb ro ∷ []) refl $ fjoin3 ! $ nothing ! $ nothing ! $ fjoin ! $ nothing ! $ fjoin ! $ nothing ! $ fjoin ! $ move ! (1 ∷ 0 ∷ []) $ fjoin ! $
        move ! (1 ∷ 2 ∷ []) $ join ! $ feq_i ! (List Val) (vunit ∷ []) (vunit ∷ []) refl $ keep ! (1 ∷ 2 ∷ 0 ∷ []) $ done !)))

    meets : Meets 𝓛 ended.signature (WpFn 𝓤 H 𝓣.C 𝓣.Λ here) (closing 𝓛 ended held)
    meets =
        walk_Meets 𝓛 ended stayed
        (Goes-ref 𝓛 2 0 tt (plain (λ _. CellsRow E)), (Goes-dropped 𝓛 2 (plain (λ _. StartRow E)) no (λ κs x f. refl), (Goes-dropped 𝓛 2 (plain (λ _. usize)) yes (λ κs x f. refl), (Goes-dropped 𝓛 2 (plain (λ _. R E)) no (λ κs x f. refl), tt)))) held
        (WpFn 𝓤 H 𝓣.C 𝓣.Λ here) (WpFn-mono 𝓤 H 𝓛.laws 𝓣 here)
        (λ z. let a = z.0.3 in let vss = z.0.4 in
        knowing 𝓛 ended stayed held (WpFn 𝓤 H 𝓣.C 𝓣.Λ here) z (λ are.
        let value = one E vss.1.1.1.0 ((lawful E 𝓛).typed a.1.1.1.0 vss.1.1.1.0 are.1.1.1.0) in
        let start = (lowers (R E) (param_laws 0 E.row E.laws)).val_is a.1.0 vss.1.0 are.1.0 in
        subst (λ (uss : Vals ended.signature z.0.0). Goes (passed z uss)) (sym (λ k. (are.0.0 k, (start k, (are.1.1.0.0 k, (value.1 k, tt)))))) (walk z are.1.1.0.1 value.0 value.2)))

pub put_spec : {M : Type 1} → stated.statement M
unfolding tables_of
put_spec 𝓤 𝓛 𝓜 𝓡 wired X laws =
    let E : El = record { row = X; laws = laws } in
    let 𝓣 : Tables 𝓤 𝓛.H = tables_of 𝓤 𝓛.H 𝓜 (tables 𝓤 𝓛.H 𝓜 𝓡 𝓡.env) in
    entered 𝓤 𝓛.H (triple_of 𝓛 (F.signature X) (F.spec X 𝓛 𝓜.mem 𝓡.returns)) 𝓣.C 𝓣.Λ (#self (args E)) (here E) (code.unfolded 𝓤 𝓛.H 𝓜 𝓡 wired (X, tt))
    (meets E 𝓛 𝓜.mem 𝓡.returns 𝓣)
