-- `get` lends the value in a place.
use mathlib.Core.Path.{◌≡◌, refl, sym, subst, ◌∙◌}
use Prim.Native.Nat.{ℕ, ◌+◌, ◌*◌, ◌<◌, ◌^◌}
use native.Mathlib.Omega.{arith}
use mathlib.Core.List.{List, [], ◌∷◌}
use lib.ListN.{length}
use seplogic.Ra.Ura.{Ura}
use base.Fml.{fat, ftrue, flft}
use base.Fraction.{full_share}
use base.Logic.{SProp, ent, never, id⊢}
use contract.BorrowLft.{◌⊑◌}
use contract.Monad.{Fun, fact}
use contract.Running.{tables, tables_of}
use mir.MapTy.{inst_fn}
use mir.Syntax.{Fn, w64}
use mir.Val.{Val, vptr, vint}
use prog.Memory.{Memory}
use prog.Routine.{Routine}
use prog.Wp.{Env, WpFn, Tables}
use sound.WpLaws.{WpFn-mono}
use types.ByLocal.{alloc_all, pass_all, free_all, look_at, get, get_in, through, sets, sets_last, env, take_at, give_at}
use types.Kit.{‵, raw, ◌⊛◌, at_ret, ◌$◌, ◌∵◌, !, qed, move, keep, drop, use1, split, join, rewrite, fsplit, fsplit3, fjoin, feq_i, flt_l, suffices, done}
use types.Logic.{Logic}
use types.Part.{whole, sub}
use types.Run.{enter, addr, stop, fld, bin, size_lit, of_opd, first, blocks, exec, returns}
use denote.Builtin.{usize, RefOf}
use denote.Exit.{yes, no}
use denote.Memory.{shared_of}
use denote.Param.Laws.{param_laws}
use denote.Opens.{hide, unhide}
use denote.RattleType.{owns}
use denote.RawPtr.{Ptr, in_a_block}
use denote.Signature.{plain, types_at}
use denote.Steps.{heard, nothing}
use denote.Triple.Clauses.{Clauses, Ended, closing}
use denote.Triple.Entry.{Vals}
use denote.Triple.Spec.{Meets, triple_of}
use denote.Triple.Table.{entered}
use denote.Triple.Walked.{Stays, says, stay_dropped, walk_of, ends_at, Goes-dropped, walk_Meets}
use Rattle.core.proofs.mem.Param.{El, R, args, el_x}
use Rattle.core.proofs.ptr.Rows.{times_below, one_below}
use Rattle.core.proofs.slots.Bodies.{after, knowing}
use Rattle.vtl_pages.specs.Owned.{cells_lent}
use Rattle.vtl_pages.specs.Places.{IsFilled}
use Rattle.vtl_pages.proofs.Opened.{start_val, start_good, StartRow, CellsRow, start_ty}
use Rattle.vtl_pages.proofs.Rows.{bytes, filled_below, value_lent}
use Rattle.vtl_pages.specs.contracts.cells.Cells.get as F
use Rattle.vtl_pages.specs.contracts.cells.Cells.get.Key.{name as #self}
use Rattle.vtl_pages.proofs.cells.Start.TheLaws.{lowers}
use Rattle.vtl_pages.proofs.cells.Cells.get.Statement as stated
use Rattle.vtl_pages.proofs.cells.Cells.get.Code as code

module _ (E : El) where
  abbrev here : Fn
  here = inst_fn (args E) code.function

  abbrev ended : Ended
  ended = F.ended E.row

  abbrev stayed : Stays ended.signature.params ended.kept
  stayed = (stay_dropped (RefOf (0 ∷ []) tt (plain (λ _. CellsRow E)) (λ _. tt)) yes, (stay_dropped (plain (λ _. StartRow E)) no, (stay_dropped (plain (λ _. usize)) yes, tt)))

  module _ {M : Type 1} {𝓤 : Ura M} (𝓛 : Logic 𝓤) (at_mem : Memory → SProp 𝓤) (run : Routine → Fun 𝓤) (𝓣 : Tables 𝓤 𝓛.H) where
    open 𝓛 use {H}

    abbrev held : Clauses 𝓤 ended
    held = F.clauses E.row 𝓛 at_mem run

    abbrev Bound : Type 0
    Bound = (walk_of 𝓛 ended stayed held).Ghost

    abbrev Goes : Bound → Type 1
    Goes y = ent 𝓤 ((walk_of 𝓛 ended stayed held).pre y) (WpFn 𝓤 H 𝓣.C 𝓣.Λ here ((walk_of 𝓛 ended stayed held).args y) ((walk_of 𝓛 ended stayed held).post y))

    abbrev passed : (z : Bound) → Vals ended.signature z.0.0 → Bound
    passed z vss = ((z.0.0, z.0.1, z.0.2, z.0.3, vss), z.1)

    abbrev spelled : Bound → Bound
    spelled z = let a = z.0.3 in passed z (vptr a.0.ref_ptr.0 a.0.ref_ptr.1 ∷ [], (start_val a.1.0.address ∷ [], (vint w64 a.1.1.0 ∷ [], tt)))

    walk : (z : Bound) → z.0.3.1.1.0 < 2 ^ 64 → Goes (spelled z)
    walk z word =
        let κ = z.0.0.0 in let κ₁ = z.0.0.1.0 in let q = z.0.1.0 in let q₁ = z.0.1.1.0 in
        let rb : ℕ = z.0.3.0.ref_ptr.0 in let ro : ℕ = z.0.3.0.ref_ptr.1 in
        let d : (CellsRow E).Denot = z.0.3.0.now in let p : Ptr = z.0.3.1.0.address in let i : ℕ = z.0.3.1.1.0 in
        let Post : Val → SProp 𝓤 = (walk_of 𝓛 ended stayed held).post (spelled z) in
        let Asks : Type 0 = (p ≡ d.address) × IsFilled d.places i in
        let s : ℕ = bytes E in
        qed 𝓛 (((‵ (flft κ q) ⊛ ‵ (flft κ₁ q₁) ⊛ ‵ ftrue) ⊛ ‵ (owns (types_at ended.signature.params z.0.0) z.0.3 (spelled z).0.4)) ∷ (raw (fact 𝓤 (κ₁ ⊑ E.row.lives)) ⊛ raw (fact 𝓤 Asks)) ∷ []) ∵
        move ! (1 ∷ []) $ split ! $ drop ! $ heard ! Asks (λ asked.
        let x : el_x E = asked.1.0 in let below : i < length d.places = filled_below d.places i x asked.1.1 in
        split ! $ split ! $ move ! (2 ∷ []) $ fsplit3 ! $ fsplit ! $ keep ! (1 ∷ 4 ∷ 5 ∷ []) $
        enter ! 𝓣.C 𝓣.Λ here (vptr rb ro ∷ start_val p ∷ vint w64 i ∷ []) _ $
        alloc_all ! (λ l. pass_all ! refl ((tt, tt), (start_good E p, ((tt, record { fits = word }), tt))) $
        let En : Env 𝓤 H = env here.locals l in
        unhide ! $ fsplit ! $ drop ! $ in_a_block ! d.address (λ r. cells_lent (R E) r d.places κ) (id⊢ 𝓤 (never 𝓤)) (λ b o at. fsplit ! $ flt_l ! (λ small.
        let tiny : s < 2 ^ 64 = omega (arith, one_below (length d.places) s (2 ^ 63) (omega arith) small) in
        let far : i * s < 2 ^ 64 = omega (arith, times_below i (length d.places) s (2 ^ 63) (omega arith) small) in
        take_at ! 2 $ rewrite ! 0 (λ (r : Ptr). ‵ (fat full_share (start_ty E) (l 2) 0 (start_val r))) (asked.0 ∙ at) refl $ give_at ! 2 $
        use1 𝓛 (‵ (shared_of (R E) x b (i * s + o) κ)) (value_lent E 𝓛 b κ d.places i o (i * s + o) x asked.1.1 refl) $ hide ! $
        -- [what the reference reaches; the two tokens]
        first ! $ blocks ! $
        sets ! (bin ! (get ! refl) (size_lit ! (record { fits = tiny })) (record { fits = far })) refl (tt, record { fits = far }) $
        sets ! (bin ! (get_in ! (fld ! refl (stop !)) (sub ! 0 refl (whole !))) (get ! refl) tt) refl (tt, tt) $
        sets_last ! (addr ! (through ! refl (stop !))) refl (tt, tt) $
        exec ! 𝓣.C 𝓣.Λ En (after 1 here.body) (at_ret En Post) $ sets ! (of_opd ! (get ! refl)) refl (tt, tt) $
        feq_i ! (List Val) (vptr b (i * s + o) ∷ []) (vptr b (i * s + o) ∷ []) refl $ fjoin ! $ returns ! (look_at ! 0 refl) $ free_all ! refl $
        suffices ! _ (ends_at 𝓛 ended stayed held (spelled z) (vptr b (i * s + o)) (record { ref_ptr = (b, i * s + o); now = x }) (tt, (tt, (tt, tt))) (tt, (tt, (tt, tt)))) $ says ! asked.1.1 $
        nothing ! $ nothing ! $ fjoin ! $ nothing ! $ fjoin ! $ nothing ! $ fjoin ! $ move ! (2 ∷ 3 ∷ []) $ join ! $ done !))))

    meets : Meets 𝓛 ended.signature (WpFn 𝓤 H 𝓣.C 𝓣.Λ here) (closing 𝓛 ended held)
    meets =
        walk_Meets 𝓛 ended stayed
        (Goes-dropped 𝓛 2 (RefOf (0 ∷ []) tt (plain (λ _. CellsRow E)) (λ _. tt)) yes (λ κs x f. refl), (Goes-dropped 𝓛 2 (plain (λ _. StartRow E)) no (λ κs x f. refl), (Goes-dropped 𝓛 2 (plain (λ _. usize)) yes (λ κs x f. refl), tt))) held
        (WpFn 𝓤 H 𝓣.C 𝓣.Λ here) (WpFn-mono 𝓤 H 𝓛.laws 𝓣 here)
        (λ z. let a = z.0.3 in let vss = z.0.4 in
        knowing 𝓛 ended stayed held (WpFn 𝓤 H 𝓣.C 𝓣.Λ here) z (λ are.
        let start = (lowers (R E) (param_laws 0 E.row E.laws)).val_is a.1.0 vss.1.0 are.1.0 in
        subst (λ (uss : Vals ended.signature z.0.0). Goes (passed z uss)) (sym (λ k. (are.0.0 k, (start k, (are.1.1.0.0 k, tt))))) (walk z are.1.1.0.1)))

pub get_spec : {M : Type 1} → stated.statement M
unfolding tables_of
get_spec 𝓤 𝓛 𝓜 𝓡 wired X laws =
    let E : El = record { row = X; laws = laws } in
    let 𝓣 : Tables 𝓤 𝓛.H = tables_of 𝓤 𝓛.H 𝓜 (tables 𝓤 𝓛.H 𝓜 𝓡 𝓡.env) in
    entered 𝓤 𝓛.H (triple_of 𝓛 (F.signature X) (F.spec X 𝓛 𝓜.mem 𝓡.returns)) 𝓣.C 𝓣.Λ (#self (args E)) (here E) (code.unfolded 𝓤 𝓛.H 𝓜 𝓡 wired (X, tt))
    (meets E 𝓛 𝓜.mem 𝓡.returns 𝓣)
