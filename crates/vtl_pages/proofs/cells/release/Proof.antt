-- `release` makes one room of the empty places, and gives it back with the right to free it.
use mathlib.Core.Path.{◌≡◌, refl, sym, ap, subst, ◌∙◌}
use Prim.Native.Nat.{ℕ, ◌*◌, ◌<◌, ◌^◌}
use native.Mathlib.Omega.{arith}
use mathlib.Core.List.{List, [], ◌∷◌}
use lib.Dec.{T}
use lib.ListN.{length-replicate, replicate}
use seplogic.Ra.Ura.{Ura}
use base.Fml.{froom, ftrue, flft, Incl-trans}
use base.Logic.{SProp, ent, never, id⊢}
use contract.BorrowLft.{◌⊑◌}
use contract.Monad.{Fun, fact}
use contract.Running.{tables, tables_of}
use mir.MapTy.{inst_fn}
use mir.Syntax.{Fn, ty_array, ty_unit, w64}
use mir.Val.{Val, has_ty, vptr, vint, vunit, WT}
use prog.Capped.{capped_fits}
use prog.Memory.{Memory, align, capped}
use prog.Routine.{Routine}
use prog.Wp.{Env, WpFn, Tables}
use sound.WpLaws.{WpFn-mono, fm_of}
use types.ByLocal.{alloc_all, pass_all, free_all, look_at, get, get_in, is, lands_last, sets, env}
use types.Kit.{Item, ‵, raw, ◌⊛◌, given, later, learn, await, at_ret, ◌$◌, ◌∵◌, !, qed, move, keep, drop, use1, split, join, group, rewrite, feq_i, flt_l, fsplit, fsplit3, fjoin, suffices, done}
use types.Logic.{Logic}
use types.Part.{sub, whole}
use types.Run.{enter, stop, fld, bin, size_word, align_word, and_then, no_more, of_opd, unit_lit, blocks, first, exec, returns}
use denote.Builtin.{usize, RefOf}
use denote.Exit.{yes, no}
use denote.Param.Laws.{param_laws}
use denote.RattleType.{owns}
use denote.RawPtr.{Ptr, in_a_block, ptr_val}
use denote.Signature.{plain, types_at}
use denote.Steps.{heard, nothing}
use denote.Triple.Call.{calls_at_last}
use denote.Triple.Clauses.{Clauses, Ended, closing}
use denote.Triple.Entry.{Vals}
use denote.Triple.Spec.{Meets, triple_of}
use denote.Triple.Statement.{Triple}
use denote.Triple.Table.{entered}
use denote.Triple.Walked.{Stays, stay_dropped, walk_of, ends_at, Goes-dropped, walk_Meets}
use Rattle.std.specs.Prelude.{None}
use Rattle.std_alloc.proofs.RawLayout.{as_raw}
use Rattle.core.proofs.alloc.Calls.{Al, Gives, Gives-Gives, Gives-goes, Goes-blank, at_gives, gives_key, token}
use Rattle.core.proofs.mem.Param.{El, R, elτ}
use Rattle.core.proofs.slots.Bodies.{after, knowing}
use Rattle.core.proofs.slots.Leases.{P, args, block_align, block_size, block_ty, uncapped}
use Rattle.vtl_pages.specs.Owned.{cells_owned, claim_owned}
use Rattle.vtl_pages.proofs.Claimed.{ClaimRow}
use Rattle.vtl_pages.proofs.Opened.{CellsRow, StartRow, empty_val, start_good, start_val}
use Rattle.vtl_pages.proofs.Rows.{Place, bytes, room_of_row}
use Rattle.vtl_pages.specs.contracts.cells.release as F
use Rattle.vtl_pages.specs.contracts.cells.release.Key.{name as #self}
use Rattle.vtl_pages.proofs.cells.Cells.TheLaws.{lowers as cells_lower}
use Rattle.vtl_pages.proofs.cells.Claim.TheLaws.{lowers as claim_lowers}
use Rattle.vtl_pages.proofs.cells.Start.TheLaws.{lowers as start_lowers}
use Rattle.vtl_pages.proofs.cells.release.Statement as stated
use Rattle.vtl_pages.proofs.cells.release.Code as code

module _ (E : El) (Z : Al) where
  abbrev here : Fn
  here = inst_fn (args E Z) code.function

  abbrev ended : Ended
  ended = F.ended E.row Z.row Z.g Z.d Z.drops

  abbrev stayed : Stays ended.signature.params ended.kept
  stayed = (
    stay_dropped (RefOf (0 ∷ []) tt (plain (λ _. P E Z)) (λ _. tt)) yes,
    (stay_dropped (plain (λ _. StartRow E)) no, (stay_dropped (plain (λ _. usize)) yes, (stay_dropped (plain (λ _. CellsRow E)) no, (stay_dropped (plain (λ _. ClaimRow E Z)) no, tt)))),
  )

  -- what the caller promises: all five are of one block of empty places
  abbrev AreOneBlock : Z.row.Denot → (StartRow E).Denot → ℕ → (CellsRow E).Denot → (ClaimRow E Z).Denot → Type 0
  AreOneBlock a start n cells claim = (cells.address ≡ start.address) × (cells.places ≡ replicate n None) × (claim.address ≡ start.address) × (claim.count ≡ n) × (claim.alloc ≡ a)

  module _ {M : Type 1} {𝓤 : Ura M} (𝓛 : Logic 𝓤) (at_mem : Memory → SProp 𝓤) (run : Routine → Fun 𝓤) (𝓣 : Tables 𝓤 𝓛.H) (callee : Triple 𝓤 (𝓣.C (gives_key Z)) (Gives Z 𝓛 at_mem run)) where
    open 𝓛 use {H}

    abbrev held : Clauses 𝓤 ended
    held = F.clauses E.row Z.row Z.g Z.d Z.drops 𝓛 at_mem run

    abbrev Bound : Type 0
    Bound = (walk_of 𝓛 ended stayed held).Ghost

    abbrev Goes : Bound → Type 1
    Goes y = ent 𝓤 ((walk_of 𝓛 ended stayed held).pre y) (WpFn 𝓤 H 𝓣.C 𝓣.Λ here ((walk_of 𝓛 ended stayed held).args y) ((walk_of 𝓛 ended stayed held).post y))

    abbrev passed : (z : Bound) → Vals ended.signature z.0.0 → Bound
    passed z vss = ((z.0.0, z.0.1, z.0.2, z.0.3, vss), z.1)

    abbrev spelled : Bound → Bound
    spelled z = let a = z.0.3 in passed z (vptr a.0.ref_ptr.0 a.0.ref_ptr.1 ∷ [], (start_val a.1.0.address ∷ [], (vint w64 a.1.1.0 ∷ [], (empty_val ∷ [], (empty_val ∷ [], tt)))))

    walk : (z : Bound) → z.0.3.1.1.0 < 2 ^ 64 → Goes (spelled z)
    walk z word =
        let κ = z.0.0.0 in let κ₁ = z.0.0.1.0 in let κ₂ = z.0.0.1.1.0 in let q = z.0.1.0 in
        let at : ℕ × ℕ = z.0.3.0.ref_ptr in let a : Z.row.Denot = z.0.3.0.now in let p : Ptr = z.0.3.1.0.address in let n : ℕ = z.0.3.1.1.0 in
        let cells : (CellsRow E).Denot = z.0.3.1.1.1.0 in let claim : (ClaimRow E Z).Denot = z.0.3.1.1.1.1.0 in
        let others : Item 𝓤 = ‵ (flft κ₁ z.0.1.1.0) ⊛ ‵ (flft κ₂ z.0.1.1.1.0) ⊛ ‵ ftrue in
        let Post : Val → SProp 𝓤 = (walk_of 𝓛 ended stayed held).post (spelled z) in
        let Asks : Type 0 = AreOneBlock a z.0.3.1.0 n cells claim in
        let s : ℕ = bytes E in let al : ℕ = capped (align (elτ E)) in
        qed 𝓛 (((‵ (flft κ q) ⊛ others) ⊛ ‵ (owns (types_at ended.signature.params z.0.0) z.0.3 (spelled z).0.4)) ∷ (raw (fact 𝓤 (κ₁ ⊑ E.row.lives)) ⊛ raw (fact 𝓤 (κ₂ ⊑ Z.row.lives)) ⊛ raw (fact 𝓤 Asks)) ∷ []) ∵
        move ! (1 ∷ []) $ split ! $ drop ! $ split ! $ heard ! (κ₂ ⊑ Z.row.lives) (λ within. heard ! Asks (λ asked.
        split ! $ split ! $ move ! (2 ∷ []) $ fsplit3 ! $ fsplit ! $ move ! (3 ∷ []) $ fsplit3 ! $ move ! (1 ∷ []) $ fsplit ! $ move ! (3 ∷ []) $ fsplit ! $ fsplit ! $
        keep ! (4 ∷ 1 ∷ 7 ∷ 9 ∷ 10 ∷ []) $
        enter ! 𝓣.C 𝓣.Λ here (vptr at.0 at.1 ∷ start_val p ∷ vint w64 n ∷ empty_val ∷ empty_val ∷ []) _ $
        alloc_all ! (λ l. pass_all ! refl ((tt, tt), (start_good E p, ((tt, record { fits = word }), ((tt, (tt, tt)), ((tt, (tt, tt)), tt))))) $
        let En : Env 𝓤 H = env here.locals l in
        rewrite ! 0 (λ (c : Ptr × List (Place E)). ‵ (cells_owned (R E) c.0 c.1)) (λ i. (asked.0 i, asked.1 i)) refl $
        in_a_block ! p (λ r. cells_owned (R E) r (replicate n None)) (id⊢ 𝓤 (never 𝓤)) (λ b o e. fsplit ! $ flt_l ! (λ few.
        let small : n * s < 2 ^ 63 = subst (λ k. k * s < 2 ^ 63) (length-replicate n None) few in let fits : n * s < 2 ^ 64 = omega arith in
        let y : (Gives Z 𝓛 at_mem run).Ghost = at_gives Z 𝓛 at_mem run κ q at a b o (n * s) al (block_ty E n) in
        rewrite ! 1 (λ (c : Z.row.Denot × Ptr × ℕ). ‵ (claim_owned (R E) (token Z c.0) c.1 c.2)) (λ i. (asked.4 i, (asked.2 ∙ e) i, asked.3 i)) refl $
        use1 𝓛 (‵ (froom (ty_array (elτ E) n) b o)) (room_of_row E 𝓛 b n o) $ as_raw ! (ty_array (elτ E) n) b o $
        -- [the room; the right to free it; what the allocator lends; the three tokens]
        first ! $ blocks ! $
        sets ! (is ! (of_opd ! (get_in ! (fld ! refl (stop !)) (sub ! 0 refl (whole !)))) (ap ptr_val e)) refl (tt, tt) $
        sets ! (is ! (bin ! (get ! refl) (size_word !) (record { fits = subst (λ (k : ℕ). k < 2 ^ 64) (sym (uncapped n s fits)) fits })) (ap (vint w64) (uncapped n s fits))) refl (tt, record { fits = fits }) $
        group ! 4 $ use1 𝓛 (raw ((Gives Z 𝓛 at_mem run).pre y))
        (Gives-goes Z 𝓛 at_mem run κ q at a (Incl-trans z.0.2.0 within) b o (n * s) al (block_ty E n) (block_size E n fits) (block_align E n) fits (capped_fits (align (elτ E)))) $
        calls_at_last ! (fm_of 𝓤 H 𝓛.laws 𝓣) (Gives Z 𝓛 at_mem run) callee y (and_then ! (get ! refl) (and_then ! (get ! refl) (and_then ! (get ! refl) (and_then ! (align_word !) (no_more !))))) (λ v.
        use1 𝓛 (later (given (v ≡ vunit) (‵ (flft κ q)))) (Gives-Gives Z 𝓛 at_mem run κ q at a b o (n * s) al (block_ty E n) v) $ await ! tt $ learn ! (λ is_unit.
        lands_last ! refl (subst (λ (u : Val). T (has_ty ty_unit u) × WT u) (sym is_unit) (tt, tt)) $ exec ! 𝓣.C 𝓣.Λ En (after 1 here.body) (at_ret En Post) $
        sets ! (of_opd ! (unit_lit !)) refl (tt, tt) $ returns ! (look_at ! 0 refl) $ free_all ! refl $
        suffices ! _ (ends_at 𝓛 ended stayed held (spelled z) vunit tt (tt, (tt, (tt, (tt, (tt, tt))))) (tt, (tt, (tt, (tt, (tt, tt)))))) $
        join ! $ feq_i ! (List Val) (vunit ∷ []) (vunit ∷ []) refl $ nothing ! $ nothing ! $ fjoin ! $ nothing ! $ fjoin ! $ nothing ! $ fjoin ! $ nothing ! $ fjoin ! $ nothing ! $ fjoin ! $ join ! $
        move ! (1 ∷ 0 ∷ []) $ join ! $ nothing ! $ move ! (1 ∷ 0 ∷ []) $ done !)))))))

    meets : Meets 𝓛 ended.signature (WpFn 𝓤 H 𝓣.C 𝓣.Λ here) (closing 𝓛 ended held)
    meets =
        walk_Meets 𝓛 ended stayed (
          Goes-dropped 𝓛 3 (RefOf (0 ∷ []) tt (plain (λ _. P E Z)) (λ _. tt)) yes (λ κs x f. refl),
          (Goes-dropped 𝓛 3 (plain (λ _. StartRow E)) no (λ κs x f. refl), (Goes-dropped 𝓛 3 (plain (λ _. usize)) yes (λ κs x f. refl), (Goes-blank 𝓛 3 (plain (λ _. CellsRow E)) no (λ κs x f. tt), (Goes-blank 𝓛 3 (plain (λ _. ClaimRow E Z)) no (λ κs x f. tt), tt)))),
        ) held (WpFn 𝓤 H 𝓣.C 𝓣.Λ here) (WpFn-mono 𝓤 H 𝓛.laws 𝓣 here)
        (λ z. let a = z.0.3 in let vss = z.0.4 in
        knowing 𝓛 ended stayed held (WpFn 𝓤 H 𝓣.C 𝓣.Λ here) z (λ are.
        let laws = param_laws 0 E.row E.laws in
        let start = (start_lowers (R E) laws).val_is a.1.0 vss.1.0 are.1.0 in
        let cells = (cells_lower (R E) laws).val_is a.1.1.1.0 vss.1.1.1.0 are.1.1.1.0 in
        let claim = (claim_lowers (R E) (P E Z) Z.g laws (param_laws 1 Z.row Z.laws)).val_is a.1.1.1.1.0 vss.1.1.1.1.0 are.1.1.1.1.0 in
        subst (λ (uss : Vals ended.signature z.0.0). Goes (passed z uss)) (sym (λ k. (are.0.0 k, (start k, (are.1.1.0.0 k, (cells k, (claim k, tt))))))) (walk z are.1.1.0.1)))

pub release_spec : {M : Type 1} → stated.statement M
unfolding tables_of
release_spec 𝓤 𝓛 𝓜 𝓡 wired X W LX LW g d drops met dropped =
    let E : El = record { row = X; laws = LX } in let Z : Al = record { row = W; laws = LW; g = g; d = d; drops = drops } in
    let 𝓣 : Tables 𝓤 𝓛.H = tables_of 𝓤 𝓛.H 𝓜 (tables 𝓤 𝓛.H 𝓜 𝓡 𝓡.env) in
    entered 𝓤 𝓛.H (triple_of 𝓛 (ended E Z).signature (F.spec X W g d drops 𝓛 𝓜.mem 𝓡.returns)) 𝓣.C 𝓣.Λ (#self (args E Z)) (here E Z) (code.unfolded 𝓤 𝓛.H 𝓜 𝓡 wired (X, (W, tt)) d drops)
    (meets E Z 𝓛 𝓜.mem 𝓡.returns 𝓣 (met.deallocate drops))
