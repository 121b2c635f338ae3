-- `allocate` cuts a new block into empty places, and keeps the right to free it.
use mathlib.Core.Bool.{true, false}
use mathlib.Core.Path.{◌≡◌, refl, sym, ap, subst}
use Prim.Native.Nat.{ℕ, ◌*◌, ◌<◌, ◌^◌}
use native.Mathlib.Omega.{arith}
use mathlib.Core.List.{[], ◌∷◌}
use lib.Dec.{lit<}
use lib.ListN.{replicate}
use seplogic.Ra.Ura.{Ura}
use base.Fml.{ftrue, flft, Incl-trans}
use base.Logic.{SProp, ent}
use contract.BorrowLft.{◌⊑◌}
use contract.Monad.{Fun, fact}
use contract.Running.{tables, tables_of}
use mir.MapTy.{inst_fn}
use mir.Syntax.{Body, Fn, w64}
use mir.Val.{Val, vptr, vint, vstruct, vcons, vnil}
use prog.Capped.{capped_fits}
use prog.Memory.{Memory, align, capped}
use prog.Routine.{Routine}
use prog.Wp.{Env, Wp, WpFn, Tables, after_seq, at_return}
use sound.WpLaws.{WpFn-mono, fm_of}
use types.ByLocal.{alloc_all, pass_all, free_all, look_at, get, get_in, get_tag, is, lands_as, sets, sets_last, env}
use types.Kit.{Item, ‵, raw, ◌⊛◌, later, await, at_ret, any_q, Post as After, Sq, ◌$◌, ◌∵◌, !, prop, qed, move, keep, drop, use1, use2, split, join, fsplit, fsplit3, fjoin, suffices, done}
use types.Logic.{Logic}
use types.Match.{live, vrt, in_variant}
use types.Part.{agg, whole}
use types.Run.{enter, stop, fld, bin, lit, size_word, align_word, and_then, no_more, of_opd, first, exec, returns, switches_on}
use denote.Builtin.{usize, RefOf}
use denote.Exit.{yes}
use denote.Laws.{Is}
use denote.Param.{layout}
use denote.RattleType.{RattleType, owns}
use denote.RawPtr.{block_ptr}
use denote.Signature.{plain, types_at}
use denote.Steps.{heard, nothing, owned}
use denote.Struct.Declared as Declared
use denote.Struct.Struct.{Struct, Struct-Makes}
use denote.Triple.Call.{calls_at}
use denote.Triple.Clauses.{Clauses, Ended, closing}
use denote.Triple.Entry.{Vals}
use denote.Triple.Spec.{Meets, triple_of}
use denote.Triple.Statement.{Triple}
use denote.Triple.Table.{entered}
use denote.Triple.Walked.{Stays, says, stay_dropped, walk_of, ends_at, Goes-dropped, walk_Meets}
use Rattle.std.specs.Prelude.{IfOk, Ok, Err, None}
use Rattle.std.specs.Vec.Ownership.{FitsInBlock}
use Rattle.std_alloc.proofs.RcSteps.{Good, first_Good}
use Rattle.std_alloc.proofs.ResultValues.{ok_of, err_of}
use Rattle.std_alloc.proofs.VecSteps.Shapes.{arm_body, head}
use Rattle.core.specs.contracts.alloc.AllocError as refusal
use Rattle.core.proofs.alloc.Calls.{Al, Answer-typed, Answered, Takes, Takes-gives, Takes-goes, answers, at_takes, takes_key}
use Rattle.core.proofs.mem.Param.{El, R, elτ}
use Rattle.core.proofs.slots.Bodies.{after, knowing}
use Rattle.core.proofs.slots.Leases.{P, args, block_align, block_size, block_ty, uncapped}
use Rattle.vtl_pages.proofs.Claimed.{Outcome, Parts, cells_at, claim_at, parts_made, parts_val, start_at}
use Rattle.vtl_pages.proofs.Opened.{start_good}
use Rattle.vtl_pages.proofs.Rows.{bytes}
use Rattle.vtl_pages.specs.contracts.cells.allocate as F
use Rattle.vtl_pages.specs.contracts.cells.allocate.Key.{name as #self}
use Rattle.vtl_pages.proofs.cells.allocate.Statement as stated
use Rattle.vtl_pages.proofs.cells.allocate.Code as code

module _ (E : El) (Z : Al) where
  abbrev here : Fn
  here = inst_fn (args E Z) code.function

  abbrev ended : Ended
  ended = F.ended E.row Z.row Z.g Z.d Z.drops

  abbrev stayed : Stays ended.signature.params ended.kept
  stayed = (stay_dropped (RefOf (0 ∷ []) tt (plain (λ _. P E Z)) (λ _. tt)) yes, (stay_dropped (plain (λ _. usize)) yes, tt))

  abbrev arms : Body
  arms = head (after 2 here.body)

  module _ {M : Type 1} {𝓤 : Ura M} (𝓛 : Logic 𝓤) (at_mem : Memory → SProp 𝓤) (run : Routine → Fun 𝓤) (𝓣 : Tables 𝓤 𝓛.H) (callee : Triple 𝓤 (𝓣.C (takes_key Z)) (Takes Z 𝓛 at_mem run)) where
    open 𝓛 use {H}

    abbrev held : Clauses 𝓤 ended
    held = F.clauses E.row Z.row Z.g Z.d Z.drops 𝓛 at_mem run

    abbrev Bound : Type 0
    Bound = (walk_of 𝓛 ended stayed held).Ghost

    abbrev Goes : Bound → Type 1
    Goes y = ent 𝓤 ((walk_of 𝓛 ended stayed held).pre y) (WpFn 𝓤 H 𝓣.C 𝓣.Λ here ((walk_of 𝓛 ended stayed held).args y) ((walk_of 𝓛 ended stayed held).post y))

    abbrev passed : (z : Bound) → Vals ended.signature z.0.0 → Bound
    passed z vss = ((z.0.0, z.0.1, z.0.2, z.0.3, vss), z.1)

    abbrev spelled : Bound → Bound
    spelled z = let a = z.0.3 in passed z (vptr a.0.ref_ptr.0 a.0.ref_ptr.1 ∷ [], (vint w64 a.1.0 ∷ [], tt))

    -- the parts for the allocator a and n places
    abbrev Holds : Z.row.Denot → ℕ → (Outcome E Z).Denot → Type 0
    Holds a n r = IfOk r (λ t. (t.1.address ≡ t.0.address) × (t.1.places ≡ replicate n None) × (t.2.address ≡ t.0.address) × (t.2.count ≡ n) × (t.2.alloc ≡ a))

    abbrev others : Bound → Item 𝓤
    others z = ‵ (flft z.0.0.1.0 z.0.1.1.0) ⊛ ‵ (flft z.0.0.1.1.0 z.0.1.1.1.0) ⊛ ‵ ftrue

    abbrev Post : Bound → Val → SProp 𝓤
    Post z = (walk_of 𝓛 ended stayed held).post (spelled z)

    leaves : (z : Bound) (r : (Outcome E Z).Denot) (v : Val) → Holds z.0.3.0.now z.0.3.1.0 r
        → Sq 𝓛 (‵ ((Outcome E Z).own_val r (v ∷ [])) ∷ ‵ (flft z.0.0.0 z.0.1.0) ∷ others z ∷ []) (prop (Post z v))
    leaves z r v holds =
        suffices ! _ (ends_at 𝓛 ended stayed held (spelled z) v r (tt, (tt, tt)) (tt, (tt, tt))) $ says ! holds $
        nothing ! $ nothing ! $ fjoin ! $ nothing ! $ fjoin ! $ move ! (2 ∷ 3 ∷ []) $ join ! $ done !

    walk : (z : Bound) → z.0.3.1.0 < 2 ^ 64 → Goes (spelled z)
    walk z word =
        let κ = z.0.0.0 in let κ₁ = z.0.0.1.0 in let κ₂ = z.0.0.1.1.0 in let q = z.0.1.0 in
        let at : ℕ × ℕ = z.0.3.0.ref_ptr in let a : Z.row.Denot = z.0.3.0.now in let n : ℕ = z.0.3.1.0 in
        let s : ℕ = bytes E in let al : ℕ = capped (align (elτ E)) in
        qed 𝓛 (((‵ (flft κ q) ⊛ others z) ⊛ ‵ (owns (types_at ended.signature.params z.0.0) z.0.3 (spelled z).0.4)) ∷ (raw (fact 𝓤 (κ₁ ⊑ E.row.lives)) ⊛ raw (fact 𝓤 (κ₂ ⊑ Z.row.lives)) ⊛ raw (fact 𝓤 (FitsInBlock (R E) n))) ∷ []) ∵
        move ! (1 ∷ []) $ split ! $ drop ! $ split ! $ heard ! (κ₂ ⊑ Z.row.lives) (λ within. heard ! (FitsInBlock (R E) n) (λ asked.
        let small : n * s < 2 ^ 63 = asked.0 in let fits : n * s < 2 ^ 64 = omega arith in
        let y : (Takes Z 𝓛 at_mem run).Ghost = at_takes Z 𝓛 at_mem run κ q at a (n * s) al (block_ty E n) in
        split ! $ split ! $ move ! (2 ∷ []) $ fsplit3 ! $ fsplit ! $ keep ! (1 ∷ 4 ∷ 5 ∷ []) $
        enter ! 𝓣.C 𝓣.Λ here (vptr at.0 at.1 ∷ vint w64 n ∷ []) _ $ alloc_all ! (λ l. pass_all ! refl ((tt, tt), ((tt, record { fits = word }), tt)) $
        let En : Env 𝓤 H = env here.locals l in
        let Next : After 𝓤 H = any_q (after_seq 𝓤 H (Wp 𝓤 H 𝓣.C 𝓣.Λ En (after 3 here.body) (at_return 𝓤 H En (Post z))) (at_return 𝓤 H En (Post z))) in
        sets ! (is ! (bin ! (get ! refl) (size_word !) (record { fits = subst (λ (k : ℕ). k < 2 ^ 64) (sym (uncapped n s fits)) fits })) (ap (vint w64) (uncapped n s fits))) refl (tt, record { fits = fits }) $
        use2 𝓛 (raw ((Takes Z 𝓛 at_mem run).pre y))
        (Takes-goes Z 𝓛 at_mem run κ q at a (Incl-trans z.0.2.0 within) (n * s) al (block_ty E n) (block_size E n fits) (block_align E n) fits (capped_fits (align (elτ E)))) $
        calls_at ! (fm_of 𝓤 H 𝓛.laws 𝓣) (Takes Z 𝓛 at_mem run) callee y (and_then ! (get ! refl) (and_then ! (get ! refl) (and_then ! (align_word !) (no_more !)))) (λ v.
        use1 𝓛 (later (raw (Answered Z 𝓛 at_mem run a (block_ty E n) v) ⊛ ‵ (flft κ q))) (Takes-gives Z 𝓛 at_mem run κ q at a (n * s) al (block_ty E n) v) $ await ! tt $ split ! $
        answers Z ! at_mem run a (block_ty E n) v
        (λ b o given.
        let made : Val = parts_val (block_ptr b o) in
        let good : Good (layout (Parts E Z)) made = (tt, ((tt, tt), ((tt, tt), ((tt, tt), tt)))) in
        let ok = first_Good (layout (Parts E Z)) made good in
        lands_as ! given refl (Answer-typed true b o) $ first ! $ switches_on ! (get_tag ! (vrt ! refl (fld ! refl (stop !))) (whole !)) $ exec ! 𝓣.C 𝓣.Λ En (arm_body 0 (arms)) Next $
        sets ! (of_opd ! (get_in ! (vrt ! refl (fld ! refl (stop !))) (in_variant ! 0 0 refl refl (whole !)))) refl (tt, tt) $
        sets ! (of_opd ! (get ! refl)) refl (tt, tt) $ sets ! (agg ! (and_then ! (get ! refl) (no_more !))) refl (start_good E (block_ptr b o)) $
        sets ! (agg ! (no_more !)) refl (tt, tt) $ sets ! (agg ! (and_then ! (get ! refl) (no_more !))) refl (tt, (tt, tt)) $
        sets ! (agg ! (no_more !)) refl (tt, tt) $ sets ! (agg ! (and_then ! (get ! refl) (no_more !))) refl (tt, (tt, tt)) $
        sets ! (agg ! (and_then ! (get ! refl) (and_then ! (get ! refl) (and_then ! (get ! refl) (no_more !))))) refl good $
        sets_last ! (agg ! (and_then ! (lit ! tt) (and_then ! (get ! refl) (no_more !)))) refl ok $
        exec ! 𝓣.C 𝓣.Λ En (after 3 here.body) (at_ret En (Post z)) $ sets ! (of_opd ! (get ! refl)) refl ok $
        parts_made E Z ! b o n a small $
        use1 𝓛 (‵ ((Outcome E Z).own_val (Ok (start_at E Z b o, cells_at E Z b o n, claim_at E Z b o n a)) (live 0 (vcons made vnil) ∷ [])))
        (ok_of 𝓛 (Parts E Z) refusal.the_row (start_at E Z b o, cells_at E Z b o n, claim_at E Z b o n a) made) $
        returns ! (look_at ! 0 refl) $ free_all ! refl $ leaves z (Ok (start_at E Z b o, cells_at E Z b o n, claim_at E Z b o n a)) (live 0 (vcons made vnil)) (refl, refl, refl, refl, refl))
        (λ given.
        let Refused : RattleType = Struct (Declared.shape refusal.the_type) in
        lands_as ! given refl (Answer-typed false 0 0) $ first ! $ switches_on ! (get_tag ! (vrt ! refl (fld ! refl (stop !))) (whole !)) $ exec ! 𝓣.C 𝓣.Λ En (arm_body 1 (arms)) Next $
        sets ! (of_opd ! (get_in ! (vrt ! refl (fld ! refl (stop !))) (in_variant ! 1 0 refl refl (whole !)))) refl (tt, tt) $
        sets_last ! (agg ! (and_then ! (lit ! tt) (and_then ! (get ! refl) (no_more !)))) refl (tt, (record { fits = lit< tt }, (tt, tt))) $
        exec ! 𝓣.C 𝓣.Λ En (after 3 here.body) (at_ret En (Post z)) $ sets ! (of_opd ! (get ! refl)) refl (tt, (record { fits = lit< tt }, (tt, tt))) $
        owned ! Refused (Is Refused) (Struct-Makes 𝓛 (Declared.shape refusal.the_type) tt) tt (vstruct vnil ∷ []) (tt, (refl, tt)) $
        use1 𝓛 (‵ ((Outcome E Z).own_val (Err (record {})) (live 1 (vcons (vstruct vnil) vnil) ∷ []))) (err_of 𝓛 (Parts E Z) refusal.the_row (record {}) (vstruct vnil)) $
        returns ! (look_at ! 0 refl) $ free_all ! refl $ leaves z (Err (record {})) (live 1 (vcons (vstruct vnil) vnil)) tt)))))

    meets : Meets 𝓛 ended.signature (WpFn 𝓤 H 𝓣.C 𝓣.Λ here) (closing 𝓛 ended held)
    meets =
        walk_Meets 𝓛 ended stayed
        (Goes-dropped 𝓛 3 (RefOf (0 ∷ []) tt (plain (λ _. P E Z)) (λ _. tt)) yes (λ κs x f. refl), (Goes-dropped 𝓛 3 (plain (λ _. usize)) yes (λ κs x f. refl), tt)) held
        (WpFn 𝓤 H 𝓣.C 𝓣.Λ here) (WpFn-mono 𝓤 H 𝓛.laws 𝓣 here)
        (λ z. knowing 𝓛 ended stayed held (WpFn 𝓤 H 𝓣.C 𝓣.Λ here) z (λ are.
        subst (λ (uss : Vals ended.signature z.0.0). Goes (passed z uss)) (sym (λ k. (are.0.0 k, (are.1.0.0 k, tt)))) (walk z are.1.0.1)))

pub allocate_spec : {M : Type 1} → stated.statement M
unfolding tables_of
allocate_spec 𝓤 𝓛 𝓜 𝓡 wired X W LX LW g d drops met dropped =
    let E : El = record { row = X; laws = LX } in let Z : Al = record { row = W; laws = LW; g = g; d = d; drops = drops } in
    let 𝓣 : Tables 𝓤 𝓛.H = tables_of 𝓤 𝓛.H 𝓜 (tables 𝓤 𝓛.H 𝓜 𝓡 𝓡.env) in
    entered 𝓤 𝓛.H (triple_of 𝓛 (ended E Z).signature (F.spec X W g d drops 𝓛 𝓜.mem 𝓡.returns)) 𝓣.C 𝓣.Λ (#self (args E Z)) (here E Z) (code.unfolded 𝓤 𝓛.H 𝓜 𝓡 wired (X, (W, tt)) d drops)
    (meets E Z 𝓛 𝓜.mem 𝓡.returns 𝓣 (met.allocate drops))
