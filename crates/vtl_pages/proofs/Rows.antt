-- A row of places in memory: one place or some side by side are taken out of it, put back, or seen.
use mathlib.Core.Path.{◌≡◌, refl, subst}
use Prim.Native.Nat.{ℕ, zero, suc, ◌+◌, ◌*◌, ◌<◌}
use native.Mathlib.Nat.{zero-mul, suc-mul}
use native.Mathlib.Omega.{arith}
use mathlib.Core.List.{List, [], ◌∷◌, map}
use lib.ListN.{length, take, drop as without, set, get_or, replicate}
use seplogic.Ra.Ura.{Ura}
use base.Fml.{Lft, Fml, ftrue, fsep, froom}
use base.Logic.{ent, via, id⊢, mono_r, snd∗}
use mir.Syntax.{ty_array}
use types.Kit.{‵, ◌⊛◌, ◌$◌, ◌∵◌, !, qed, by, move, keep, use1, split, frame, fsplit, fjoin, rewrite, done}
use types.Logic.{Logic, sem}
use denote.Memory.{shared_of}
use denote.Sharing.{beside}
use denote.Slice.{elements_shared}
use Rattle.std.specs.Prelude.{Option, Some, None}
use Rattle.std.specs.Mem.{type_size}
use Rattle.core.proofs.mem.Param.{El, R, el_x, elτ}
use Rattle.vtl_pages.specs.Owned.{place_owned, row_owned, place_lent, row_lent}

pub filled_below : {X : Type 0} (cs : List (Option X)) (i : ℕ) (x : X) → get_or cs i None ≡ Some x → i < length cs
filled_below [] i x e = cc
filled_below (c ∷ cs) zero x e = omega arith
filled_below (c ∷ cs) (suc i) x e = omega (arith, filled_below cs i x e)

module _ (E : El) where
  abbrev pub bytes : ℕ
  bytes = type_size (R E)

  abbrev pub Place : Type 0
  Place = Option (el_x E)

  -- the row without its i-th place
  abbrev pub row_without : ℕ → ℕ → List Place → ℕ → Fml
  row_without b o [] i = ftrue
  row_without b o (c ∷ cs) zero = row_owned (R E) b (o + bytes) cs
  row_without b o (c ∷ cs) (suc i) = fsep (place_owned (R E) b o c) (row_without b (o + bytes) cs i)

  further : (i o at : ℕ) → at ≡ suc i * bytes + o → at ≡ i * bytes + (o + bytes)
  further i o at e = omega (arith, suc-mul i bytes)

  nearest : (o at : ℕ) → at ≡ zero * bytes + o → o ≡ at
  nearest o at e = omega (arith, zero-mul bytes)

  module _ {M : Type 1} {𝓤 : Ura M} (𝓛 : Logic 𝓤) (b : ℕ) where
    open 𝓛 use {H}

    pub place_out : (cs : List Place) (i o at : ℕ) → i < length cs → at ≡ i * bytes + o
        → ent 𝓤 (sem 𝓛 (row_owned (R E) b o cs)) (sem 𝓛 (fsep (place_owned (R E) b at (get_or cs i None)) (row_without b o cs i)))
    place_out [] i o at lt e = absurd (omega arith)
    place_out (c ∷ cs) zero o at lt e = subst (λ k. ent 𝓤 (sem 𝓛 (row_owned (R E) b o (c ∷ cs))) (sem 𝓛 (fsep (place_owned (R E) b k c) (row_owned (R E) b (o + bytes) cs)))) (nearest o at e) (id⊢ 𝓤 _)
    place_out (c ∷ cs) (suc i) o at lt e =
        let Place_i = place_owned (R E) b at (get_or cs i None) in
        qed 𝓛 (‵ (row_owned (R E) b o (c ∷ cs)) ∷ []) ∵ fsplit ! $ move ! (1 ∷ []) $
        use1 𝓛 (‵ (fsep Place_i (row_without b (o + bytes) cs i))) (place_out cs i (o + bytes) at (omega arith) (further i o at e)) $
        fsplit ! $ move ! (2 ∷ 1 ∷ []) $ fjoin ! $ move ! (1 ∷ 0 ∷ []) $ fjoin ! $ done !

    pub place_in : (cs : List Place) (i o at : ℕ) (d : Place) → i < length cs → at ≡ i * bytes + o
        → ent 𝓤 (sem 𝓛 (fsep (place_owned (R E) b at d) (row_without b o cs i))) (sem 𝓛 (row_owned (R E) b o (set cs i d)))
    place_in [] i o at d lt e = absurd (omega arith)
    place_in (c ∷ cs) zero o at d lt e = subst (λ k. ent 𝓤 (sem 𝓛 (fsep (place_owned (R E) b k d) (row_owned (R E) b (o + bytes) cs))) (sem 𝓛 (row_owned (R E) b o (d ∷ cs)))) (nearest o at e) (id⊢ 𝓤 _)
    place_in (c ∷ cs) (suc i) o at d lt e =
        qed 𝓛 (‵ (fsep (place_owned (R E) b at d) (row_without b o (c ∷ cs) (suc i))) ∷ []) ∵ fsplit ! $ move ! (1 ∷ []) $ fsplit ! $ move ! (2 ∷ 1 ∷ []) $ fjoin ! $
        use1 𝓛 (‵ (row_owned (R E) b (o + bytes) (set cs i d))) (place_in cs i (o + bytes) at d (omega arith) (further i o at e)) $
        move ! (1 ∷ 0 ∷ []) $ fjoin ! $ done !

    -- room for an array is a row of empty places
    pub row_of_room : (n o : ℕ) → ent 𝓤 (H.room (ty_array (elτ E) n) b o) (sem 𝓛 (row_owned (R E) b o (replicate n None)))
    row_of_room zero o = qed 𝓛 (‵ (froom (ty_array (elτ E) zero) b o) ∷ []) ∵ keep ! [] $ done !
    row_of_room (suc n) o =
        qed 𝓛 (‵ (froom (ty_array (elτ E) (suc n)) b o) ∷ []) ∵
        use1 𝓛 (‵ (froom (elτ E) b o) ⊛ ‵ (froom (ty_array (elτ E) n) b (o + bytes))) (𝓛.laws.room_uncons (elτ E) n b o) $ split ! $
        use1 𝓛 (‵ (place_owned (R E) b o None)) (𝓛.laws.room-raw (elτ E) b o) $ frame ! $ by ! (row_of_room n (o + bytes))

    pub room_of_row : (n o : ℕ) → ent 𝓤 (sem 𝓛 (row_owned (R E) b o (replicate n None))) (H.room (ty_array (elτ E) n) b o)
    room_of_row zero o = 𝓛.laws.room_nil (elτ E) b o
    room_of_row (suc n) o =
        qed 𝓛 (‵ (row_owned (R E) b o (replicate (suc n) None)) ∷ []) ∵ fsplit ! $
        use1 𝓛 (‵ (froom (elτ E) b o)) (𝓛.laws.raw-room (elτ E) b o) $ move ! (1 ∷ []) $
        use1 𝓛 (‵ (froom (ty_array (elτ E) n) b (o + bytes))) (room_of_row n (o + bytes)) $ move ! (1 ∷ []) $ by ! (𝓛.laws.room_cons (elτ E) n b o)

    module _ (κ : Lft) where
      lent_from : (cs : List Place) (i o at : ℕ) → at ≡ i * bytes + o → ent 𝓤 (sem 𝓛 (row_lent (R E) b o cs κ)) (sem 𝓛 (row_lent (R E) b at (without i cs) κ))
      lent_from cs zero o at e = subst (λ k. ent 𝓤 (sem 𝓛 (row_lent (R E) b o cs κ)) (sem 𝓛 (row_lent (R E) b k cs κ))) (nearest o at e) (id⊢ 𝓤 _)
      lent_from [] (suc i) o at e = id⊢ 𝓤 _
      lent_from (c ∷ cs) (suc i) o at e =
          via 𝓤 (sem 𝓛 (row_lent (R E) b (o + bytes) cs κ)) (snd∗ 𝓤 (sem 𝓛 (place_lent (R E) b o c κ)) (sem 𝓛 (row_lent (R E) b (o + bytes) cs κ)))
          (lent_from cs i (o + bytes) at (further i o at e))

      pub value_lent : (cs : List Place) (i o at : ℕ) (x : el_x E) → get_or cs i None ≡ Some x → at ≡ i * bytes + o → ent 𝓤 (sem 𝓛 (row_lent (R E) b o cs κ)) (sem 𝓛 (shared_of (R E) x b at κ))
      value_lent [] i o at x got e = absurd cc
      value_lent (c ∷ cs) zero o at x got e =
          qed 𝓛 (‵ (row_lent (R E) b o (c ∷ cs) κ) ∷ []) ∵ rewrite ! 0 (λ (d : Place). ‵ (row_lent (R E) b o (d ∷ cs) κ)) got refl $
          rewrite ! 0 (λ (k : ℕ). ‵ (beside (shared_of (R E) x b k) (row_lent (R E) b (o + bytes) cs) κ)) (nearest o at e) refl $ fsplit ! $ keep ! (0 ∷ []) $ done !
      value_lent (c ∷ cs) (suc i) o at x got e =
          via 𝓤 (sem 𝓛 (row_lent (R E) b (o + bytes) cs κ)) (snd∗ 𝓤 (sem 𝓛 (place_lent (R E) b o c κ)) (sem 𝓛 (row_lent (R E) b (o + bytes) cs κ)))
          (value_lent cs i (o + bytes) at x got (further i o at e))

      lent_values : (xs : List (el_x E)) (cs : List Place) (n o : ℕ) → take n cs ≡ map Some xs → ent 𝓤 (sem 𝓛 (row_lent (R E) b o cs κ)) (sem 𝓛 (elements_shared (R E) xs b o κ))
      lent_values [] cs n o e = qed 𝓛 (‵ (row_lent (R E) b o cs κ) ∷ []) ∵ keep ! [] $ done !
      lent_values (x ∷ xs) cs zero o e = absurd cc
      lent_values (x ∷ xs) [] (suc n) o e = absurd cc
      lent_values (x ∷ xs) (c ∷ cs) (suc n) o e =
          let first : c ≡ Some x = cc in let rest : take n cs ≡ map Some xs = cc in
          qed 𝓛 (‵ (row_lent (R E) b o (c ∷ cs) κ) ∷ []) ∵ rewrite ! 0 (λ (d : Place). ‵ (row_lent (R E) b o (d ∷ cs) κ)) first refl $
          by ! (mono_r 𝓤 (sem 𝓛 (place_lent (R E) b o (Some x) κ)) (lent_values xs cs n (o + bytes) rest))

      pub run_lent : (cs : List Place) (i n o : ℕ) (xs : List (el_x E)) → take n (without i cs) ≡ map Some xs
          → ent 𝓤 (sem 𝓛 (row_lent (R E) b o cs κ)) (sem 𝓛 (elements_shared (R E) xs b (i * bytes + o) κ))
      run_lent cs i n o xs e = via 𝓤 (sem 𝓛 (row_lent (R E) b (i * bytes + o) (without i cs) κ)) (lent_from cs i o (i * bytes + o) refl) (lent_values xs (without i cs) n (i * bytes + o) e)
