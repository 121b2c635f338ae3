-- A block that an allocator gave is a row of empty places with the right to free it.
use mathlib.Core.Path.{refl, sym, subst}
use Prim.Native.Nat.{ℕ, ◌*◌, ◌<◌, ◌^◌}
use mathlib.Core.List.{List, [], ◌∷◌}
use lib.ListN.{length, length-replicate, replicate}
use seplogic.Ra.Ura.{Ura}
use base.Fml.{froom}
use mir.Syntax.{ty_array}
use mir.Val.{Val, vcons, vnil, vstruct}
use types.Kit.{Goal, Item, Step, step, ‵, ◌$◌, feq_i, fjoin, flt_i, fpack, move, use1}
use types.Logic.{Logic}
use denote.RattleType.{RattleType, Valss}
use denote.RawPtr.{Ptr, block_ptr, ptr_val}
use denote.Shadow.{pure_i}
use denote.Steps.{nothing}
use denote.Struct.Declared as Declared
use denote.Struct.Struct.{within}
use denote.Struct.Tuple.{Tuple, tuple_type}
use Rattle.core.proofs.alloc.Calls.{Al, token}
use Rattle.core.proofs.mem.Param.{El, R, elτ}
use Rattle.core.proofs.slots.Leases.{P, block_ty}
use Rattle.core.specs.contracts.alloc.AllocError as refusal
use Rattle.core.specs.contracts.result.Result as results
use Rattle.std.specs.Prelude.{None}
use Rattle.std_alloc.proofs.RawLayout.{as_written}
use Rattle.vtl_pages.specs.Owned.{row_owned}
use Rattle.vtl_pages.specs.contracts.cells.Claim as claim
use Rattle.vtl_pages.proofs.Opened.{CellsRow, Mark, StartRow, empty_val, start_val}
use Rattle.vtl_pages.proofs.Rows.{bytes, row_of_room}

module _ (E : El) (Z : Al) where
  abbrev pub ClaimRow : RattleType
  ClaimRow = claim.the_row (R E) (P E Z) Z.g

  abbrev pub Parts : RattleType
  Parts = Tuple (StartRow E ∷ CellsRow E ∷ ClaimRow ∷ [])

  abbrev pub Outcome : RattleType
  Outcome = results.the_row Parts refusal.the_row

  -- the parts of a block of n empty places, by the allocator a
  abbrev pub start_at : ℕ → ℕ → (StartRow E).Denot
  start_at b o = record { address = block_ptr b o }

  abbrev pub cells_at : ℕ → ℕ → ℕ → (CellsRow E).Denot
  cells_at b o n = record { mark = record {}; address = block_ptr b o; places = replicate n None }

  abbrev pub claim_at : ℕ → ℕ → ℕ → Z.row.Denot → ClaimRow.Denot
  claim_at b o n a = record { mark = record {}; address = block_ptr b o; count = n; alloc = a }

-- how the machine stores the three
abbrev pub parts_val : Ptr → Val
parts_val p = vstruct (vcons (start_val p) (vcons empty_val (vcons empty_val vnil)))

module _ (E : El) (Z : Al) {M : Type 1} {𝓤 : Ura M} {𝓛 : Logic 𝓤} {K : Type 0} {Γ : List (Item 𝓤)} {G : Goal 𝓤 𝓛.H} where
  mark_made : K → Step K 𝓛 (‵ ((Mark E).own_val (tt, tt) (empty_val ∷ [])) ∷ Γ) G Γ G
  mark_made t = step (λ s. pure_i t ((Mark E).own_val (tt, tt) (empty_val ∷ [])) (λ vss. (tt, ((λ uss. (tt, tt)), tt))) ((vstruct vnil ∷ [], tt), (refl, ((tt, (refl, tt)), tt))) $ s)

  start_made : K → (p : Ptr) → Step K 𝓛 (‵ ((StartRow E).own_val (record { address = p }) (start_val p ∷ [])) ∷ Γ) G Γ G
  start_made t p = step (λ s. pure_i t ((StartRow E).own_val (record { address = p }) (start_val p ∷ [])) (λ vss. (tt, (tt, tt))) ((ptr_val p ∷ [], tt), (refl, (refl, tt))) $ s)

module _ (E : El) (Z : Al) {M : Type 1} {𝓤 : Ura M} {𝓛 : Logic 𝓤} {K : Type 0} {Γ : List (Item 𝓤)} {G : Goal 𝓤 𝓛.H} where
  pub parts_made : K → (b o n : ℕ) (a : Z.row.Denot) → n * bytes E < 2 ^ 63
      → Step K 𝓛 (‵ ((Parts E Z).own_val (start_at E Z b o, cells_at E Z b o n, claim_at E Z b o n a) (parts_val (block_ptr b o) ∷ [])) ∷ Γ) G
      (‵ (froom (block_ty E n) b o) ∷ ‵ (token Z a (block_ty E n) (block_ptr b o)) ∷ Γ) G
  parts_made t b o n a small = step (λ s.
      as_written t (ty_array (elτ E) n) b o $ use1 𝓛 (‵ (row_owned (R E) b o (replicate n None))) (row_of_room E 𝓛 b n o) $
      flt_i t (length (cells_at E Z b o n).places * bytes E) (2 ^ 63) (subst (λ k. k * bytes E < 2 ^ 63) (sym (length-replicate n None)) small) $ fjoin t $ mark_made E Z t $ fjoin t $
      move t (1 ∷ []) $ mark_made E Z t $ fjoin t $
      nothing t $ move t (1 ∷ 0 ∷ []) $ fjoin t $ move t (1 ∷ 0 ∷ []) $ fjoin t $ start_made E Z t (block_ptr b o) $ fjoin t $
      feq_i t (List Val) (parts_val (block_ptr b o) ∷ []) (parts_val (block_ptr b o) ∷ []) refl $ fjoin t $
      fpack t (Valss (StartRow E ∷ CellsRow E ∷ ClaimRow E Z ∷ []))
      (within (Declared.shape (tuple_type (StartRow E ∷ CellsRow E ∷ ClaimRow E Z ∷ []))) (start_at E Z b o, (cells_at E Z b o n, (claim_at E Z b o n a, tt))) (parts_val (block_ptr b o) ∷ []))
      (start_val (block_ptr b o) ∷ [], (empty_val ∷ [], (empty_val ∷ [], tt))) $ s)
