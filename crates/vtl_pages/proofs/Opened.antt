-- A `&mut` to cells is opened to the row of places that they own, and closed.
use mathlib.Core.Path.{◌≡◌, refl, sym}
use Prim.Native.Nat.{ℕ, ◌*◌, ◌<◌, ◌^◌}
use mathlib.Core.List.{List, [], ◌∷◌}
use lib.ListN.{length}
use seplogic.Ra.Ura.{Ura}
use base.Fml.{GName, Lft, Share, flft, fobs, fauth, fbor, fobor}
use base.Fraction.{full_share}
use base.Logic.{never, id⊢}
use base.Stored.{Gv}
use mir.Syntax.{Ty}
use lib.Dec.{T, lit<}
use mir.Val.{Val, has_ty, vcons, vnil, vstruct, WT}
use types.Kit.{Goal, Item, Seq, Soaks, Step, step, ‵, ◌$◌, move, rewrite, fsplit, fjoin, flt_l, flt_i}
use types.Logic.{Logic}
use types.SemTy.{Body}
use denote.Memory.{cell_at, mem}
use denote.Param.{layout}
use denote.RattleType.{RattleType}
use denote.RawPtr.{Ptr, block_ptr, in_a_block, null_ptr, ptr_val}
use denote.Steps.{opens, closes}
use denote.Struct.Owning.{shape}
use denote.Struct.Struct.{Struct}
use Rattle.core.proofs.mem.Param.{El, R}
use Rattle.vtl_pages.specs.Owned.{row_owned, cells_owned}
use Rattle.vtl_pages.specs.contracts.cells.Cells as cells
use Rattle.vtl_pages.specs.contracts.cells.Start as start
use Rattle.vtl_pages.proofs.Rows.{bytes}

-- how the machine stores a start
abbrev pub start_val : Ptr → Val
start_val p = vstruct (vcons (ptr_val p) vnil)

-- how it stores what takes no memory
abbrev pub empty_val : Val
empty_val = vstruct (vcons (vstruct vnil) vnil)

module _ (E : El) where
  abbrev pub StartRow : RattleType
  StartRow = start.the_row (R E)

  abbrev pub CellsRow : RattleType
  CellsRow = cells.the_row (R E)

  abbrev pub start_ty : Ty
  start_ty = layout StartRow

  pub start_good : (p : Ptr) → T (has_ty start_ty (start_val p)) × WT (start_val p)
  start_good (block_ptr b o) = (tt, (tt, tt))
  start_good null_ptr = (tt, (record { fits = lit< tt }, tt))

  -- the one field of cells
  abbrev pub Mark : RattleType
  Mark = Struct (shape (cells.the_type (R E)))

  -- the places together have fewer than 2 ^ 63 bytes
  abbrev pub IsSmall : CellsRow.Denot → Type 0
  IsSmall d = length d.places * bytes E < 2 ^ 63

module _ (E : El) {M : Type 1} {𝓤 : Ura M} {𝓛 : Logic 𝓤} {K : Type 0} {Γ : List (Item 𝓤)} {G : Goal 𝓤 𝓛.H} where
  -- [the row; the field; the cell of the field; the open borrow; what is seen of it; what it is]
  pub cells_open : K → Soaks G → {κ : Lft} {q : Share} {γ : GName} (d : (CellsRow E).Denot) (rb ro : ℕ)
      → ((b o : ℕ) (vs : List Val) → d.address ≡ block_ptr b o → IsSmall E d
      → Seq K 𝓛 (‵ (row_owned (R E) b o d.places) ∷ ‵ ((Mark E).own_val (tt, tt) vs) ∷ ‵ (cell_at full_share (CellsRow E).mir vs rb ro) ∷ ‵ (fobor κ q (Body (mem (CellsRow E)) rb ro γ)) ∷ ‵ (fobs γ ((CellsRow E).coded.code d)) ∷ ‵ (fauth γ ((CellsRow E).coded.code d)) ∷ Γ) G)
      → Seq K 𝓛 (‵ (fobs γ ((CellsRow E).coded.code d)) ∷ ‵ (fbor κ (Body (mem (CellsRow E)) rb ro γ)) ∷ ‵ (flft κ q) ∷ Γ) G
  cells_open t soaks d rb ro next =
      opens t soaks (CellsRow E) {h = d} rb ro (λ vs. move t (1 ∷ []) $ fsplit t $ move t (1 ∷ []) $
      in_a_block t d.address (λ p. cells_owned (R E) p d.places) (id⊢ 𝓤 (never 𝓤)) (λ b o at. fsplit t $ flt_l t (λ small. next b o vs at small)))

  pub cells_close : K → Soaks G → {κ : Lft} {q : Share} {u v : Gv} {γ : GName} (d : (CellsRow E).Denot) (b o rb ro : ℕ) (vs : List Val) → d.address ≡ block_ptr b o → IsSmall E d
      → Step K 𝓛 (‵ (fobs γ ((CellsRow E).coded.code d)) ∷ ‵ (fbor κ (Body (mem (CellsRow E)) rb ro γ)) ∷ ‵ (flft κ q) ∷ Γ) G
      (‵ (row_owned (R E) b o d.places) ∷ ‵ ((Mark E).own_val (tt, tt) vs) ∷ ‵ (cell_at full_share (CellsRow E).mir vs rb ro) ∷ ‵ (fobor κ q (Body (mem (CellsRow E)) rb ro γ)) ∷ ‵ (fobs γ u) ∷ ‵ (fauth γ v) ∷ Γ) G
  cells_close t soaks d b o rb ro vs at small = step (λ s.
      flt_i t (length d.places * bytes E) (2 ^ 63) small $ fjoin t $ rewrite t 0 (λ (p : Ptr). ‵ (cells_owned (R E) p d.places)) (sym at) refl $
      move t (1 ∷ 0 ∷ []) $ fjoin t $ move t (1 ∷ 0 ∷ []) $ closes t soaks (CellsRow E) d vs rb ro $ s)
