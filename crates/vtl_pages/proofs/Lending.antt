-- What is lent of a row of places: it can be copied, used for a shorter time, and made of a borrow of what the row owns.
use Prim.Native.Nat.{ℕ, ◌+◌}
use seplogic.Ra.Ura.{Ura}
use base.Fml.{Lft, Incl, ftrue, ffalse}
use types.Logic.{Logic}
use denote.Param.Laws.{Laws}
use denote.RattleType.{RattleType, RowLaws}
use denote.RawPtr.{Ptr, block_ptr, null_ptr}
use denote.Shares.{Shares-less}
use denote.Sharing.{ShrLaws, said}
use denote.SharingLaws.{beside_shr_laws, nothing_shr_laws, said_shr_laws}
use denote.Struct.Lending.{Lends, Lends-both, Lends-nothing, Lends-said, Lends-false}
use Rattle.std.specs.Prelude.{List, [], ◌∷◌, Option, Some, None}
use Rattle.std.specs.Mem.{type_size}
use Rattle.vtl_pages.specs.Owned.{place_owned, row_owned, place_lent, row_lent, few_bytes, cells_owned, cells_lent}

module _ (R : RattleType) (laws : RowLaws R) where
  row_laws : (b o : ℕ) (cs : List (Option R.Denot)) → ShrLaws (row_lent R b o cs)
  row_laws b o [] = nothing_shr_laws
  row_laws b o (None ∷ cs) = beside_shr_laws _ _ nothing_shr_laws (row_laws b (o + type_size R) cs)
  row_laws b o (Some x ∷ cs) = beside_shr_laws _ _ (laws x b o) (row_laws b (o + type_size R) cs)

  pub lent_laws : (p : Ptr) (cs : List (Option R.Denot)) → ShrLaws (cells_lent R p cs)
  lent_laws null_ptr cs = said_shr_laws ffalse tt
  lent_laws (block_ptr b o) cs = beside_shr_laws _ _ (said_shr_laws (few_bytes R cs) tt) (row_laws b o cs)

module _ {M : Type 1} {𝓤 : Ura M} (𝓛 : Logic 𝓤) (α : Lft) (R : RattleType) (laws : Laws R) (lives : Incl α R.lives) where
  place_lends : (b o : ℕ) (c : Option R.Denot) → Lends 𝓛 (place_owned R b o c) (place_lent R b o c) α
  place_lends b o None = Lends-nothing 𝓛 (place_owned R b o None) α
  place_lends b o (Some x) = λ κ ts. Shares-less 𝓛 R R.lives α lives (laws.shares 𝓛) x κ ts b o

  row_lends : (b o : ℕ) (cs : List (Option R.Denot)) → Lends 𝓛 (row_owned R b o cs) (row_lent R b o cs) α
  row_lends b o [] = Lends-nothing 𝓛 ftrue α
  row_lends b o (c ∷ cs) =
      let next = o + type_size R in
      Lends-both 𝓛 (place_owned R b o c) (row_owned R b next cs) (place_lent R b o c) (row_lent R b next cs) α (place_lends b o c) (row_lends b next cs)

  pub cells_lend : (p : Ptr) (cs : List (Option R.Denot)) → Lends 𝓛 (cells_owned R p cs) (cells_lent R p cs) α
  cells_lend null_ptr cs = Lends-false 𝓛 (said ffalse) α
  cells_lend (block_ptr b o) cs = Lends-both 𝓛 (few_bytes R cs) (row_owned R b o cs) (said (few_bytes R cs)) (row_lent R b o cs) α (Lends-said 𝓛 (few_bytes R cs) tt α) (row_lends b o cs)
