-- The memory that places and the right to free them own, for values of the row R.
use Rattle.std.specs.Prelude.{ℕ, ◌+◌, ◌*◌, ◌^◌, List, [], ◌∷◌, length, Option, Some, None}
use Rattle.std.specs.Mem.{type_size}
use base.Fraction.{full_share}
use base.Fml.{Lft, Fml, ftrue, ffalse, fsep, flt, froom}
use mir.Raw.{raw}
use mir.Syntax.{Ty, ty_array}
use denote.Memory.{lone, part_at, shared_of}
use denote.RattleType.{RattleType}
use denote.RawPtr.{Ptr, block_ptr, null_ptr}
use denote.Sharing.{nothing, said, beside}

module _ (R : RattleType) where
  -- a place in the block b at the byte o: a value, or room for one
  abbrev pub place_owned : ℕ → ℕ → Option R.Denot → Fml
  place_owned b o None = froom (raw (lone R.mir)) b o
  place_owned b o (Some x) = part_at R full_share x b o

  -- a row of places, the first at the byte o
  abbrev pub row_owned : ℕ → ℕ → List (Option R.Denot) → Fml
  row_owned b o [] = ftrue
  row_owned b o (c ∷ cs) = fsep (place_owned b o c) (row_owned b (o + type_size R) cs)

  -- what is lent of a place
  abbrev pub place_lent : ℕ → ℕ → Option R.Denot → Lft → Fml
  place_lent b o None = nothing
  place_lent b o (Some x) = shared_of R x b o

  abbrev pub row_lent : ℕ → ℕ → List (Option R.Denot) → Lft → Fml
  row_lent b o [] = nothing
  row_lent b o (c ∷ cs) = beside (place_lent b o c) (row_lent b (o + type_size R) cs)

  -- all places together have fewer than 2 ^ 63 bytes
  abbrev pub few_bytes : List (Option R.Denot) → Fml
  few_bytes cs = flt (length cs * type_size R) (2 ^ 63)

  abbrev pub cells_owned : Ptr → List (Option R.Denot) → Fml
  cells_owned null_ptr cs = ffalse
  cells_owned (block_ptr b o) cs = fsep (few_bytes cs) (row_owned b o cs)

  abbrev pub cells_lent : Ptr → List (Option R.Denot) → Lft → Fml
  cells_lent null_ptr cs = said ffalse
  cells_lent (block_ptr b o) cs = beside (said (few_bytes cs)) (row_lent b o cs)

  -- the right to free a block of n places, by the allocator's own token
  abbrev pub claim_owned : (Ty → Ptr → Fml) → Ptr → ℕ → Fml
  claim_owned token p n = token (raw (ty_array (lone R.mir) n)) p
