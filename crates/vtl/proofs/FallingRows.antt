-- Tables whose rows fall are those of the same exports.
use Rattle.std.proofs.Common.{Bool, true, false, cond, List, [], ◌∷◌, Result, Ok, Err, refl}
use Rattle.sql_meaning.specs.Scripts.{Export, NamedFault}
use Rattle.vtl_lists.specs.Perm.{Perm, empty, keep, cross, chain}
use Rattle.vtl_rows.specs.Named.{NamedTables}
use Rattle.vtl_lists.specs.Sorting.{insert_by, sorted_by}
use Rattle.sql_engine.specs.Runs.{ShowsAs, ShowsMeaning}
use Rattle.sql_back.specs.TextRuns.{TellsText}
use Rattle.vtl_scalar.specs.declared.run_error.RunErr.{RunErr}
use Rattle.vtl_scalar.specs.declared.run_error.RunErr.TheVariants as err
use Rattle.vtl_lists.proofs.Perms.{Perm-refl}
use Rattle.vtl.specs.Falling.{all_falling}

-- a sort by an order in which rows tie leaves the same rows, too
module _ {X : Type 0} (le : X → X → Bool) where
  inserted : (x : X) (xs : List X) → Perm (insert_by le x xs) (x ∷ xs)
  inserted x [] = Perm-refl (x ∷ [])
  inserted x (y ∷ ys) = go (le x y) (inserted x ys)
    where
      go : (b : Bool) → Perm (insert_by le x ys) (x ∷ ys) → Perm (cond b (x ∷ y ∷ ys) (y ∷ insert_by le x ys)) (x ∷ y ∷ ys)
      go true p = Perm-refl (x ∷ y ∷ ys)
      go false p = chain (keep y p) (cross y x ys)

  sorted : (xs : List X) → Perm (sorted_by le xs) xs
  sorted [] = empty
  sorted (x ∷ xs) = chain (inserted x (sorted_by le xs)) (keep x (sorted xs))

all_fall : (es : List Export) (ts : NamedTables) → ShowsAs es ts → ShowsAs es (all_falling ts)
all_fall [] [] h = tt
all_fall [] (t ∷ ts) h = h
all_fall (e ∷ es) [] h = h
all_fall (e ∷ es) (t ∷ ts) h = (h.0, h.1, chain (sorted _ t.1.rows) h.2, all_fall es ts h.3)

pub meaning_falls : (meant : Result (List Export) NamedFault) (ts : NamedTables) → ShowsMeaning meant ts → ShowsMeaning meant (all_falling ts)
meaning_falls (Ok es) ts h = all_fall es ts h
meaning_falls (Err fault) ts h = h

-- a fault is told alike whatever tables were there
pub fault_stays : (meant : Result (List Export) NamedFault) (before now others : NamedTables) (e : RunErr) → TellsText meant before now (Err e) → TellsText meant others others (Err e)
fault_stays meant before now others (err.DivZero name) h = (h.0, refl)
fault_stays meant before now others (err.Range name) h = (h.0, refl)
fault_stays meant before now others err.OutOfMemory h = refl
