-- Values that are put at places of a list.
use Rattle.std.proofs.Common.{◌≡◌, ℕ, List, ◌∷◌, length, set, Option, None, Some, Global, ap, ◌∙◌, arith}
use Rattle.std.specs.Prelude.{unwrap_or}
use Rattle.std.specs.Vec.Iter.{into_iter_items, into_iter_len, into_iter_steps}
use Rattle.std.specs.declared.vec.IntoIter.{IntoIter}
use Rattle.vtl_times.specs.Put.{put_each}

-- what an iterator gives where a value is left
pub taken_next : {X : Type 0} (it then : IntoIter X Global) (r : Option X) (d x : X) (xs : List X) → into_iter_len it ≡ length (into_iter_items it) → into_iter_steps it r then → into_iter_items it ≡ x ∷ xs → (unwrap_or r d ≡ x) × (into_iter_items then ≡ xs)
taken_next it then None d x xs n steps e = let some = ap length e in absurd (omega (arith, n, steps.0, some))
taken_next it then (Some y) d x xs n steps e = let s = steps.0 in (cc, cc)

-- the next value is put
pub goes_on : {X : Type 0} (f : ℕ → X) (k : ℕ) (ks : List ℕ) (values then made : List X) (x : X) → then ≡ set values k x → x ≡ f k → put_each f (k ∷ ks) values ≡ made → put_each f ks then ≡ made
goes_on f k ks values then made x is same e = ap (put_each f ks) (is ∙ ap (set values k) same) ∙ e
