-- A walk over groups that makes a point of each that is kept, and joins the faults.
use Rattle.std.proofs.Common.{◌≡◌, ℕ, ◌+◌, ◌<◌, List, [], ◌∷◌, ◌++◌, Bool, true, false, cond, length, get_or, map, take, filter, Option, None, refl, sym, ap, ◌∙◌}
use Rattle.std.proofs.lemmas.List.{map-append}
use Rattle.std.proofs.lemmas.List.Elements.{filter_more}
use Rattle.vtl_decimal.specs.declared.number.Fault.{Fault}
use Rattle.vtl_cell.specs.Outcome.{faults_by, join}
use Rattle.vtl_cell.specs.Row.{Row}
use Rattle.vtl_tree.proofs.Faults.{join_assoc, faults_by_more, join_swap}

map_choice : {X Y : Type 0} (f : X → Y) (b : Bool) (x : X) → map f (cond b (x ∷ []) []) ≡ cond b (f x ∷ []) []
map_choice f true x = refl
map_choice f false x = refl

-- ---- one more group
module _ (f : Row → Row) (p : Row → Bool) (keys : List Row) (i : ℕ) (h : i < length keys) where
  abbrev key : Row
  key = get_or keys i []

  pub rows_more : (now then : List Row) → now ≡ map f (filter p (take i keys)) → then ≡ now ++ cond (p key) (f key ∷ []) [] → then ≡ map f (filter p (take (i + 1) keys))
  rows_more now then n a =
      a ∙ ap (λ l. l ++ cond (p key) (f key ∷ []) []) n
      ∙ ap (λ l. map f (filter p (take i keys)) ++ l) (sym (map_choice f (p key) key))
      ∙ sym (map-append f (filter p (take i keys)) (cond (p key) (key ∷ []) [])) ∙ ap (map f) (sym (filter_more p keys i [] h))

pub faults_more : (f : Row → Option Fault) (keys : List Row) (i : ℕ) → i < length keys → (now then : Option Fault) → now ≡ faults_by f (take i keys) → then ≡ join now (f (get_or keys i [])) → then ≡ faults_by f (take (i + 1) keys)
faults_more f keys i h now then n a =
    a ∙ ap (λ s. join s (f (get_or keys i []))) n
    ∙ sym (faults_by_more f keys i [] h)

-- ---- faults of two kinds
both_pairs : (a b f g : Option Fault) → join (join a b) (join f g) ≡ join (join a f) (join b g)
both_pairs a b f g = join_assoc a b (join f g) ∙ ap (join a) (join_swap b f g) ∙ sym (join_assoc a f (join b g))

-- all of one kind and then those of the other at what is kept
pub faults_apart : (f g : Row → Option Fault) (p : Row → Bool) (keys : List Row) → faults_by (λ k. join (f k) (cond (p k) (g k) None)) keys ≡ join (faults_by f keys) (faults_by g (filter p keys))
faults_apart f g p [] = refl
faults_apart f g p (k ∷ keys) = go (p k) (faults_apart f g p keys)
  where
    rest : Option Fault
    rest = faults_by g (filter p keys)

    go : (b : Bool) → faults_by (λ j. join (f j) (cond (p j) (g j) None)) keys ≡ join (faults_by f keys) rest
        → join (join (f k) (cond b (g k) None)) (faults_by (λ j. join (f j) (cond (p j) (g j) None)) keys) ≡ join (join (f k) (faults_by f keys)) (faults_by g (cond b (k ∷ filter p keys) (filter p keys)))
    go true ih = ap (join (join (f k) (g k))) ih ∙ both_pairs (f k) (g k) (faults_by f keys) rest
    go false ih = ap (join (join (f k) None)) ih ∙ both_pairs (f k) None (faults_by f keys) rest
