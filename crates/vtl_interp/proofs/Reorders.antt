-- Tables with their rows in another order.
use Rattle.std.proofs.Common.{◌≡◌, ℕ, ◌+◌, ◌<◌, ◌≤◌, Bool, true, false, cond, nat_eq, List, [], ◌∷◌, ◌++◌, map, length, take, get_or, Option, None, Some, Result, Ok, Err, IfOk, OnOk, refl, sym, ap, subst, ◌∙◌}
use Rattle.std.specs.List.{range_with_len}
use Rattle.std.specs.List.Sorted.{IsPermutation}
use Rattle.std.specs.Cmp.Lexicographic.{bytes_decides}
use Rattle.std.proofs.lemmas.List.{append-nil, take_all, take_more}
use Rattle.std.proofs.lemmas.List.FromFn.{fill_by_all}
use lib.Pointwise.{pointwise}
use Rattle.vtl_lists.specs.Perm.{Perm}
use Rattle.vtl_lists.proofs.Perms.{Perm-from_IsPermutation, Perm-map, Perm-refl}
use Rattle.vtl_rows.specs.Named.{NamedTables, table_of}
use Rattle.vtl_rows.specs.Places.{row_at}
use Rattle.vtl_rows.specs.Tables.{Listed, Tabled, listed}
use Rattle.vtl_interp.specs.Reordered.{AreBothReordered, AreReordered, IsPut, IsPutUnless, IsReordered}

-- ---- one table

pub reordered_refl : (t : Listed) → IsReordered t t
reordered_refl t = record { columns = refl; rows = Perm-refl t.rows }

pub shared_is_reordered : {E : Type 0} (t : Listed) (r : Result Tabled E) → IfOk r (λ u. listed u ≡ t) → IfOk r (λ u. IsReordered t (listed u))
shared_is_reordered t (Ok u) e = subst (IsReordered t) (sym e) (reordered_refl t)
shared_is_reordered t (Err x) e = tt

pub gathered_is_reordered : {E : Type 0} (t : Listed) (places : List ℕ) (r : Result Tabled E) → IsPermutation (range_with_len 0 (length t.rows)) places
    → IfOk r (λ u. u.columns ≡ t.columns) → IfOk r (λ u. u.rows ≡ map (row_at t.rows) places) → IfOk r (λ u. IsReordered t (listed u))
gathered_is_reordered t places (Ok u) all columns rows = record {
  columns = sym columns;
  rows = subst (Perm t.rows) (sym rows)
      (subst (λ l. Perm l (map (row_at t.rows) places)) (sym (fill_by_all (row_at t.rows) t.rows (length t.rows) [] refl (λ k l. refl)))
      (Perm-map (row_at t.rows) (Perm-from_IsPermutation (range_with_len 0 (length t.rows)) places all)));
}
gathered_is_reordered t places (Err x) all columns rows = tt

-- ---- tables by name

pub same_reordered : (tables : NamedTables) → AreReordered tables tables
same_reordered tables name = go (table_of name tables)
  where
    go : (o : Option Listed) → AreBothReordered o o
    go None = tt
    go (Some t) = reordered_refl t

-- a table that was found, or else another
abbrev or_else : Option Listed → Option Listed → Option Listed
or_else None other = other
or_else (Some t) other = Some t

table_behind : (name : List ℕ) (ts us : NamedTables) → table_of name (ts ++ us) ≡ or_else (table_of name ts) (table_of name us)
table_behind name [] us = refl
table_behind name (t ∷ ts) us = go (pointwise nat_eq name t.0) (table_behind name ts us)
  where
    go : (b : Bool) → table_of name (ts ++ us) ≡ or_else (table_of name ts) (table_of name us)
        → cond b (Some t.1) (table_of name (ts ++ us)) ≡ or_else (cond b (Some t.1) (table_of name ts)) (table_of name us)
    go true ih = refl
    go false ih = ih

both_or_else : (a b c d : Option Listed) → AreBothReordered a b → (b ≡ None → AreBothReordered c d) → AreBothReordered (or_else a c) (or_else b d)
both_or_else None None c d h k = k refl
both_or_else None (Some u) c d h k = absurd h
both_or_else (Some t) None c d h k = absurd h
both_or_else (Some t) (Some u) c d h k = h

-- two lists that stand for each other, and further tables behind them
behind_reordered : (xs ys us vs : NamedTables) → AreReordered xs ys → ((name : List ℕ) → table_of name ys ≡ None → AreBothReordered (table_of name us) (table_of name vs)) → AreReordered (xs ++ us) (ys ++ vs)
behind_reordered xs ys us vs h k name =
    subst (λ o. AreBothReordered o (table_of name (ys ++ vs))) (sym (table_behind name xs us))
    (subst (AreBothReordered (or_else (table_of name xs) (table_of name us))) (sym (table_behind name ys vs))
    (both_or_else (table_of name xs) (table_of name ys) (table_of name us) (table_of name vs) (h name) (k name)))

-- under its own name a table is there, and under another none is
one_reordered : (t u : Listed) (b : Bool) → IsReordered t u → AreBothReordered (cond b (Some t) None) (cond b (Some u) None)
one_reordered t u true h = h
one_reordered t u false h = tt

-- a table whose name is taken is found under no other name
none_behind : (name : List ℕ) (t found : Listed) (ys : NamedTables) → table_of name ys ≡ Some found → (other : List ℕ) → table_of other ys ≡ None → AreBothReordered (table_of other ((name, t) ∷ [])) None
none_behind name t found ys there other e = go (pointwise nat_eq other name) refl
  where
    go : (b : Bool) → pointwise nat_eq other name ≡ b → AreBothReordered (cond b (Some t) None) None
    go false q = tt
    go true q = let both : None ≡ Some found = sym e ∙ ap (λ n. table_of n ys) ((bytes_decides other name).0 q) ∙ there in cc

-- ---- one table after the other

pub taken_is_put : (name : List ℕ) (t : Listed) (tables : NamedTables) (o : Option Listed) → o ≡ table_of name tables → (o ≡ None → ⊥) → IsPut name t tables tables
taken_is_put name t tables o e some = go (table_of name tables) refl
  where
    go : (p : Option Listed) → table_of name tables ≡ p → IsPutUnless p name t tables tables
    go (Some found) q = refl
    go None q = absurd (some (e ∙ q))

pub new_is_put : {E : Type 0} (name : List ℕ) (t u : Listed) (before now : NamedTables) (r : Result (Unit {0}) E) → table_of name before ≡ None → IsReordered t u → OnOk r (now ≡ before ++ (name, u) ∷ []) → OnOk r (IsPut name t before now)
new_is_put name t u before now (Ok done) e h put = subst (λ o. IsPutUnless o name t before now) (sym e) (u, h, put)
new_is_put name t u before now (Err x) e h put = tt

put_reordered : (xs ys zs : NamedTables) (name : List ℕ) (t : Listed) → AreReordered xs ys → IsPut name t ys zs → AreReordered (xs ++ (name, t) ∷ []) zs
put_reordered xs ys zs name t h put = go (table_of name ys) refl put
  where
    go : (o : Option Listed) → table_of name ys ≡ o → IsPutUnless o name t ys zs → AreReordered (xs ++ (name, t) ∷ []) zs
    go (Some found) there same =
        subst (AreReordered (xs ++ (name, t) ∷ [])) (append-nil ys ∙ sym same) (behind_reordered xs ys ((name, t) ∷ []) [] h (none_behind name t found ys there))
    go None there it =
        subst (AreReordered (xs ++ (name, t) ∷ [])) (sym it.2) (behind_reordered xs ys ((name, t) ∷ []) ((name, it.0) ∷ []) h (λ other e. one_reordered t it.0 (pointwise nat_eq other name) it.1))

-- one more table of a list
pub next_reordered : (tables ys zs : NamedTables) (i : ℕ) (name : List ℕ) (t : Listed) → i < length tables → (name, t) ≡ get_or tables i (name, t) → AreReordered (take i tables) ys → IsPut name t ys zs → AreReordered (take (i + 1) tables) zs
next_reordered tables ys zs i name t within is h put =
    subst (λ (l : NamedTables). AreReordered l zs) (ap (λ (x : List ℕ × Listed). take i tables ++ x ∷ []) is ∙ sym (take_more tables i (name, t) within)) (put_reordered (take i tables) ys zs name t h put)

pub start_reordered : (tables others : NamedTables) → others ≡ [] → AreReordered (take 0 tables) others
start_reordered tables others e = subst (AreReordered (take 0 tables)) (sym e) (λ name. tt)

pub all_reordered : (tables others : NamedTables) (i : ℕ) → length tables ≤ i → AreReordered (take i tables) others → AreReordered tables others
all_reordered tables others i all h = subst (λ (l : NamedTables). AreReordered l others) (take_all i tables all) h
