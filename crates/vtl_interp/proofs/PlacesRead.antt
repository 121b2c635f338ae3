-- The last statement that reads each name, and what is let go behind it.
use Rattle.std.proofs.Common.{◌≡◌, ◌⊎◌, inl, inr, ◌||◌, ℕ, zero, suc, ◌+◌, ◌≤◌, Bool, true, false, cond, List, [], ◌∷◌, ◌++◌, length, Option, Some, None, refl, sym, ap, subst, ◌∙◌, arith}
use Rattle.std.specs.List.{AllByRecursion, list_any}
use Rattle.std.specs.Map.{lookup}
use Rattle.std.specs.Cmp.Lexicographic.{bytes_decides, nat_list_eq_equiv}
use Rattle.vtl_lists.proofs.Alls.{all_append, all_more}
use Rattle.vtl_tree.specs.Environment.{DataSet, Environment, data_of}
use Rattle.vtl_tree.specs.Structure.{same_name}
use Rattle.vtl_tree.specs.Trees.{NodeTree}
use Rattle.vtl_check.specs.Names.{names_in, names_of}
use Rattle.vtl_interp.specs.Reads.{AreRead, AreReadThere, IsFrom, IsReadFrom, LastPlaces, NotedAs, reads_at}
use Rattle.vtl_interp.proofs.Environments.{data_looked}

-- ---- what is read at a place or behind it is read from an earlier one on
from_earlier : (i j : ℕ) (o : Option ℕ) → i ≤ j → IsFrom j o → IsFrom i o
from_earlier i j None h k = k
from_earlier i j (Some place) h k = omega (arith, h, k)

pub all_read : (last : LastPlaces) (i : ℕ) (ns : List NodeTree) → AreRead last i ns → AllByRecursion (IsReadFrom i last) (names_of ns)
all_read last i [] h = tt
all_read last i (n ∷ ns) h =
    all_append (IsReadFrom i last) (names_in n) (names_of ns) h.0
    (all_more (IsReadFrom (i + 1) last) (IsReadFrom i last) (λ name k. from_earlier i (i + 1) (lookup (same_name name) last) (omega arith) k) (names_of ns) (all_read last (i + 1) ns h.1))

-- ---- one name more is noted
any_front : (f : List ℕ → Bool) (xs ys : List (List ℕ)) → list_any f xs ≡ true → list_any f (xs ++ ys) ≡ true
any_front f [] ys h = cc
any_front f (x ∷ xs) ys h = go (f x) (any_front f xs ys) h
  where
    go : (b : Bool) → (list_any f xs ≡ true → list_any f (xs ++ ys) ≡ true) → (b || list_any f xs) ≡ true → (b || list_any f (xs ++ ys)) ≡ true
    go true ih h = refl
    go false ih h = ih h

any_last : (f : List ℕ → Bool) (xs : List (List ℕ)) (x : List ℕ) → f x ≡ true → list_any f (xs ++ x ∷ []) ≡ true
any_last f [] x h = ap (λ b. b || false) h
any_last f (y ∷ xs) x h = go (f y) (any_last f xs x h)
  where
    go : (b : Bool) → list_any f (xs ++ x ∷ []) ≡ true → (b || list_any f (xs ++ x ∷ [])) ≡ true
    go true q = refl
    go false q = q

module _ (last now : LastPlaces) (new : List ℕ) (i : ℕ) (noted : (name : List ℕ) → lookup (same_name name) now ≡ cond (same_name new name) (Some i) (lookup (same_name name) last)) where
  pub still_read : (j : ℕ) (name : List ℕ) → j ≤ i → IsReadFrom j last name → IsReadFrom j now name
  still_read j name h k = subst (IsFrom j) (sym (noted name)) (go (same_name new name))
    where
      go : (b : Bool) → IsFrom j (cond b (Some i) (lookup (same_name name) last))
      go true = h
      go false = k

  pub now_read : IsReadFrom i now new
  now_read =
      let own : lookup (same_name new) now ≡ Some i = noted new ∙ ap (λ b. cond b (Some i) (lookup (same_name new) last)) ((bytes_decides new new).1 refl) in
      subst (IsFrom i) (sym own) (omega arith)

  pub noted_more : (before : LastPlaces) (read : List (List ℕ)) → NotedAs before i read last → NotedAs before i (read ++ new ∷ []) now
  noted_more before read h name place e = go (same_name new name) refl (sym (noted name) ∙ e)
    where
      front : (lookup (same_name name) before ≡ Some place) ⊎ ((place ≡ i) × (list_any (same_name name) read ≡ true)) → (lookup (same_name name) before ≡ Some place) ⊎ ((place ≡ i) × (list_any (same_name name) (read ++ new ∷ []) ≡ true))
      front (inl l) = inl l
      front (inr r) = inr (r.0, any_front (same_name name) read (new ∷ []) r.1)

      go : (b : Bool) → same_name new name ≡ b → cond b (Some i) (lookup (same_name name) last) ≡ Some place → (lookup (same_name name) before ≡ Some place) ⊎ ((place ≡ i) × (list_any (same_name name) (read ++ new ∷ []) ≡ true))
      go true s q = let same : i ≡ place = cc in inr (sym same, any_last (same_name name) read new (nat_list_eq_equiv.symm name new ∙ s))
      go false s q = front (h name place q)

-- the names of an expression more are noted
pub reads_more : (last now : LastPlaces) (j i : ℕ) (ns : List NodeTree) (n : NodeTree) → j + length ns ≡ i → ((k : ℕ) (name : List ℕ) → k ≤ i → IsReadFrom k last name → IsReadFrom k now name)
    → AllByRecursion (IsReadFrom i now) (names_in n) → AreRead last j ns → AreRead now j (ns ++ n ∷ [])
reads_more last now j i [] n e old new h =
    let same : i ≡ j = omega (arith, e) in
    (subst (λ k. AllByRecursion (IsReadFrom k now) (names_in n)) same new, tt)
reads_more last now j i (x ∷ ns) n e old new h = (
  all_more (IsReadFrom j last) (IsReadFrom j now) (λ name k. old j name (omega (arith, e)) k) (names_in x) h.0,
  reads_more last now (j + 1) i ns n (omega (arith, e)) old new h.1,
)

read_before : (ns : List NodeTree) (n : NodeTree) (place : ℕ) (name : List ℕ) → reads_at ns place name ≡ true → reads_at (ns ++ n ∷ []) place name ≡ true
read_before [] n place name h = cc
read_before (m ∷ ns) n zero name h = h
read_before (m ∷ ns) n (suc place) name h = read_before ns n place name h

read_last : (ns : List NodeTree) (n : NodeTree) (name : List ℕ) → list_any (same_name name) (names_in n) ≡ true → reads_at (ns ++ n ∷ []) (length ns) name ≡ true
read_last [] n name h = h
read_last (m ∷ ns) n name h = read_last ns n name h

pub read_there_more : (last now : LastPlaces) (i : ℕ) (ns : List NodeTree) (n : NodeTree) → length ns ≡ i → NotedAs last i (names_in n) now → AreReadThere last ns → AreReadThere now (ns ++ n ∷ [])
read_there_more last now i ns n many noted h name place e = go (noted name place e)
  where
    go : (lookup (same_name name) last ≡ Some place) ⊎ ((place ≡ i) × (list_any (same_name name) (names_in n) ≡ true)) → reads_at (ns ++ n ∷ []) place name ≡ true
    go (inl l) = read_before ns n place name (h name place l)
    go (inr r) = subst (λ k. reads_at (ns ++ n ∷ []) k name ≡ true) (many ∙ sym r.0) (read_last ns n name r.1)

-- ---- a name is let go
module _ (known now : Environment) (name : List ℕ) (removed : (other : List ℕ) → lookup (same_name other) now ≡ cond (same_name name other) None (lookup (same_name other) known)) where
  without : (other : List ℕ) → data_of other now ≡ cond (same_name name other) None (data_of other known)
  without other = data_looked other now ∙ removed other ∙ ap (cond (same_name name other) None) (sym (data_looked other known))

  pub kept_without : (P : List ℕ → Type 0) → (P name → ⊥) → (other : List ℕ) → P other → data_of other now ≡ data_of other known
  kept_without P unread other read = without other ∙ go (same_name name other) refl
    where
      go : (b : Bool) → same_name name other ≡ b → cond b None (data_of other known) ≡ data_of other known
      go true e = absurd (unread (subst P (sym ((bytes_decides name other).0 e)) read))
      go false e = refl

  pub gone_without : data_of name now ≡ None
  gone_without = without name ∙ ap (λ b. cond b None (data_of name known)) ((bytes_decides name name).1 refl)

  pub none_without : (other : List ℕ) → data_of other known ≡ None → data_of other now ≡ None
  none_without other none = without other ∙ go (same_name name other)
    where
      go : (b : Bool) → cond b None (data_of other known) ≡ None
      go true = refl
      go false = none

-- a data set is held in front of the others
pub held_in_front : (known now : Environment) (name : List ℕ) (d : DataSet) → ((other : List ℕ) → lookup (same_name other) now ≡ cond (same_name name other) (Some d) (lookup (same_name other) known))
    → (other : List ℕ) → data_of other now ≡ data_of other ((name, d) ∷ known)
held_in_front known now name d put other = data_looked other now ∙ put other ∙ ap (cond (same_name name other) (Some d)) (sym (data_looked other known))
