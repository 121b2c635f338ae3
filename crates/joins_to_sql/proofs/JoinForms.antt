-- The queries of joins, as they are written.
use Rattle.std.proofs.Common.{◌≡◌, ℕ, zero, suc, ◌+◌, ◌<◌, ◌≤◌, Bool, true, false, cond, not, nat_lt, ◌||◌, List, [], ◌∷◌, ◌++◌, length, map, Option, None, Some, if◌then◌else◌, refl, sym, ap, ◌∙◌, subst, arith, append_assoc, append-nil}
use Rattle.std.specs.Prelude.{slice_get}
use Rattle.std.specs.List.{AllByRecursion, filter}
use Rattle.std.proofs.lemmas.Bool.{le-ltb, lt-ltb}
use Rattle.std.proofs.lemmas.List.{map-append}
use Rattle.vtl_decimal.specs.Settings.{Settings}
use Rattle.vtl_cell.specs.declared.operator.ScalarOp.TheVariants as op
use Rattle.vtl_tree.specs.Structure.{columns_of, names_of, same_name}
use Rattle.vtl_tree.specs.declared.structure.Component.{Component}
use Rattle.vtl_tree.specs.declared.structure.Structure.{Structure}
use Rattle.vtl_tree.specs.Names.{is_among}
use Rattle.vtl_tree.specs.Columns.{common_identifiers, has_identifier, column_behind, identifiers_of, measures_of, place_of}
use Rattle.vtl_tree.proofs.NotNullLemmas.{same_itself}
use Rattle.vtl_meaning.specs.Made.{attributes_of}
use Rattle.sql_tree.specs.Trees as tree
use Rattle.sql_tree.specs.Trees.{Text}
use Rattle.sql_tree.specs.declared.word_groups.JoinKind.{JoinKind}
use Rattle.sql_tree.specs.declared.word_groups.JoinKind.TheVariants as joining
use Rattle.expressions_to_sql.specs.ToSql.{Naming, column_of, to_sql}
use Rattle.joins_to_sql.specs.FullJoins.{full_query, key_structure}
use Rattle.selects_to_sql.specs.Items.{all_of}
use Rattle.joins_to_sql.specs.JoinItems.{Aliased, aliased, aliased_around, column_from, columns_from, columns_from_all, crossed_query, crossed_with, joined_on, joined_query, joined_values, joined_with, keyed_query, number_around, referred_query, tied_with}
use Rattle.joins_to_sql.specs.Joins.{Placed, columns_at, columns_in, cross_query, crosses, from_reference, joined_exps, joins_on, of_many, placed_around, placed_at, placed_from, reference_query, tied_to, width_of, without}
use Rattle.selects_to_sql.specs.Queries.{alias_of, conjunction, source_as}
use Rattle.selects_to_sql.proofs.Conjunctions.{conjunction_to_sql}
use Rattle.joins_to_sql.proofs.ManySources.{of_first, of_later}

-- ---- the components of a structure are among its columns

abbrev pub IsWithin : List Component → Component → Type 0
IsWithin xs y = place_of y.name xs < length xs

place_in : (name : Text) (front : List Component) (y : Component) (rest : List Component) → same_name y.name name ≡ true → place_of name (front ++ y ∷ rest) < length (front ++ y ∷ rest)
place_in name [] y rest e = let here : place_of name (y ∷ rest) ≡ 0 = ap (λ b. cond (not b) (1 + place_of name rest) 0) e in omega (arith, here)
place_in name (x ∷ front) y rest e = go (same_name x.name name) (place_in name front y rest e)
  where
    go : (b : Bool) → place_of name (front ++ y ∷ rest) < length (front ++ y ∷ rest) → cond (not b) (1 + place_of name (front ++ y ∷ rest)) 0 < length (x ∷ front ++ y ∷ rest)
    go true h = omega arith
    go false h = omega (arith, h)

all_within : (front ys back : List Component) → AllByRecursion (IsWithin (front ++ (ys ++ back))) ys
all_within front [] back = tt
all_within front (y ∷ ys) back = (
  place_in y.name front y (ys ++ back) (same_itself y.name),
  subst (λ l. AllByRecursion (IsWithin l) ys) (append_assoc front (y ∷ []) (ys ++ back)) (all_within (front ++ y ∷ []) ys back),
)

-- some columns of each structure
abbrev pub IsOwn : (Structure → List Component) → Type 0
IsOwn f = (a : Structure) → AllByRecursion (IsWithin (columns_of a)) (f a)

columns_split : (a : Structure) → identifiers_of a ++ (measures_of a ++ attributes_of a) ≡ columns_of a
columns_split a = sym (append_assoc (identifiers_of a) (measures_of a) (attributes_of a))

pub own_identifiers : IsOwn identifiers_of
own_identifiers a = subst (λ l. AllByRecursion (IsWithin l) (identifiers_of a)) (columns_split a) (all_within [] (identifiers_of a) (measures_of a ++ attributes_of a))

pub own_measures : IsOwn measures_of
own_measures a = subst (λ l. AllByRecursion (IsWithin l) (measures_of a)) (columns_split a) (all_within (identifiers_of a) (measures_of a) (attributes_of a))

own_attributes : IsOwn attributes_of
own_attributes a = subst (λ l. AllByRecursion (IsWithin l) (attributes_of a)) (ap (λ l. identifiers_of a ++ measures_of a ++ l) (append-nil (attributes_of a))) (all_within (identifiers_of a ++ measures_of a) (attributes_of a) [])

all_left : (P : Component → Type 0) (q : Component → Bool) (xs : List Component) → AllByRecursion P xs → AllByRecursion P (filter q xs)
all_left P q [] all = tt
all_left P q (x ∷ xs) all = go (q x) (all_left P q xs all.1)
  where
    go : (b : Bool) → AllByRecursion P (filter q xs) → AllByRecursion P (cond b (x ∷ filter q xs) (filter q xs))
    go true h = (all.0, h)
    go false h = h

own_common : (r : Structure) → IsOwn (common_identifiers r)
own_common r a = all_left (IsWithin (columns_of a)) (λ i. has_identifier r i.name) (identifiers_of a) (own_identifiers a)

-- a name of some of them
among_within : (name : Text) (xs back : List Component) → is_among name (names_of xs) ≡ true → place_of name (xs ++ back) < length (xs ++ back)
among_within name [] back e = cc
among_within name (x ∷ xs) back e = go (same_name x.name name) e (among_within name xs back)
  where
    go : (b : Bool) → b || is_among name (names_of xs) ≡ true → (is_among name (names_of xs) ≡ true → place_of name (xs ++ back) < length (xs ++ back)) → cond (not b) (1 + place_of name (xs ++ back)) 0 < length (x ∷ xs ++ back)
    go true e ih = omega arith
    go false e ih = let h = ih e in omega (arith, h)

theirs : (r : Structure) (xs : List Component) → AllByRecursion (IsWithin (columns_of r)) (filter (λ i. has_identifier r i.name) xs)
theirs r [] = tt
theirs r (x ∷ xs) = go (has_identifier r x.name) refl (theirs r xs)
  where
    go : (b : Bool) → has_identifier r x.name ≡ b → AllByRecursion (IsWithin (columns_of r)) (filter (λ i. has_identifier r i.name) xs) → AllByRecursion (IsWithin (columns_of r)) (cond b (x ∷ filter (λ i. has_identifier r i.name) xs) (filter (λ i. has_identifier r i.name) xs))
    go true e h = (subst (λ l. place_of x.name l < length l) (columns_split r) (among_within x.name (identifiers_of r) (measures_of r ++ attributes_of r) e), h)
    go false e h = h

-- ---- numbers of operands

-- one behind the other
abbrev in_line : ℕ → List Structure → List Text → List Aliased
in_line i (a ∷ ss) (x ∷ xs) = aliased i a x ∷ in_line (suc i) ss xs
in_line i ss xs = []

number_before : (place i : ℕ) → i < place → number_around place i ≡ suc i
number_before place i h = ap (λ b. if b then suc i else (if nat_lt place i then i else 0)) (lt-ltb i place h)

number_after : (place i : ℕ) → place < i → number_around place i ≡ i
number_after place i h = ap (λ b. if b then suc i else (if nat_lt place i then i else 0)) (le-ltb i place (omega (arith, h))) ∙ ap (λ b. if b then i else 0) (lt-ltb place i h)

number_at : (place i : ℕ) → place ≡ i → number_around place i ≡ 0
number_at place i e = ap (λ b. if b then suc i else (if nat_lt place i then i else 0)) (le-ltb i place (omega (arith, e))) ∙ ap (λ b. if b then i else 0) (le-ltb place i (omega (arith, e)))

behind : (place i : ℕ) (ss : List Structure) (xs : List Text) → place < i → aliased_around place i ss xs ≡ in_line i ss xs
behind place i [] xs h = refl
behind place i (a ∷ ss) [] h = refl
behind place i (a ∷ ss) (x ∷ xs) h = ap (λ n. aliased n a x ∷ aliased_around place (suc i) ss xs) (number_after place i h) ∙ ap (λ l. aliased i a x ∷ l) (behind place (suc i) ss xs (omega (arith, h)))

-- all but the one before all others
others : (j i : ℕ) (ss : List Structure) (xs : List Text) → length xs ≡ length ss → without j (aliased_around (i + j) i ss xs) ≡ in_line (suc i) (without j ss) (without j xs)
others j i [] xs e = refl
others j i (a ∷ ss) [] e = absurd (omega (arith, e))
others zero i (a ∷ ss) (x ∷ xs) e = behind (i + 0) (suc i) ss xs (omega arith)
others (suc j) i (a ∷ ss) (x ∷ xs) e =
    let next : i + suc j ≡ suc i + j = omega arith in
    ap (λ n. aliased n a x ∷ without j (aliased_around (i + suc j) (suc i) ss xs)) (number_before (i + suc j) i (omega arith))
    ∙ ap (λ n. aliased (suc i) a x ∷ without j (aliased_around n (suc i) ss xs)) next
    ∙ ap (λ l. aliased (suc i) a x ∷ l) (others j (suc i) ss xs (omega (arith, e)))

abbrev picked : Option Structure → Option Text → Option Aliased
picked (Some a) (Some x) = Some (aliased 0 a x)
picked (Some a) None = None
picked None o = None

picked_at : (j i : ℕ) (ss : List Structure) (xs : List Text) → length xs ≡ length ss → slice_get (aliased_around (i + j) i ss xs) j ≡ picked (slice_get ss j) (slice_get xs j)
picked_at j i [] xs e = refl
picked_at j i (a ∷ ss) [] e = absurd (omega (arith, e))
picked_at zero i (a ∷ ss) (x ∷ xs) e = ap (λ n. Some (aliased n a x)) (number_at (i + 0) i (omega arith))
picked_at (suc j) i (a ∷ ss) (x ∷ xs) e =
    let next : i + suc j ≡ suc i + j = omega arith in
    ap (λ n. slice_get (aliased_around n (suc i) ss xs) j) next ∙ picked_at j (suc i) ss xs (omega (arith, e))

-- ---- columns of operands under their aliases

module _ (p : Settings) (at : Naming) where
  record Sits (o : Placed) (q : Aliased) : Type 0 where
    pub same : o.structure ≡ q.structure
    pub named : (k : ℕ) (name : Text) → k < width_of o.structure → at (o.before + k) name ≡ column_of q.alias name

  abbrev AllSit : List Placed → List Aliased → Type 0
  AllSit [] [] = Unit {0}
  AllSit [] (q ∷ qs) = ⊥
  AllSit (o ∷ os) [] = ⊥
  AllSit (o ∷ os) (q ∷ qs) = Sits o q × AllSit os qs

  -- from a place on, the columns are those of these sources
  abbrev AreFrom : (n i : ℕ) → List Structure → Type 0
  AreFrom n i ss = (k : ℕ) (name : Text) → at (n + k) name ≡ of_many i (map width_of ss) k name

  from_next : (n i : ℕ) (a : Structure) (ss : List Structure) → AreFrom n i (a ∷ ss) → AreFrom (n + width_of a) (suc i) ss
  from_next n i a ss h k name =
      let sum : (n + width_of a) + k ≡ n + (width_of a + k) = omega arith in
      ap (λ m. at m name) sum ∙ h (width_of a + k) name ∙ of_later i (width_of a) k (map width_of ss) name

  sits : (n i : ℕ) (a : Structure) (x : Text) (ss : List Structure) → AreFrom n i (a ∷ ss) → Sits (placed_at n a) (aliased i a x)
  sits n i a x ss h = record { same = refl; named = λ k name within. h k name ∙ of_first i (width_of a) k (map width_of ss) name within }

  all_sit : (n i : ℕ) (ss : List Structure) (xs : List Text) → length xs ≡ length ss → AreFrom n i ss → AllSit (placed_from n ss) (in_line i ss xs)
  all_sit n i [] [] e h = tt
  all_sit n i [] (x ∷ xs) e h = tt
  all_sit n i (a ∷ ss) [] e h = absurd (omega (arith, e))
  all_sit n i (a ∷ ss) (x ∷ xs) e h = (sits n i a x ss h, all_sit (n + width_of a) (suc i) ss xs (omega (arith, e)) (from_next n i a ss h))

  -- the first columns are those of the first source
  abbrev IsFirst : Structure → Type 0
  IsFirst r = (k : ℕ) (name : Text) → k < width_of r → at k name ≡ column_of (alias_of 0) name

  first_sits : (r : Structure) (x : Text) → IsFirst r → Sits (placed_at 0 r) (aliased 0 r x)
  first_sits r x f = record { same = refl; named = λ k name within. let none : 0 + k ≡ k = omega arith in ap (λ m. at m name) none ∙ f k name within }

  around : (r : Structure) (j n i : ℕ) (ss : List Structure) (xs : List Text) → length xs ≡ length ss → slice_get ss j ≡ Some r → IsFirst r → AreFrom n (suc i) (without j ss) → AllSit (placed_around j n ss) (aliased_around (i + j) i ss xs)
  around r j n i [] xs e g f h = tt
  around r j n i (a ∷ ss) [] e g f h = absurd (omega (arith, e))
  around r zero n i (a ∷ ss) (x ∷ xs) e g f h =
      let same : r ≡ a = cc in
      let number = number_at (i + 0) i (omega arith) in (
        subst (λ m. Sits (placed_at 0 a) (aliased m a x)) (sym number) (first_sits a x (subst IsFirst same f)),
        subst (AllSit (placed_from n ss)) (sym (behind (i + 0) (suc i) ss xs (omega arith))) (all_sit n (suc i) ss xs (omega (arith, e)) h),
      )
  around r (suc j) n i (a ∷ ss) (x ∷ xs) e g f h =
      let next : suc i + j ≡ i + suc j = omega arith in
      let number = number_before (i + suc j) i (omega arith) in (
        subst (λ m. Sits (placed_at n a) (aliased m a x)) (sym number) (sits n (suc i) a x (without j ss) h),
        subst (λ m. AllSit (placed_around j (n + width_of a) ss) (aliased_around m (suc i) ss xs)) next
            (around r j (n + width_of a) (suc i) ss xs (omega (arith, e)) g f (from_next n (suc i) a (without j ss) h)),
      )

  -- ---- items

  own_columns : (o : Placed) (q : Aliased) → Sits o q → (ys : List Component) → AllByRecursion (IsWithin (columns_of o.structure)) ys
      → map (to_sql p at) (map (λ y. column_behind o.before (columns_of o.structure) y.name) ys) ≡ map (column_from q.alias) ys
  own_columns o q s [] all = refl
  own_columns o q s (y ∷ ys) all =
      ap (λ c. tree.column c ∷ map (to_sql p at) (map (λ (z : Component). column_behind o.before (columns_of o.structure) z.name) ys)) (s.named (place_of y.name (columns_of o.structure)) y.name all.0)
      ∙ ap (λ l. column_from q.alias y ∷ l) (own_columns o q s ys all.1)

  columns_of_all : (f : Structure → List Component) → IsOwn f → (os : List Placed) (qs : List Aliased) → AllSit os qs → map (to_sql p at) (columns_in f os) ≡ columns_from_all f qs
  columns_of_all f own [] [] all = refl
  columns_of_all f own [] (q ∷ qs) all = absurd all
  columns_of_all f own (o ∷ os) [] all = absurd all
  columns_of_all f own (o ∷ os) (q ∷ qs) all =
      map-append (to_sql p at) (columns_at f o) (columns_in f os)
      ∙ ap (λ l. l ++ map (to_sql p at) (columns_in f os)) (own_columns o q all.0 (f o.structure) (own o.structure) ∙ ap (λ a. map (column_from q.alias) (f a)) all.0.same)
      ∙ ap (λ l. columns_from f q ++ l) (columns_of_all f own os qs all.1)

  values_written : (ids all : List Placed) (us qs : List Aliased) → AllSit ids us → AllSit all qs → map (to_sql p at) (joined_exps ids all) ≡ joined_values (columns_from_all identifiers_of us) qs
  values_written ids all us qs there here =
      map-append (to_sql p at) (columns_in identifiers_of ids ++ columns_in measures_of all) (columns_in attributes_of all)
      ∙ ap (λ l. l ++ map (to_sql p at) (columns_in attributes_of all))
      (map-append (to_sql p at) (columns_in identifiers_of ids) (columns_in measures_of all)
      ∙ ap (λ l. l ++ map (to_sql p at) (columns_in measures_of all)) (columns_of_all identifiers_of own_identifiers ids us there)
      ∙ ap (λ l. columns_from_all identifiers_of us ++ l) (columns_of_all measures_of own_measures all qs here))
      ∙ ap (λ l. columns_from_all identifiers_of us ++ columns_from_all measures_of qs ++ l) (columns_of_all attributes_of own_attributes all qs here)

  -- ---- conditions

  one_tied : (r : Structure) (o : Placed) (q : Aliased) → IsFirst r → Sits o q → (z : Component) → IsWithin (columns_of o.structure) z → IsWithin (columns_of r) z → to_sql p at (tied_to (columns_of r) o z) ≡ tied_with (alias_of 0) q.alias z
  one_tied r o q f s z own first =
      ap (λ c. tree.binary (tree.column c) op.Equal (tree.column (at (place_of z.name (columns_of r)) z.name))) (s.named (place_of z.name (columns_of o.structure)) z.name own)
      ∙ ap (λ c. tree.binary (column_from q.alias z) op.Equal (tree.column c)) (f (place_of z.name (columns_of r)) z.name first)

  each_tied : (r : Structure) (o : Placed) (q : Aliased) → IsFirst r → Sits o q → (zs : List Component) → AllByRecursion (IsWithin (columns_of o.structure)) zs → AllByRecursion (IsWithin (columns_of r)) zs
      → map (to_sql p at) (map (tied_to (columns_of r) o) zs) ≡ map (tied_with (alias_of 0) q.alias) zs
  each_tied r o q f s [] own first = refl
  each_tied r o q f s (z ∷ zs) own first =
      ap (λ e. e ∷ map (to_sql p at) (map (tied_to (columns_of r) o) zs)) (one_tied r o q f s z own.0 first.0)
      ∙ ap (λ l. tied_with (alias_of 0) q.alias z ∷ l) (each_tied r o q f s zs own.1 first.1)

  tied_all : (r : Structure) (o : Placed) (q : Aliased) → IsFirst r → Sits o q → (zs : List Component) → AllByRecursion (IsWithin (columns_of o.structure)) zs → AllByRecursion (IsWithin (columns_of r)) zs
      → to_sql p at (conjunction (map (tied_to (columns_of r) o) zs)) ≡ all_of (map (tied_with (alias_of 0) q.alias) zs)
  tied_all r o q f s zs own first = conjunction_to_sql p at (map (tied_to (columns_of r) o) zs) ∙ ap all_of (each_tied r o q f s zs own first)

  joins_written : (kind : JoinKind) (r : Structure) → IsFirst r → (f : Structure → List Component) → IsOwn f → ((a : Structure) → AllByRecursion (IsWithin (columns_of r)) (f a)) → (n i : ℕ) (ss : List Structure) (xs : List Text) → AreFrom n i ss
      → joins_on p kind at (columns_of r) f i (placed_from n ss) xs ≡ map (λ (o : Aliased). joined_on kind (alias_of 0) (f o.structure) o) (in_line i ss xs)
  joins_written kind r first f own there n i [] xs h = refl
  joins_written kind r first f own there n i (a ∷ ss) [] h = refl
  joins_written kind r first f own there n i (a ∷ ss) (y ∷ ys) h =
      let rest = joins_on p kind at (columns_of r) f (suc i) (placed_from (n + width_of a) ss) ys in
      ap (λ e. tree.on kind (source_as (alias_of i) y) e ∷ rest) (tied_all r (placed_at n a) (aliased i a y) first (sits n i a y ss h) (f a) (own a) (there a))
      ∙ ap (λ l. joined_on kind (alias_of 0) (f a) (aliased i a y) ∷ l) (joins_written kind r first f own there (n + width_of a) (suc i) ss ys (from_next n i a ss h))

-- ---- queries

from_written : (p : Settings) (kind : JoinKind) (i : ℕ) (ss : List Structure) (s : Structure) (xs : List Text) → length xs ≡ length ss → (r : Structure) (x : Text) → slice_get ss i ≡ Some r
    → from_reference p kind i ss s xs (Some r) (Some x) ≡ referred_query kind i (aliased_around i 0 ss xs) s (Some (aliased 0 r x))
from_written p kind i ss s xs e r x g =
    let at = of_many 0 (width_of r ∷ map width_of (without i ss)) in
    let os = aliased_around i 0 ss xs in
    let first : IsFirst p at r = λ k name h. of_first 0 (width_of r) k (map width_of (without i ss)) name h in
    let rest : AreFrom p at (width_of r) 1 (without i ss) = λ k name. of_later 0 (width_of r) k (map width_of (without i ss)) name in
    let lead : AllSit p at (placed_at 0 r ∷ []) (aliased 0 r x ∷ []) = (first_sits p at r x first, tt) in
    let same : 0 + i ≡ i = omega arith in
    let all : AllSit p at (placed_around i (width_of r) ss) os = subst (λ m. AllSit p at (placed_around i (width_of r) ss) (aliased_around m 0 ss xs)) same (around p at r i (width_of r) 0 ss xs e g first rest) in
    let joins = joins_on p kind at (columns_of r) (common_identifiers r) 1 (placed_from (width_of r) (without i ss)) (without i xs) in
    let left : without i os ≡ in_line 1 (without i ss) (without i xs) = subst (λ m. without i (aliased_around m 0 ss xs) ≡ in_line 1 (without i ss) (without i xs)) same (others i 0 ss xs e) in
    let values = values_written p at (placed_at 0 r ∷ []) (placed_around i (width_of r) ss) (aliased 0 r x ∷ []) os lead all ∙ ap (λ l. joined_values l os) (append-nil (columns_from identifiers_of (aliased 0 r x))) in
    ap (λ l. joined_query l s (aliased 0 r x) joins) values
    ∙ ap (joined_query (joined_values (columns_from identifiers_of (aliased 0 r x)) os) s (aliased 0 r x)) (joins_written p at kind r first (common_identifiers r) (own_common r) (λ a. theirs r (identifiers_of a)) (width_of r) 1 (without i ss) (without i xs) rest ∙ ap (map (joined_with kind (aliased 0 r x))) (sym left))

pub reference_written : (p : Settings) (kind : JoinKind) (i : ℕ) (ss : List Structure) (s : Structure) (xs : List Text) → length xs ≡ length ss
    → reference_query p kind i ss s xs ≡ referred_query kind i (aliased_around i 0 ss xs) s (slice_get (aliased_around i 0 ss xs) i)
reference_written p kind i ss s xs e =
    let same : 0 + i ≡ i = omega arith in
    go (slice_get ss i) (slice_get xs i) refl ∙ ap (referred_query kind i (aliased_around i 0 ss xs) s) (sym (picked_at i 0 ss xs e) ∙ ap (λ m. slice_get (aliased_around m 0 ss xs) i) same)
  where
    go : (r : Option Structure) (x : Option Text) → slice_get ss i ≡ r → from_reference p kind i ss s xs r x ≡ referred_query kind i (aliased_around i 0 ss xs) s (picked r x)
    go (Some r) (Some x) g = from_written p kind i ss s xs e r x g
    go (Some r) None g = refl
    go None x g = refl

crosses_written : (i : ℕ) (ss : List Structure) (xs : List Text) → length xs ≡ length ss → crosses i xs ≡ map crossed_with (in_line i ss xs)
crosses_written i [] [] e = refl
crosses_written i [] (x ∷ xs) e = absurd (omega (arith, e))
crosses_written i (a ∷ ss) [] e = refl
crosses_written i (a ∷ ss) (x ∷ xs) e = ap (λ l. tree.cross (source_as (alias_of i) x) ∷ l) (crosses_written (suc i) ss xs (omega (arith, e)))

pub cross_written : (p : Settings) (ss : List Structure) (s : Structure) (xs : List Text) → length xs ≡ length ss → cross_query p ss s xs ≡ crossed_query (aliased_around 0 0 ss xs) s
cross_written p [] s [] e = refl
cross_written p [] s (x ∷ xs) e = absurd (omega (arith, e))
cross_written p (a ∷ ss) s [] e = refl
cross_written p (a ∷ ss) s (x ∷ xs) e =
    let at = of_many 0 (map width_of (a ∷ ss)) in
    let os = in_line 0 (a ∷ ss) (x ∷ xs) in
    let start : AreFrom p at 0 0 (a ∷ ss) = λ k name. (let none : 0 + k ≡ k = omega arith in ap (λ m. at m name) none) in
    let all = all_sit p at 0 0 (a ∷ ss) (x ∷ xs) e start in
    ap (λ l. joined_query l s (aliased 0 a x) (crosses 1 xs)) (values_written p at (placed_from 0 (a ∷ ss)) (placed_from 0 (a ∷ ss)) os os all all)
    ∙ ap (joined_query (joined_values (columns_from_all identifiers_of os) os) s (aliased 0 a x)) (crosses_written 1 ss xs (omega (arith, e)))
    ∙ ap (λ l. crossed_query (aliased 0 a x ∷ l) s) (sym (behind 0 1 ss xs (omega arith)))

-- ---- a table of identifiers

-- where none stands before all others
all_behind : (place i : ℕ) (ss : List Structure) (xs : List Text) → i + length ss ≤ place → aliased_around place i ss xs ≡ in_line (suc i) ss xs
all_behind place i [] xs h = refl
all_behind place i (a ∷ ss) [] h = refl
all_behind place i (a ∷ ss) (x ∷ xs) h =
    ap (λ n. aliased n a x ∷ aliased_around place (suc i) ss xs) (number_before place i (omega (arith, h))) ∙ ap (λ l. aliased (suc i) a x ∷ l) (all_behind place (suc i) ss xs (omega (arith, h)))

own_keys : (t a : Structure) → AllByRecursion (IsWithin (columns_of t)) (common_identifiers a t)
own_keys t a = all_left (IsWithin (columns_of t)) (λ i. has_identifier a i.name) (identifiers_of t) (own_identifiers t)

pub full_written : (p : Settings) (r : Structure) (ss : List Structure) (s : Structure) (xs : List Text) (x : Text) → length xs ≡ length ss
    → full_query p r ss s xs x ≡ keyed_query (aliased 0 (key_structure r) x) (aliased_around (length ss) 0 ss xs) s
full_written p r ss s xs x e =
    let t = key_structure r in
    let k = aliased 0 t x in
    let at = of_many 0 (width_of t ∷ map width_of ss) in
    let os = in_line 1 ss xs in
    let first : IsFirst p at t = λ k name h. of_first 0 (width_of t) k (map width_of ss) name h in
    let rest : AreFrom p at (width_of t) 1 ss = λ k name. of_later 0 (width_of t) k (map width_of ss) name in
    let lead : AllSit p at (placed_at 0 t ∷ []) (k ∷ []) = (first_sits p at t x first, tt) in
    let all : AllSit p at (placed_from (width_of t) ss) os = all_sit p at (width_of t) 1 ss xs e rest in
    let joins = joins_on p joining.Left at (columns_of t) (λ a. common_identifiers a t) 1 (placed_from (width_of t) ss) xs in
    let values = values_written p at (placed_at 0 t ∷ []) (placed_from (width_of t) ss) (k ∷ []) os lead all ∙ ap (λ l. joined_values l os) (append-nil (columns_from identifiers_of k)) in
    ap (λ l. joined_query l s k joins) values
    ∙ ap (joined_query (joined_values (columns_from identifiers_of k) os) s k) (joins_written p at joining.Left t first (λ a. common_identifiers a t) (λ a. theirs a (identifiers_of t)) (own_keys t) (width_of t) 1 ss xs rest)
    ∙ ap (λ l. keyed_query k l s) (sym (all_behind (length ss) 0 ss xs (omega arith)))
