-- Agreement of points, name by name; and the one point of an operand that agrees with a point that has all its identifiers.
use Rattle.std.proofs.Common.{◌≡◌, ℕ, zero, suc, List, [], ◌∷◌, Bool, true, false, ◌||◌, cond, map, take, Some, refl, sym, ap, ◌∙◌, subst, true≢false}
use Rattle.std.specs.List.{AllByRecursion, filter, find}
use Rattle.std.specs.Option.{option_to_list}
use Rattle.vtl_lists.specs.Apart.{all_apart}
use Rattle.vtl_cell.specs.Row.{Row, same_key, same_row}
use Rattle.vtl_cell.specs.declared.cell.Cell.{Cell}
use Rattle.vtl_cell.specs.declared.kind.Kind.{Kind}
use Rattle.vtl_lists.proofs.Aparts.{apart_parts}
use Rattle.vtl_cell.proofs.Rows.{same_row-is, same_row-refl}
use Rattle.vtl_lists.proofs.Sorts.{AllByRecursion-filter}
use Rattle.vtl_lists.proofs.Alls.{all_both, all_filtered, all_more}
use Rattle.vtl_lists.proofs.Tests.{or_true}
use Rattle.vtl_tree.specs.DataSet.{IsDataSet, is_point}
use Rattle.vtl_tree.specs.Environment.{DataSet}
use Rattle.vtl_tree.specs.Structure.{IsStructure, columns_of, key_width, names_of, same_name}
use Rattle.vtl_tree.specs.declared.structure.Component.{Component}
use Rattle.vtl_tree.specs.declared.structure.Structure.{Structure}
use Rattle.vtl_tree.specs.Names.{is_among}
use Rattle.vtl_tree.specs.Columns.{common_identifiers, has_identifier, identifiers_of, place_of}
use Rattle.vtl_tree.proofs.NotNullLemmas.{same_itself}
use Rattle.vtl_meaning.specs.Agreement.{OperandPoint, agree_in, first_agreeing, operand_point, points_agree, values_in}
use Rattle.vtl_meaning.specs.LookUps.{value_named}
use Rattle.vtl_meaning.specs.Made.{AreAmong, IsColumnAt}
use Rattle.vtl_meaning.proofs.Agreements.{own_values}
use Rattle.vtl_meaning.proofs.Places.{same_name-is}

-- ---- a structure that has all identifiers of another
abbrev pub Covers : Structure → Structure → Type 0
Covers r a = (name : List ℕ) → has_identifier a name ≡ true → has_identifier r name ≡ true

column_among : (place : ℕ) (name : List ℕ) (kind : Kind) (ys : List Component) → IsColumnAt place name kind ys → is_among name (names_of ys) ≡ true
column_among place name kind [] i = absurd i
column_among zero name kind (y ∷ ys) i = ap (λ b. b || is_among name (names_of ys)) (ap (λ n. same_name n name) i.0 ∙ same_itself name)
column_among (suc place) name kind (y ∷ ys) i = ap (λ b. same_name y.name name || b) (column_among place name kind ys i) ∙ or_true (same_name y.name name)

among_covers : (xs ys : List Component) → AreAmong xs ys → (name : List ℕ) → is_among name (names_of xs) ≡ true → is_among name (names_of ys) ≡ true
among_covers [] ys all name e = absurd (true≢false (sym e))
among_covers (x ∷ xs) ys all name e = go (same_name x.name name) refl e (among_covers xs ys all.1 name)
  where
    go : (b : Bool) → same_name x.name name ≡ b → (b || is_among name (names_of xs)) ≡ true → (is_among name (names_of xs) ≡ true → is_among name (names_of ys) ≡ true) → is_among name (names_of ys) ≡ true
    go true h f ih = subst (λ n. is_among n (names_of ys) ≡ true) (same_name-is x.name name h) (column_among (place_of x.name ys) x.name x.kind ys all.0)
    go false h f ih = ih f

pub covers : (r a : Structure) → AreAmong (identifiers_of a) (identifiers_of r) → Covers r a
covers r a all = among_covers (identifiers_of a) (identifiers_of r) all

-- ---- agreement as a fact
each_equal : (v w : List ℕ → Cell) (ys : List Component) → map (λ y. v y.name) ys ≡ map (λ y. w y.name) ys → AllByRecursion (λ y. v y.name ≡ w y.name) ys
each_equal v w [] e = tt
each_equal v w (y ∷ ys) e =
    let here : v y.name ≡ w y.name = cc in
    let rest : map (λ z. v z.name) ys ≡ map (λ z. w z.name) ys = cc in
    (here, each_equal v w ys rest)

equal_each : (v w : List ℕ → Cell) (ys : List Component) → AllByRecursion (λ y. v y.name ≡ w y.name) ys → map (λ y. v y.name) ys ≡ map (λ y. w y.name) ys
equal_each v w [] all = refl
equal_each v w (y ∷ ys) all = ap (λ z. z ∷ map (λ y. v y.name) ys) all.0 ∙ ap (λ l. w y.name ∷ l) (equal_each v w ys all.1)

-- the same value of each identifier that both have
abbrev pub Agrees : OperandPoint → OperandPoint → Type 0
Agrees x y = (name : List ℕ) → has_identifier x.structure name ≡ true → has_identifier y.structure name ≡ true → value_named (columns_of x.structure) x.point name ≡ value_named (columns_of y.structure) y.point name

-- what holds of the columns that pass a test of their names holds of a name of theirs that passes it
at_name : (has : List ℕ → Bool) (v w : List ℕ → Cell) (name : List ℕ) (ids : List Component) → AllByRecursion (λ i. v i.name ≡ w i.name) (filter (λ i. has i.name) ids) → has name ≡ true → is_among name (names_of ids) ≡ true → v name ≡ w name
at_name has v w name [] all h e = absurd (true≢false (sym e))
at_name has v w name (i ∷ ids) all h e = go (same_name i.name name) refl (has i.name) refl all e (at_name has v w name ids)
  where
    go : (b : Bool) → same_name i.name name ≡ b → (t : Bool) → has i.name ≡ t → AllByRecursion (λ z. v z.name ≡ w z.name) (cond t (i ∷ filter (λ z. has z.name) ids) (filter (λ z. has z.name) ids)) → (b || is_among name (names_of ids)) ≡ true
        → (AllByRecursion (λ z. v z.name ≡ w z.name) (filter (λ z. has z.name) ids) → has name ≡ true → is_among name (names_of ids) ≡ true → v name ≡ w name) → v name ≡ w name
    go true f true g all e ih = subst (λ n. v n ≡ w n) (same_name-is i.name name f) all.0
    go true f false g all e ih = absurd (true≢false (sym h ∙ sym (ap has (same_name-is i.name name f)) ∙ g))
    go false f true g all e ih = ih all.1 h e
    go false f false g all e ih = ih all h e

pub agree-gives : (x y : OperandPoint) → points_agree x y ≡ true → Agrees x y
agree-gives x y e = λ name h i.
    let v : List ℕ → Cell = value_named (columns_of y.structure) y.point in
    let w : List ℕ → Cell = value_named (columns_of x.structure) x.point in
    let both = common_identifiers x.structure y.structure in
    let same = same_row-is (values_in y.structure both y.point) (values_in x.structure both x.point) e in
    sym (at_name (has_identifier x.structure) v w name (identifiers_of y.structure) (each_equal v w both same) h i)

-- each identifier is one by its name
pub own_names : (a : Structure) → AllByRecursion (λ i. has_identifier a i.name ≡ true) (identifiers_of a)
own_names a = go (identifiers_of a)
  where
    more : (x : Component) (ids ys : List Component) → AllByRecursion (λ i. is_among i.name (names_of ids) ≡ true) ys → AllByRecursion (λ i. is_among i.name (names_of (x ∷ ids)) ≡ true) ys
    more x ids [] all = tt
    more x ids (y ∷ ys) all = (ap (λ b. same_name x.name y.name || b) all.0 ∙ or_true (same_name x.name y.name), more x ids ys all.1)

    go : (ids : List Component) → AllByRecursion (λ i. is_among i.name (names_of ids) ≡ true) ids
    go [] = tt
    go (i ∷ ids) = (ap (λ b. b || is_among i.name (names_of ids)) (same_itself i.name), more i ids ids (go ids))

pub agree-from : (x y : OperandPoint) → Agrees x y → points_agree x y ≡ true
agree-from x y h =
    let a = x.structure in
    let b = y.structure in
    let v : List ℕ → Cell = value_named (columns_of b) y.point in
    let w : List ℕ → Cell = value_named (columns_of a) x.point in
    let both = common_identifiers a b in
    let same = equal_each v w both (all_both (λ i. has_identifier a i.name ≡ true) (λ i. has_identifier b i.name ≡ true) (λ i. v i.name ≡ w i.name) (λ i f g. sym (h i.name f g)) both
    (all_filtered (λ i. has_identifier a i.name) (identifiers_of b)) (AllByRecursion-filter (λ i. has_identifier b i.name ≡ true) (λ i. has_identifier a i.name) (identifiers_of b) (own_names b))) in
    ap (λ l. same_row l (values_in a both x.point)) same ∙ same_row-refl (values_in a both x.point)

-- ---- at most one item passes a test
module _ {X : Type 0} (P : X → Type 0) (same : X → X → Bool) where
  none_other : (p : X → Bool) (x : X) (xs : List X) → P x → AllByRecursion P xs → AllByRecursion (λ y. same x y ≡ false) xs → p x ≡ true → ((y z : X) → P y → P z → p y ≡ true → p z ≡ true → same y z ≡ true) → filter p xs ≡ []
  none_other p x [] i all apart e one = refl
  none_other p x (y ∷ xs) i all apart e one = go (p y) refl (none_other p x xs i all.1 apart.1 e one)
    where
      go : (b : Bool) → p y ≡ b → filter p xs ≡ [] → cond b (y ∷ filter p xs) (filter p xs) ≡ []
      go true h ih = absurd (true≢false (sym (one x y i all.0 e h) ∙ apart.0))
      go false h ih = ih

  pub only_one : (p : X → Bool) (xs : List X) → AllByRecursion P xs → all_apart same xs ≡ true → ((y z : X) → P y → P z → p y ≡ true → p z ≡ true → same y z ≡ true) → filter p xs ≡ option_to_list (find p xs)
  only_one p [] all apart one = refl
  only_one p (x ∷ xs) all apart one = go (p x) refl (only_one p xs all.1 (apart_parts same x xs apart).1 one)
    where
      go : (b : Bool) → p x ≡ b → filter p xs ≡ option_to_list (find p xs) → cond b (x ∷ filter p xs) (filter p xs) ≡ option_to_list (cond b (Some x) (find p xs))
      go true h ih = ap (λ l. x ∷ l) (none_other p x xs all.0 all.1 (apart_parts same x xs apart).0 h one)
      go false h ih = ih

  -- and each item finds itself
  pub own_found : (A : X → X → Bool) → ((x : X) → P x → A x x ≡ true) → ((x y : X) → P x → P y → A y x ≡ true → same x y ≡ true) → (xs : List X) → AllByRecursion P xs → all_apart same xs ≡ true → AllByRecursion (λ x. find (A x) xs ≡ Some x) xs
  own_found A self one [] all apart = tt
  own_found A self one (x ∷ xs) all apart =
      let parts = apart_parts same x xs apart in
      (ap (λ b. cond b (Some x) (find (A x) xs)) (self x all.0), later xs all.1 parts.0 (own_found A self one xs all.1 parts.1))
    where
      differ : (y : X) (b : Bool) → A y x ≡ b → P y → same x y ≡ false → find (A y) xs ≡ Some y → cond b (Some x) (find (A y) xs) ≡ Some y
      differ y true e i f g = absurd (true≢false (sym (one x y all.0 i e) ∙ f))
      differ y false e i f g = g

      later : (ys : List X) → AllByRecursion P ys → AllByRecursion (λ y. same x y ≡ false) ys → AllByRecursion (λ y. find (A y) xs ≡ Some y) ys → AllByRecursion (λ y. find (A y) (x ∷ xs) ≡ Some y) ys
      later [] i f g = tt
      later (y ∷ ys) i f g = (differ y (A y x) refl i.0 f.0 g.0, later ys i.1 f.1 g.1)

-- ---- at most one point of an operand agrees, where its identifiers are all asked for
abbrev IsRowOf : Structure → Row → Type 0
IsRowOf a r = is_point (columns_of a) r ≡ true

pub same_keys : (n : ℕ) (q t : Row) → take n q ≡ take n t → same_key n q t ≡ true
same_keys n q t e = ap (λ l. same_row l (take n t)) e ∙ same_row-refl (take n t)

-- two points with the same value of each identifier have the same key
keys_by_names : (b : Structure) (q t : Row) → IsStructure b → IsRowOf b q → IsRowOf b t → ((name : List ℕ) → has_identifier b name ≡ true → value_named (columns_of b) q name ≡ value_named (columns_of b) t name) → same_key (key_width b) q t ≡ true
keys_by_names b q t w i j f =
    let v : List ℕ → Cell = value_named (columns_of b) q in
    let u : List ℕ → Cell = value_named (columns_of b) t in
    same_keys (key_width b) q t
    (sym (own_values b q w i) ∙ equal_each v u (identifiers_of b) (all_more (λ n. has_identifier b n.name ≡ true) (λ n. v n.name ≡ u n.name) (λ n h. f n.name h) (identifiers_of b) (own_names b)) ∙ own_values b t w j)

keys_agree : (a b : Structure) (r q t : Row) → IsStructure b → Covers a b → IsRowOf b q → IsRowOf b t → agree_in a b r q ≡ true → agree_in a b r t ≡ true → same_key (key_width b) q t ≡ true
keys_agree a b r q t w cover i j e f =
    let x = operand_point a r in
    let g = agree-gives x (operand_point b q) e in
    let h = agree-gives x (operand_point b t) f in
    keys_by_names b q t w i j (λ name k. sym (g name (cover name k) k) ∙ h name (cover name k) k)

pub agreeing_only : (a : Structure) (d : DataSet) (r : Row) → Covers a d.structure → IsDataSet d.structure d.points → filter (agree_in a d.structure r) d.points ≡ option_to_list (first_agreeing a d r)
agreeing_only a d r cover h =
    only_one (IsRowOf d.structure) (same_key (key_width d.structure)) (agree_in a d.structure r) d.points h.typed h.distinct
    (λ q t i j e f. keys_agree a d.structure r q t h.well_formed cover i j e f)

agree_self : (a : Structure) (q : Row) → agree_in a a q q ≡ true
agree_self a q = agree-from (operand_point a q) (operand_point a q) (λ name f g. refl)

-- each point of a data set agrees with itself alone
pub agreeing_own : (d : DataSet) → IsDataSet d.structure d.points → AllByRecursion (λ q. first_agreeing d.structure d q ≡ Some q) d.points
agreeing_own d h =
    let a = d.structure in
    own_found (IsRowOf a) (same_key (key_width a)) (agree_in a a) (λ q i. agree_self a q)
    (λ q t i j e. keys_agree a a t q t h.well_formed (λ name k. k) i j e (agree_self a t)) d.points h.typed h.distinct

-- ---- at most one point has these values of identifiers, among which are all of its operand
named_equal : (v u : List ℕ → Cell) (name : List ℕ) (ids : List Component) → AllByRecursion (λ n. v n.name ≡ u n.name) ids → is_among name (names_of ids) ≡ true → v name ≡ u name
named_equal v u name [] all h = absurd (true≢false (sym h))
named_equal v u name (n ∷ ids) all h = go (same_name n.name name) refl h (named_equal v u name ids all.1)
  where
    go : (b : Bool) → same_name n.name name ≡ b → (b || is_among name (names_of ids)) ≡ true → (is_among name (names_of ids) ≡ true → v name ≡ u name) → v name ≡ u name
    go true f h ih = subst (λ l. v l ≡ u l) (same_name-is n.name name f) all.0
    go false f h ih = ih h

pub values_agree : (a b : Structure) (q t : Row) → IsStructure b → Covers a b → is_point (columns_of b) q ≡ true → is_point (columns_of b) t ≡ true → values_in b (identifiers_of a) q ≡ values_in b (identifiers_of a) t → same_key (key_width b) q t ≡ true
values_agree a b q t w cover i j e =
    let v : List ℕ → Cell = value_named (columns_of b) q in
    let u : List ℕ → Cell = value_named (columns_of b) t in
    keys_by_names b q t w i j (λ name k. named_equal v u name (identifiers_of a) (each_equal v u (identifiers_of a) e) (cover name k))

pub key_only : (a : Structure) (d : DataSet) (k : Row) → Covers a d.structure → IsDataSet d.structure d.points → filter (λ q. same_row (values_in d.structure (identifiers_of a) q) k) d.points ≡ option_to_list (find (λ q. same_row (values_in d.structure (identifiers_of a) q) k) d.points)
key_only a d k cover h =
    let b = d.structure in
    only_one (IsRowOf b) (same_key (key_width b)) (λ q. same_row (values_in b (identifiers_of a) q) k) d.points h.typed h.distinct
    (λ q t i j e f. values_agree a b q t h.well_formed cover i j (same_row-is (values_in b (identifiers_of a) q) k e ∙ sym (same_row-is (values_in b (identifiers_of a) t) k f)))
