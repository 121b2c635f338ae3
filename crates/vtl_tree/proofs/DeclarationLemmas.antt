-- What is held for each name, and what contracts see of it.
use Rattle.std.proofs.Common.{◌≡◌, ℕ, Bool, true, false, cond, not, ◌&&◌, ◌||◌, List, [], ◌∷◌, ◌++◌, length, Option, None, Some, option_map, unwrap_or, slice_get, zero, suc, Result, Ok, Err, subst, refl, sym, ap, ◌∙◌, append_assoc}
use Rattle.std.specs.Cmp.Lexicographic.{nat_list_eq_equiv}
use Rattle.std.specs.Prelude.{OnErr, OnOk}
use Rattle.std.specs.List.{AllByRecursion, flat_map, list_all, list_any}
use Rattle.std.specs.Map.{keys_of, lookup, set_value}
use Rattle.std.specs.Option.{option_map_or}
use Rattle.std.proofs.lemmas.Bool.{and_from, and_parts, not-true, or_parts}
use Rattle.std.proofs.lemmas.List.{append-nil}
use Rattle.std.proofs.lemmas.Map.Steps.{set_value_same}
use Rattle.vtl_lists.specs.Apart.{all_apart}
use Rattle.vtl_text.proofs.Apart.{apart_push}
use Rattle.vtl_text.proofs.NamedItems.{set_twice}
use Rattle.vtl_tree.specs.declared.structure.Component.{Component}
use Rattle.vtl_tree.specs.declared.structure.Structure.{Structure}
use Rattle.vtl_tree.specs.declared.structures.Declaration.{Declaration}
use Rattle.vtl_tree.specs.Declarations.{AreDeclarations, Held, declared, is_declaration, lists_of, sets_of}
use Rattle.vtl_tree.specs.NotNull.{HaveLists, are_not_null, is_no_identifier, not_null_of, with_list}
use Rattle.vtl_tree.specs.Structure.{same_name}
use Rattle.vtl_tree.specs.Structures.{AreStructures, Fits, components_of, has_name, is_declarable, is_declarable_entry, structure_of, with_component}
use Rattle.vtl_tree.proofs.StructuresLemmas.{all_push, goes_on, keys_push, more_is_declarable}

-- ---- what is seen

pub keys_seen : (xs : Held) → keys_of (sets_of xs) ≡ keys_of xs
keys_seen [] = refl
keys_seen (x ∷ xs) = ap (λ ks. x.0 ∷ ks) (keys_seen xs)

pub lookup_seen : (test : List ℕ → Bool) (xs : Held) → lookup test (sets_of xs) ≡ option_map (λ d. d.structure) (lookup test xs)
lookup_seen test [] = refl
lookup_seen test (x ∷ xs) = go (test x.0) (lookup_seen test xs)
  where
    go : (b : Bool) → lookup test (sets_of xs) ≡ option_map (λ d. d.structure) (lookup test xs) → cond b (Some x.1.structure) (lookup test (sets_of xs)) ≡ option_map (λ d. d.structure) (cond b (Some x.1) (lookup test xs))
    go true ih = refl
    go false ih = ih

pub nothing_seen : (test : List ℕ → Bool) (xs : Held) → lookup test xs ≡ None → lookup test (sets_of xs) ≡ None
nothing_seen test xs e = lookup_seen test xs ∙ ap (option_map (λ d. d.structure)) e

declarable_seen : (xs : Held) → list_all is_declaration xs ≡ true → list_all is_declarable_entry (sets_of xs) ≡ true
declarable_seen [] h = refl
declarable_seen (x ∷ xs) h =
    let parts = and_parts (is_declaration x) (list_all is_declaration xs) h in
    let own = and_parts (is_declarable x.1.structure) (are_not_null x.1.structure x.1.not_null) parts.0 in
    and_from (is_declarable x.1.structure) (list_all is_declarable_entry (sets_of xs)) own.0 (declarable_seen xs parts.1)

pub sets_are : (xs : Held) → AreDeclarations xs → AreStructures (sets_of xs)
sets_are xs h = record {
  declarable = declarable_seen xs h.all;
  distinct = ap (all_apart same_name) (keys_seen xs) ∙ h.distinct;
}

-- ---- what is found

pub declaration_found : (test : List ℕ → Bool) (xs : Held) (d : Declaration) → list_all is_declaration xs ≡ true → lookup test xs ≡ Some d → (is_declarable d.structure ≡ true) × (are_not_null d.structure d.not_null ≡ true)
declaration_found test [] d h e = cc
declaration_found test (x ∷ xs) d h e = go (test x.0) (declaration_found test xs d parts.1) e
  where
    parts : (is_declaration x ≡ true) × (list_all is_declaration xs ≡ true)
    parts = and_parts (is_declaration x) (list_all is_declaration xs) h

    go : (b : Bool) → (lookup test xs ≡ Some d → (is_declarable d.structure ≡ true) × (are_not_null d.structure d.not_null ≡ true)) → cond b (Some x.1) (lookup test xs) ≡ Some d → (is_declarable d.structure ≡ true) × (are_not_null d.structure d.not_null ≡ true)
    go true ih q =
        let same : x.1 ≡ d = cc in
        subst (λ y. (is_declarable y.structure ≡ true) × (are_not_null y.structure y.not_null ≡ true)) same (and_parts (is_declarable x.1.structure) (are_not_null x.1.structure x.1.not_null) parts.0)
    go false ih q = ih q

pub same_any : (p q : List ℕ) (ks : List (List ℕ)) → same_name p q ≡ true → list_any (same_name p) ks ≡ list_any (same_name q) ks
same_any p q [] s = refl
same_any p q (k ∷ ks) s = ap (λ b. b || list_any (same_name p) ks) (nat_list_eq_equiv.congr p q k s) ∙ ap (λ b. same_name q k || b) (same_any p q ks s)

pub not_listed : (xs : Held) (name : List ℕ) → list_any (same_name name) (keys_of xs) ≡ false → lookup (same_name name) (lists_of xs) ≡ None
not_listed [] name e = refl
not_listed (x ∷ xs) name e =
    let parts = or_parts (same_name name x.0) (list_any (same_name name) (keys_of xs)) e in
    go x.1.not_null parts.0 (not_listed xs name parts.1)
  where
    go : (ns : List (List ℕ)) → same_name name x.0 ≡ false → lookup (same_name name) (lists_of xs) ≡ None → lookup (same_name name) (with_list x.0 ns ++ lists_of xs) ≡ None
    go [] f ih = ih
    go (n ∷ ns) f ih = ap (λ b. cond b (Some (n ∷ ns)) (lookup (same_name name) (lists_of xs))) f ∙ ih

-- the list of a name is the one that is held for it
pub list_found : (xs : Held) (name : List ℕ) → all_apart same_name (keys_of xs) ≡ true → not_null_of name (lists_of xs) ≡ option_map_or (λ d. d.not_null) (lookup (same_name name) xs) []
list_found [] name h = refl
list_found (x ∷ xs) name h =
    let parts = and_parts (not (list_any (same_name x.0) (keys_of xs))) (all_apart same_name (keys_of xs)) h in
    go (not-true (list_any (same_name x.0) (keys_of xs)) parts.0) (list_found xs name parts.1) (same_name name x.0) x.1.not_null refl refl
  where
    go : list_any (same_name x.0) (keys_of xs) ≡ false → not_null_of name (lists_of xs) ≡ option_map_or (λ d. d.not_null) (lookup (same_name name) xs) [] → (b : Bool) (ns : List (List ℕ)) → same_name name x.0 ≡ b → x.1.not_null ≡ ns
        → not_null_of name (with_list x.0 ns ++ lists_of xs) ≡ option_map_or (λ d. d.not_null) (cond b (Some x.1) (lookup (same_name name) xs)) []
    go new ih true [] e q = ap (λ o. unwrap_or o []) (not_listed xs name (same_any name x.0 (keys_of xs) e ∙ new)) ∙ sym q
    go new ih true (n ∷ ns) e q = ap (λ c. unwrap_or (cond c (Some (n ∷ ns)) (lookup (same_name name) (lists_of xs))) []) e ∙ sym q
    go new ih false [] e q = ih
    go new ih false (n ∷ ns) e q = ap (λ c. unwrap_or (cond c (Some (n ∷ ns)) (lookup (same_name name) (lists_of xs))) []) e ∙ ih

-- it fits the structure of the name
pub list_fits : (xs : Held) (name : List ℕ) (o : Option Declaration) → list_all is_declaration xs ≡ true → lookup (same_name name) xs ≡ o
    → are_not_null (structure_of (components_of name (sets_of xs))) (option_map_or (λ d. d.not_null) o []) ≡ true
list_fits xs name None h e = refl
list_fits xs name (Some d) h e =
    ap (λ o. are_not_null (structure_of (option_map_or (λ s. s.components) o [])) d.not_null) (lookup_seen (same_name name) xs ∙ ap (option_map (λ y. y.structure)) e)
    ∙ (declaration_found (same_name name) xs d h e).1

-- each name has the list that is held for it
abbrev HaveOwn : Held → Held → Type 0
HaveOwn all xs = AllByRecursion (λ x. not_null_of x.0 (lists_of all) ≡ x.1.not_null) xs

found_own : (xs : Held) → all_apart same_name (keys_of xs) ≡ true → AllByRecursion (λ x. lookup (same_name x.0) xs ≡ Some x.1) xs
found_own [] h = tt
found_own (x ∷ xs) h =
    let parts = and_parts (not (list_any (same_name x.0) (keys_of xs))) (all_apart same_name (keys_of xs)) h in
    (ap (λ b. cond b (Some x.1) (lookup (same_name x.0) xs)) (nat_list_eq_equiv.refl x.0), behind xs (found_own xs parts.1) (not-true (list_any (same_name x.0) (keys_of xs)) parts.0))
  where
    behind : (ys : Held) → AllByRecursion (λ y. lookup (same_name y.0) xs ≡ Some y.1) ys → list_any (same_name x.0) (keys_of ys) ≡ false → AllByRecursion (λ y. cond (same_name y.0 x.0) (Some x.1) (lookup (same_name y.0) xs) ≡ Some y.1) ys
    behind [] h f = tt
    behind (y ∷ ys) h f =
        let parts = or_parts (same_name x.0 y.0) (list_any (same_name x.0) (keys_of ys)) f in
        (ap (λ b. cond b (Some x.1) (lookup (same_name y.0) xs)) (nat_list_eq_equiv.symm y.0 x.0 ∙ parts.0) ∙ h.0, behind ys h.1 parts.1)

own_lists : (all xs : Held) → all_apart same_name (keys_of all) ≡ true → AllByRecursion (λ x. lookup (same_name x.0) all ≡ Some x.1) xs → HaveOwn all xs
own_lists all [] h own = tt
own_lists all (x ∷ xs) h own = (list_found all x.0 h ∙ ap (λ o. option_map_or (λ d. d.not_null) o []) own.0, own_lists all xs h own.1)

in_order : (all xs : Held) → HaveOwn all xs → lists_of xs ≡ flat_map (λ e. with_list e.0 (not_null_of e.0 (lists_of all))) (sets_of xs)
in_order all [] own = refl
in_order all (x ∷ xs) own = ap (λ ns. with_list x.0 ns ++ lists_of xs) (sym own.0) ∙ ap (λ ls. with_list x.0 (not_null_of x.0 (lists_of all)) ++ ls) (in_order all xs own.1)

fit_own : (all xs : Held) → list_all is_declaration xs ≡ true → HaveOwn all xs → AllByRecursion (λ e. are_not_null e.1 (not_null_of e.0 (lists_of all)) ≡ true) (sets_of xs)
fit_own all [] h own = tt
fit_own all (x ∷ xs) h own =
    let parts = and_parts (is_declaration x) (list_all is_declaration xs) h in
    (ap (are_not_null x.1.structure) own.0 ∙ (and_parts (is_declarable x.1.structure) (are_not_null x.1.structure x.1.not_null) parts.0).1, fit_own all xs parts.1 own.1)

pub have_lists : (xs : Held) → AreDeclarations xs → HaveLists (sets_of xs) (lists_of xs)
have_lists xs h =
    let own = own_lists xs xs h.distinct (found_own xs h.distinct) in
    record { ordered = in_order xs xs own; fit = fit_own xs xs h.all own }

-- ---- one more name

put_are : (xs : Held) (name : List ℕ) (d : Declaration) → AreDeclarations xs → has_name name (sets_of xs) ≡ false → is_declarable d.structure ≡ true → are_not_null d.structure d.not_null ≡ true → AreDeclarations (xs ++ (name, d) ∷ [])
put_are xs name d h e s l = record {
  all = all_push is_declaration xs (name, d) h.all (and_from (is_declarable d.structure) (are_not_null d.structure d.not_null) s l);
  distinct = ap (all_apart same_name) (keys_push xs name d) ∙ apart_push (keys_of xs) name h.distinct (ap (list_any (same_name name)) (sym (keys_seen xs)) ∙ e);
}

pub put_leaves : {A E : Type 0} (xs new : Held) (name : List ℕ) (d : Declaration) (r : Result A E) → AreDeclarations xs → has_name name (sets_of xs) ≡ false → is_declarable d.structure ≡ true
    → are_not_null d.structure d.not_null ≡ true → OnOk r (new ≡ xs ++ (name, d) ∷ []) → OnErr r (new ≡ xs) → AreDeclarations new
put_leaves xs new name d (Ok a) h e s l put kept = subst AreDeclarations (sym put) (put_are xs name d h e s l)
put_leaves xs new name d (Err a) h e s l put kept = subst AreDeclarations (sym kept) h

-- ---- one more component of a name that is there

pub any_more : (p : Component → Bool) (xs : List Component) (x : Component) → list_any p xs ≡ true → list_any p (xs ++ x ∷ []) ≡ true
any_more p [] x e = cc
any_more p (y ∷ ys) x e = go (p y) (any_more p ys x) e
  where
    go : (b : Bool) → (list_any p ys ≡ true → list_any p (ys ++ x ∷ []) ≡ true) → (b || list_any p ys) ≡ true → (b || list_any p (ys ++ x ∷ [])) ≡ true
    go true ih q = refl
    go false ih q = ih q

pub names_more : (xs : List Component) (x : Component) (ns : List (List ℕ)) → list_all (λ n. list_any (is_no_identifier n) xs) ns ≡ true → list_all (λ n. list_any (is_no_identifier n) (xs ++ x ∷ [])) ns ≡ true
names_more xs x [] h = refl
names_more xs x (n ∷ ns) h =
    let parts = and_parts (list_any (is_no_identifier n) xs) (list_all (λ m. list_any (is_no_identifier m) xs) ns) h in
    and_from (list_any (is_no_identifier n) (xs ++ x ∷ [])) (list_all (λ m. list_any (is_no_identifier m) (xs ++ x ∷ [])) ns) (any_more (is_no_identifier n) xs x parts.0) (names_more xs x ns parts.1)

list_fits_more : (xs : List Component) (x : Component) (ns : List (List ℕ)) → are_not_null (structure_of xs) ns ≡ true → are_not_null (structure_of (xs ++ x ∷ [])) ns ≡ true
list_fits_more xs x ns h =
    let parts = and_parts (list_all (λ n. list_any (is_no_identifier n) xs) ns) (all_apart same_name ns) h in
    and_from (list_all (λ n. list_any (is_no_identifier n) (xs ++ x ∷ [])) ns) (all_apart same_name ns) (names_more xs x ns parts.0) parts.1

pub keys_set : (test : List ℕ → Bool) (xs : Held) (d : Declaration) → keys_of (set_value test xs d) ≡ keys_of xs
keys_set test [] d = refl
keys_set test (x ∷ xs) d = go (test x.0) (keys_set test xs d)
  where
    go : (b : Bool) → keys_of (set_value test xs d) ≡ keys_of xs → keys_of (cond b ((x.0, d) ∷ xs) (x ∷ set_value test xs d)) ≡ x.0 ∷ keys_of xs
    go true ih = refl
    go false ih = ap (λ ks. x.0 ∷ ks) ih

all_set : (test : List ℕ → Bool) (xs : Held) (d : Declaration) → list_all is_declaration xs ≡ true → ((name : List ℕ) → is_declaration (name, d) ≡ true) → list_all is_declaration (set_value test xs d) ≡ true
all_set test [] d h e = refl
all_set test (x ∷ xs) d h e = go (test x.0) (all_set test xs d parts.1 e)
  where
    parts : (is_declaration x ≡ true) × (list_all is_declaration xs ≡ true)
    parts = and_parts (is_declaration x) (list_all is_declaration xs) h

    go : (b : Bool) → list_all is_declaration (set_value test xs d) ≡ true → list_all is_declaration (cond b ((x.0, d) ∷ xs) (x ∷ set_value test xs d)) ≡ true
    go true ih = and_from (is_declaration (x.0, d)) (list_all is_declaration xs) (e x.0) parts.1
    go false ih = and_from (is_declaration x) (list_all is_declaration (set_value test xs d)) parts.0 ih

sets_set : (test : List ℕ → Bool) (xs : Held) (d : Declaration) → sets_of (set_value test xs d) ≡ set_value test (sets_of xs) d.structure
sets_set test [] d = refl
sets_set test (x ∷ xs) d = go (test x.0) (sets_set test xs d)
  where
    go : (b : Bool) → sets_of (set_value test xs d) ≡ set_value test (sets_of xs) d.structure
        → sets_of (cond b ((x.0, d) ∷ xs) (x ∷ set_value test xs d)) ≡ cond b ((x.0, d.structure) ∷ sets_of xs) ((x.0, x.1.structure) ∷ set_value test (sets_of xs) d.structure)
    go true ih = refl
    go false ih = ap (λ l. (x.0, x.1.structure) ∷ l) ih

lists_set : (test : List ℕ → Bool) (xs : Held) (s d : Declaration) → lookup test xs ≡ Some s → d.not_null ≡ s.not_null → lists_of (set_value test xs d) ≡ lists_of xs
lists_set test [] s d e q = refl
lists_set test (x ∷ xs) s d e q = go (test x.0) (lists_set test xs s d) e
  where
    go : (b : Bool) → (lookup test xs ≡ Some s → d.not_null ≡ s.not_null → lists_of (set_value test xs d) ≡ lists_of xs) → cond b (Some x.1) (lookup test xs) ≡ Some s
        → lists_of (cond b ((x.0, d) ∷ xs) (x ∷ set_value test xs d)) ≡ with_list x.0 x.1.not_null ++ lists_of xs
    go true ih p = let same : x.1 ≡ s = cc in ap (λ ns. with_list x.0 ns ++ lists_of xs) (q ∙ ap (λ y. y.not_null) (sym same))
    go false ih p = ap (λ l. with_list x.0 x.1.not_null ++ l) (ih p q)

-- what a component that is added to a data set leaves, whether there was memory or not; another declaration stood in its
-- place meanwhile
module _ (xs between new : Held) (name : List ℕ) (x : Component) (s t other : Declaration) (h : AreDeclarations xs) (f : Fits x (components_of name (sets_of xs)))
    (found : lookup (same_name name) xs ≡ Some s) (taken : between ≡ set_value (same_name name) xs other) (put : new ≡ set_value (same_name name) between t) where
  pub written : new ≡ set_value (same_name name) xs t
  written = put ∙ ap (λ l. set_value (same_name name) l t) taken ∙ set_twice (same_name name) xs other t

  seen : lookup (same_name name) (sets_of xs) ≡ Some s.structure
  seen = lookup_seen (same_name name) xs ∙ ap (option_map (λ d. d.structure)) found

  pub was : (is_declarable s.structure ≡ true) × (are_not_null s.structure s.not_null ≡ true)
  was = declaration_found (same_name name) xs s h.all found

  pub set_are : is_declarable t.structure ≡ true → are_not_null t.structure t.not_null ≡ true → AreDeclarations new
  set_are e l = subst AreDeclarations (sym written) (record {
    all = all_set (same_name name) xs t h.all (λ n. and_from (is_declarable t.structure) (are_not_null t.structure t.not_null) e l);
    distinct = ap (all_apart same_name) (keys_set (same_name name) xs t) ∙ h.distinct;
  })

  pub fits : Fits x s.structure.components
  fits = subst (λ (o : Option Structure). Fits x (option_map_or (λ d. d.components) o [])) seen f

  -- the structure and the list as they were
  pub same_are : t.structure ≡ s.structure → t.not_null ≡ s.not_null → AreDeclarations new
  same_are e l = set_are (ap is_declarable e ∙ was.0) (ap (are_not_null t.structure) l ∙ ap (λ d. are_not_null d s.not_null) e ∙ was.1)

  pub pushed_are : {A E : Type 0} → t.not_null ≡ s.not_null → (r : Result A E) → OnOk r (t.structure ≡ structure_of (s.structure.components ++ x ∷ [])) → OnErr r (t.structure ≡ s.structure) → AreDeclarations new
  pushed_are list (Ok a) e k =
      set_are (ap is_declarable e ∙ more_is_declarable s.structure.components x was.0 fits)
      (ap (are_not_null t.structure) list ∙ ap (λ d. are_not_null d s.not_null) e ∙ list_fits_more s.structure.components x s.not_null was.1)
  pushed_are list (Err a) e k = same_are k list

  sets_written : sets_of new ≡ set_value (same_name name) (sets_of xs) t.structure
  sets_written = ap sets_of written ∙ sets_set (same_name name) xs t

  lists_written : t.not_null ≡ s.not_null → lists_of new ≡ lists_of xs
  lists_written list = ap lists_of written ∙ lists_set (same_name name) xs s t found list

  pub pushed_added : {A E : Type 0} (r : Result A E) → OnOk r (t.structure ≡ structure_of (s.structure.components ++ x ∷ [])) → OnOk r (sets_of new ≡ with_component name x (sets_of xs))
  pushed_added (Ok a) e = sets_written ∙ ap (set_value (same_name name) (sets_of xs)) e ∙ goes_on (sets_of xs) name x s.structure seen
  pushed_added (Err a) e = tt

  pub pushed_lists : {A E : Type 0} → t.not_null ≡ s.not_null → (r : Result A E) → OnOk r (lists_of new ≡ lists_of xs)
  pushed_lists list (Ok a) = lists_written list
  pushed_lists list (Err a) = tt

  -- what is seen is as it was
  pub seen_kept : t.structure ≡ s.structure → t.not_null ≡ s.not_null → declared new ≡ declared xs
  seen_kept k list =
      ap (λ l. record { sets = l; not_null = lists_of new }) (sets_written ∙ ap (set_value (same_name name) (sets_of xs)) k ∙ set_value_same (same_name name) (sets_of xs) s.structure seen)
      ∙ ap (λ l. record { sets = sets_of xs; not_null = l }) (lists_written list)

  pub pushed_kept : {A E : Type 0} → t.not_null ≡ s.not_null → (r : Result A E) → OnErr r (t.structure ≡ s.structure) → OnErr r (declared new ≡ declared xs)
  pushed_kept list (Ok a) k = tt
  pushed_kept list (Err a) k = seen_kept k list
