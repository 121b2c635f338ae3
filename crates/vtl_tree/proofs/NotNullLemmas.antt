-- What one more component that is never null changes.
use Rattle.std.proofs.Common.{◌≡◌, ℕ, Bool, true, false, cond, not, ◌&&◌, ◌||◌, List, [], ◌∷◌, ◌++◌, Option, Some, unwrap_or, Result, Ok, Err, refl, sym, ap, ◌∙◌, append_assoc, true≢false, ◌+◌, zero, suc, take, slice_get, arith}
use Rattle.std.specs.Cmp.Lexicographic.{nat_list_eq_equiv}
use Rattle.std.specs.Prelude.{OnErr, OnOk}
use Rattle.std.specs.List.{AllByRecursion, list_all, list_any}
use Rattle.std.specs.Map.{keys_of, lookup, set_value}
use Rattle.std.specs.Option.{option_map_or}
use Rattle.std.proofs.lemmas.Bool.{and_from, and_parts, not-true, or_parts}
use Rattle.std.proofs.lemmas.List.{append-nil}
use Rattle.vtl_lists.specs.Apart.{all_apart}
use Rattle.vtl_lists.proofs.Tests.{or_true}
use Rattle.vtl_text.proofs.Apart.{apart_push}
use Rattle.vtl_tree.specs.declared.structure.Component.{Component}
use Rattle.vtl_tree.specs.declared.structure.Role.TheVariants as role
use Rattle.vtl_tree.specs.declared.structure.Structure.{Structure}
use Rattle.vtl_tree.specs.declared.structures.Declaration.{Declaration}
use Rattle.vtl_tree.specs.Declarations.{AreDeclarations, Held, declared, lists_of, sets_of}
use Rattle.vtl_tree.specs.NotNull.{NotNull, are_not_null, is_no_identifier, longer_list, not_null_of, with_list, with_name}
use Rattle.vtl_tree.specs.Structure.{names_of, same_name, same_role}
use Rattle.vtl_tree.specs.Structures.{Fits, components_of, has_name, is_declarable, structure_of}
use Rattle.vtl_tree.proofs.DeclarationLemmas.{any_more, keys_seen, list_found, names_more, not_listed, same_any, same_are, seen_kept, set_are, fits, was, written}
use Rattle.vtl_tree.proofs.StructuresLemmas.{all_push, more_is_declarable}

-- ---- the name fits the longer structure

pub same_itself : (n : List ℕ) → same_name n n ≡ true
same_itself n = nat_list_eq_equiv.refl n

named : (cs : List Component) (n : List ℕ) → list_any (is_no_identifier n) cs ≡ true → list_any (same_name n) (names_of cs) ≡ true
named [] n e = cc
named (c ∷ cs) n e = go (same_name n c.name) (not (same_role c.role role.Identifier)) (named cs n) e
  where
    go : (a b : Bool) → (list_any (is_no_identifier n) cs ≡ true → list_any (same_name n) (names_of cs) ≡ true) → ((a && b) || list_any (is_no_identifier n) cs) ≡ true → (a || list_any (same_name n) (names_of cs)) ≡ true
    go true b ih q = refl
    go false b ih q = ih q

-- a name that no component has is on no list
not_on : (cs : List Component) (ns : List (List ℕ)) (m : List ℕ) → list_all (λ n. list_any (is_no_identifier n) cs) ns ≡ true → list_any (same_name m) (names_of cs) ≡ false → list_any (same_name m) ns ≡ false
not_on cs [] m h e = refl
not_on cs (n ∷ ns) m h e =
    let parts = and_parts (list_any (is_no_identifier n) cs) (list_all (λ k. list_any (is_no_identifier k) cs) ns) h in
    go parts.0 (same_name m n) refl (not_on cs ns m parts.1 e)
  where
    go : list_any (is_no_identifier n) cs ≡ true → (b : Bool) → same_name m n ≡ b → list_any (same_name m) ns ≡ false → (b || list_any (same_name m) ns) ≡ false
    go there true q ih = absurd (true≢false (sym (same_any m n (names_of cs) q ∙ named cs n there) ∙ e))
    go there false q ih = ih

last_any : (cs : List Component) (x : Component) → same_role x.role role.Identifier ≡ false → list_any (is_no_identifier x.name) (cs ++ x ∷ []) ≡ true
last_any [] x v = ap (λ b. (b && not (same_role x.role role.Identifier)) || false) (same_itself x.name) ∙ ap (λ b. not b || false) v
last_any (c ∷ cs) x v = ap (λ b. is_no_identifier x.name c || b) (last_any cs x v) ∙ or_true (is_no_identifier x.name c)

name_fits : (cs : List Component) (x : Component) (ns : List (List ℕ)) → are_not_null (structure_of cs) ns ≡ true → list_any (same_name x.name) (names_of cs) ≡ false → same_role x.role role.Identifier ≡ false
    → are_not_null (structure_of (cs ++ x ∷ [])) (ns ++ x.name ∷ []) ≡ true
name_fits cs x ns h new v =
    let parts = and_parts (list_all (λ n. list_any (is_no_identifier n) cs) ns) (all_apart same_name ns) h in
    and_from (list_all (λ n. list_any (is_no_identifier n) (cs ++ x ∷ [])) (ns ++ x.name ∷ [])) (all_apart same_name (ns ++ x.name ∷ []))
    (all_push (λ n. list_any (is_no_identifier n) (cs ++ x ∷ [])) ns x.name (names_more cs x ns parts.0) (last_any cs x v))
    (apart_push ns x.name parts.1 (not_on cs ns x.name parts.0 new))

pub one_fits : (x : Component) → same_role x.role role.Identifier ≡ false → are_not_null (structure_of (x ∷ [])) (x.name ∷ []) ≡ true
one_fits x v = name_fits [] x [] refl refl v

-- ---- the lists, each with its name

-- the list of each name is the one that is held for it
abbrev AreListed : NotNull → Held → Type 0
AreListed ls xs = AllByRecursion (λ x. not_null_of x.0 ls ≡ x.1.not_null) xs

past : (k : List ℕ) (ns : List (List ℕ)) (ls : NotNull) (ys : Held) → list_any (same_name k) (keys_of ys) ≡ false → AreListed ls ys → AreListed (with_list k ns ++ ls) ys
past k [] ls ys e all = all
past k (n ∷ ns) ls [] e all = tt
past k (n ∷ ns) ls (y ∷ ys) e all =
    let parts = or_parts (same_name k y.0) (list_any (same_name k) (keys_of ys)) e in
    (ap (λ b. unwrap_or (cond b (Some (n ∷ ns)) (lookup (same_name y.0) ls)) []) (nat_list_eq_equiv.symm y.0 k ∙ parts.0) ∙ all.0, past k (n ∷ ns) ls ys parts.1 all.1)

own_lists : (xs : Held) → all_apart same_name (keys_of xs) ≡ true → AreListed (lists_of xs) xs
own_lists [] h = tt
own_lists (x ∷ xs) h =
    let parts = and_parts (not (list_any (same_name x.0) (keys_of xs))) (all_apart same_name (keys_of xs)) h in
    (list_found (x ∷ xs) x.0 h ∙ first (same_name x.0 x.0) (same_itself x.0), past x.0 x.1.not_null (lists_of xs) xs (not-true (list_any (same_name x.0) (keys_of xs)) parts.0) (own_lists xs parts.1))
  where
    first : (b : Bool) → b ≡ true → option_map_or (λ d. d.not_null) (cond b (Some x.1) (lookup (same_name x.0) xs)) [] ≡ x.1.not_null
    first true e = refl
    first false e = cc

-- no list is longer where none has the name
none_longer : (ls : NotNull) (name n : List ℕ) (ys : Held) → list_any (same_name name) (keys_of ys) ≡ false → AreListed ls ys → with_name name n (sets_of ys) ls ≡ lists_of ys
none_longer ls name n [] e all = refl
none_longer ls name n (y ∷ ys) e all =
    let parts = or_parts (same_name name y.0) (list_any (same_name name) (keys_of ys)) e in
    ap (λ b. with_list y.0 (cond b (not_null_of y.0 ls ++ n ∷ []) (not_null_of y.0 ls)) ++ with_name name n (sets_of ys) ls) parts.0
    ∙ ap (λ ns. with_list y.0 ns ++ with_name name n (sets_of ys) ls) all.0
    ∙ ap (λ l. with_list y.0 y.1.not_null ++ l) (none_longer ls name n ys parts.1 all.1)

-- the list of the name is the longer one
one_longer : (ls : NotNull) (name n : List ℕ) (xs : Held) (s t : Declaration) → all_apart same_name (keys_of xs) ≡ true → AreListed ls xs → lookup (same_name name) xs ≡ Some s → t.not_null ≡ s.not_null ++ n ∷ []
    → lists_of (set_value (same_name name) xs t) ≡ with_name name n (sets_of (set_value (same_name name) xs t)) ls
one_longer ls name n [] s t h all e q = cc
one_longer ls name n (x ∷ xs) s t h all e q = go (same_name name x.0) refl (one_longer ls name n xs s t parts.1 all.1) e
  where
    parts : (not (list_any (same_name x.0) (keys_of xs)) ≡ true) × (all_apart same_name (keys_of xs) ≡ true)
    parts = and_parts (not (list_any (same_name x.0) (keys_of xs))) (all_apart same_name (keys_of xs)) h

    go : (b : Bool) → same_name name x.0 ≡ b → (lookup (same_name name) xs ≡ Some s → t.not_null ≡ s.not_null ++ n ∷ [] → lists_of (set_value (same_name name) xs t) ≡ with_name name n (sets_of (set_value (same_name name) xs t)) ls)
        → cond b (Some x.1) (lookup (same_name name) xs) ≡ Some s
        → lists_of (cond b ((x.0, t) ∷ xs) (x ∷ set_value (same_name name) xs t)) ≡ with_name name n (sets_of (cond b ((x.0, t) ∷ xs) (x ∷ set_value (same_name name) xs t))) ls
    go true p ih f =
        let same : x.1 ≡ s = cc in
        let list : not_null_of x.0 ls ++ n ∷ [] ≡ t.not_null = ap (λ l. l ++ n ∷ []) (all.0 ∙ ap (λ d. d.not_null) same) ∙ sym q in
        sym (ap (λ b. with_list x.0 (cond b (not_null_of x.0 ls ++ n ∷ []) (not_null_of x.0 ls)) ++ with_name name n (sets_of xs) ls) p
        ∙ ap (λ ns. with_list x.0 ns ++ with_name name n (sets_of xs) ls) list
        ∙ ap (λ l. with_list x.0 t.not_null ++ l) (none_longer ls name n xs (same_any name x.0 (keys_of xs) p ∙ not-true (list_any (same_name x.0) (keys_of xs)) parts.0) all.1))
    go false p ih f =
        sym (ap (λ b. with_list x.0 (cond b (not_null_of x.0 ls ++ n ∷ []) (not_null_of x.0 ls)) ++ with_name name n (sets_of (set_value (same_name name) xs t)) ls) p
        ∙ ap (λ ns. with_list x.0 ns ++ with_name name n (sets_of (set_value (same_name name) xs t)) ls) all.0
        ∙ ap (λ l. with_list x.0 x.1.not_null ++ l) (sym (ih f q)))

-- a new name has a list of one
new_list : (ls : NotNull) (name n : List ℕ) (s : Structure) (ys : Held) → list_any (same_name name) (keys_of ys) ≡ false → AreListed ls ys → not_null_of name ls ≡ []
    → with_name name n (sets_of ys ++ (name, s) ∷ []) ls ≡ lists_of ys ++ (name, n ∷ []) ∷ []
new_list ls name n s [] e all none =
    ap (λ b. with_list name (cond b (not_null_of name ls ++ n ∷ []) (not_null_of name ls)) ++ []) (same_itself name) ∙ ap (λ l. with_list name (l ++ n ∷ []) ++ []) none
new_list ls name n s (y ∷ ys) e all none =
    let parts = or_parts (same_name name y.0) (list_any (same_name name) (keys_of ys)) e in
    ap (λ b. with_list y.0 (cond b (not_null_of y.0 ls ++ n ∷ []) (not_null_of y.0 ls)) ++ with_name name n (sets_of ys ++ (name, s) ∷ []) ls) parts.0
    ∙ ap (λ ns. with_list y.0 ns ++ with_name name n (sets_of ys ++ (name, s) ∷ []) ls) all.0
    ∙ ap (λ l. with_list y.0 y.1.not_null ++ l) (new_list ls name n s ys parts.1 all.1 none)
    ∙ sym (append_assoc (with_list y.0 y.1.not_null) (lists_of ys) ((name, n ∷ []) ∷ []))

-- what a component that is never null leaves of a new data set
pub began_lists : {A E : Type 0} (xs : Held) (old new : List (List ℕ × List (List ℕ))) (before after : List (List ℕ × Structure)) (name n : List ℕ) (s : Structure) (list : List (List ℕ)) (r : Result A E) → AreDeclarations xs
    → has_name name (sets_of xs) ≡ false → old ≡ lists_of xs → before ≡ sets_of xs → list ≡ n ∷ [] → OnOk r (after ≡ before ++ (name, s) ∷ []) → OnOk r (new ≡ old ++ with_list name list)
    → OnOk r (new ≡ with_name name n after (lists_of xs))
began_lists xs old new before after name n s list (Ok a) h e o b l p q =
    let away : list_any (same_name name) (keys_of xs) ≡ false = ap (list_any (same_name name)) (sym (keys_seen xs)) ∙ e in
    q ∙ ap (λ k. k ++ with_list name list) o ∙ ap (λ k. lists_of xs ++ with_list name k) l
    ∙ sym (ap (λ k. with_name name n k (lists_of xs)) (p ∙ ap (λ k. k ++ (name, s) ∷ []) b)
    ∙ new_list (lists_of xs) name n s xs away (own_lists xs h.distinct) (ap (λ k. unwrap_or k []) (not_listed xs name away)))
began_lists xs old new before after name n s list (Err a) h e o b l p q = tt

-- what it leaves of a data set that is there
module _ (xs between new : Held) (name : List ℕ) (x : Component) (s t other : Declaration) (h : AreDeclarations xs) (f : Fits x (components_of name (sets_of xs)))
    (found : lookup (same_name name) xs ≡ Some s) (taken : between ≡ set_value (same_name name) xs other) (put : new ≡ set_value (same_name name) between t) where
  pub listed_are : {A E : Type 0} (r : Result A E) → same_role x.role role.Identifier ≡ false → OnOk r (t.structure ≡ structure_of (s.structure.components ++ x ∷ [])) → OnOk r (t.not_null ≡ s.not_null ++ x.name ∷ [])
      → OnErr r (t.structure ≡ s.structure) → OnErr r (t.not_null ≡ s.not_null) → AreDeclarations new
  listed_are (Ok a) v e l k m =
      let at = fits xs between new name x s t other h f found taken put in
      let before = was xs between new name x s t other h f found taken put in
      set_are xs between new name x s t other h f found taken put (ap is_declarable e ∙ more_is_declarable s.structure.components x before.0 at)
      (ap (are_not_null t.structure) l ∙ ap (λ d. are_not_null d (s.not_null ++ x.name ∷ [])) e ∙ name_fits s.structure.components x s.not_null before.1 at.1 v)
  listed_are (Err a) v e l k m = same_are xs between new name x s t other h f found taken put k m

  pub listed_lists : {A E : Type 0} (r : Result A E) → OnOk r (t.not_null ≡ s.not_null ++ x.name ∷ []) → OnOk r (lists_of new ≡ with_name name x.name (sets_of new) (lists_of xs))
  listed_lists (Ok a) l =
      let at = written xs between new name x s t other h f found taken put in
      ap lists_of at ∙ one_longer (lists_of xs) name x.name xs s t h.distinct (own_lists xs h.distinct) found l ∙ ap (λ k. with_name name x.name (sets_of k) (lists_of xs)) (sym at)
  listed_lists (Err a) l = tt

  pub listed_kept : {A E : Type 0} (r : Result A E) → OnErr r (t.structure ≡ s.structure) → OnErr r (t.not_null ≡ s.not_null) → OnErr r (declared new ≡ declared xs)
  listed_kept (Ok a) k m = tt
  listed_kept (Err a) k m = seen_kept xs between new name x s t other h f found taken put k m

-- ---- the lists, one after another

no_key : (ys : Held) (n : List ℕ) → list_any (same_name n) (keys_of ys) ≡ false → list_any (same_name n) (keys_of (lists_of ys)) ≡ false
no_key [] n e = refl
no_key (y ∷ ys) n e =
    let parts = or_parts (same_name n y.0) (list_any (same_name n) (keys_of ys)) e in
    go y.1.not_null parts.0 (no_key ys n parts.1)
  where
    go : (ms : List (List ℕ)) → same_name n y.0 ≡ false → list_any (same_name n) (keys_of (lists_of ys)) ≡ false → list_any (same_name n) (keys_of (with_list y.0 ms ++ lists_of ys)) ≡ false
    go [] f ih = ih
    go (m ∷ ms) f ih = ap (λ b. b || list_any (same_name n) (keys_of (lists_of ys))) f ∙ ih

differs : (ys : Held) (j : ℕ) (name : List ℕ) (d : Declaration) (k : List ℕ) → slice_get ys j ≡ Some (name, d) → list_any (same_name k) (keys_of ys) ≡ false → same_name name k ≡ false
differs [] j name d k e h = cc
differs (y ∷ ys) zero name d k e h =
    let same : y ≡ (name, d) = cc in
    nat_list_eq_equiv.symm name k ∙ ap (λ (q : List ℕ × Declaration). same_name k q.0) (sym same) ∙ (or_parts (same_name k y.0) (list_any (same_name k) (keys_of ys)) h).0
differs (y ∷ ys) (suc j) name d k e h = differs ys j name d k e (or_parts (same_name k y.0) (list_any (same_name k) (keys_of ys)) h).1

pub list_is_new : (xs : Held) (i : ℕ) (name : List ℕ) (d : Declaration) → all_apart same_name (keys_of xs) ≡ true → slice_get xs i ≡ Some (name, d) → list_any (same_name name) (keys_of (lists_of (take i xs))) ≡ false
list_is_new xs i name d h e = no_key (take i xs) name (before xs i h e)
  where
    before : (ys : Held) (j : ℕ) → all_apart same_name (keys_of ys) ≡ true → slice_get ys j ≡ Some (name, d) → list_any (same_name name) (keys_of (take j ys)) ≡ false
    before [] j p q = cc
    before (y ∷ ys) zero p q = refl
    before (y ∷ ys) (suc j) p q =
        let parts = and_parts (not (list_any (same_name y.0) (keys_of ys))) (all_apart same_name (keys_of ys)) p in
        ap (λ b. b || list_any (same_name name) (keys_of (take j ys))) (differs ys j name d y.0 q (not-true (list_any (same_name y.0) (keys_of ys)) parts.0)) ∙ before ys j parts.1 q

more_lists : (xs : Held) (i : ℕ) (name : List ℕ) (d : Declaration) → slice_get xs i ≡ Some (name, d) → lists_of (take (suc i) xs) ≡ lists_of (take i xs) ++ with_list name d.not_null
more_lists [] i name d e = cc
more_lists (x ∷ xs) zero name d e = let same : x ≡ (name, d) = cc in append-nil (with_list x.0 x.1.not_null) ∙ ap (λ (q : List ℕ × Declaration). with_list q.0 q.1.not_null) same
more_lists (x ∷ xs) (suc i) name d e = ap (λ l. with_list x.0 x.1.not_null ++ l) (more_lists xs i name d e) ∙ sym (append_assoc (with_list x.0 x.1.not_null) (lists_of (take i xs)) (with_list name d.not_null))

one_on : (i : ℕ) → i + 1 ≡ suc i
one_on i = omega arith

pub list_put : (xs : Held) (i : ℕ) (name : List ℕ) (d : Declaration) (list : List (List ℕ)) (old new : NotNull) → slice_get xs i ≡ Some (name, d) → list ≡ d.not_null → old ≡ lists_of (take i xs) → new ≡ old ++ with_list name list → new ≡ lists_of (take (i + 1) xs)
list_put xs i name d list old new e l o n =
    n ∙ ap (λ k. k ++ with_list name list) o ∙ ap (λ k. lists_of (take i xs) ++ with_list name k) l ∙ sym (ap (λ k. lists_of (take k xs)) (one_on i) ∙ more_lists xs i name d e)
