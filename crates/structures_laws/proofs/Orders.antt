-- Lists that stand in the order of components, and how they grow by one more component.
use Rattle.std.proofs.Common.{◌≡◌, Bool, true, false, cond, not, List, [], ◌∷◌, ◌++◌, Some, None, refl, sym, ap, ◌∙◌, append-nil}
use Rattle.std.specs.Cmp.Lexicographic.{nat_list_eq_equiv}
use Rattle.std.specs.List.{AllByRecursion, filter}
use Rattle.std.specs.Map.{keys_of, lookup}
use Rattle.std.specs.Prelude.{unwrap_or}
use Rattle.std.proofs.lemmas.Bool.{and_parts, not-true, or_parts}
use Rattle.std.proofs.lemmas.Grind.{flat_map-append}
use Rattle.std.proofs.lemmas.List.{map-append}
use Rattle.std.proofs.lemmas.List.Elements.{filter-append}
use Rattle.vtl_lists.specs.Aliases.{Name}
use Rattle.vtl_lists.specs.Apart.{all_apart}
use Rattle.vtl_tree.specs.declared.structure.Component.{Component}
use Rattle.vtl_tree.specs.declared.structure.Structure.{Structure}
use Rattle.vtl_tree.specs.NotNull.{Declared, NotNull, longer_list, not_null_of, with_list, with_name}
use Rattle.vtl_tree.specs.Structure.{names_of, same_name}
use Rattle.vtl_tree.specs.Structures.{Named, has_name, structure_of, with_component}
use Rattle.vtl_tree.proofs.StructuresLemmas.{begins_data_set, keys_push}
use Rattle.vtl_csv.specs.declared.declarations.NewComponent.{NewComponent}
use Rattle.vtl_csv.specs.Declarations.{with_new}
use Rattle.structures_laws.specs.Writable.{in_order_of, is_listed, lists_in_order}

pub same_itself : (n : Name) → same_name n n ≡ true
same_itself n = nat_list_eq_equiv.refl n

all_split : {X : Type 0} (P : X → Type 0) (xs : List X) (x : X) → AllByRecursion P (xs ++ x ∷ []) → AllByRecursion P xs × P x
all_split P [] x all = (tt, all.0)
all_split P (y ∷ ys) x all = let rest = all_split P ys x all.1 in ((all.0, rest.0), rest.1)

-- ---- data sets, of which the last one grows
pub last_found : (front : Named) (name : Name) (s : Structure) → has_name name front ≡ false → lookup (same_name name) (front ++ (name, s) ∷ []) ≡ Some s
last_found [] name s new = ap (λ b. cond b (Some s) None) (same_itself name)
last_found (y ∷ ys) name s new =
    let parts = or_parts (same_name name y.0) (has_name name ys) new in
    ap (λ b. cond b (Some y.1) (lookup (same_name name) (ys ++ (name, s) ∷ []))) parts.0 ∙ last_found ys name s parts.1

last_grows : (front : Named) (name : Name) (cs : List Component) (x : Component) → has_name name front ≡ false → with_component name x (front ++ (name, structure_of cs) ∷ []) ≡ front ++ (name, structure_of (cs ++ x ∷ [])) ∷ []
last_grows [] name cs x new = ap (λ b. cond b ((name, structure_of (cs ++ x ∷ [])) ∷ []) ((name, structure_of cs) ∷ with_component name x [])) (same_itself name)
last_grows (y ∷ ys) name cs x new =
    let parts = or_parts (same_name name y.0) (has_name name ys) new in
    ap (λ b. cond b ((y.0, structure_of (y.1.components ++ x ∷ [])) ∷ (ys ++ (name, structure_of cs) ∷ [])) (y ∷ with_component name x (ys ++ (name, structure_of cs) ∷ []))) parts.0
    ∙ ap (λ (l : Named). y ∷ l) (last_grows ys name cs x parts.1)

module _ (ls : NotNull) where
  abbrev pub kept : Name × Structure → List Name
  kept e = in_order_of e.1.components (not_null_of e.0 ls)

  -- data sets with their lists in order
  abbrev pub state : Named → Declared
  state xs = record { sets = xs; not_null = lists_in_order ls xs }

  abbrev IsOwn : NotNull → Name × Structure → Type 0
  IsOwn zs e = not_null_of e.0 zs ≡ kept e

  -- ---- the list of each is its own
  none_kept : (name : Name) (ys : Named) → has_name name ys ≡ false → not_null_of name (lists_in_order ls ys) ≡ []
  none_kept name [] new = refl
  none_kept name (y ∷ ys) new = let parts = or_parts (same_name name y.0) (has_name name ys) new in go (kept y) parts.0 (none_kept name ys parts.1)
    where
      go : (ns : List Name) → same_name name y.0 ≡ false → not_null_of name (lists_in_order ls ys) ≡ [] → not_null_of name (with_list y.0 ns ++ lists_in_order ls ys) ≡ []
      go [] f ih = ih
      go (n ∷ ns) f ih = ap (λ b. unwrap_or (cond b (Some (n ∷ ns)) (lookup (same_name name) (lists_in_order ls ys))) []) f ∙ ih

  past : (k : Name) (ns : List Name) (zs : NotNull) (ys : Named) → has_name k ys ≡ false → AllByRecursion (IsOwn zs) ys → AllByRecursion (IsOwn (with_list k ns ++ zs)) ys
  past k [] zs ys new all = all
  past k (n ∷ ns) zs [] new all = tt
  past k (n ∷ ns) zs (y ∷ ys) new all =
      let parts = or_parts (same_name k y.0) (has_name k ys) new in
      (ap (λ b. unwrap_or (cond b (Some (n ∷ ns)) (lookup (same_name y.0) zs)) []) (nat_list_eq_equiv.symm y.0 k ∙ parts.0) ∙ all.0, past k (n ∷ ns) zs ys parts.1 all.1)

  own_kept : (xs : Named) → all_apart same_name (keys_of xs) ≡ true → AllByRecursion (IsOwn (lists_in_order ls xs)) xs
  own_kept [] apart = tt
  own_kept (x ∷ xs) apart =
      let parts = and_parts (not (has_name x.0 xs)) (all_apart same_name (keys_of xs)) apart in
      let new = not-true (has_name x.0 xs) parts.0 in
      (first (kept x) new, past x.0 (kept x) (lists_in_order ls xs) xs new (own_kept xs parts.1))
    where
      first : (ns : List Name) → has_name x.0 xs ≡ false → not_null_of x.0 (with_list x.0 ns ++ lists_in_order ls xs) ≡ ns
      first [] new = none_kept x.0 xs new
      first (n ∷ ns) new = ap (λ b. unwrap_or (cond b (Some (n ∷ ns)) (lookup (same_name x.0) (lists_in_order ls xs))) []) (same_itself x.0)

  -- ---- the list of the last one grows
  abbrev grown : Name → Name → NotNull → Name × Structure → NotNull
  grown name n zs e = with_list e.0 (longer_list name n zs e.0)

  front_stays : (zs : NotNull) (name n : Name) (ys : Named) → has_name name ys ≡ false → AllByRecursion (IsOwn zs) ys → with_name name n ys zs ≡ lists_in_order ls ys
  front_stays zs name n [] new all = refl
  front_stays zs name n (y ∷ ys) new all =
      let parts = or_parts (same_name name y.0) (has_name name ys) new in
      ap (λ b. with_list y.0 (cond b (not_null_of y.0 zs ++ n ∷ []) (not_null_of y.0 zs)) ++ with_name name n ys zs) parts.0
      ∙ ap (λ ns. with_list y.0 ns ++ with_name name n ys zs) all.0
      ∙ ap (λ l. with_list y.0 (kept y) ++ l) (front_stays zs name n ys parts.1 all.1)

  named_last : (front : Named) (name n : Name) (s : Structure) (zs : NotNull) (own : List Name) → has_name name front ≡ false → AllByRecursion (IsOwn zs) front → not_null_of name zs ≡ own
      → with_name name n (front ++ (name, s) ∷ []) zs ≡ lists_in_order ls front ++ with_list name (own ++ n ∷ [])
  named_last front name n s zs own new all is =
      flat_map-append (grown name n zs) front ((name, s) ∷ [])
      ∙ ap (λ (l : NotNull). l ++ (grown name n zs (name, s) ++ [])) (front_stays zs name n front new all)
      ∙ ap (λ (l : NotNull). lists_in_order ls front ++ l)
      (append-nil (grown name n zs (name, s))
      ∙ ap (λ b. with_list name (cond b (not_null_of name zs ++ n ∷ []) (not_null_of name zs))) (same_itself name)
      ∙ ap (λ (l : List Name). with_list name (l ++ n ∷ [])) is)

  lists_last : (front : Named) (e : Name × Structure) → lists_in_order ls (front ++ e ∷ []) ≡ lists_in_order ls front ++ with_list e.0 (kept e)
  lists_last front e =
      flat_map-append (λ (x : Name × Structure). with_list x.0 (kept x)) front (e ∷ []) ∙ ap (λ (l : NotNull). lists_in_order ls front ++ l) (append-nil (with_list e.0 (kept e)))

  kept_more : (name : Name) (cs : List Component) (x : Component) (b : Bool) → is_listed (not_null_of name ls) x ≡ b → kept (name, structure_of (cs ++ x ∷ [])) ≡ kept (name, structure_of cs) ++ cond b (x.name ∷ []) []
  kept_more name cs x b is =
      ap names_of (filter-append (is_listed (not_null_of name ls)) cs (x ∷ []))
      ∙ map-append (λ (y : Component). y.name) (filter (is_listed (not_null_of name ls)) cs) (filter (is_listed (not_null_of name ls)) (x ∷ []))
      ∙ ap (λ (l : List Name). kept (name, structure_of cs) ++ l) (ap (λ c. names_of (cond c (x ∷ []) [])) is ∙ one b)
    where
      one : (c : Bool) → names_of (cond c (x ∷ []) []) ≡ cond c (x.name ∷ []) []
      one true = refl
      one false = refl

  -- ---- one more component
  abbrev pub new_of : Name → Component → NewComponent
  new_of name x = record { dataset = name; component = x; is_listed = is_listed (not_null_of name ls) x }

  module _ (front : Named) (name : Name) (new : has_name name front ≡ false) where
    abbrev with_last : List Component → Named
    with_last cs = front ++ (name, structure_of cs) ∷ []

    state_of : (cs : List Component) (x : Component) (before : Named) (zs : NotNull) (own : List Name) → AllByRecursion (IsOwn zs) front → not_null_of name zs ≡ own → kept (name, structure_of cs) ≡ own
        → (zs ≡ lists_in_order ls front ++ with_list name own) → with_component name x before ≡ with_last (cs ++ x ∷ []) → with_new (new_of name x) (record { sets = before; not_null = zs }) ≡ state (with_last (cs ++ x ∷ []))
    state_of cs x before zs own all is same lists grows =
        ap (λ (s : Named). made s (cond (is_listed (not_null_of name ls) x) (with_name name x.name s zs) zs)) grows
        ∙ ap (made (with_last (cs ++ x ∷ []))) (go (is_listed (not_null_of name ls) x) refl)
      where
        made : Named → NotNull → Declared
        made s l = record { sets = s; not_null = l }

        whole : (b : Bool) → is_listed (not_null_of name ls) x ≡ b → lists_in_order ls (with_last (cs ++ x ∷ [])) ≡ lists_in_order ls front ++ with_list name (own ++ cond b (x.name ∷ []) [])
        whole b q = lists_last front (name, structure_of (cs ++ x ∷ [])) ∙ ap (λ (l : List Name). lists_in_order ls front ++ with_list name l) (kept_more name cs x b q ∙ ap (λ (l : List Name). l ++ cond b (x.name ∷ []) []) same)

        go : (b : Bool) → is_listed (not_null_of name ls) x ≡ b → cond b (with_name name x.name (with_last (cs ++ x ∷ [])) zs) zs ≡ lists_in_order ls (with_last (cs ++ x ∷ []))
        go true q = named_last front name x.name (structure_of (cs ++ x ∷ [])) zs own new all is ∙ sym (whole true q)
        go false q = lists ∙ ap (λ (l : List Name). lists_in_order ls front ++ with_list name l) (sym (append-nil own)) ∙ sym (whole false q)

    pub state_begins : (x : Component) → all_apart same_name (keys_of front) ≡ true → with_new (new_of name x) (state front) ≡ state (with_last (x ∷ []))
    state_begins x apart =
        state_of [] x front (lists_in_order ls front) [] (own_kept front apart) (none_kept name front new) refl (sym (append-nil (lists_in_order ls front))) (begins_data_set front name x new)

    pub state_grows : (cs : List Component) (x : Component) → all_apart same_name (keys_of front ++ name ∷ []) ≡ true → with_new (new_of name x) (state (with_last cs)) ≡ state (with_last (cs ++ x ∷ []))
    state_grows cs x apart =
        let e : Name × Structure = (name, structure_of cs) in
        let own = all_split (IsOwn (lists_in_order ls (with_last cs))) front e (own_kept (with_last cs) (ap (all_apart same_name) (keys_push front name (structure_of cs)) ∙ apart)) in
        state_of cs x (with_last cs) (lists_in_order ls (with_last cs)) (kept e) own.0 own.1 refl (lists_last front e) (last_grows front name cs x new)
