-- A column of a typed `calc` that a target makes has the kind of the target's value.
use Rattle.std.proofs.Common.{◌≡◌, Bool, true, false, cond, List, [], ◌∷◌, ◌++◌, map, Option, Some, None, refl, ap, sym, ◌∙◌, subst, true≢false}
use Rattle.std.specs.Prelude.{option_map}
use Rattle.std.specs.List.{AllByRecursion, filter}
use Rattle.std.specs.Option.{is_none}
use Rattle.vtl_lists.specs.Apart.{all_apart}
use Rattle.vtl_lists.proofs.Aparts.{apart_parts}
use Rattle.vtl_lists.proofs.Alls.{all_append}
use Rattle.vtl_tree.specs.Structure.{IsStructure, names_of, same_name}
use Rattle.vtl_tree.specs.declared.structure.Component.{Component}
use Rattle.vtl_tree.specs.declared.structure.Structure.{Structure}
use Rattle.vtl_tree.specs.ClauseShapes as clauses
use Rattle.vtl_tree.specs.ClauseShapes.{calculated, is_new, retargeted, target_component}
use Rattle.vtl_tree.specs.Names.{component_of}
use Rattle.vtl_meaning.specs.Analytics.{item_named}
use Rattle.vtl_meaning.specs.AnalyticShapes.{analyzed_components}
use Rattle.vtl_meaning.specs.Shapes.{target_of, tree_kind}
use Rattle.vtl_tree.specs.Trees as nodes
use Rattle.vtl_tree.specs.Trees.{ItemTree}
use Rattle.vtl_tree.specs.declared.targets.Target.{Target}
use Rattle.vtl_tree.proofs.NotNullLemmas.{same_itself}
use Rattle.vtl_meaning.proofs.Places.{same_name-is}

module _ (xs : List Component) where
  -- the target of the column's name, where there is one, has values of its kind
  abbrev pub IsOfTarget : List ItemTree → Component → Type 0
  IsOfTarget items y = (i : ItemTree) → item_named items y.name ≡ Some i → tree_kind xs i.value ≡ y.kind

  abbrev targets : List ItemTree → List Target
  targets items = map (target_of xs) items

  targeted : (items : List ItemTree) (x : Component) → clauses.target_of x.name (targets items) ≡ option_map (target_of xs) (item_named items x.name)
  targeted [] x = refl
  targeted (i ∷ items) x = go (same_name i.target x.name) (targeted items x)
    where
      go : (b : Bool) → clauses.target_of x.name (map (target_of xs) items) ≡ option_map (target_of xs) (item_named items x.name)
          → cond b (Some (target_of xs i)) (clauses.target_of x.name (map (target_of xs) items)) ≡ option_map (target_of xs) (cond b (Some i) (item_named items x.name))
      go true ih = refl
      go false ih = ih

  of_old : (items : List ItemTree) (x : Component) → IsOfTarget items (calculated (targets items) x)
  of_old items x = subst (λ o. IsOfTarget items (retargeted x o)) (sym (targeted items x)) (go (item_named items x.name) refl)
    where
      go : (o : Option ItemTree) → item_named items x.name ≡ o → IsOfTarget items (retargeted x (option_map (target_of xs) o))
      go None e = λ i f. absurd (none (sym e ∙ f))
        where
          none : {i : ItemTree} → ◌≡◌ {A = Option ItemTree} None (Some i) → ⊥
          none f = cc
      go (Some j) e = λ i f. ap (λ z. tree_kind xs z.value) (one (sym f ∙ e))
        where
          one : {i : ItemTree} → Some i ≡ Some j → i ≡ j
          one f = cc

  abbrev new : List ItemTree → List Component
  new items = map target_component (filter (is_new xs) (targets items))

  -- a new column has a name that no component has
  abbrev IsNew : Component → Type 0
  IsNew y = is_none (component_of y.name xs) ≡ true

  news : (items : List ItemTree) → AllByRecursion IsNew (new items)
  news [] = tt
  news (i ∷ items) = go (is_none (component_of i.target xs)) refl (news items)
    where
      go : (b : Bool) → is_none (component_of i.target xs) ≡ b → AllByRecursion IsNew (new items) → AllByRecursion IsNew (map target_component (cond b (target_of xs i ∷ filter (is_new xs) (map (target_of xs) items)) (filter (is_new xs) (map (target_of xs) items))))
      go true e ih = (e, ih)
      go false e ih = ih

  -- a target before the others changes nothing for names that are not its own
  behind : (i : ItemTree) (items : List ItemTree) (ys : List Component) → AllByRecursion (λ y. same_name i.target y.name ≡ false) ys → AllByRecursion (IsOfTarget items) ys → AllByRecursion (IsOfTarget (i ∷ items)) ys
  behind i items [] apart all = tt
  behind i items (y ∷ ys) apart all = ((λ j f. all.0 j (sym (ap (λ b. cond b (Some i) (item_named items y.name)) apart.0) ∙ f)), behind i items ys apart.1 all.1)

  of_new : (items : List ItemTree) → all_apart same_name (names_of (new items)) ≡ true → AllByRecursion (IsOfTarget items) (new items)
  of_new [] e = tt
  of_new (i ∷ items) e = go (is_none (component_of i.target xs)) refl e (of_new items)
    where
      others : List Component
      others = map target_component (filter (is_new xs) (map (target_of xs) items))

      Rest : Type 0
      Rest = all_apart same_name (names_of (new items)) ≡ true → AllByRecursion (IsOfTarget items) (new items)

      names_apart : (ys : List Component) → AllByRecursion (λ n. same_name i.target n ≡ false) (names_of ys) → AllByRecursion (λ y. same_name i.target y.name ≡ false) ys
      names_apart [] all = tt
      names_apart (y ∷ ys) all = (all.0, names_apart ys all.1)

      other_name : is_none (component_of i.target xs) ≡ false → (ys : List Component) → AllByRecursion IsNew ys → AllByRecursion (λ y. same_name i.target y.name ≡ false) ys
      other_name known [] all = tt
      other_name known (y ∷ ys) all = (one (same_name i.target y.name) refl, other_name known ys all.1)
        where
          one : (b : Bool) → same_name i.target y.name ≡ b → b ≡ false
          one true f = absurd (true≢false (sym all.0 ∙ ap (λ n. is_none (component_of n xs)) (sym (same_name-is i.target y.name f)) ∙ known))
          one false f = refl

      itself : IsOfTarget (i ∷ items) (target_component (target_of xs i))
      itself = λ j f. ap (λ z. tree_kind xs z.value) (one (same_name i.target i.target) (same_itself i.target) j f)
        where
          one : (b : Bool) → b ≡ true → (j : ItemTree) → cond b (Some i) (item_named items i.target) ≡ Some j → j ≡ i
          one true t j f = cc
          one false t j f = cc

      go : (b : Bool) → is_none (component_of i.target xs) ≡ b
          → all_apart same_name (names_of (map target_component (cond b (target_of xs i ∷ filter (is_new xs) (map (target_of xs) items)) (filter (is_new xs) (map (target_of xs) items))))) ≡ true → Rest
          → AllByRecursion (IsOfTarget (i ∷ items)) (map target_component (cond b (target_of xs i ∷ filter (is_new xs) (map (target_of xs) items)) (filter (is_new xs) (map (target_of xs) items))))
      go true t h ih =
          let parts = apart_parts same_name i.target (names_of others) h in
          (itself, behind i items others (names_apart others parts.0) (ih parts.1))
      go false t h ih = behind i items others (other_name t others (news items)) (ih h)

back_apart : (us vs : List Component) → all_apart same_name (names_of (us ++ vs)) ≡ true → all_apart same_name (names_of vs) ≡ true
back_apart [] vs e = e
back_apart (u ∷ us) vs e = back_apart us vs (apart_parts same_name u.name (names_of (us ++ vs)) e).1

pub of_targets : (items : List ItemTree) (a s : Structure) → IsStructure s → s.components ≡ analyzed_components (nodes.of_items items) a.components → AllByRecursion (IsOfTarget a.components items) s.components
of_targets items a s w shape =
    let xs = a.components in
    let old = map (calculated (targets xs items)) xs in
    let apart = ap (λ ys. all_apart same_name (names_of ys)) (sym shape) ∙ w.distinct in
    subst (AllByRecursion (IsOfTarget xs items)) (sym shape)
    (all_append (IsOfTarget xs items) old (new xs items) (each_old xs) (of_new xs items (back_apart old (new xs items) apart)))
  where
    each_old : (us : List Component) → AllByRecursion (IsOfTarget a.components items) (map (calculated (targets a.components items)) us)
    each_old [] = tt
    each_old (u ∷ us) = (of_old a.components items u, each_old us)
