-- The words of set operators, `pivot`, `unpivot` and `check`: those of their operands, and their own.
use Rattle.std.proofs.Common.{◌≡◌, List, [], ◌∷◌, Option, Some, None, Result, Ok, Err, refl}
use Rattle.std.specs.Option.{IfSome}
use Rattle.std.specs.List.{AllByRecursion, list_all}
use Rattle.std.specs.Prelude.{ℕ, option_to_list, unwrap_or}
use Rattle.std.proofs.lemmas.Bool.{not-false}
use Rattle.vtl_lists.specs.Results.{◌>>=◌}
use Rattle.vtl_lists.proofs.Alls.{all_from_test}
use Rattle.vtl_decimal.specs.Settings.{Settings}
use Rattle.vtl_text.specs.Words.{is_component_name}
use Rattle.vtl_syntax.specs.Written as written
use Rattle.vtl_syntax.specs.declared.parts.Comp.{Comp}
use Rattle.vtl_syntax.specs.declared.parts.ErrorPart.{ErrorPart}
use Rattle.vtl_syntax.specs.declared.word_groups.BasicOut.{BasicOut}
use Rattle.vtl_syntax.specs.declared.word_groups.DifferenceName.{DifferenceName}
use Rattle.vtl_syntax.specs.declared.word_groups.DifferenceName.TheVariants as difference
use Rattle.vtl_syntax.specs.declared.word_groups.Retain.{Retain}
use Rattle.vtl_syntax.specs.declared.word_groups.Retain.TheVariants as retain
use Rattle.vtl_syntax.specs.declared.word_groups.SetOpName.{SetOpName}
use Rattle.vtl_syntax.specs.declared.word_groups.SetOpName.TheVariants as set
use Rattle.vtl_tree.specs.declared.structure.Component.{Component}
use Rattle.vtl_tree.specs.declared.structure.Structure.{Structure}
use Rattle.vtl_tree.specs.Trees as nodes
use Rattle.vtl_tree.specs.Trees.{NodeTree, maybe_node, nodes_of, structure_of}
use Rattle.vtl_tree.specs.declared.specifications.CheckSpec.{CheckSpec}
use Rattle.check_faults.specs.Rules.{ruled}
use Rattle.check_faults.specs.declared.rules.Rule.{Rule}
use Rattle.check_faults.specs.declared.rules.Rule.TheVariants as rule
use Rattle.vtl_tree.specs.ClauseShapes.{pivot_components}
use Rattle.check_shapes.specs.Clauses.{has_no_name, pivot_codes, pivot_form, unpivot_form}
use Rattle.check_shapes.specs.Names.{known}
use Rattle.check_shapes.specs.Pairs as pairs
use Rattle.check_shapes.specs.Shape.{shaped}
use Rattle.vtl_tree.specs.declared.names.Wanted.TheVariants as wanted
use Rattle.vtl_tree.specs.Names.{name_of}
use Rattle.check_clauses.specs.Clauses as clauses
use Rattle.check_clauses.specs.Clauses.{pivot_names, pivot_of, unpivot_of}
use Rattle.check_operators.specs.Sets.{check_form, check_spec, datasets_in, difference_form, difference_tree, exists_form, imbalance_in, set_of, set_tree, sets_form, structures_in}
use Rattle.check_operators.specs.Typed as typed
use Rattle.check_operators.specs.Typed.{TypedTree, components_in, dataset_in}
use Rattle.check_laws.specs.Gives.{Gives}
use Rattle.check_laws.proofs.Left.{IsNamed, known-gives}
use Rattle.check_laws.proofs.Steps.{after, tested-then, then}
use Rattle.check_laws.proofs.Turns.{all-in-turn}
use Rattle.result_laws.proofs.Words.{FormIsWorded, HasCodes, HaveWords, IsTreeWorded, IsWorded, component_named}
use Rattle.result_laws.proofs.WordedOperators.{dataset_in_worded, dataset_worded}

module _ (p : Settings) where
  -- ---- set operators
  all_words : (ns : List NodeTree) → AllByRecursion (IsWorded p) ns → HaveWords p (nodes_of ns)
  all_words [] h = tt
  all_words (n ∷ ns) h = (h.0, all_words ns h.1)

  pub sets_worded : (f : SetOpName) (xs : List TypedTree) → AllByRecursion (IsTreeWorded p) xs → Gives (IsTreeWorded p) (sets_form f xs)
  unfolding sets_form
  sets_worded f xs h = then (AllByRecursion (IsWorded p)) (IsTreeWorded p) (datasets_in xs) (set_of f) (all-in-turn (IsTreeWorded p) (IsWorded p) (λ done x. dataset_in x) (λ done x k. dataset_in_worded p x k) [] xs tt h) (λ ns all. dataset_worded p (set_tree f (nodes_of ns)) _ (made f ns all))
    where
      made : (f : SetOpName) (ns : List NodeTree) → AllByRecursion (IsWorded p) ns → FormIsWorded p (set_tree f (nodes_of ns))
      made set.Union ns all = all_words ns all
      made set.Intersect ns all = all_words ns all

  two : (a b : NodeTree) → IsWorded p a → IsWorded p b → FormIsWorded p (nodes.set_diff a b)
  two a b ha hb = (ha, hb)

  pub difference_worded : (f : DifferenceName) (x y : TypedTree) → IsTreeWorded p x → IsTreeWorded p y → Gives (IsTreeWorded p) (difference_form f x y)
  unfolding difference_form
  difference_worded f x y hx hy =
      then (IsWorded p) (IsTreeWorded p) (dataset_in x) (λ a. dataset_in y >>= λ b. pairs.set_form (structure_of a) (structure_of b ∷ []) >>= typed.made_of (difference_tree f a b)) (dataset_in_worded p x hx)
      (λ a ha. then (IsWorded p) (IsTreeWorded p) (dataset_in y) (λ b. pairs.set_form (structure_of a) (structure_of b ∷ []) >>= typed.made_of (difference_tree f a b)) (dataset_in_worded p y hy)
      (λ b hb. dataset_worded p (difference_tree f a b) _ (made f a b ha hb)))
    where
      made : (f : DifferenceName) (a b : NodeTree) → IsWorded p a → IsWorded p b → FormIsWorded p (difference_tree f a b)
      made difference.Setdiff a b ha hb = two a b ha hb
      made difference.Symdiff a b ha hb = two a b ha hb

  pub exists_worded : (r : Option Retain) (x y : TypedTree) → IsTreeWorded p x → IsTreeWorded p y → Gives (IsTreeWorded p) (exists_form r x y)
  unfolding exists_form
  exists_worded r x y hx hy =
      then (IsWorded p) (IsTreeWorded p) (dataset_in x) (λ a. dataset_in y >>= λ b. pairs.exists_form (structure_of a) (structure_of b) >>= typed.made_of (nodes.exists_in a b (unwrap_or r retain.All))) (dataset_in_worded p x hx)
      (λ a ha. then (IsWorded p) (IsTreeWorded p) (dataset_in y) (λ b. pairs.exists_form (structure_of a) (structure_of b) >>= typed.made_of (nodes.exists_in a b (unwrap_or r retain.All))) (dataset_in_worded p y hy)
      (λ b hb. dataset_worded p (nodes.exists_in a b (unwrap_or r retain.All)) _ (two a b ha hb)))

  -- ---- `pivot` and `unpivot`
  codes_named : (id m : List ℕ) (a : Structure) → Gives (λ s. HasCodes id a) (pivot_form id m a.components)
  codes_named id m a =
      then (λ texts. (x : Component) × IsNamed wanted.Identifier a.components id x × (x.codes ≡ Some texts)) Q (known wanted.Identifier a.components [] id >>= λ x. pivot_codes x.codes) (λ texts. known wanted.Measure a.components [] m >>= λ y. ruled ((rule.RepeatedComponent, has_no_name texts) ∷ []) (tt {0}) >>= λ u. shaped (pivot_components id y.kind texts a.components))
      (then (IsNamed wanted.Identifier a.components id) (λ texts. (x : Component) × IsNamed wanted.Identifier a.components id x × (x.codes ≡ Some texts)) (known wanted.Identifier a.components [] id) (λ x. pivot_codes x.codes) (known-gives wanted.Identifier a.components [] id) (λ x named. go x named x.codes refl))
      (λ texts coded. after Q (known wanted.Measure a.components [] m) (λ y. ruled ((rule.RepeatedComponent, has_no_name texts) ∷ []) (tt {0}) >>= λ u. shaped (pivot_components id y.kind texts a.components))
      (λ y. tested-then Q ((rule.RepeatedComponent, has_no_name texts) ∷ []) (λ u. shaped (pivot_components id y.kind texts a.components))
      (λ passed. all_give (shaped (pivot_components id y.kind texts a.components)) (record { component = coded.0; named = coded.1; codes = texts; there = coded.2; names = all_from_test is_component_name texts (not-false (list_all is_component_name texts) passed.0) }))))
    where
      Q : Structure → Type 0
      Q s = HasCodes id a

      go : (x : Component) → IsNamed wanted.Identifier a.components id x → (codes : Option (List (List ℕ))) → x.codes ≡ codes → Gives (λ texts. (x : Component) × IsNamed wanted.Identifier a.components id x × (x.codes ≡ Some texts)) (pivot_codes codes)
      go x named None e = tt
      go x named (Some texts) e = (x, named, e)

      all_give : (r : Result Structure Rule) → HasCodes id a → Gives Q r
      all_give (Ok s) h = h
      all_give (Err broken) h = tt

  pub pivot_worded : (id m : Comp) (n : NodeTree) → IsWorded p n → Gives (IsWorded p) (pivot_of id m n)
  unfolding pivot_of
  pivot_worded id m n h =
      after (IsWorded p) (pivot_names (name_of id) (name_of m) (components_in n)) (λ u. pivot_form (name_of id) (name_of m) (components_in n) >>= clauses.made_of (nodes.pivot n (name_of id) (name_of m)))
      (λ u. then (λ s. HasCodes (name_of id) (structure_of n)) (IsWorded p) (pivot_form (name_of id) (name_of m) (components_in n)) (clauses.made_of (nodes.pivot n (name_of id) (name_of m))) (codes_named (name_of id) (name_of m) (structure_of n)) (λ s coded. (h, coded)))

  pub unpivot_worded : (id m : Comp) (n : NodeTree) → written.IsComponent id → written.IsComponent m → IsWorded p n → Gives (IsWorded p) (unpivot_of id m n)
  unfolding unpivot_of
  unpivot_worded id m n wi wm h = after (IsWorded p) (unpivot_form (name_of id) (name_of m) (components_in n)) (clauses.made_of (nodes.unpivot n (name_of id) (name_of m))) (λ s. (h, component_named id wi, component_named m wm))

-- ---- `check`
module _ (p : Settings) where
  imbalance_worded : (i : Option TypedTree) → IfSome i (IsTreeWorded p) → Gives (λ b. IfSome b (IsWorded p)) (imbalance_in i)
  imbalance_worded None h = tt
  imbalance_worded (Some x) h = then (IsWorded p) (λ b. IfSome b (IsWorded p)) (dataset_in x) (λ n. Ok (Some n)) (dataset_in_worded p x h) (λ n k. k)

  checked : (a : NodeTree) (b : Option NodeTree) (spec : CheckSpec) → IsWorded p a → IfSome b (IsWorded p) → FormIsWorded p (nodes.check a (maybe_node b) spec)
  checked a None spec ha hb = (ha, tt)
  checked a (Some n) spec ha hb = (ha, hb)

  check_form_worded : (spec : CheckSpec) (x : TypedTree) (i : Option TypedTree) → IsTreeWorded p x → IfSome i (IsTreeWorded p) → Gives (IsTreeWorded p) (check_form spec x i)
  unfolding check_form
  check_form_worded spec x i hx hi =
      then (IsWorded p) (IsTreeWorded p) (dataset_in x) (λ a. imbalance_in i >>= λ b. pairs.check_form (structure_of a) (structures_in (option_to_list b)) >>= typed.made_of (nodes.check a (maybe_node b) spec)) (dataset_in_worded p x hx)
      (λ a ha. then (λ b. IfSome b (IsWorded p)) (IsTreeWorded p) (imbalance_in i) (λ b. pairs.check_form (structure_of a) (structures_in (option_to_list b)) >>= typed.made_of (nodes.check a (maybe_node b) spec)) (imbalance_worded i hi)
      (λ b hb. dataset_worded p (nodes.check a (maybe_node b) spec) _ (checked a b spec ha hb)))

  pub check_worded : (q : Settings) (err : ErrorPart) (o : Option BasicOut) (x : TypedTree) (i : Result (Option TypedTree) Rule) → IsTreeWorded p x → Gives (λ y. IfSome y (IsTreeWorded p)) i → Gives (IsTreeWorded p) (check_spec q err o >>= λ s. i >>= check_form s x)
  check_worded q err o x i hx hi =
      after (IsTreeWorded p) (check_spec q err o) (λ s. i >>= check_form s x) (λ s. then (λ y. IfSome y (IsTreeWorded p)) (IsTreeWorded p) i (check_form s x) hi (λ y hy. check_form_worded s x y hx hy))
