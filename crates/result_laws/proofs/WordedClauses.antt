-- The words of clauses: those of the operand, and their own. Clauses in the body of a join leave its names as they are.
use Rattle.std.proofs.Common.{inl, ◌≡◌, ℕ, Bool, true, false, cond, List, [], ◌∷◌, ◌++◌, map, Option, Some, None, Result, Ok, Err, refl, ap, sym, ◌∙◌}
use Rattle.std.specs.List.{AllByRecursion, list_any}
use Rattle.std.specs.Option.{IfSome}
use Rattle.std.specs.Prelude.{ℤ}
use Rattle.std.specs.Result.{result_ok}
use Rattle.std.proofs.lemmas.Bool.{false≢true}
use Rattle.std.proofs.lemmas.List.{map-append}
use Rattle.vtl_lists.specs.Apart.{all_apart}
use Rattle.vtl_cell.specs.Conversion.{as_kind}
use Rattle.vtl_decimal.specs.Range.{fit_number}
use Rattle.vtl_lists.specs.Results.{◌>>=◌}
use Rattle.vtl_lists.proofs.Alls.{all_append}
use Rattle.vtl_cell.specs.ScalarArithmetic.{number, units}
use Rattle.vtl_decimal.specs.Settings.{Settings}
use Rattle.vtl_cell.specs.declared.cell.Cell.{Cell}
use Rattle.vtl_cell.specs.declared.cell.Cell.TheVariants as c
use Rattle.vtl_cell.specs.declared.kind.Kind.{Kind}
use Rattle.vtl_cell.specs.declared.kind.Kind.TheVariants as k
use Rattle.vtl_decimal.specs.declared.number.Fault.{Fault}
use Rattle.vtl_text.proofs.Apart.{apart_push}
use Rattle.vtl_tree.specs.CompExp.{CompExp}
use Rattle.vtl_tree.specs.Structure.{same_name}
use Rattle.vtl_tree.specs.declared.structure.Component.{Component}
use Rattle.vtl_tree.specs.declared.structure.Structure.{Structure}
use Rattle.vtl_syntax.specs.Trees.{Exp, Calcs, TargetsTree}
use Rattle.vtl_syntax.specs.Written as written
use Rattle.vtl_syntax.specs.declared.parts.Comp.{Comp}
use Rattle.vtl_syntax.specs.declared.parts.GroupPart.{GroupPart}
use Rattle.vtl_syntax.specs.declared.parts.Keeping.{Keeping}
use Rattle.vtl_syntax.specs.declared.parts.Keeping.TheVariants as keeping
use Rattle.vtl_syntax.specs.declared.parts.Literal.{Literal}
use Rattle.vtl_syntax.specs.declared.parts.RenamePart.{RenamePart}
use Rattle.vtl_syntax.specs.declared.parts.SubPart.{SubPart}
use Rattle.vtl_syntax.specs.declared.word_groups.WrittenRole.{WrittenRole}
use Rattle.vtl_tree.specs.Trees as nodes
use Rattle.vtl_tree.specs.Trees.{FormTree, ItemTree, NodeTree, structure_of}
use Rattle.vtl_tree.specs.Choices.{chosen}
use Rattle.vtl_tree.specs.declared.choices.Choice.TheVariants as choice
use Rattle.vtl_tree.specs.declared.clauses.SubItem.{SubItem}
use Rattle.vtl_syntax.specs.Trees as tree
use Rattle.vtl_syntax.specs.Written.{AreMoreCalcs, AreWrittenCalcs, AreWrittenTargets}
use Rattle.check_values.specs.Groupings.{grouping_of, grouping_typed}
use Rattle.check_operators.specs.Places.{at_points, at_groups}
use Rattle.check_clauses.specs.Targets.{aggr_clause, aggr_name, aggr_tree, calc_name, call_in, is_aggregate, item_of, made_as, with_item, with_made, calc_clause, is_analytic, target_of}
use Rattle.check_expressions.specs.Rulings.{Sight}
use Rattle.check_expressions.specs.Typing.{aggrs_typed, calc_value, calcs_typed, having_typed, over_operand, targets_typed, typed}
use Rattle.check_clauses.specs.declared.targets.Made.{Made}
use Rattle.check_faults.specs.InTurn.{in_turn}
use Rattle.check_faults.specs.declared.rules.Rule.{Rule}
use Rattle.check_shapes.specs.Clauses.{calc_form}
use Rattle.check_shapes.specs.Shape.{shaped}
use Rattle.vtl_tree.specs.Names.{component_of, is_among, name_of}
use Rattle.check_shapes.specs.Names.{known, known_as, name_tests}
use Rattle.vtl_tree.specs.declared.names.Wanted.TheVariants as wanted
use Rattle.vtl_tree.specs.declared.renaming.Renaming.{Renaming}
use Rattle.check_values.specs.Literals.{kind_met, literal_cell, literal_kind, valued}
use Rattle.check_clauses.specs.Clauses as clauses
use Rattle.check_clauses.specs.Clauses.{cell_as, filter_form, kept_of, keeping_form, keeping_tree, name_known, names_typed, old_names, references_in, renamed_of, renaming_form, renaming_known, renaming_to, renamings_typed, sub_form, sub_item, sub_known, sub_names, sub_of, sub_value, subs_typed}
use Rattle.check_operators.specs.Typed.{TypedTree, components_in, condition_in, value_in}
use Rattle.check_operators.specs.declared.places.Joined.{Joined}
use Rattle.check_operators.specs.declared.places.Place.{Place}
use Rattle.check_operators.specs.declared.places.Place.TheVariants as place
use Rattle.check_laws.specs.Gives.{Gives}
use Rattle.vtl_meaning.proofs.FoundColumns.{among-any}
use Rattle.vtl_meaning.proofs.Lists as lists
use Rattle.check_laws.proofs.Literals.{IsCell, literal-cell, valued-gives}
use Rattle.check_laws.proofs.Steps.{after, tested, then}
use Rattle.check_laws.proofs.Turns.{all-in-turn}
use Rattle.result_laws.proofs.Words.{AreValues, FormHasWords, IsAt, IsColumnName, IsFilled, IsWorded, component_named, form_renamings, from_outside}

module _ (p : Settings) (b : Bool) (rs : List Renaming) where
  -- a form over an operand
  pub clause_at : (form : FormTree) (r : Result Structure Rule) → (FormHasWords p b form × (b ≡ true → form_renamings form ≡ rs)) → Gives (IsAt p b rs) (r >>= clauses.made_of form)
  clause_at form (Ok s) h = h
  clause_at form (Err broken) h = tt

  pub filter_at : (n : NodeTree) (x : TypedTree) → IsAt p b rs n → Gives (IsAt p b rs) (filter_form n x)
  unfolding filter_form
  filter_at n x h = after (IsAt p b rs) (condition_in x) (λ e. clauses.made_of (nodes.filter n e) (structure_of n)) (λ e. h)

  pub keeping_at : (j : Option Joined) (n : NodeTree) (x : Keeping) → IsAt p b rs n → Gives (IsAt p b rs) (keeping_form j n x)
  unfolding keeping_form
  keeping_at j n x h = after (IsAt p b rs) (names_typed j wanted.Value (components_in n) (references_in x)) (kept_of x n) (λ names. clause_at (keeping_tree x n names) _ (made x names))
    where
      made : (x : Keeping) (names : List (List ℕ)) → FormHasWords p b (keeping_tree x n names) × (b ≡ true → form_renamings (keeping_tree x n names) ≡ rs)
      made (keeping.Keep rs) names = h
      made (keeping.Drop rs) names = h

  abbrev IsNewName : Renaming → Type 0
  IsNewName r = IsColumnName r.to

  renaming_named : (j : Option Joined) (xs : List Component) (before : List (List ℕ)) (r : RenamePart) → written.IsRenaming r → Gives IsNewName (renaming_known j xs before r)
  unfolding renaming_known
  renaming_named j xs before r h = after IsNewName (name_known j wanted.Any xs before r.from) (λ name. Ok (renaming_to r name)) (λ name. component_named r.to h.1)

  pub renaming_at : (j : Option Joined) (n : NodeTree) (parts : List RenamePart) → AllByRecursion written.IsRenaming parts → IsAt p b rs n → Gives (IsAt p b rs) (renaming_form j n parts)
  unfolding renaming_form
  renaming_at j n parts are h =
      then (AllByRecursion IsNewName) (IsAt p b rs) (renamings_typed j (components_in n) parts) (renamed_of n)
      (all-in-turn written.IsRenaming IsNewName (λ done. renaming_known j (components_in n) (old_names done)) (λ done. renaming_named j (components_in n) (old_names done)) [] parts tt are)
      (λ done named. clause_at (nodes.rename n done) _ (inl (h.0, named), h.1))

  -- ---- `calc`
  abbrev pub IsTarget : ItemTree → Type 0
  IsTarget i = IsColumnName i.target

  pub calc_at : (n : NodeTree) (items : List ItemTree) → IsAt p b rs n → AllByRecursion IsTarget items → Gives (IsAt p b rs) (calc_clause n items)
  unfolding calc_clause
  calc_at n items h named = go (list_any is_analytic items)
    where
      r : Result Structure Rule
      r = calc_form (map (target_of (components_in n)) items) (components_in n)

      go : (q : Bool) → Gives (IsAt p b rs) (r >>= clauses.made_of (cond q (nodes.analytic_of n (nodes.of_items items)) (nodes.calc n items)))
      go true = clause_at (nodes.analytic_of n (nodes.of_items items)) r ((h.0, named), h.1)
      go false = clause_at (nodes.calc n items) r ((h.0, named), h.1)

  -- each target has a name; of its value nothing is asked
  targets_named : (env : Sight) (at : Place) (n : NodeTree) (done : List ItemTree) (cs : Calcs) → AllByRecursion IsTarget done → AreMoreCalcs cs → Gives (AllByRecursion IsTarget) (calcs_typed env at n done cs)
  targets_named env at n done tree.no_calcs hd w = hd
  targets_named env at n done (tree.calc_part r c e cs) hd w =
      after (AllByRecursion IsTarget) (calc_name n done c) (λ u. calc_value env.settings at e (typed env at e) (over_operand env at e) >>= with_item r c done >>= λ items. calcs_typed env at n items cs)
      (λ u. then (AllByRecursion IsTarget) (AllByRecursion IsTarget) (calc_value env.settings at e (typed env at e) (over_operand env at e) >>= with_item r c done) (λ items. calcs_typed env at n items cs)
      (after (AllByRecursion IsTarget) (calc_value env.settings at e (typed env at e) (over_operand env at e)) (with_item r c done) (λ v. all_append IsTarget done (item_of r c v ∷ []) hd (component_named c w.0, tt)))
      (λ items h. targets_named env at n items cs h w.2))

  more_calcs : (cs : Calcs) → AreWrittenCalcs cs → AreMoreCalcs cs
  more_calcs tree.no_calcs w = tt
  more_calcs (tree.calc_part r c e cs) w = w

  -- ---- `aggr`
  abbrev IsNamed : Made → Type 0
  IsNamed m = IsColumnName m.target.target

  call_named : (r : Option WrittenRole) (c : Comp) (e : Exp) (done : List Made) (x : TypedTree) → written.IsComponent c → AllByRecursion IsNamed done → Gives (AllByRecursion IsNamed) (with_made r c e done x)
  unfolding with_made
  call_named r c e done x w hd =
      after (AllByRecursion IsNamed) (value_in x) (λ v. call_in (is_aggregate e) v >>= λ call. Ok (done ++ made_as r c call ∷ []))
      (λ v. after (AllByRecursion IsNamed) (call_in (is_aggregate e) v) (λ call. Ok (done ++ made_as r c call ∷ [])) (λ call. all_append IsNamed done (made_as r c call ∷ []) hd (component_named c w, tt)))

  calls_named : (env : Sight) (at : Place) (done : List Made) (cs : Calcs) → AllByRecursion IsNamed done → AreMoreCalcs cs → Gives (AllByRecursion IsNamed) (aggrs_typed env at done cs)
  calls_named env at done tree.no_calcs hd w = hd
  calls_named env at done (tree.calc_part r c e cs) hd w =
      after (AllByRecursion IsNamed) (aggr_name done c) (λ u. typed env at e >>= with_made r c e done >>= λ made. aggrs_typed env at made cs)
      (λ u. then (AllByRecursion IsNamed) (AllByRecursion IsNamed) (typed env at e >>= with_made r c e done) (λ made. aggrs_typed env at made cs)
      (after (AllByRecursion IsNamed) (typed env at e) (with_made r c e done) (λ x. call_named r c e done x w.0 hd))
      (λ made h. calls_named env at made cs h w.2))

  aggr_clause_at : (g : Option GroupPart) (n : NodeTree) (made : List Made) (having : Option CompExp) → IsAt p b rs n → AllByRecursion IsNamed made → Gives (IsAt p b rs) (aggr_clause g n made having)
  unfolding aggr_clause
  aggr_clause_at g n made having h named = clause_at (nodes.aggregate n (aggr_tree g n made having)) _ ((h.0, lists.mapped (λ t. IsColumnName t.target) (λ m. m.target) made named), h.1)

  pub targets_at : (env : Sight) (j : Option Joined) (n : NodeTree) (m : TargetsTree) → AreWrittenTargets m → IsAt p b rs n → Gives (IsAt p b rs) (targets_typed env j n m)
  targets_at env j n (tree.calc cs) w h =
      then (AllByRecursion IsTarget) (IsAt p b rs) (calcs_typed env (place.Inside (at_points j n)) n [] cs) (calc_clause n) (targets_named env (place.Inside (at_points j n)) n [] cs tt (more_calcs cs w))
      (λ items named. calc_at n items h named)
  targets_at env j n (tree.aggr cs g e) w h =
      then (AllByRecursion IsNamed) (IsAt p b rs) (aggrs_typed env (place.Inside (at_groups j n (grouping_of g (components_in n)))) [] cs) (λ made. grouping_typed (components_in n) g >>= λ names. having_typed env (place.Inside (at_groups j n names)) e >>= aggr_clause g n made)
      (calls_named env (place.Inside (at_groups j n (grouping_of g (components_in n)))) [] cs tt (more_calcs cs w.0))
      (λ made named. after (IsAt p b rs) (grouping_typed (components_in n) g) (λ names. having_typed env (place.Inside (at_groups j n names)) e >>= aggr_clause g n made)
      (λ names. after (IsAt p b rs) (having_typed env (place.Inside (at_groups j n names)) e) (aggr_clause g n made) (λ having. aggr_clause_at g n made having h named)))

module _ (p : Settings) where
  -- ---- `sub`
  converted : (kind : Kind) (v : Cell) → IsFilled p v → IfSome (result_ok (as_kind p kind v)) (IsFilled p)
  converted k.Num (c.Int n) h = go (fit_number (units p n))
    where
      go : (r : Result ℤ Fault) → IfSome (result_ok (number r)) (IsFilled p)
      go (Ok x) = (tt, refl)
      go (Err fault) = tt
  converted kind v h = h

  value_filled : (kind : Kind) (l : Literal) → Gives (IsFilled p) (sub_value p kind l)
  value_filled kind l =
      after (IsFilled p) (kind_met kind (literal_kind l)) (λ u. valued (cell_as p kind (literal_cell p l)))
      (λ u. valued-gives (IsFilled p) (cell_as p kind (literal_cell p l)) (go (literal_cell p l) (literal-cell p l)))
    where
      go : (o : Option Cell) → IfSome o (IsCell p (literal_kind l)) → IfSome (cell_as p kind o) (IsFilled p)
      go None h = tt
      go (Some v) h = converted kind v (h.0, h.2)

  abbrev IsNewItem : List (List ℕ) → SubItem → Type 0
  IsNewItem before i = IsFilled p i.value × (is_among i.id before ≡ false)

  name_new : (xs : List Component) (before : List (List ℕ)) (name : List ℕ) → Gives (λ x. is_among name before ≡ false) (known wanted.Identifier xs before name)
  name_new xs before name = go (component_of name xs)
    where
      go : (o : Option Component) → Gives (λ x. is_among name before ≡ false) (known_as wanted.Identifier before name o)
      go None = tt
      go (Some x) = tested (λ x. is_among name before ≡ false) (name_tests wanted.Identifier before name x.role) x (λ passed. passed.0)

  item_new : (xs : List Component) (before : List (List ℕ)) (s : SubPart) → Gives (IsNewItem before) (sub_known p xs before s)
  unfolding sub_known
  item_new xs before s =
      then (λ x. is_among (name_of s.component) before ≡ false) (IsNewItem before) (known wanted.Identifier xs before (name_of s.component)) (λ x. sub_value p x.kind s.value >>= λ cell. Ok (sub_item (name_of s.component) cell)) (name_new xs before (name_of s.component))
      (λ x new. then (IsFilled p) (IsNewItem before) (sub_value p x.kind s.value) (λ cell. Ok (sub_item (name_of s.component) cell)) (value_filled x.kind s.value) (λ cell is. (is, new)))

  one_more : (done : List SubItem) (i : SubItem) → AreValues p done → IsNewItem (sub_names done) i → AreValues p (done ++ i ∷ [])
  one_more done i are is = record {
    filled = all_append (λ i. IsFilled p i.value) done (i ∷ []) are.filled (is.0, tt);
    apart = ap (all_apart same_name) (map-append (λ (i : SubItem). i.id) done (i ∷ [])) ∙ apart_push (sub_names done) i.id are.apart (sym (among-any i.id (sub_names done)) ∙ is.1);
  }

  items_valued : (xs : List Component) (done : List SubItem) (ss : List SubPart) → AreValues p done → Gives (AreValues p) (in_turn (λ done. sub_known p xs (sub_names done)) done ss)
  items_valued xs done [] are = are
  items_valued xs done (s ∷ ss) are =
      then (IsNewItem (sub_names done)) (AreValues p) (sub_known p xs (sub_names done) s) (λ item. in_turn (λ done. sub_known p xs (sub_names done)) (done ++ item ∷ []) ss) (item_new xs (sub_names done) s)
      (λ item is. items_valued xs (done ++ item ∷ []) ss (one_more done item are is))

  pub sub_worded : (n : NodeTree) (ss : List SubPart) → IsWorded p n → Gives (IsWorded p) (sub_form p n ss)
  unfolding sub_form
  sub_worded n ss h =
      then (AreValues p) (IsWorded p) (subs_typed p (components_in n) ss) (sub_of n) (items_valued (components_in n) [] ss (record { filled = tt; apart = refl }))
      (λ items are. from_outside p (sub_of n items) (clause_at p false [] (nodes.sub n items) (shaped (chosen choice.Drop (sub_names items) (components_in n))) ((h, are), λ e. absurd (false≢true e))))
