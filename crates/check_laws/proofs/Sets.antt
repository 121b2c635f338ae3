-- Operators on whole data sets, aggregates and analytic calls.
use Rattle.std.proofs.Common.{◌≡◌, ℕ, List, [], ◌∷◌, Option, Some, None, Ok, refl, sym, ap, subst}
use Rattle.std.specs.List.{AllByRecursion}
use Rattle.std.specs.Option.{IfSome}
use Rattle.std.specs.Prelude.{ℤ, option_to_list, unwrap_or}
use Rattle.vtl_decimal.specs.Settings.{Settings}
use Rattle.vtl_cell.specs.Literals.{integer_written}
use Rattle.vtl_cell.specs.Profile.{IsOfProfile}
use Rattle.vtl_cell.specs.declared.cell.Cell.TheVariants as cell
use Rattle.vtl_lists.specs.Results.{◌>>=◌}
use Rattle.vtl_syntax.specs.declared.parts.Comp.{Comp}
use Rattle.vtl_syntax.specs.declared.parts.ErrorPart.{ErrorPart}
use Rattle.vtl_syntax.specs.declared.word_groups.BasicOut.{BasicOut}
use Rattle.vtl_syntax.specs.declared.word_groups.BasicOut.TheVariants as out
use Rattle.vtl_syntax.specs.declared.word_groups.DifferenceName.{DifferenceName}
use Rattle.vtl_syntax.specs.declared.word_groups.DifferenceName.TheVariants as difference
use Rattle.vtl_syntax.specs.declared.word_groups.Retain.{Retain}
use Rattle.vtl_syntax.specs.declared.word_groups.Retain.TheVariants as retain
use Rattle.vtl_syntax.specs.declared.word_groups.SetOpName.{SetOpName}
use Rattle.vtl_syntax.specs.declared.word_groups.SetOpName.TheVariants as set
use Rattle.vtl_tree.specs.Structures.{Named}
use Rattle.vtl_tree.specs.declared.structure.Structure.{Structure}
use Rattle.vtl_tree.specs.Trees as nodes
use Rattle.vtl_tree.specs.Trees.{NodeTree, NodeTrees, maybe_node, nodes_of, structure_of}
use Rattle.vtl_tree.specs.declared.specifications.CheckSpec.{CheckSpec}
use Rattle.check_shapes.specs.Choices.{choice_form}
use Rattle.check_shapes.specs.Pairs as pairs
use Rattle.vtl_tree.specs.declared.choices.Choice.TheVariants as choice
use Rattle.vtl_tree.specs.declared.names.Wanted.TheVariants as wanted
use Rattle.vtl_tree.specs.Names.{name_of}
use Rattle.check_operators.specs.Places.{Env}
use Rattle.check_operators.specs.Sets.{check_form, check_spec, datasets_in, difference_form, difference_tree, exists_form, imbalance_in, level_read, level_typed, member_of, set_of, set_structure, set_tree, sets_form, structures_in}
use Rattle.check_operators.specs.Typed.{TypedTree, value, dataset, components_in, dataset_in, made_of}
use Rattle.check_operators.specs.declared.places.Place.{Place}
use Rattle.check_operators.specs.declared.places.Place.TheVariants as place
use Rattle.vtl_rulings.specs.Shaped.{IsChecked}
use Rattle.vtl_rulings.proofs.HierarchyProfiles.{written_fits}
use Rattle.vtl_meaning.specs.Made.{AreCombined, IsCombined, IsExistence, IsLeft}
use Rattle.vtl_scripts.specs.Made.{AreMade, IsMade, IsMadeMaybe, maybe_structure, node_structures}
use Rattle.vtl_meaning.specs.Shapes.{IsChosen, IsShaped}
use Rattle.check_laws.specs.Gives.{Gives}
use Rattle.check_laws.specs.WellTyped.{IsWellTyped}
use Rattle.check_laws.proofs.CheckShapes.{check-fits}
use Rattle.check_laws.proofs.Combined.{combined-fits, exists-fits}
use Rattle.check_laws.proofs.Inner.{made-shaped}
use Rattle.check_laws.proofs.Left.{member-fits}
use Rattle.vtl_meaning.proofs.Lists as lists
use Rattle.check_laws.proofs.Operators.{IsMadeWith, made-gives}
use Rattle.check_laws.proofs.Steps.{then, weaker}
use Rattle.check_laws.proofs.Turns.{all-in-turn}

-- where a data set is needed
pub dataset-gives : (env : Env) (at : Place) (x : TypedTree) → IsWellTyped env at x → Gives (IsMade env.settings env.known) (dataset_in x)
dataset-gives env at (value e) h = tt
dataset-gives env at (dataset n) h = h

-- `a#m`
pub member-gives : (env : Env) (at : Place) (c : Comp) (a : NodeTree) → IsMade env.settings env.known a → Gives (IsWellTyped env at) (member_of c a)
unfolding member_of
member-gives env at c a is =
    made-gives env at (nodes.member a (name_of c)) (choice_form wanted.Measure choice.Keep (name_of c ∷ []) (components_in a))
    (weaker (λ s. IsShaped s × IsLeft (structure_of a) s × IsChosen wanted.Measure choice.Keep (name_of c ∷ []) (structure_of a) s) (IsMadeWith env (nodes.member a (name_of c))) (choice_form wanted.Measure choice.Keep (name_of c ∷ []) (components_in a)) (λ s h. (h.0, (is, h.1, h.2)))
    (member-fits (name_of c ∷ []) (structure_of a) (made-shaped env.settings env.known a is)))

-- ---- set operators
all-made : (p : Settings) (known : Named) (ns : List NodeTree) → AllByRecursion (IsMade p known) ns → AreMade p known (nodes_of ns)
all-made p known [] h = tt
all-made p known (n ∷ ns) h = (h.0, all-made p known ns h.1)

all-shaped : (p : Settings) (known : Named) (ns : List NodeTree) → AllByRecursion (IsMade p known) ns → AllByRecursion IsShaped (structures_in ns)
all-shaped p known ns h = lists.mapped IsShaped structure_of ns (lists.weaker (IsMade p known) (λ n. IsShaped (structure_of n)) ns (made-shaped p known) h)

same-structures : (ns : List NodeTree) → node_structures (nodes_of ns) ≡ structures_in ns
same-structures [] = refl
same-structures (n ∷ ns) = ap (λ ss. structure_of n ∷ ss) (same-structures ns)

abbrev AreCombinedOf : NodeTrees → Structure → Type 0
AreCombinedOf ns s = IsShaped s × AreCombined (node_structures ns) s

set-structure : (p : Settings) (known : Named) (ns : List NodeTree) → AllByRecursion (IsMade p known) ns → Gives (AreCombinedOf (nodes_of ns)) (set_structure ns)
set-structure p known [] h = tt
set-structure p known (n ∷ ns) h =
    subst (λ ss. Gives (λ s. IsShaped s × IsCombined (structure_of n) ss s) (set_structure (n ∷ ns))) (sym (same-structures ns))
    (combined-fits (structure_of n) (structures_in ns) (made-shaped p known n h.0) (all-shaped p known ns h.1))

pub sets-give : (env : Env) (at : Place) (f : SetOpName) (xs : List TypedTree) → AllByRecursion (IsWellTyped env place.Outside) xs → Gives (IsWellTyped env at) (sets_form f xs)
unfolding sets_form
sets-give env at f xs h =
    then (AllByRecursion (IsMade env.settings env.known)) (IsWellTyped env at) (datasets_in xs) (set_of f) (all-in-turn (IsWellTyped env place.Outside) (IsMade env.settings env.known) (λ done x. dataset_in x) (λ done x k. dataset-gives env place.Outside x k) [] xs tt h)
    (λ ns all. made-gives env at (set_tree f (nodes_of ns)) (set_structure ns) (weaker (AreCombinedOf (nodes_of ns)) (IsMadeWith env (set_tree f (nodes_of ns))) (set_structure ns) (made f ns all) (set-structure env.settings env.known ns all)))
  where
    made : (f : SetOpName) (ns : List NodeTree) → AllByRecursion (IsMade env.settings env.known) ns → (s : Structure) → AreCombinedOf (nodes_of ns) s → IsMadeWith env (set_tree f (nodes_of ns)) s
    made set.Union ns all s h = (h.0, (all-made env.settings env.known ns all, h.1))
    made set.Intersect ns all s h = (h.0, (all-made env.settings env.known ns all, h.1))

pub difference-gives : (env : Env) (at : Place) (f : DifferenceName) (x y : TypedTree) → IsWellTyped env place.Outside x → IsWellTyped env place.Outside y → Gives (IsWellTyped env at) (difference_form f x y)
unfolding difference_form
difference-gives env at f x y hx hy =
    then (IsMade env.settings env.known) (IsWellTyped env at) (dataset_in x) (λ a. dataset_in y >>= λ b. pairs.set_form (structure_of a) (structure_of b ∷ []) >>= made_of (difference_tree f a b)) (dataset-gives env place.Outside x hx)
    (λ a ia. then (IsMade env.settings env.known) (IsWellTyped env at) (dataset_in y) (λ b. pairs.set_form (structure_of a) (structure_of b ∷ []) >>= made_of (difference_tree f a b)) (dataset-gives env place.Outside y hy)
    (λ b ib. made-gives env at (difference_tree f a b) (pairs.set_form (structure_of a) (structure_of b ∷ [])) (weaker (λ s. IsShaped s × IsCombined (structure_of a) (structure_of b ∷ []) s) (IsMadeWith env (difference_tree f a b)) (pairs.set_form (structure_of a) (structure_of b ∷ [])) (made f a b ia ib)
    (combined-fits (structure_of a) (structure_of b ∷ []) (made-shaped env.settings env.known a ia) (made-shaped env.settings env.known b ib, tt)))))
  where
    made : (f : DifferenceName) (a b : NodeTree) → IsMade env.settings env.known a → IsMade env.settings env.known b → (s : Structure) → IsShaped s × IsCombined (structure_of a) (structure_of b ∷ []) s → IsMadeWith env (difference_tree f a b) s
    made difference.Setdiff a b ia ib s h = (h.0, (ia, ib, h.1))
    made difference.Symdiff a b ia ib s h = (h.0, (ia, ib, h.1))

pub exists-gives : (env : Env) (at : Place) (r : Option Retain) (x y : TypedTree) → IsWellTyped env place.Outside x → IsWellTyped env place.Outside y → Gives (IsWellTyped env at) (exists_form r x y)
unfolding exists_form
exists-gives env at r x y hx hy =
    then (IsMade env.settings env.known) (IsWellTyped env at) (dataset_in x) (λ a. dataset_in y >>= λ b. pairs.exists_form (structure_of a) (structure_of b) >>= made_of (nodes.exists_in a b (unwrap_or r retain.All))) (dataset-gives env place.Outside x hx)
    (λ a ia. then (IsMade env.settings env.known) (IsWellTyped env at) (dataset_in y) (λ b. pairs.exists_form (structure_of a) (structure_of b) >>= made_of (nodes.exists_in a b (unwrap_or r retain.All))) (dataset-gives env place.Outside y hy)
    (λ b ib. made-gives env at (nodes.exists_in a b (unwrap_or r retain.All)) (pairs.exists_form (structure_of a) (structure_of b))
    (weaker (λ s. IsShaped s × IsExistence (structure_of a) (structure_of b) s) (IsMadeWith env (nodes.exists_in a b (unwrap_or r retain.All))) (pairs.exists_form (structure_of a) (structure_of b)) (λ s h. (h.0, (ia, ib, h.1))) (exists-fits (structure_of a) (structure_of b) (made-shaped env.settings env.known b ib)))))

-- ---- levels
abbrev pub IsLevel : Settings → Option ℤ → Type 0
IsLevel p level = IfSome level (λ n. IsOfProfile p (cell.Int n))

pub level-gives : (p : Settings) (level : Option (List ℕ)) → Gives (IsLevel p) (level_typed p level)
level-gives p None = tt
level-gives p (Some digits) = go (integer_written p digits) (written_fits p digits)
  where
    go : (n : Option ℤ) → IsLevel p n → Gives (IsLevel p) (level_read n)
    go None h = tt
    go (Some n) h = h

pub spec-gives : (p : Settings) (error : ErrorPart) (o : Option BasicOut) → Gives (λ s. IsLevel p s.errorlevel) (check_spec p error o)
spec-gives p error o = then (IsLevel p) (λ s. IsLevel p s.errorlevel) (level_typed p error.level) (λ level. Ok (record { errorcode = error.code; errorlevel = level; output = unwrap_or o out.All })) (level-gives p error.level) (λ level h. h)

-- ---- `check`
imbalance-gives : (env : Env) (i : Option TypedTree) → IfSome i (IsWellTyped env place.Outside) → Gives (λ b. IfSome b (IsMade env.settings env.known)) (imbalance_in i)
imbalance-gives env None h = tt
imbalance-gives env (Some x) h = then (IsMade env.settings env.known) (λ b. IfSome b (IsMade env.settings env.known)) (dataset_in x) (λ n. Ok (Some n)) (dataset-gives env place.Outside x h) (λ n is. is)

maybe-made : (p : Settings) (known : Named) (b : Option NodeTree) → IfSome b (IsMade p known) → IsMadeMaybe p known (maybe_node b)
maybe-made p known None h = tt
maybe-made p known (Some n) h = h

-- the structure of an imbalance, as typing and as meaning say it
same-structure : (b : Option NodeTree) → structures_in (option_to_list b) ≡ option_to_list (maybe_structure (maybe_node b))
same-structure None = refl
same-structure (Some n) = refl

maybe-shaped : (p : Settings) (known : Named) (b : Option NodeTree) → IfSome b (IsMade p known) → IfSome (maybe_structure (maybe_node b)) IsShaped
maybe-shaped p known None h = tt
maybe-shaped p known (Some n) h = made-shaped p known n h

pub check-gives : (env : Env) (at : Place) (spec : CheckSpec) (x : TypedTree) (i : Option TypedTree) → IsLevel env.settings spec.errorlevel → IsWellTyped env place.Outside x → IfSome i (IsWellTyped env place.Outside) → Gives (IsWellTyped env at) (check_form spec x i)
unfolding check_form
check-gives env at spec x i level hx hi =
    then (IsMade env.settings env.known) (IsWellTyped env at) (dataset_in x) (λ a. imbalance_in i >>= λ b. pairs.check_form (structure_of a) (structures_in (option_to_list b)) >>= made_of (nodes.check a (maybe_node b) spec)) (dataset-gives env place.Outside x hx)
    (λ a ia. then (λ b. IfSome b (IsMade env.settings env.known)) (IsWellTyped env at) (imbalance_in i) (λ b. pairs.check_form (structure_of a) (structures_in (option_to_list b)) >>= made_of (nodes.check a (maybe_node b) spec)) (imbalance-gives env i hi)
    (λ b ib. subst (λ ss. Gives (IsWellTyped env at) (pairs.check_form (structure_of a) ss >>= made_of (nodes.check a (maybe_node b) spec))) (sym (same-structure b))
    (made-gives env at (nodes.check a (maybe_node b) spec) (pairs.check_form (structure_of a) (option_to_list (maybe_structure (maybe_node b))))
    (weaker (λ s. IsShaped s × IsChecked env.settings spec (maybe_structure (maybe_node b)) (structure_of a) s) (IsMadeWith env (nodes.check a (maybe_node b) spec)) (pairs.check_form (structure_of a) (option_to_list (maybe_structure (maybe_node b)))) (λ s h. (h.0, (ia, maybe-made env.settings env.known b ib, h.1)))
    (check-fits env.settings spec (maybe_structure (maybe_node b)) (structure_of a) (made-shaped env.settings env.known a ia) (maybe-shaped env.settings env.known b ib) level)))))
