-- What an expression evaluates to, from what its operands do.
use Rattle.std.proofs.Common.{◌≡◌, ℕ, suc, List, [], ◌∷◌, ◌++◌, length, map, Option, Some, None, Result, Ok, Err, refl, sym, ap, subst, append_assoc, ◌∙◌}
use Rattle.std.specs.Prelude.{option_map}
use Rattle.std.proofs.lemmas.List.{append-nil, length-map}
use Rattle.vtl_decimal.specs.Settings.{Settings}
use Rattle.vtl_decimal.specs.declared.number.Fault.TheVariants.{DivZero, Range}
use Rattle.vtl_decimal.specs.declared.number.Fault.{Fault}
use Rattle.vtl_cell.specs.Outcome.{Outcome, after}
use Rattle.vtl_cell.specs.Row.{Row}
use Rattle.vtl_scalar.specs.Answers.{AnswersBy}
use Rattle.vtl_scalar.specs.declared.error.ScalarErr.{ScalarErr}
use Rattle.vtl_scalar.specs.declared.error.ScalarErr.TheVariants as err
use Rattle.vtl_tree.specs.Environment.{DataSet, Environment}
use Rattle.vtl_tree.specs.declared.joins.Operand.{Operand}
use Rattle.vtl_tree.specs.declared.structure.Structure.{Structure}
use Rattle.vtl_tree.specs.Trees as nodes
use Rattle.vtl_tree.specs.Trees.{MaybeNode, NodeTree, NodeTrees, OperandTree, OperandTrees, operands_of, structure_of}
use Rattle.vtl_sets.specs.DataSets.{data_set, with_structure}
use Rattle.vtl_meaning.specs.Joined.{structures_of}
use Rattle.vtl_scripts.specs.Made.{maybe_structure, node_structures, operands_in}
use Rattle.vtl_scripts.specs.Meaning.{maybe_value, node_value, nodes_value, operands_value, with_first, with_operand}
use Rattle.vtl_meaning.specs.Points.{with_points}
use Rattle.vtl_join.specs.Joining.{sets_of, typed_operands}
use Rattle.vtl_join.specs.declared.joined.Operand as joining
use Rattle.vtl_interp.specs.Evaluated.{Evaluates, Gives}
use Rattle.vtl_interp.specs.Values.{under_aliases}

-- the operands before are evaluated, and the operator is applied to what they give
pub applied : {A : Type 0} (view : A → DataSet) (p : Settings) (env : Environment) (n : NodeTree) (points : Outcome (List Row)) (r : Result A ScalarErr)
    → node_value p env n ≡ points → AnswersBy view r (with_structure (structure_of n) points) → Evaluates view p env n r
applied view p env n (Ok rows) (Ok x) e h =
    let same : data_set (structure_of n) rows ≡ view x = cc in
    record { structure = ap (λ (d : DataSet). d.structure) (sym same); points = e ∙ ap (λ (d : DataSet). Ok d.points) same }
applied view p env n (Err f) (Ok x) e h = cc
applied view p env n (Ok rows) (Err err.DivZero) e h = cc
applied view p env n (Err f) (Err err.DivZero) e h = cc
applied view p env n (Ok rows) (Err err.Range) e h = cc
applied view p env n (Err f) (Err err.Range) e h = cc
applied view p env n points (Err err.OutOfMemory) e h = tt

-- an operand has the fault
pub stops : {A B : Type 0} (view : A → DataSet) (other : B → DataSet) (p : Settings) (env : Environment) (a n : NodeTree) (e : ScalarErr)
    → ((f : Fault) → node_value p env a ≡ Err f → node_value p env n ≡ Err f) → Evaluates view p env a (Err e) → Evaluates other p env n (Err e)
stops view other p env a n err.DivZero g h = g DivZero h
stops view other p env a n err.Range g h = g Range h
stops view other p env a n err.OutOfMemory g h = tt

-- what follows an operand that is evaluated
pub then : (p : Settings) (env : Environment) (a : NodeTree) (d : DataSet) (f : DataSet → Outcome (List Row)) → Gives p env a d → with_operand a (node_value p env a) f ≡ f d
then p env a d f g = ap (λ m. with_operand a m f) g.points ∙ ap (λ s. f (with_points s d.points)) (sym g.structure)

-- ---- an operand that may be left out
pub some_given : (p : Settings) (env : Environment) (n : NodeTree) (d : DataSet) → Gives p env n d → maybe_value p env (nodes.some_node n) ≡ Ok (Some d)
some_given p env n d g =
    ap (λ (m : Outcome (List Row)). after m (λ points. Ok (Some (with_points (structure_of n) points)))) g.points
    ∙ ap (λ (s : Structure). Ok (Some (with_points s d.points))) (sym g.structure)

pub some_stops : {A B : Type 0} (view : A → DataSet) (views : B → Option DataSet) (p : Settings) (env : Environment) (n : NodeTree) (e : ScalarErr)
    → Evaluates view p env n (Err e) → AnswersBy views (Err e) (maybe_value p env (nodes.some_node n))
some_stops view views p env n err.DivZero h = ap (λ (m : Outcome (List Row)). after m (λ points. Ok (Some (with_points (structure_of n) points)))) h
some_stops view views p env n err.Range h = ap (λ (m : Outcome (List Row)). after m (λ points. Ok (Some (with_points (structure_of n) points)))) h
some_stops view views p env n err.OutOfMemory h = tt

-- its structure is that of what it gives
pub given_structure : (p : Settings) (env : Environment) (i : MaybeNode) (o : Option DataSet) → maybe_value p env i ≡ Ok o → option_map (λ d. d.structure) o ≡ maybe_structure i
given_structure p env nodes.no_node o e = let same : None ≡ o = cc in subst (λ (x : Option DataSet). option_map (λ d. d.structure) x ≡ None) same refl
given_structure p env (nodes.some_node n) o e = go (node_value p env n) e
  where
    go : (m : Outcome (List Row)) → after m (λ points. Ok (Some (with_points (structure_of n) points))) ≡ Ok o → option_map (λ d. d.structure) o ≡ Some (structure_of n)
    go (Ok points) e =
        let same : Some (with_points (structure_of n) points) ≡ o = cc in
        subst (λ (x : Option DataSet). option_map (λ d. d.structure) x ≡ Some (structure_of n)) same refl
    go (Err f) e = cc

-- ---- several operands, by what is given so far and what the rest gives
pub none_given : (all : Outcome (List DataSet)) → all ≡ after all (λ ds. Ok ([] ++ ds))
none_given (Ok ds) = refl
none_given (Err f) = refl

pub one_given : (p : Settings) (env : Environment) (n : NodeTree) (d : DataSet) (all rest : Outcome (List DataSet)) (done : List DataSet) → Gives p env n d
    → all ≡ after (with_first n (node_value p env n) rest) (λ ds. Ok (done ++ ds)) → all ≡ after rest (λ ds. Ok ((done ++ d ∷ []) ++ ds))
one_given p env n d all rest done g e =
    e
    ∙ ap (λ (m : Outcome (List Row)). after (with_first n m rest) (λ ds. Ok (done ++ ds))) g.points
    ∙ ap (λ (s : Structure). after (after rest (λ ds. Ok (with_points s d.points ∷ ds))) (λ ds. Ok (done ++ ds))) (sym g.structure)
    ∙ go rest
  where
    go : (rest : Outcome (List DataSet)) → after (after rest (λ ds. Ok (d ∷ ds))) (λ ds. Ok (done ++ ds)) ≡ after rest (λ ds. Ok ((done ++ d ∷ []) ++ ds))
    go (Ok ds) = ap Ok (sym (append_assoc done (d ∷ []) ds))
    go (Err f) = refl

pub all_given : (all : Outcome (List DataSet)) (done : List DataSet) → all ≡ after (Ok []) (λ ds. Ok (done ++ ds)) → all ≡ Ok done
all_given all done e = e ∙ ap Ok (append-nil done)

-- one of them has the fault
pub one_stops : {A B : Type 0} (view : A → DataSet) (views : B → List DataSet) (p : Settings) (env : Environment) (n : NodeTree) (all rest : Outcome (List DataSet)) (done : List DataSet) (e : ScalarErr)
    → Evaluates view p env n (Err e) → all ≡ after (with_first n (node_value p env n) rest) (λ ds. Ok (done ++ ds)) → AnswersBy views (Err e) all
one_stops view views p env n all rest done err.DivZero h e = e ∙ ap (λ (m : Outcome (List Row)). after (with_first n m rest) (λ ds. Ok (done ++ ds))) h
one_stops view views p env n all rest done err.Range h e = e ∙ ap (λ (m : Outcome (List Row)). after (with_first n m rest) (λ ds. Ok (done ++ ds))) h
one_stops view views p env n all rest done err.OutOfMemory h e = tt

-- ---- the structures of what several operands give
first_structure : (n : NodeTree) (m : Outcome (List Row)) (rest : Outcome (List DataSet)) (ss : List Structure) (ds : List DataSet) → ((es : List DataSet) → rest ≡ Ok es → structures_of es ≡ ss) → with_first n m rest ≡ Ok ds → structures_of ds ≡ structure_of n ∷ ss
first_structure n (Ok points) (Ok es) ss ds ih e =
    let same : with_points (structure_of n) points ∷ es ≡ ds = cc in
    subst (λ (xs : List DataSet). structures_of xs ≡ structure_of n ∷ ss) same (ap (λ (xs : List Structure). structure_of n ∷ xs) (ih es refl))
first_structure n (Ok points) (Err f) ss ds ih e = cc
first_structure n (Err f) rest ss ds ih e = cc

no_structures : (m : Outcome (List DataSet)) (ds : List DataSet) → m ≡ Ok [] → m ≡ Ok ds → structures_of ds ≡ []
no_structures m ds none e = let same : [] ≡ ds = cc in subst (λ (xs : List DataSet). structures_of xs ≡ []) same refl

pub nodes_structures : (p : Settings) (env : Environment) (ns : NodeTrees) (ds : List DataSet) → nodes_value p env ns ≡ Ok ds → structures_of ds ≡ node_structures ns
nodes_structures p env nodes.no_nodes ds e = no_structures (nodes_value p env nodes.no_nodes) ds refl e
nodes_structures p env (nodes.and_node n ns) ds e = first_structure n (node_value p env n) (nodes_value p env ns) (node_structures ns) ds (nodes_structures p env ns) e

pub operands_structures : (p : Settings) (env : Environment) (os : OperandTrees) (ds : List DataSet) → operands_value p env os ≡ Ok ds → structures_of ds ≡ map (λ o. o.structure) (operands_in os)
operands_structures p env nodes.no_operands ds e = no_structures (operands_value p env nodes.no_operands) ds refl e
operands_structures p env (nodes.operand n alias os) ds e = first_structure n (node_value p env n) (operands_value p env os) (map (λ o. o.structure) (operands_in os)) ds (operands_structures p env os) e

-- operands are their structures under their aliases
pub under_their_own : (os : List Operand) → os ≡ under_aliases (map (λ o. o.alias) os) (map (λ o. o.structure) os)
under_their_own [] = refl
under_their_own (o ∷ os) = ap (λ (l : List Operand). o ∷ l) (under_their_own os)

pub under_set_aliases : (os : List joining.Operand) → typed_operands os ≡ under_aliases (map (λ o. o.alias) os) (structures_of (sets_of os))
under_set_aliases [] = refl
under_set_aliases (o ∷ os) = ap (λ (l : List Operand). record { alias = o.alias; structure = o.set.structure } ∷ l) (under_set_aliases os)

operands_aliases : (os : List OperandTree) → map (λ o. o.alias) (operands_in (operands_of os)) ≡ map (λ o. o.alias) os
operands_aliases [] = refl
operands_aliases (o ∷ os) = ap (λ (l : List (List ℕ)). o.alias ∷ l) (operands_aliases os)

pub operands_under : (p : Settings) (env : Environment) (os : List OperandTree) (ds : List DataSet) → operands_value p env (operands_of os) ≡ Ok ds → operands_in (operands_of os) ≡ under_aliases (map (λ o. o.alias) os) (structures_of ds)
operands_under p env os ds e =
    under_their_own (operands_in (operands_of os))
    ∙ ap (λ (names : List (List ℕ)). under_aliases names (map (λ o. o.structure) (operands_in (operands_of os)))) (operands_aliases os)
    ∙ ap (under_aliases (map (λ o. o.alias) os)) (sym (operands_structures p env (operands_of os) ds e))

-- as many as there are operands
operands_many : (os : List OperandTree) → length (operands_in (operands_of os)) ≡ length os
operands_many [] = refl
operands_many (o ∷ os) = ap suc (operands_many os)

pub operands_named : (p : Settings) (env : Environment) (os : List OperandTree) (ds : List DataSet) → operands_value p env (operands_of os) ≡ Ok ds → length ds ≡ length os
operands_named p env os ds e =
    sym (length-map ds (λ (d : DataSet). d.structure))
    ∙ ap length (operands_structures p env (operands_of os) ds e)
    ∙ length-map (operands_in (operands_of os)) (λ o. o.structure)
    ∙ operands_many os
