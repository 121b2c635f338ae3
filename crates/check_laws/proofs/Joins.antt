-- Joins: their operands, and the joined set.
use Rattle.std.proofs.Common.{◌≡◌, ℕ, true, false, List, [], ◌∷◌, ◌++◌, map, Option, Ok, refl, sym, ap, ◌∙◌, subst}
use Rattle.std.proofs.lemmas.List.{map-append}
use Rattle.std.specs.List.{AllByRecursion}
use Rattle.vtl_lists.specs.Apart.{all_apart}
use Rattle.vtl_lists.specs.Results.{◌>>=◌}
use Rattle.vtl_lists.proofs.Alls.{all_append}
use Rattle.vtl_syntax.specs.Trees.{Exp}
use Rattle.vtl_syntax.specs.declared.parts.Comp.{Comp}
use Rattle.vtl_syntax.specs.declared.word_groups.JoinKind.{JoinKind}
use Rattle.vtl_text.proofs.Apart.{apart_push}
use Rattle.vtl_tree.specs.Structure.{same_name}
use Rattle.vtl_tree.specs.declared.structure.Structure.{Structure}
use Rattle.check_faults.specs.Rules.{ruled}
use Rattle.check_faults.specs.declared.rules.Rule.TheVariants as rule
use Rattle.check_joins.specs.Joins as joins
use Rattle.vtl_tree.specs.Joins as held
use Rattle.vtl_tree.specs.declared.joins.Operand.{Operand}
use Rattle.vtl_tree.specs.Names.{is_among}
use Rattle.vtl_tree.specs.Trees as nodes
use Rattle.vtl_tree.specs.Trees.{NodeTree, OperandTree, operands_of}
use Rattle.check_operators.specs.Places.{Env}
use Rattle.check_operators.specs.Typed.{TypedTree, components_in, dataset_in}
use Rattle.check_operators.specs.declared.places.Joined.{Joined}
use Rattle.check_operators.specs.declared.places.Place.TheVariants as place
use Rattle.check_clauses.specs.JoinOperands.{PartTyped, alias_of, aliases_in, joined_node, last_naming, left_names, new_alias, operand_in, operands_in, shape_of, using_names, with_part}
use Rattle.vtl_scripts.specs.Made as made
use Rattle.vtl_meaning.specs.Made.{IsJoined}
use Rattle.vtl_scripts.specs.Made.{AreMadeOperands, IsMade}
use Rattle.vtl_meaning.specs.Shapes.{IsJoinedFrom, IsShaped}
use Rattle.check_laws.specs.Gives.{Gives}
use Rattle.check_laws.specs.WellTyped.{IsWellTyped}
use Rattle.check_laws.proofs.Clauses.{node-gives, renamed-gives}
use Rattle.vtl_meaning.proofs.FoundColumns.{among-any}
use Rattle.check_laws.proofs.Inner.{made-shaped}
use Rattle.check_laws.proofs.Joined.{aliases_of, join-fits}
use Rattle.vtl_meaning.proofs.Lists as lists
use Rattle.check_laws.proofs.Operators.{IsMadeWith}
use Rattle.check_laws.proofs.Sets.{dataset-gives}
use Rattle.check_laws.proofs.Steps.{after, tested, then, weaker}

-- ---- operands, of which no two have one alias
abbrev pub IsPart : Env → PartTyped → Type 0
IsPart env x = IsWellTyped env place.Outside x.operand

pub record AreJoinParts (env : Env) (xs : List PartTyped) : Type 0 where
  pub each : AllByRecursion (IsPart env) xs
  pub apart : all_apart same_name (aliases_in xs) ≡ true

abbrev pub IsOperand : Env → OperandTree → Type 0
IsOperand env o = IsMade env.settings env.known o.node

pub record AreJoinOperands (env : Env) (os : List OperandTree) : Type 0 where
  pub each : AllByRecursion (IsOperand env) os
  pub apart : all_apart same_name (aliases_of (map shape_of os)) ≡ true

alias-gives : (done : List PartTyped) (e : Exp) (alias : Option (List ℕ)) → Gives (λ name. is_among name (aliases_in done) ≡ false) (new_alias done e alias)
alias-gives done e alias =
    after (λ name. is_among name (aliases_in done) ≡ false) (alias_of e alias) (λ name. ruled ((rule.RepeatedName, is_among name (aliases_in done)) ∷ []) name)
    (λ name. tested (λ name. is_among name (aliases_in done) ≡ false) ((rule.RepeatedName, is_among name (aliases_in done)) ∷ []) name (λ passed. passed.0))

-- one more operand
pub part-gives : (env : Env) (done : List PartTyped) (e : Exp) (alias : Option (List ℕ)) (x : TypedTree) → AreJoinParts env done → IsWellTyped env place.Outside x → Gives (AreJoinParts env) (with_part done e alias x)
unfolding with_part
part-gives env done e alias x are h =
    then (λ name. is_among name (aliases_in done) ≡ false) (AreJoinParts env) (new_alias done e alias) (λ name. Ok (done ++ record { operand = x; alias = name } ∷ [])) (alias-gives done e alias)
    (λ name new. record {
      each = all_append (IsPart env) done (record { operand = x; alias = name } ∷ []) are.each (h, tt);
      apart = ap (all_apart same_name) (map-append (λ y. y.alias) done (record { operand = x; alias = name } ∷ [])) ∙ apart_push (aliases_in done) name are.apart (sym (among-any name (aliases_in done)) ∙ new);
    })

operand-gives : (env : Env) (x : PartTyped) → IsPart env x → Gives (λ o. IsOperand env o × (o.alias ≡ x.alias)) (operand_in x)
operand-gives env x h = then (IsMade env.settings env.known) (λ o. IsOperand env o × (o.alias ≡ x.alias)) (dataset_in x.operand) (λ n. Ok (record { node = n; alias = x.alias })) (dataset-gives env place.Outside x.operand h) (λ n is. (is, refl))

operands-made : (env : Env) (xs : List PartTyped) → AllByRecursion (IsPart env) xs → Gives (λ os. AllByRecursion (IsOperand env) os × (aliases_of (map shape_of os) ≡ aliases_in xs)) (operands_in xs)
operands-made env [] h = (tt, refl)
operands-made env (x ∷ xs) h =
    then (λ o. IsOperand env o × (o.alias ≡ x.alias)) Q (operand_in x) (λ o. operands_in xs >>= λ os. Ok (o ∷ os)) (operand-gives env x h.0)
    (λ o is. then (λ os. AllByRecursion (IsOperand env) os × (aliases_of (map shape_of os) ≡ aliases_in xs)) Q (operands_in xs) (λ os. Ok (o ∷ os)) (operands-made env xs h.1)
    (λ os are. ((is.0, are.0), ap (λ alias. alias ∷ aliases_of (map shape_of os)) is.1 ∙ ap (λ l. x.alias ∷ l) are.1)))
  where
    Q : List OperandTree → Type 0
    Q os = AllByRecursion (IsOperand env) os × (aliases_of (map shape_of os) ≡ aliases_in (x ∷ xs))

pub operands-give : (env : Env) (xs : List PartTyped) → AreJoinParts env xs → Gives (AreJoinOperands env) (operands_in xs)
operands-give env xs are =
    weaker (λ os. AllByRecursion (IsOperand env) os × (aliases_of (map shape_of os) ≡ aliases_in xs)) (AreJoinOperands env) (operands_in xs) (λ os h. record { each = h.0; apart = ap (all_apart same_name) h.1 ∙ are.apart })
    (operands-made env xs are.each)

-- ---- the joined set
all-made : (env : Env) (os : List OperandTree) → AllByRecursion (IsOperand env) os → AreMadeOperands env.settings env.known (operands_of os)
all-made env [] h = tt
all-made env (o ∷ os) h = (h.0, all-made env os h.1)

pub same-operands : (os : List OperandTree) → made.operands_in (operands_of os) ≡ map shape_of os
same-operands [] = refl
same-operands (o ∷ os) = ap (λ l. shape_of o ∷ l) (same-operands os)

pub joined-gives : (env : Env) (kind : JoinKind) (u : Option (List Comp)) (os : List OperandTree) → AreJoinOperands env os → Gives (IsMade env.settings env.known) (joined_node kind u os)
unfolding joined_node
joined-gives env kind u os are =
    node-gives env form (joins.join_form kind (using_names u) (map shape_of os)) (weaker (IsJoin (map shape_of os)) (IsMadeWith env form) (joins.join_form kind (using_names u) (map shape_of os)) (λ s h. let j = subst (λ xs. IsJoin xs s) (sym (same-operands os)) h in (j.0, (all-made env os are.each, j.1, j.2)))
    (join-fits kind (using_names u) (map shape_of os) (lists.mapped (λ o. IsShaped o.structure) shape_of os (lists.weaker (IsOperand env) (λ o. IsShaped (nodes.structure_of o.node)) os (λ o is. made-shaped env.settings env.known o.node is) are.each)) are.apart))
  where
    form : nodes.FormTree
    form = nodes.join (operands_of os) (record { kind = kind; using = using_names u })

    IsJoin : List Operand → Structure → Type 0
    IsJoin xs s = IsShaped s × IsJoined kind (held.structures_of xs) s × IsJoinedFrom kind xs s

pub last-gives : (env : Env) (j : Joined) (n : NodeTree) → IsMade env.settings env.known n → Gives (IsMade env.settings env.known) (last_naming j n)
unfolding last_naming
last-gives env j n is = renamed-gives env n (left_names j (components_in n)) is
