-- The body of a join, step by step.
use Rattle.std.proofs.Common.{◌≡◌, List, [], ◌∷◌, ◌++◌, Option, Some, None, Result, Ok, Err, refl, sym, ap, ◌∙◌}
use Rattle.vtl_lists.specs.Results.{◌>>=◌}
use Rattle.vtl_syntax.specs.Trees as tree
use Rattle.vtl_syntax.specs.Trees.{ClauseTree, Exp, MaybeExp, MaybeTargets, Parts}
use Rattle.vtl_syntax.specs.declared.parts.Comp.{Comp}
use Rattle.vtl_syntax.specs.declared.parts.Keeping.{Keeping}
use Rattle.vtl_syntax.specs.declared.parts.RenamePart.{RenamePart}
use Rattle.vtl_syntax.specs.declared.word_groups.JoinKind.{JoinKind}
use Rattle.vtl_tree.specs.Trees.{NodeTree, OperandTree}
use Rattle.check_faults.specs.declared.rules.Rule.{Rule}
use Rattle.check_operators.specs.Places.{at_points}
use Rattle.check_operators.specs.Typed.{TypedTree, dataset, dataset_in}
use Rattle.check_operators.specs.declared.places.Joined.{Joined}
use Rattle.check_operators.specs.declared.places.Place.{Place}
use Rattle.check_operators.specs.declared.places.Place.TheVariants as place
use Rattle.check_clauses.specs.Clauses.{filter_form, keeping_form, renaming_form}
use Rattle.check_clauses.specs.JoinOperands.{joined_node, joined_of, last_naming, operands_in}
use Rattle.check_expressions.specs.Rulings.{Sight}
use Rattle.check_expressions.specs.Typing.{as_dataset, body_end, clause_typed, filter_step, join_end, keeping_step, parts_typed, renaming_step, targets_step, targets_typed, typed}
use Rattle.check_readings.specs.Bodies.{body_clauses, body_typed, chain_in_turn, clause_among, filters, in_brackets, in_turn, join_in_turn, keepings, renamings, targets}

-- ---- one thing after another
grouped : {A B C E : Type 0} (r : Result A E) (f : A → Result B E) (g : B → Result C E) → (r >>= f) >>= g ≡ r >>= λ x. f x >>= g
grouped (Ok x) f g = refl
grouped (Err e) f g = refl

same_after : {A B E : Type 0} (r : Result A E) (f g : A → Result B E) → ((x : A) → f x ≡ g x) → r >>= f ≡ r >>= g
same_after (Ok x) f g h = h x
same_after (Err e) f g h = refl

ended : {A E : Type 0} (r : Result A E) → r ≡ r >>= λ x. Ok x
ended (Ok x) = refl
ended (Err e) = refl

set_again : (r : Result NodeTree Rule) → as_dataset r >>= dataset_in ≡ r
set_again (Ok n) = refl
set_again (Err e) = refl

-- ---- clauses in turn
pub alike : (env : Sight) (n : NodeTree) (c : ClauseTree) → clause_among env None n c ≡ clause_typed env n c
alike env n (tree.filter e) = refl
alike env n (tree.targets m) = refl
alike env n (tree.keeping k) = refl
alike env n (tree.rename rs) = refl
alike env n (tree.sub ss) = refl
alike env n (tree.pivot id m) = refl
alike env n (tree.unpivot id m) = refl

pub brackets : (env : Sight) (at : Place) (e : Exp) (c : ClauseTree) (cs : List ClauseTree) → typed env at (in_brackets e (c ∷ cs)) ≡ chain_in_turn env e (c ∷ cs)
brackets env at e c [] = same_after (typed env place.Outside e >>= dataset_in) (λ n. as_dataset (clause_typed env n c)) (λ n. as_dataset (in_turn env None n (c ∷ []))) (λ n. ap as_dataset (sym (alike env n c) ∙ ended (clause_among env None n c)))
brackets env at e c (d ∷ cs) =
    brackets env at (tree.with_clause e c) d cs
    ∙ ap (λ r. r >>= rest) (grouped set first dataset_in ∙ same_after set (λ n. first n >>= dataset_in) (λ n. clause_among env None n c) (λ n. set_again (clause_typed env n c) ∙ sym (alike env n c)))
    ∙ grouped set (λ n. clause_among env None n c) rest
    ∙ same_after set (λ n. clause_among env None n c >>= rest) (λ n. as_dataset (in_turn env None n (c ∷ d ∷ cs))) (λ n. sym (grouped (clause_among env None n c) (λ a. in_turn env None a (d ∷ cs)) (λ z. Ok (dataset z))))
  where
    set : Result NodeTree Rule
    set = typed env place.Outside e >>= dataset_in

    first : NodeTree → Result TypedTree Rule
    first n = as_dataset (clause_typed env n c)

    rest : NodeTree → Result TypedTree Rule
    rest n = as_dataset (in_turn env None n (d ∷ cs))

-- ---- the parts of a body
module _ (env : Sight) (j : Joined) where
  some_turns : (n : NodeTree) (xs ys : List ClauseTree) → in_turn env (Some j) n (xs ++ ys) ≡ in_turn env (Some j) n xs >>= λ a. in_turn env (Some j) a ys
  some_turns n [] ys = refl
  some_turns n (x ∷ xs) ys =
      same_after (clause_among env (Some j) n x) (λ a. in_turn env (Some j) a (xs ++ ys)) (λ a. in_turn env (Some j) a xs >>= λ b. in_turn env (Some j) b ys) (λ a. some_turns a xs ys)
      ∙ sym (grouped (clause_among env (Some j) n x) (λ a. in_turn env (Some j) a xs) (λ b. in_turn env (Some j) b ys))

  filtered : (n : NodeTree) (f : MaybeExp) → filter_step env (Some j) n f ≡ in_turn env (Some j) n (filters f)
  filtered n tree.no_exp = refl
  filtered n (tree.some_exp e) = ended (typed env (place.Inside (at_points (Some j) n)) e >>= filter_form n)

  targeted : (n : NodeTree) (m : MaybeTargets) → targets_step env (Some j) n m ≡ in_turn env (Some j) n (targets m)
  targeted n tree.no_targets = refl
  targeted n (tree.some_targets m) = ended (targets_typed env (Some j) n m)

  kept : (n : NodeTree) (k : Option Keeping) → keeping_step (Some j) k n ≡ in_turn env (Some j) n (keepings k)
  kept n None = refl
  kept n (Some k) = ended (keeping_form (Some j) n k)

  renamed : (n : NodeTree) (rs : Option (List RenamePart)) → renaming_step (Some j) rs n ≡ in_turn env (Some j) n (renamings rs)
  renamed n None = refl
  renamed n (Some rs) = ended (renaming_form (Some j) n rs)

  -- clauses in turn, and the last naming
  abbrev rest_of : List ClauseTree → NodeTree → Result TypedTree Rule
  rest_of cs n = as_dataset (in_turn env (Some j) n cs >>= last_naming j)

  -- a part of the body before others
  part_first : (n : NodeTree) (r : Result NodeTree Rule) (xs ys : List ClauseTree) → r ≡ in_turn env (Some j) n xs → r >>= rest_of ys ≡ rest_of (xs ++ ys) n
  part_first n r xs ys e =
      ap (λ q. q >>= rest_of ys) e
      ∙ sym (grouped (in_turn env (Some j) n xs) (λ a. in_turn env (Some j) a ys >>= last_naming j) (λ z. Ok (dataset z)))
      ∙ ap as_dataset (sym (grouped (in_turn env (Some j) n xs) (λ a. in_turn env (Some j) a ys) (last_naming j)))
      ∙ ap (λ q. as_dataset (q >>= last_naming j)) (sym (some_turns n xs ys))

  end_of : (n : NodeTree) (k : Option Keeping) (rs : Option (List RenamePart)) → body_end (Some j) k rs n ≡ rest_of (keepings k ++ renamings rs) n
  end_of n k rs =
      grouped (keeping_step (Some j) k n) (renaming_step (Some j) rs) (λ z. as_dataset (last_naming j z))
      ∙ same_after (keeping_step (Some j) k n) (λ a. renaming_step (Some j) rs a >>= λ z. as_dataset (last_naming j z)) (rest_of (renamings rs)) last
      ∙ part_first n (keeping_step (Some j) k n) (keepings k) (renamings rs) (kept n k)
    where
      last : (a : NodeTree) → renaming_step (Some j) rs a >>= (λ z. as_dataset (last_naming j z)) ≡ rest_of (renamings rs) a
      last a = sym (grouped (renaming_step (Some j) rs a) (last_naming j) (λ z. Ok (dataset z))) ∙ ap (λ q. as_dataset (q >>= last_naming j)) (renamed a rs)

  targets_of : (n : NodeTree) (m : MaybeTargets) (k : Option Keeping) (rs : Option (List RenamePart)) → join_end env (Some j) m k rs n ≡ rest_of (targets m ++ (keepings k ++ renamings rs)) n
  targets_of n m k rs =
      same_after (targets_step env (Some j) n m) (body_end (Some j) k rs) (rest_of (keepings k ++ renamings rs)) (λ a. end_of a k rs) ∙ part_first n (targets_step env (Some j) n m) (targets m) (keepings k ++ renamings rs) (targeted n m)

  whole : (n : NodeTree) (f : MaybeExp) (m : MaybeTargets) (k : Option Keeping) (rs : Option (List RenamePart)) → filter_step env (Some j) n f >>= join_end env (Some j) m k rs ≡ rest_of (body_clauses f m k rs) n
  whole n f m k rs =
      same_after (filter_step env (Some j) n f) (join_end env (Some j) m k rs) (rest_of (targets m ++ (keepings k ++ renamings rs))) (λ a. targets_of a m k rs)
      ∙ part_first n (filter_step env (Some j) n f) (filters f) (targets m ++ (keepings k ++ renamings rs)) (filtered n f)

-- ---- the join
pub body : (env : Sight) (at : Place) (kind : JoinKind) (ps : Parts) (u : Option (List Comp)) (f : MaybeExp) (m : MaybeTargets) (k : Option Keeping) (rs : Option (List RenamePart)) → typed env at (tree.join kind ps u f m k rs) ≡ join_in_turn env kind ps u (body_clauses f m k rs)
body env at kind ps u f m k rs = same_after (parts_typed env [] ps >>= operands_in) walked (body_typed env kind u (body_clauses f m k rs)) one
  where
    walked : List OperandTree → Result TypedTree Rule
    walked os = (joined_node kind u os >>= λ n. filter_step env (Some (joined_of kind os)) n f) >>= join_end env (Some (joined_of kind os)) m k rs

    one : (os : List OperandTree) → walked os ≡ body_typed env kind u (body_clauses f m k rs) os
    one os =
        let j = joined_of kind os in
        grouped (joined_node kind u os) (λ n. filter_step env (Some j) n f) (join_end env (Some j) m k rs)
        ∙ same_after (joined_node kind u os) (λ n. filter_step env (Some j) n f >>= join_end env (Some j) m k rs) (rest_of env j (body_clauses f m k rs)) (λ n. whole env j n f m k rs)
