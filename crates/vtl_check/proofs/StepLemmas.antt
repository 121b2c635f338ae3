-- The statements of a script from a place on, one after the other.
use Rattle.std.proofs.Common.{◌≡◌, ℕ, suc, ◌+◌, ◌≤◌, ◌<◌, List, [], ◌∷◌, drop, get_or, length, map, Result, Ok, Err, refl, sym, ap, ◌∙◌, arith}
use Rattle.std.proofs.lemmas.List.{drop_all, drop_more}
use Rattle.vtl_lists.specs.Results.{◌>>=◌}
use Rattle.vtl_syntax.specs.Trees as tree
use Rattle.vtl_syntax.specs.Trees.{ScriptTree, StatementTree}
use Rattle.vtl_syntax.specs.View.{statement_tree}
use Rattle.vtl_syntax.specs.declared.statements.Statement.{Statement}
use Rattle.vtl_tree.specs.Trees.{NodeTree}
use Rattle.check_faults.specs.Answers.{Answers}
use Rattle.check_faults.specs.Rules.{number_of, ruled}
use Rattle.check_faults.specs.declared.error.TypeErr.{TypeErr}
use Rattle.check_faults.specs.declared.error.TypeErr.TheVariants as type
use Rattle.check_faults.specs.declared.rules.Rule.{Rule}
use Rattle.check_faults.specs.declared.rules.Rule.TheVariants as rule
use Rattle.check_rules.specs.Definitions.{datapoint_defined, hierarchical_defined}
use Rattle.vtl_check.specs.Script.{Checks, assigned, at, defined, fault_at, is_taken, is_too_much, statements_typed}
use Rattle.vtl_check.specs.Steps.{Walked, behind_result, behind_ruleset, counted_ruleset, ruleset_typed, statement_typed}

abbrev typed_behind : ℕ → ScriptTree → Walked → Result (List NodeTree) (ℕ × ℕ)
typed_behind i ss w = statements_typed w.standing i w.before w.nodes ss

then_at : {A B C : Type 0} (i : ℕ) (r : Result A Rule) (g : A → B) (f : B → Result C (ℕ × ℕ)) → at i r (λ x. f (g x)) ≡ at i (r >>= λ x. Ok (g x)) f
then_at i (Ok x) g f = refl
then_at i (Err broken) g f = refl

first_typed : (w : Walked) (i : ℕ) (s : StatementTree) (ss : ScriptTree) → typed_behind i (s ∷ ss) w ≡ at i (statement_typed w s) (typed_behind (suc i) ss)
first_typed w i (tree.assignment name kind e) ss = then_at i (assigned w.standing w.before name e) (behind_result w name) (typed_behind (suc i) ss)
first_typed w i (tree.datapoint name variables rules last) ss =
    then_at i (defined w.standing w.before name (length rules) (datapoint_defined w.standing.settings variables rules))
    (λ u. behind_ruleset w name (length rules) (tree.datapoint name variables rules last)) (typed_behind (suc i) ss)
first_typed w i (tree.hierarchical name item rules last) ss =
    then_at i (defined w.standing w.before name (length rules) (hierarchical_defined w.standing.settings rules))
    (λ u. behind_ruleset w name (length rules) (tree.hierarchical name item rules last)) (typed_behind (suc i) ss)

-- a ruleset with a new name, which is what a ruleset has to be
pub ruleset_counted : (w : Walked) (name : List ℕ) (n rules : ℕ) (fits : Result (Unit {0}) Rule) (definition : StatementTree)
    → ruled ((rule.NameTaken, is_taken w.standing name) ∷ []) (tt {0}) ≡ Ok tt → fits ≡ Ok tt → n ≡ rules → counted_ruleset w name n definition ≡ ruleset_typed w name rules fits definition
unfolding defined
ruleset_counted w name n rules fits definition new fit many =
    let after : Result (Unit {0}) Rule → Result (Unit {0}) Rule → ℕ → Result Walked Rule = λ taken r k. (taken >>= λ u. r >>= λ u. ruled ((rule.TooManyNodes, is_too_much w.before k) ∷ []) (tt {0})) >>= λ u. Ok (behind_ruleset w name rules definition) in
    ap (λ k. ruled ((rule.TooManyNodes, is_too_much w.before k) ∷ []) (tt {0}) >>= λ u. Ok (behind_ruleset w name k definition)) many
    ∙ sym (ap (λ taken. after taken fits rules) new ∙ ap (λ r. after (Ok tt) r rules) fit)

-- the typing of the statements from a place on
abbrev pub typed_from : List Statement → ℕ → Walked → Result (List NodeTree) (ℕ × ℕ)
typed_from ss i w = typed_behind (i + 1) (map statement_tree (drop i ss)) w

module _ (ss : List Statement) (i : ℕ) (s : Statement) (within : i < length ss) (s_is : s ≡ get_or ss i s) (w : Walked) where
  one_typed : typed_from ss i w ≡ at (i + 1) (statement_typed w (statement_tree s)) (typed_from ss (i + 1))
  one_typed =
      ap (λ (l : List Statement). typed_behind (i + 1) (map statement_tree l) w) (drop_more ss i s within ∙ ap (λ (x : Statement). x ∷ drop (i + 1) ss) (sym s_is))
      ∙ first_typed w (i + 1) (statement_tree s) (map statement_tree (drop (i + 1) ss))
      ∙ ap (λ n. at (i + 1) (statement_typed w (statement_tree s)) (typed_behind n (map statement_tree (drop (i + 1) ss)))) (omega arith)

  -- the rest is typed behind the statement
  pub typed_on : (v : Walked) → statement_typed w (statement_tree s) ≡ Ok v → typed_from ss i w ≡ typed_from ss (i + 1) v
  typed_on v is = one_typed ∙ ap (λ r. at (i + 1) r (typed_from ss (i + 1))) is

  -- or the statement has the first fault
  pub typed_not : (broken : Rule) → statement_typed w (statement_tree s) ≡ Err broken → typed_from ss i w ≡ Err (i + 1, number_of broken)
  typed_not broken is = one_typed ∙ ap (λ r. at (i + 1) r (typed_from ss (i + 1))) is

-- behind the last statement
pub typed_all : (ss : List Statement) (i : ℕ) (w : Walked) → length ss ≤ i → typed_from ss i w ≡ Ok w.nodes
typed_all ss i w over = ap (λ (l : List Statement). typed_behind (i + 1) (map statement_tree l) w) (drop_all i ss over)

-- ---- at an answer of the program
pub goes_on : (ss : List Statement) (i : ℕ) (s : Statement) → i < length ss → s ≡ get_or ss i s → (w v : Walked) (u : Unit {0}) (typing : Result (List NodeTree) (ℕ × ℕ))
    → Answers (λ (done : Unit {0}). v) (Ok u) (statement_typed w (statement_tree s)) → typed_from ss i w ≡ typing → typed_from ss (i + 1) v ≡ typing
goes_on ss i s within s_is w v u typing is e = sym (typed_on ss i s within s_is w v is) ∙ e

pub stops : {A : Type 0} (view : A → List NodeTree) (ss : List Statement) (i : ℕ) (s : Statement) → i < length ss → s ≡ get_or ss i s → (w v : Walked) (error : TypeErr) (typing : Result (List NodeTree) (ℕ × ℕ))
    → Answers (λ (done : Unit {0}). v) (Err error) (statement_typed w (statement_tree s)) → typed_from ss i w ≡ typing → Checks view (Err (fault_at (i + 1) error)) typing
stops view ss i s within s_is w v (type.Broken broken) typing is e = sym e ∙ typed_not ss i s within s_is w broken is
stops view ss i s within s_is w v type.OutOfMemory typing is e = tt
