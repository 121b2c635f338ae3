-- The words of joins: those of their operands, whose aliases are names, and those of their bodies. At its end a body gives back the
-- names of its operands.
use Rattle.std.proofs.Common.{◌≡◌, ℕ, inr, true, false, List, [], ◌∷◌, ◌++◌, Option, Some, None, Result, Ok, refl, sym, ap}
use Rattle.std.proofs.lemmas.Bool.{false≢true}
use Rattle.std.specs.List.{AllByRecursion, filter}
use Rattle.std.specs.Option.{IfSome}
use Rattle.vtl_lists.specs.Results.{◌>>=◌}
use Rattle.vtl_lists.proofs.Alls.{all_append}
use Rattle.vtl_decimal.specs.Settings.{Settings}
use Rattle.vtl_text.specs.Words.{is_name}
use Rattle.vtl_syntax.specs.Trees as tree
use Rattle.vtl_syntax.specs.Trees.{Exp, MaybeExp, MaybeTargets}
use Rattle.vtl_syntax.specs.Written as written
use Rattle.vtl_syntax.specs.declared.parts.Comp.{Comp}
use Rattle.vtl_syntax.specs.declared.parts.Comp.TheVariants as comp
use Rattle.vtl_syntax.specs.declared.parts.Keeping.{Keeping}
use Rattle.vtl_syntax.specs.declared.parts.RenamePart.{RenamePart}
use Rattle.vtl_syntax.specs.declared.word_groups.JoinKind.{JoinKind}
use Rattle.vtl_tree.specs.Trees as nodes
use Rattle.vtl_tree.specs.Trees.{NodeTree, OperandTree, operands_of}
use Rattle.vtl_tree.specs.Joins.{held_names, last_renamings}
use Rattle.check_faults.specs.Rules.{ruled}
use Rattle.check_faults.specs.declared.rules.Rule.{Rule}
use Rattle.check_faults.specs.declared.rules.Rule.TheVariants as rule
use Rattle.vtl_tree.specs.Names.{is_among}
use Rattle.vtl_tree.specs.declared.renaming.Renaming.{Renaming}
use Rattle.check_shapes.specs.Clauses.{rename_form}
use Rattle.check_clauses.specs.Clauses.{filter_form, renamed_of}
use Rattle.check_clauses.specs.JoinOperands.{PartTyped, alias_of, aliases_in, is_left, joined_node, joined_of, last_naming, left_names, new_alias, operand_in, operands_in, own_alias, using_names, with_part}
use Rattle.check_operators.specs.Places.{at_points}
use Rattle.check_operators.specs.Typed.{TypedTree, components_in, dataset_in}
use Rattle.check_expressions.specs.Rulings.{Sight}
use Rattle.check_expressions.specs.Typing.{as_dataset, body_end, filter_step, filtered_join, join_end, keeping_step, last_step, renaming_step, targets_step, typed}
use Rattle.check_operators.specs.declared.places.Joined.{Joined}
use Rattle.check_operators.specs.declared.places.Place.TheVariants as place
use Rattle.check_laws.specs.Gives.{Gives}
use Rattle.check_laws.proofs.Steps.{after, tested, then}
use Rattle.check_laws.proofs.Joins.{same-operands}
use Rattle.result_laws.proofs.WordedClauses.{clause_at, filter_at, keeping_at, renaming_at, targets_at}
use Rattle.result_laws.proofs.WordedOperators.{dataset_in_worded, tree_step}
use Rattle.result_laws.proofs.Words.{IsAt, IsTreeWorded, IsWorded, OperandsHaveWords, from_outside}

-- ---- operands
abbrev pub IsPart : Settings → PartTyped → Type 0
IsPart p x = IsTreeWorded p x.operand × (is_name x.alias ≡ true)

abbrev IsOperand : Settings → OperandTree → Type 0
IsOperand p o = IsWorded p o.node × (is_name o.alias ≡ true)

alias_named : (done : List PartTyped) (e : Exp) (a : Option (List ℕ)) → written.IsWrittenExp e → IfSome a written.IsName → Gives written.IsName (new_alias done e a)
alias_named done e a we wa = then written.IsName written.IsName (alias_of e a) (λ alias. ruled ((rule.RepeatedName, is_among alias (aliases_in done)) ∷ []) alias) (go a wa) (λ alias h. tested written.IsName ((rule.RepeatedName, is_among alias (aliases_in done)) ∷ []) alias (λ passed. h))
  where
    own : (e : Exp) → written.IsWrittenExp e → Gives written.IsName (own_alias e)
    own (tree.component (comp.Name name)) w = w
    own e w = tt

    go : (a : Option (List ℕ)) → IfSome a written.IsName → Gives written.IsName (alias_of e a)
    go (Some alias) h = h
    go None h = own e we

pub part_worded : (p : Settings) (done : List PartTyped) (e : Exp) (a : Option (List ℕ)) (x : TypedTree) → AllByRecursion (IsPart p) done → written.IsWrittenExp e → IfSome a written.IsName → IsTreeWorded p x → Gives (AllByRecursion (IsPart p)) (with_part done e a x)
unfolding with_part
part_worded p done e a x hd we wa h =
    then written.IsName (AllByRecursion (IsPart p)) (new_alias done e a) (λ alias. Ok (done ++ record { operand = x; alias = alias } ∷ [])) (alias_named done e a we wa)
    (λ alias named. all_append (IsPart p) done (record { operand = x; alias = alias } ∷ []) hd ((h, named), tt))

operand_worded : (p : Settings) (x : PartTyped) → IsPart p x → Gives (IsOperand p) (operand_in x)
operand_worded p x h = then (IsWorded p) (IsOperand p) (dataset_in x.operand) (λ n. Ok (record { node = n; alias = x.alias })) (dataset_in_worded p x.operand h.0) (λ n k. (k, h.1))

operands_worded : (p : Settings) (xs : List PartTyped) → AllByRecursion (IsPart p) xs → Gives (AllByRecursion (IsOperand p)) (operands_in xs)
operands_worded p [] h = tt
operands_worded p (x ∷ xs) h =
    then (IsOperand p) (AllByRecursion (IsOperand p)) (operand_in x) (λ o. operands_in xs >>= λ os. Ok (o ∷ os)) (operand_worded p x h.0)
    (λ o k. then (AllByRecursion (IsOperand p)) (AllByRecursion (IsOperand p)) (operands_in xs) (λ os. Ok (o ∷ os)) (operands_worded p xs h.1) (λ os all. (k, all)))

all_words : (p : Settings) (os : List OperandTree) → AllByRecursion (IsOperand p) os → OperandsHaveWords p (operands_of os)
all_words p [] h = tt
all_words p (o ∷ os) h = (h.0.0, h.0.1, all_words p os h.1)

-- ---- bodies
-- the names that the join gives back
abbrev given_back : Joined → List Renaming
given_back j = last_renamings j.kind j.held j.operands

joined_worded : (p : Settings) (kind : JoinKind) (u : Option (List Comp)) (os : List OperandTree) → AllByRecursion (IsOperand p) os → Gives (IsAt p true (given_back (joined_of kind os))) (joined_node kind u os)
unfolding joined_node
joined_worded p kind u os h =
    clause_at p true (given_back (joined_of kind os)) (nodes.join (operands_of os) (record { kind = kind; using = using_names u })) _
    (all_words p os h, λ e. ap (λ ds. last_renamings kind (held_names kind ds) ds) (same-operands os))

last_worded : (p : Settings) (j : Joined) (n : NodeTree) → IsAt p true (given_back j) n → Gives (IsWorded p) (last_naming j n)
unfolding last_naming
last_worded p j n h = from_outside p (renamed_of n (left_names j (components_in n))) (clause_at p false [] (nodes.rename n (left_names j (components_in n))) (rename_form (left_names j (components_in n)) (components_in n)) (inr (h.0, ap (filter (is_left (components_in n))) (sym (h.1 refl))), λ e. absurd (false≢true e)))

end_worded : (p : Settings) (j : Joined) (k : Option Keeping) (rs : Option (List RenamePart)) (n : NodeTree) → IfSome rs (written.SomeAll written.IsRenaming) → IsAt p true (given_back j) n → Gives (IsTreeWorded p) (body_end (Some j) k rs n)
end_worded p j k rs n w h =
    then (IsAt p true (given_back j)) (IsTreeWorded p) (keeping_step (Some j) k n >>= renaming_step (Some j) rs) (λ z. as_dataset (last_step (Some j) z)) (then (IsAt p true (given_back j)) (IsAt p true (given_back j)) (keeping_step (Some j) k n) (renaming_step (Some j) rs) (kept k) (renamed rs w))
    (λ z hz. tree_step p (last_naming j z) (last_worded p j z hz))
  where
    kept : (k : Option Keeping) → Gives (IsAt p true (given_back j)) (keeping_step (Some j) k n)
    kept None = h
    kept (Some x) = keeping_at p true (given_back j) (Some j) n x h

    renamed : (rs : Option (List RenamePart)) → IfSome rs (written.SomeAll written.IsRenaming) → (z : NodeTree) → IsAt p true (given_back j) z → Gives (IsAt p true (given_back j)) (renaming_step (Some j) rs z)
    renamed None w z hz = hz
    renamed (Some rs) w z hz = renaming_at p true (given_back j) (Some j) z rs w.1 hz

pub joins_worded : (env : Sight) (kind : JoinKind) (parts : Result (List PartTyped) Rule) (u : Option (List Comp)) (f : MaybeExp) (m : MaybeTargets) (k : Option Keeping) (rs : Option (List RenamePart)) → Gives (AllByRecursion (IsPart env.settings)) parts → written.IsWrittenStep m → IfSome rs (written.SomeAll written.IsRenaming) → Gives (IsTreeWorded env.settings) (parts >>= operands_in >>= λ os. filtered_join env (Some (joined_of kind os)) f kind u os >>= join_end env (Some (joined_of kind os)) m k rs)
joins_worded env kind parts u f m k rs hp wm wr =
    then (AllByRecursion (IsOperand env.settings)) (IsTreeWorded env.settings) (parts >>= operands_in) (λ os. filtered_join env (Some (joined_of kind os)) f kind u os >>= join_end env (Some (joined_of kind os)) m k rs) (then (AllByRecursion (IsPart env.settings)) (AllByRecursion (IsOperand env.settings)) parts operands_in hp (operands_worded env.settings))
    (λ os hos. then (Body os) (IsTreeWorded env.settings) (filtered_join env (Some (joined_of kind os)) f kind u os) (join_end env (Some (joined_of kind os)) m k rs)
    (then (Body os) (Body os) (joined_node kind u os) (λ n. filter_step env (Some (joined_of kind os)) n f) (joined_worded env.settings kind u os hos) (filtered os f))
    (λ a h. then (Body os) (IsTreeWorded env.settings) (targets_step env (Some (joined_of kind os)) a m) (body_end (Some (joined_of kind os)) k rs) (stepped os m wm a h) (λ z hz. end_worded env.settings (joined_of kind os) k rs z wr hz)))
  where
    Body : List OperandTree → NodeTree → Type 0
    Body os n = IsAt env.settings true (given_back (joined_of kind os)) n

    filtered : (os : List OperandTree) (f : MaybeExp) (n : NodeTree) → IsAt env.settings true (given_back (joined_of kind os)) n → Gives (Body os) (filter_step env (Some (joined_of kind os)) n f)
    filtered os tree.no_exp n h = h
    filtered os (tree.some_exp e) n h = after (Body os) (typed env (place.Inside (at_points (Some (joined_of kind os)) n)) e) (filter_form n) (λ x. filter_at env.settings true (given_back (joined_of kind os)) n x h)

    stepped : (os : List OperandTree) (m : MaybeTargets) → written.IsWrittenStep m → (a : NodeTree) → IsAt env.settings true (given_back (joined_of kind os)) a → Gives (Body os) (targets_step env (Some (joined_of kind os)) a m)
    stepped os tree.no_targets w a h = h
    stepped os (tree.some_targets x) w a h = targets_at env.settings true (given_back (joined_of kind os)) env (Some (joined_of kind os)) a x w h
