-- Operators on typed operands.
use Rattle.std.proofs.Common.{◌≡◌, ℕ, Bool, true, false, cond, ◌&&◌, ◌||◌, List, [], ◌∷◌, ◌++◌, length, map, Option, Some, None, option_map, not, Result, Ok, Err, refl, sym, ap, ◌∙◌, subst, append_assoc, arith}
use Rattle.std.proofs.lemmas.Bool.{eqb-true, false≢true}
use Rattle.std.proofs.lemmas.List.{append-nil}
use Rattle.std.specs.List.{AllByRecursion}
use Rattle.std.specs.Prelude.{◌==◌}
use Rattle.vtl_decimal.specs.Settings.{Settings}
use Rattle.vtl_cell.specs.Kinds.{is_null}
use Rattle.vtl_cell.specs.Profile.{IsOfProfile}
use Rattle.vtl_cell.specs.ScalarKinds.{common_kind, is_set_of, kinds_of, truth_of_alike, truth_of_set}
use Rattle.vtl_cell.specs.declared.cell.Cell.{Cell}
use Rattle.vtl_cell.specs.declared.kind.Kind.{Kind}
use Rattle.vtl_cell.specs.declared.kind.Kind.TheVariants as k
use Rattle.vtl_cell.specs.declared.operator.ScalarOp.{ScalarOp}
use Rattle.vtl_cell.specs.declared.operator.ScalarOp.TheVariants as op
use Rattle.vtl_lists.specs.Results.{◌>>=◌}
use Rattle.vtl_lists.proofs.Alls.{all_append}
use Rattle.check_faults.specs.declared.rules.Rule.{Rule}
use Rattle.check_faults.specs.declared.rules.Rule.TheVariants as rule
use Rattle.vtl_syntax.specs.declared.parts.Literal.{Literal}
use Rattle.vtl_tree.specs.CompExp.{CompExp, CompExps, const, no_comp_exps}
use Rattle.vtl_tree.specs.Structure.{columns_of}
use Rattle.vtl_tree.specs.View.{comp_exps_of}
use Rattle.vtl_tree.specs.declared.structure.Component.{Component}
use Rattle.vtl_tree.specs.declared.structure.Structure.{Structure}
use Rattle.vtl_tree.specs.Trees.{FormTree, NodeTree, choose, measures, pair, structure_of}
use Rattle.vtl_tree.specs.Measures.{any_unmet}
use Rattle.check_shapes.specs.Measures.{measured_form}
use Rattle.check_shapes.specs.Pairs as pairs
use Rattle.vtl_tree.specs.declared.choices.Choice.TheVariants as choice
use Rattle.check_values.specs.Calls.{call_form}
use Rattle.check_values.specs.Literals.{set_typed}
use Rattle.check_operators.specs.Operators.{Operands, between_values, by_operands, first_fits, given_structure, if_placed, is_binary, is_choice, membership, no_operands, of_two, on_choice, on_datasets, on_measures, on_operands, on_pair, operator_form, outcome_of, parted, set_form, takes_dataset, with_operand, with_value}
use Rattle.check_operators.specs.Typed.{TypedTree, value, dataset, beside_kinds, components_in, made_of}
use Rattle.check_operators.specs.Places.{Env}
use Rattle.check_operators.specs.declared.places.Place.{Place}
use Rattle.check_operators.specs.declared.places.Place.TheVariants as place
use Rattle.vtl_meaning.specs.Literals.{HasLiterals, all_pass, are_literals, is_member}
use Rattle.vtl_meaning.specs.Made.{IsChoice, IsMeasured, IsPaired, IsTyped}
use Rattle.vtl_scripts.specs.Made.{IsMade, IsMadeForm}
use Rattle.vtl_meaning.specs.Shapes as shapes
use Rattle.vtl_meaning.specs.Shapes.{IsShaped}
use Rattle.check_laws.specs.Gives.{Gives}
use Rattle.check_laws.specs.WellTyped.{IsValueAt, IsWellTyped}
use Rattle.check_laws.proofs.Chosen.{chosen-fits}
use Rattle.check_laws.proofs.Expressions.{over-any, over-each}
use Rattle.vtl_meaning.proofs.Lists as lists
use Rattle.check_laws.proofs.Inner.{made-shaped}
use Rattle.check_laws.proofs.Literals.{IsMember, set-gives}
use Rattle.check_laws.proofs.Measured.{IsGivenBy, measured-fits}
use Rattle.check_laws.proofs.Paired.{paired-fits}
use Rattle.check_laws.proofs.Steps.{tested-then, then, weaker}
use Rattle.check_laws.proofs.Values.{value-tree, values-give}

-- ---- what operators give of measures
truth-of : {A : Type 0} (o : Option A) (kind : Kind) → option_map (λ x. k.Bool) o ≡ Some kind → kind ≡ k.Bool
truth-of None kind e = cc
truth-of (Some x) kind e = cc

truth-if : (b : Bool) (kind : Kind) → cond b (Some k.Bool) None ≡ Some kind → kind ≡ k.Bool
truth-if true kind e = cc
truth-if false kind e = cc

-- an operator that gives a truth of two operands of one kind, and of no others
two-given : (f : List Kind → Option Kind) → f [] ≡ None → ((a : Kind) → f (a ∷ []) ≡ None) → ((a b : Kind) → f (a ∷ b ∷ []) ≡ truth_of_alike (a ∷ b ∷ [])) → ((a b x : Kind) (xs : List Kind) → f (a ∷ b ∷ x ∷ xs) ≡ None) → (kinds : List Kind) (kind : Kind) → f kinds ≡ Some kind → kind ≡ k.Bool
two-given f none one two more [] kind e = let no : None ≡ Some kind = sym none ∙ e in cc
two-given f none one two more (a ∷ []) kind e = let no : None ≡ Some kind = sym (one a) ∙ e in cc
two-given f none one two more (a ∷ b ∷ []) kind e = truth-of (common_kind (a ∷ b ∷ [])) kind (sym (two a b) ∙ e)
two-given f none one two more (a ∷ b ∷ x ∷ xs) kind e = let no : None ≡ Some kind = sym (more a b x xs) ∙ e in cc

-- an operator that gives a truth of an operand and a set
set-given : (f : List Kind → Option Kind) → f [] ≡ None → ((a : Kind) → f (a ∷ []) ≡ None) → ((a x : Kind) (xs : List Kind) → f (a ∷ x ∷ xs) ≡ truth_of_set a (x ∷ xs)) → (kinds : List Kind) (kind : Kind) → f kinds ≡ Some kind → kind ≡ k.Bool
set-given f none one more [] kind e = let no : None ≡ Some kind = sym none ∙ e in cc
set-given f none one more (a ∷ []) kind e = let no : None ≡ Some kind = sym (one a) ∙ e in cc
set-given f none one more (a ∷ x ∷ xs) kind e = truth-if (is_set_of a (x ∷ xs)) kind (sym (more a x xs) ∙ e)

between-given : (kinds : List Kind) (kind : Kind) → kinds_of op.Between kinds ≡ Some kind → kind ≡ k.Bool
between-given [] kind e = cc
between-given (a ∷ []) kind e = cc
between-given (a ∷ b ∷ []) kind e = cc
between-given (a ∷ b ∷ x ∷ []) kind e = truth-of (common_kind (a ∷ b ∷ x ∷ [])) kind e
between-given (a ∷ b ∷ x ∷ y ∷ xs) kind e = cc

null-given : (kinds : List Kind) (kind : Kind) → kinds_of op.IsNull kinds ≡ Some kind → kind ≡ k.Bool
null-given [] kind e = cc
null-given (a ∷ []) kind e = cc
null-given (a ∷ x ∷ xs) kind e = cc

pub outcome-given : (o : ScalarOp) → IsGivenBy (outcome_of o) o
outcome-given op.Equal = two-given (kinds_of op.Equal) refl (λ a. refl) (λ a b. refl) (λ a b x xs. refl)
outcome-given op.NotEqual = two-given (kinds_of op.NotEqual) refl (λ a. refl) (λ a b. refl) (λ a b x xs. refl)
outcome-given op.Less = two-given (kinds_of op.Less) refl (λ a. refl) (λ a b. refl) (λ a b x xs. refl)
outcome-given op.LessOrEqual = two-given (kinds_of op.LessOrEqual) refl (λ a. refl) (λ a b. refl) (λ a b x xs. refl)
outcome-given op.Greater = two-given (kinds_of op.Greater) refl (λ a. refl) (λ a b. refl) (λ a b x xs. refl)
outcome-given op.GreaterOrEqual = two-given (kinds_of op.GreaterOrEqual) refl (λ a. refl) (λ a b. refl) (λ a b x xs. refl)
outcome-given op.Between = between-given
outcome-given op.In = set-given (kinds_of op.In) refl (λ a. refl) (λ a x xs. refl)
outcome-given op.NotIn = set-given (kinds_of op.NotIn) refl (λ a. refl) (λ a x xs. refl)
outcome-given op.IsNull = null-given
outcome-given o = tt

-- typing and meaning tell the same of it
same-outcome : (o : ScalarOp) → outcome_of o ≡ shapes.outcome_of o
same-outcome op.Equal = refl
same-outcome o = refl

-- ---- operands that have to be literals
-- the values among operands
abbrev pub values_in : List TypedTree → List CompExp
values_in [] = []
values_in (value e ∷ xs) = e ∷ values_in xs
values_in (dataset n ∷ xs) = values_in xs

-- the operands behind the first are literals where the operator asks for them
abbrev pub AreFit : ScalarOp → List TypedTree → Type 0
AreFit o [] = are_literals o no_comp_exps ≡ true
AreFit o (x ∷ xs) = are_literals o (comp_exps_of (values_in xs)) ≡ true

-- these are the values behind the first operand, where that is a value, or where a data set stands before all values
abbrev AreBehind : List CompExp → List NodeTree → List CompExp → List CompExp → Type 0
AreBehind vs [] [] after' = ⊥
AreBehind vs [] (e ∷ es) after' = es ≡ vs
AreBehind vs (n ∷ ns) [] after' = after' ≡ vs
AreBehind vs (n ∷ ns) (e ∷ es) after' = Unit {0}

abbrev AreBehindIn : List CompExp → Operands → Type 0
AreBehindIn vs o = AreBehind vs o.datasets o.before o.after

value-behind : (vs : List CompExp) (e : CompExp) (ns : List NodeTree) (before after' : List CompExp) → AreBehind vs ns before after' → AreBehindIn (vs ++ e ∷ []) (with_value e before ns after')
value-behind vs e [] [] after' h = absurd h
value-behind vs e [] (x ∷ xs) after' h = ap (λ l. l ++ e ∷ []) h
value-behind vs e (n ∷ ns) [] after' h = ap (λ l. l ++ e ∷ []) h
value-behind vs e (n ∷ ns) (x ∷ xs) after' h = tt

dataset-behind : (vs : List CompExp) (n : NodeTree) (ns : List NodeTree) (before after' : List CompExp) → AreBehind vs ns before after' → AreBehind vs (ns ++ n ∷ []) before after'
dataset-behind vs n [] [] after' h = absurd h
dataset-behind vs n [] (x ∷ xs) after' h = tt
dataset-behind vs n (m ∷ ns) [] after' h = h
dataset-behind vs n (m ∷ ns) (x ∷ xs) after' h = tt

all-behind : (vs : List CompExp) (o : Operands) (xs : List TypedTree) → AreBehindIn vs o → AreBehindIn (vs ++ values_in xs) (parted o xs)
all-behind vs o [] h = subst (λ l. AreBehindIn l o) (sym (append-nil vs)) h
all-behind vs o (value e ∷ xs) h =
    subst (λ l. AreBehindIn l (parted (with_operand o (value e)) xs)) (append_assoc vs (e ∷ []) (values_in xs))
    (all-behind (vs ++ e ∷ []) (with_operand o (value e)) xs (value-behind vs e o.datasets o.before o.after h))
all-behind vs o (dataset n ∷ xs) h = all-behind vs (with_operand o (dataset n)) xs (dataset-behind vs n o.datasets o.before o.after h)

first-behind : (x : TypedTree) (xs : List TypedTree) → AreBehindIn (values_in xs) (parted no_operands (x ∷ xs))
first-behind (value e) xs = all-behind [] (with_operand no_operands (value e)) xs refl
first-behind (dataset n) xs = all-behind [] (with_operand no_operands (dataset n)) xs refl

-- the same of operands that are parted
abbrev ArePartedFit : ScalarOp → List NodeTree → List CompExp → List CompExp → Type 0
ArePartedFit o [] before after' = HasLiterals o (comp_exps_of before)
ArePartedFit o (n ∷ ns) [] after' = are_literals o (comp_exps_of after') ≡ true
ArePartedFit o (n ∷ ns) (e ∷ es) after' = Unit {0}

fit-behind : (o : ScalarOp) (vs : List CompExp) (ns : List NodeTree) (before after' : List CompExp) → AreBehind vs ns before after' → are_literals o (comp_exps_of vs) ≡ true → ArePartedFit o ns before after'
fit-behind o vs [] [] after' h l = absurd h
fit-behind o vs [] (e ∷ es) after' h l = subst (λ es. are_literals o (comp_exps_of es) ≡ true) (sym h) l
fit-behind o vs (n ∷ ns) [] after' h l = subst (λ es. are_literals o (comp_exps_of es) ≡ true) (sym h) l
fit-behind o vs (n ∷ ns) (e ∷ es) after' h l = tt

parted-fits : (o : ScalarOp) (xs : List TypedTree) → AreFit o xs → ArePartedFit o (parted no_operands xs).datasets (parted no_operands xs).before (parted no_operands xs).after
parted-fits o [] l = l
parted-fits o (x ∷ xs) l = let all = parted no_operands (x ∷ xs) in fit-behind o (values_in xs) all.datasets all.before all.after (first-behind x xs) l

-- an operator between two operands asks for no literals
binary-fits : (o : ScalarOp) → is_binary o ≡ true → (es : CompExps) → are_literals o es ≡ true
binary-fits op.Round e es = absurd (false≢true e)
binary-fits op.Truncate e es = absurd (false≢true e)
binary-fits op.Substring e es = absurd (false≢true e)
binary-fits op.In e es = absurd (false≢true e)
binary-fits op.NotIn e es = absurd (false≢true e)
binary-fits op.PeriodShift e es = absurd (false≢true e)
binary-fits op.PeriodFrequency e es = absurd (false≢true e)
binary-fits o e es = refl

-- nor does one that takes a data set behind values
none : (n : ℕ) → ((n == 0) || false) ≡ true → n ≡ 0
none n e = eqb-true n 0 (go (n == 0) e)
  where
    go : (b : Bool) → (b || false) ≡ true → b ≡ true
    go true e = refl
    go false e = e

behind-fits : (o : ScalarOp) (n : ℕ) → (n ≡ 0 → ⊥) → takes_dataset o n ≡ true → (es : CompExps) → are_literals o es ≡ true
behind-fits op.Round n some e es = absurd (some (none n e))
behind-fits op.Truncate n some e es = absurd (some (none n e))
behind-fits op.Substring n some e es = absurd (some (none n e))
behind-fits op.In n some e es = absurd (some (none n e))
behind-fits op.NotIn n some e es = absurd (some (none n e))
behind-fits op.PeriodShift n some e es = absurd (some (none n e))
behind-fits op.PeriodFrequency n some e es = absurd (some (none n e))
behind-fits o n some e es = refl

measure-fits : (o : ScalarOp) (before : List CompExp) (a : NodeTree) (after' : List CompExp) → takes_dataset o (length before) ≡ true → ArePartedFit o (a ∷ []) before after' → (e : CompExp) → HasLiterals o (comp_exps_of (before ++ e ∷ after'))
measure-fits o [] a after' taken l e = l
measure-fits o (x ∷ xs) a after' taken l e = behind-fits o (length (x ∷ xs)) (λ (h : length (x ∷ xs) ≡ 0). absurd (omega arith)) taken (comp_exps_of (xs ++ e ∷ after'))

members-fit : (negated : Bool) (cells : List Cell) → AllByRecursion (λ v. is_null v ≡ false) cells → are_literals (membership negated) (comp_exps_of (values_in (map (λ c. value (const c)) cells))) ≡ true
members-fit negated cells h = go negated (each cells h)
  where
    each : (cells : List Cell) → AllByRecursion (λ v. is_null v ≡ false) cells → all_pass is_member (comp_exps_of (values_in (map (λ c. value (const c)) cells))) ≡ true
    each [] h = refl
    each (v ∷ cells) h = ap (λ b. not b && all_pass is_member (comp_exps_of (values_in (map (λ c. value (const c)) cells)))) h.0 ∙ each cells h.1

    go : (negated : Bool) → all_pass is_member (comp_exps_of (values_in (map (λ c. value (const c)) cells))) ≡ true → are_literals (membership negated) (comp_exps_of (values_in (map (λ c. value (const c)) cells))) ≡ true
    go true k = k
    go false k = k

-- ---- a node of its structure
-- a structure with which a node is made
abbrev pub IsMadeWith : Env → FormTree → Structure → Type 0
IsMadeWith env form s = IsShaped s × IsMadeForm env.settings env.known s form

pub made-gives : (env : Env) (at : Place) (form : FormTree) (r : Result Structure Rule) → Gives (IsMadeWith env form) r → Gives (IsWellTyped env at) (r >>= made_of form)
made-gives env at form (Ok s) h = h
made-gives env at form (Err broken) h = tt

-- ---- on data sets
over-columns : (p : Settings) (xs : List Component) (es : List CompExp) → AllByRecursion (IsTyped p []) es → AllByRecursion (IsTyped p xs) es
over-columns p xs es h = lists.weaker (IsTyped p []) (IsTyped p xs) es (λ e t. over-any p xs e t) h

measures-give : (env : Env) (at : Place) (o : ScalarOp) (literals : Bool) (before after' : List CompExp) (a : NodeTree) → (literals ≡ true → (e : CompExp) → HasLiterals o (comp_exps_of (before ++ e ∷ after'))) → IsMade env.settings env.known a → AllByRecursion (IsTyped env.settings []) before → AllByRecursion (IsTyped env.settings []) after' → Gives (IsWellTyped env at) (on_measures o literals before a after')
unfolding on_measures
measures-give env at o literals before after' a fit is hb ha =
    made-gives env at (measures (record { op = o; before = before; after = after' }) a) (given_structure o literals before after' (components_in a))
    (tested-then (IsMadeWith env (measures (record { op = o; before = before; after = after' }) a)) ((rule.WrongKind, any_unmet (by_operands o before after') None (components_in a)) ∷ (rule.WrongLiteral, any_unmet (between_values o before after') None (components_in a)) ∷ []) (λ u. measured_form (outcome_of o) (between_values o before after') literals choice.Except [] (components_in a))
    (λ passed. weaker (λ s. IsShaped s × IsMeasured env.settings (record { op = o; before = before; after = after' }) (structure_of a) s) (IsMadeWith env (measures (record { op = o; before = before; after = after' }) a)) (measured_form (outcome_of o) (between_values o before after') literals choice.Except [] (components_in a))
    (λ s h. (h.0, (is, h.1)))
    (measured-fits env.settings (record { op = o; before = before; after = after' }) (structure_of a) (outcome_of o) literals (made-shaped env.settings env.known a is) (outcome-given o) (same-outcome o) fit (over-columns env.settings (columns_of (structure_of a)) before hb) (over-columns env.settings (columns_of (structure_of a)) after' ha))))

pair-gives : (env : Env) (at : Place) (o : ScalarOp) (a b : NodeTree) → is_binary o ≡ true → IsMade env.settings env.known a → IsMade env.settings env.known b → Gives (IsWellTyped env at) (on_pair o a b)
unfolding on_pair
pair-gives env at o a b two ia ib =
    made-gives env at (pair o a b) (pairs.pair_form (outcome_of o) (of_two o) (structure_of a) (structure_of b))
    (weaker (λ s. IsShaped s × IsPaired env.settings o (structure_of a) (structure_of b) s) (IsMadeWith env (pair o a b)) (pairs.pair_form (outcome_of o) (of_two o) (structure_of a) (structure_of b)) (λ s h. (h.0, (ia, ib, h.1)))
    (paired-fits env.settings (outcome_of o) o (structure_of a) (structure_of b) (made-shaped env.settings env.known a ia) (made-shaped env.settings env.known b ib) (outcome-given o) (same-outcome o) (binary-fits o two)))

choice-gives : (env : Env) (at : Place) (t a b : NodeTree) → IsMade env.settings env.known t → IsMade env.settings env.known a → IsMade env.settings env.known b → Gives (IsWellTyped env at) (on_choice t a b)
unfolding on_choice
choice-gives env at t a b it ia ib =
    made-gives env at (choose t a b) (pairs.if_form (structure_of t) (structure_of a) (structure_of b))
    (weaker (λ s. IsShaped s × IsChoice (structure_of t) (structure_of a) (structure_of b) s) (IsMadeWith env (choose t a b)) (pairs.if_form (structure_of t) (structure_of a) (structure_of b)) (λ s h. (h.0, (it, ia, ib, h.1)))
    (chosen-fits (structure_of t) (structure_of a) (structure_of b) (made-shaped env.settings env.known t it) (made-shaped env.settings env.known a ia) (made-shaped env.settings env.known b ib)))

placed : (env : Env) (at : Place) (fits literals : Bool) (form : Result TypedTree Rule) → (fits ≡ true → Gives (IsWellTyped env at) form) → Gives (IsWellTyped env at) (if_placed fits literals form)
placed env at true literals form h = h refl
placed env at false literals form h = tt

datasets-give : (env : Env) (at : Place) (o : ScalarOp) (literals : Bool) (before : List CompExp) (ns : List NodeTree) (after' : List CompExp) → (literals ≡ true → ArePartedFit o ns before after') → AllByRecursion (IsTyped env.settings []) before → AllByRecursion (IsMade env.settings env.known) ns → AllByRecursion (IsTyped env.settings []) after' → Gives (IsWellTyped env at) (on_datasets o literals before ns after')
datasets-give env at o literals before [] after' fit hb hn ha = tt
datasets-give env at o literals before (a ∷ []) after' fit hb hn ha = placed env at (takes_dataset o (length before)) literals (on_measures o literals before a after') (λ taken. measures-give env at o literals before after' a (λ l. measure-fits o before a after' taken (fit l)) hn.0 hb ha)
datasets-give env at o literals [] (a ∷ b ∷ []) [] fit hb hn ha = placed env at (is_binary o) literals (on_pair o a b) (λ two. pair-gives env at o a b two hn.0 hn.1.0)
datasets-give env at o literals [] (a ∷ b ∷ []) (y ∷ ys) fit hb hn ha = tt
datasets-give env at o literals (x ∷ xs) (a ∷ b ∷ []) after' fit hb hn ha = tt
datasets-give env at o literals [] (t ∷ a ∷ b ∷ []) [] fit hb hn ha = placed env at (is_choice o) literals (on_choice t a b) (λ three. choice-gives env at t a b hn.0 hn.1.0 hn.1.1.0)
datasets-give env at o literals [] (t ∷ a ∷ b ∷ []) (y ∷ ys) fit hb hn ha = tt
datasets-give env at o literals (x ∷ xs) (t ∷ a ∷ b ∷ []) after' fit hb hn ha = tt
datasets-give env at o literals [] (t ∷ a ∷ b ∷ d ∷ ds) [] fit hb hn ha = tt
datasets-give env at o literals [] (t ∷ a ∷ b ∷ d ∷ ds) (y ∷ ys) fit hb hn ha = tt
datasets-give env at o literals (x ∷ xs) (t ∷ a ∷ b ∷ d ∷ ds) after' fit hb hn ha = tt

-- ---- all operands
record ArePartedAt (env : Env) (at : Place) (o : Operands) : Type 0 where
  before : AllByRecursion (IsValueAt env.settings at) o.before
  nodes : AllByRecursion (IsMade env.settings env.known) o.datasets
  after : AllByRecursion (IsValueAt env.settings at) o.after

with-value : (env : Env) (at : Place) (e : CompExp) (before : List CompExp) (ns : List NodeTree) (after' : List CompExp) → IsValueAt env.settings at e → AllByRecursion (IsValueAt env.settings at) before → AllByRecursion (IsMade env.settings env.known) ns → AllByRecursion (IsValueAt env.settings at) after' → ArePartedAt env at (with_value e before ns after')
with-value env at e before [] after' h hb hn ha = record { before = all_append (IsValueAt env.settings at) before (e ∷ []) hb (h, tt); nodes = tt; after = ha }
with-value env at e before (n ∷ ns) after' h hb hn ha = record { before = hb; nodes = hn; after = all_append (IsValueAt env.settings at) after' (e ∷ []) ha (h, tt) }

with-operand : (env : Env) (at : Place) (o : Operands) (x : TypedTree) → ArePartedAt env at o → IsWellTyped env at x → ArePartedAt env at (with_operand o x)
with-operand env at o (value e) are h = with-value env at e o.before o.datasets o.after h are.before are.nodes are.after
with-operand env at o (dataset n) are h = record { before = are.before; nodes = all_append (IsMade env.settings env.known) o.datasets (n ∷ []) are.nodes (h, tt); after = are.after }

all-parted : (env : Env) (at : Place) (o : Operands) (xs : List TypedTree) → ArePartedAt env at o → AllByRecursion (IsWellTyped env at) xs → ArePartedAt env at (parted o xs)
all-parted env at o [] are h = are
all-parted env at o (x ∷ xs) are h = all-parted env at (with_operand o x) xs (with-operand env at o x are h.0) h.1

operands-give : (env : Env) (at : Place) (o : ScalarOp) (number literals : Bool) (before : List CompExp) (ns : List NodeTree) (after' : List CompExp) → (literals ≡ true → ArePartedFit o ns before after') → AllByRecursion (IsValueAt env.settings at) before → AllByRecursion (IsMade env.settings env.known) ns → AllByRecursion (IsValueAt env.settings at) after' → Gives (IsWellTyped env at) (on_operands at o number literals before ns after')
operands-give env place.Outside o number literals before [] after' fit hb hn ha = value-tree env place.Outside (call_form o literals before) (values-give env.settings place.Outside o literals before fit hb)
operands-give env (place.Inside i) o number literals before [] after' fit hb hn ha = value-tree env (place.Inside i) (call_form o literals before) (values-give env.settings (place.Inside i) o literals before fit hb)
operands-give env (place.Inside i) o number literals before (n ∷ ns) after' fit hb hn ha = tt
operands-give env place.Outside o number literals before (n ∷ ns) after' fit hb hn ha = tested-then (IsWellTyped env place.Outside) ((rule.WrongKind, not number) ∷ []) (λ u. on_datasets o literals before (n ∷ ns) after') (λ passed. datasets-give env place.Outside o literals before (n ∷ ns) after' fit hb hn ha)

pub operator-gives : (env : Env) (at : Place) (o : ScalarOp) (number literals : Bool) (xs : List TypedTree) → (literals ≡ true → AreFit o xs) → AllByRecursion (IsWellTyped env at) xs → Gives (IsWellTyped env at) (operator_form at o number literals xs)
unfolding operator_form
operator-gives env at o number literals xs fit h =
    let are = all-parted env at no_operands xs (record { before = tt; nodes = tt; after = tt }) h in
    operands-give env at o (number && first_fits o (parted no_operands xs).before (parted no_operands xs).datasets) literals (parted no_operands xs).before (parted no_operands xs).datasets (parted no_operands xs).after (λ l. parted-fits o xs (fit l)) are.before are.nodes are.after

-- ---- `in`
cell-at : (p : Settings) (at : Place) (v : Cell) → IsOfProfile p v → IsValueAt p at (const v)
cell-at p place.Outside v h = h
cell-at p (place.Inside i) v h = over-each p i.grouping i.components (const v) h

pub set-form-gives : (env : Env) (at : Place) (negated : Bool) (ls : List Literal) (x : TypedTree) → IsWellTyped env at x → Gives (IsWellTyped env at) (set_form env.settings at negated ls x)
unfolding set_form
set-form-gives env at negated ls x h =
    then (AllByRecursion (IsMember env.settings)) (IsWellTyped env at) (set_typed env.settings (beside_kinds x) ls) (λ cells. operator_form at (membership negated) true true (x ∷ map (λ c. value (const c)) cells)) (set-gives env.settings (beside_kinds x) ls)
    (λ cells all. operator-gives env at (membership negated) true true (x ∷ map (λ c. value (const c)) cells) (λ l. members-fit negated cells (lists.weaker (IsMember env.settings) (λ v. is_null v ≡ false) cells (λ v k. k.1) all)) (h, lists.mapped (IsWellTyped env at) (λ c. value (const c)) cells (lists.weaker (IsMember env.settings) (λ c. IsValueAt env.settings at (const c)) cells (λ v k. cell-at env.settings at v k.0) all)))
