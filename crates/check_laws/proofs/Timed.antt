-- Time operators.
use Rattle.std.proofs.Common.{◌≡◌, ℕ, zero, suc, ◌≤◌, Bool, true, false, not, ◌&&◌, cond, List, [], ◌∷◌, length, Option, Some, None, Ok, refl, sym, ap, ◌∙◌, subst, true≢false, arith, pos}
use Rattle.std.proofs.lemmas.Bool.{eqb-true, false≢true, not-false}
use Rattle.std.specs.List.{AllByRecursion, filter}
use Rattle.std.specs.Prelude.{is_none, nat_eq, unsigned_abs, unwrap_or}
use Rattle.vtl_decimal.specs.Settings.{Settings}
use Rattle.vtl_cell.specs.AggregateKinds.{is_number}
use Rattle.vtl_cell.specs.Kinds.{same_kind}
use Rattle.vtl_cell.specs.Literals.{integer_written}
use Rattle.vtl_cell.specs.declared.kind.Kind.{Kind}
use Rattle.vtl_cell.specs.declared.kind.Kind.TheVariants as k
use Rattle.vtl_lists.specs.Results.{◌>>=◌}
use Rattle.check_faults.specs.Rules.{ruled}
use Rattle.check_faults.specs.declared.rules.Rule.TheVariants as rule
use Rattle.vtl_syntax.specs.declared.parts.TimeCall.{TimeCall}
use Rattle.vtl_syntax.specs.declared.parts.TimeCall.TheVariants as call
use Rattle.vtl_syntax.specs.declared.word_groups.Filling.TheVariants as filling
use Rattle.vtl_tree.specs.Choices.{is_identifier}
use Rattle.vtl_tree.specs.Columns.{identifiers_of}
use Rattle.vtl_tree.specs.Measures.{measures, namesake, paired}
use Rattle.vtl_tree.specs.Structure.{IsStructure, same_role}
use Rattle.vtl_tree.specs.Times.{flow_components, flow_gives, has_time, is_time, times_of}
use Rattle.vtl_tree.specs.Trees as nodes
use Rattle.vtl_tree.specs.Trees.{NodeTree, structure_of}
use Rattle.vtl_tree.specs.declared.calls.TimeOp.{TimeOp}
use Rattle.vtl_tree.specs.declared.calls.TimeOp.TheVariants as op
use Rattle.vtl_tree.specs.declared.measures.Outcome.TheVariants as outcome
use Rattle.vtl_tree.specs.declared.structure.Component.{Component}
use Rattle.vtl_tree.specs.declared.structure.Role.TheVariants as role
use Rattle.vtl_tree.specs.declared.structure.Structure.{Structure}
use Rattle.check_shapes.specs.Measures.{measured_tests}
use Rattle.check_shapes.specs.Shape.{shaped}
use Rattle.check_values.specs.Windows.{points_typed}
use Rattle.check_operators.specs.Places.{Env}
use Rattle.check_operators.specs.Typed.{TypedTree, dataset_in}
use Rattle.check_operators.specs.declared.places.Place.{Place}
use Rattle.check_operators.specs.declared.places.Place.TheVariants as place
use Rattle.check_times.specs.Timed.{flow_structure, given_structure, operator_typed, signed, time_form, time_node, time_structure, timed}
use Rattle.vtl_meaning.specs.Reaches.{is_near}
use Rattle.vtl_meaning.specs.Shapes.{IsShaped}
use Rattle.vtl_meaning.proofs.Lists as lists
use Rattle.vtl_scripts.specs.Made.{IsMade}
use Rattle.vtl_timing.specs.Timed.{IsReached, IsTimed}
use Rattle.vtl_timing.specs.Times.{HasTime}
use Rattle.check_laws.specs.Gives.{Gives}
use Rattle.check_laws.specs.WellTyped.{IsWellTyped}
use Rattle.check_laws.proofs.Inner.{made-shaped}
use Rattle.check_laws.proofs.Measured.{met-measures}
use Rattle.check_laws.proofs.Operators.{IsMadeWith, made-gives}
use Rattle.check_laws.proofs.Reaches.{points-near}
use Rattle.check_laws.proofs.Sets.{dataset-gives}
use Rattle.check_laws.proofs.Shapes.{filter-within, shaped-gives}
use Rattle.check_laws.proofs.Steps.{tested, tested-then, then, weaker}

-- ---- what is written behind the operand
signed-abs : (negative : Bool) (n : ℕ) → unsigned_abs (signed negative n) ≡ n
signed-abs true zero = refl
signed-abs true (suc n) = refl
signed-abs false n = refl

operator-gives : (p : Settings) (c : TimeCall) → Gives IsReached (operator_typed p c)
unfolding operator_typed
operator-gives p (call.Timeshift negative digits) =
    then (λ n. is_near n ≡ true) IsReached (points_typed p digits) (λ n. Ok (op.Shift (signed negative n))) (points-near (integer_written p digits))
    (λ n near. ap is_near (signed-abs negative n) ∙ near)
operator-gives p (call.FillTimeSeries f) = tt
operator-gives p call.FlowToStock = tt
operator-gives p call.StockToFlow = tt

-- ---- the time
first-true : (b c : Bool) → (b && c) ≡ true → b ≡ true
first-true true c e = refl
first-true false c e = absurd (false≢true e)

time-found : (a : Structure) → has_time a ≡ true → HasTime a
time-found a e =
    ap length (filter-within is_time is_identifier a.components (lists.every (λ x. is_time x ≡ true → is_identifier x ≡ true) a.components (λ x t. first-true (same_role x.role role.Identifier) (same_kind x.kind k.Period) t)))
    ∙ eqb-true (length (times_of a)) 1 e

-- ---- flows and stocks
record IsFlowing (a s : Structure) : Type 0 where
  pub well_formed : IsStructure s
  pub some : 1 ≤ length (measures a.components)
  pub numbers : AllByRecursion (λ x. is_number x.kind ≡ true) (measures a.components)
  pub shape : s.components ≡ flow_components a.components

positive : (n : ℕ) → nat_eq n 0 ≡ false → 1 ≤ n
positive zero e = absurd (true≢false e)
positive (suc n) e = omega arith

number-met : (b : Bool) (kind : Kind) → is_none (cond b (Some kind) None) ≡ false → b ≡ true
number-met true kind e = refl
number-met false kind e = absurd (true≢false e)

flow-fits : (a : Structure) → Gives (λ s. IsShaped s × IsFlowing a s) (flow_structure a)
flow-fits a =
    tested-then (λ s. IsShaped s × IsFlowing a s) (measured_tests outcome.Each flow_gives true a.components) (λ u. shaped (flow_components a.components))
    (λ passed. shaped-gives (λ s. IsShaped s × IsFlowing a s) (flow_components a.components) (λ s. (
      s,
      record {
        well_formed = s.well_formed;
        some = positive (length (measures a.components)) passed.1.1.0;
        numbers = lists.weaker (λ x. is_none (paired flow_gives x.kind (namesake None x)) ≡ false) (λ x. is_number x.kind ≡ true) (measures a.components) (λ x met. number-met (is_number x.kind) x.kind met) (met-measures flow_gives None a.components passed.0);
        shape = refl;
      },
    )))

-- ---- the structure of the result
abbrev IsGivenOf : TimeOp → Structure → Structure → Type 0
IsGivenOf (op.Shift n) a s = s ≡ a
IsGivenOf (op.Fill f) a s = s ≡ a
IsGivenOf op.FlowToStock a s = IsFlowing a s
IsGivenOf op.StockToFlow a s = IsFlowing a s

given-fits : (o : TimeOp) (a : Structure) → IsShaped a → Gives (λ s. IsShaped s × IsGivenOf o a s) (given_structure o a)
given-fits (op.Shift n) a ia = (ia, refl)
given-fits (op.Fill f) a ia = (ia, refl)
given-fits op.FlowToStock a ia = flow-fits a
given-fits op.StockToFlow a ia = flow-fits a

timed-of : (o : TimeOp) (a s : Structure) → IsShaped a → HasTime a → IsReached o → IsGivenOf o a s → IsTimed o a s
timed-of (op.Shift n) a s ia time near g = record { time = time; reached = near; given = g }
timed-of (op.Fill f) a s ia time near g = record { time = time; reached = near; given = g }
timed-of op.FlowToStock a s ia time near g =
    record { time = time; reached = near; given = record { operand = ia.well_formed; well_formed = g.well_formed; time = time; some = g.some; numbers = g.numbers; shape = g.shape } }
timed-of op.StockToFlow a s ia time near g =
    record { time = time; reached = near; given = record { operand = ia.well_formed; well_formed = g.well_formed; time = time; some = g.some; numbers = g.numbers; shape = g.shape } }

structure-timed : (o : TimeOp) (a : Structure) → IsReached o → IsShaped a → Gives (λ s. IsShaped s × IsTimed o a s) (time_structure o a)
unfolding time_structure
structure-timed o a near ia =
    then (λ s. IsShaped s × IsGivenOf o a s) (λ s. IsShaped s × IsTimed o a s) (given_structure o a) (timed a) (given-fits o a ia)
    (λ s g. tested (λ s. IsShaped s × IsTimed o a s) ((rule.NoTime, not (has_time a)) ∷ []) s
    (λ passed. (g.0, timed-of o a s ia (time-found a (not-false (has_time a) passed.0)) near g.1)))

node-timed : (env : Env) (at : Place) (o : TimeOp) (a : NodeTree) → IsReached o → IsMade env.settings env.known a → Gives (IsWellTyped env at) (time_node o a)
node-timed env at o a near is =
    made-gives env at (nodes.time a o) (time_structure o (structure_of a))
    (weaker (λ s. IsShaped s × IsTimed o (structure_of a) s) (IsMadeWith env (nodes.time a o)) (time_structure o (structure_of a)) (λ s h. (h.0, (is, h.1)))
    (structure-timed o (structure_of a) near (made-shaped env.settings env.known a is)))

pub time-gives : (env : Env) (at : Place) (c : TimeCall) (x : TypedTree) → IsWellTyped env place.Outside x → Gives (IsWellTyped env at) (time_form env.settings c x)
unfolding time_form
time-gives env at c x h =
    then IsReached (IsWellTyped env at) (operator_typed env.settings c) (λ o. dataset_in x >>= time_node o) (operator-gives env.settings c)
    (λ o near. then (IsMade env.settings env.known) (IsWellTyped env at) (dataset_in x) (time_node o) (dataset-gives env place.Outside x h)
    (λ a is. node-timed env at o a near is))
