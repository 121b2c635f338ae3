-- The members of a set are constants, which have their kinds and values as literals.
use Rattle.std.proofs.Common.{◌≡◌, ℕ, ◌≤◌, Bool, true, false, not, ◌∷◌, map, Ok, refl, sym, ap, ◌∙◌}
use Rattle.std.specs.Prelude.{is_some, unwrap_or}
use Rattle.std.specs.List.{AllByRecursion}
use Rattle.std.proofs.lemmas.Bool.{and_parts}
use Rattle.grammar_forms.specs.Written.{Each}
use Rattle.vtl_cell.specs.Kinds.{is_null}
use Rattle.vtl_cell.specs.Outcome.{Outcome}
use Rattle.vtl_decimal.specs.Settings.{Settings}
use Rattle.vtl_cell.specs.declared.cell.Cell.{Cell}
use Rattle.vtl_cell.specs.declared.cell.Cell.TheVariants as c
use Rattle.vtl_cell.specs.declared.kind.Kind.{Kind}
use Rattle.vtl_cell.specs.declared.operator.ScalarOp.{ScalarOp}
use Rattle.vtl_cell.specs.declared.operator.ScalarOp.TheVariants as op
use Rattle.vtl_tree.specs.CompExp as comp
use Rattle.vtl_tree.specs.CompExp.{CompExp, CompExps, no_comp_exps, comp_exp}
use Rattle.vtl_tree.specs.declared.expression.AggCall.{AggCall}
use Rattle.vtl_tree.specs.Kinds.{exp_kind}
use Rattle.vtl_meaning.specs.Literals.{HasLiterals, all_pass, is_member}
use Rattle.vtl_meaning.specs.Made.{AreTypedOver, IsTypedOver, kinds_in}
use Rattle.sql_tree.specs.Formed.{IsLiteral}
use Rattle.sql_tree.specs.Trees.{Text}
use Rattle.sql_check_laws.specs.Fits.{HasValue}
use Rattle.sql_check_parts.specs.Literals.{literal_kind}
use Rattle.sql_meaning.specs.Values.{literal_cell}
use Rattle.vtl_meaning.specs.GroupExpressions.{value_over, values_over}
use Rattle.expressions_to_sql.specs.Held.{AllHold, AllHoldValues, HoldsValues, IsMemberHeld, OperandsHold, asks_a_set}
use Rattle.expressions_to_sql.specs.ToSql.{member_to_sql, members_to_sql}
use Rattle.expressions_to_sql.proofs.FormedConstants.{literal_formed}
use Rattle.expressions_to_sql.proofs.WrittenConstants.{literal_is, member_kind}

-- a constant that is not null
pub data Member : CompExp → Type 0 where
  member : (v : Cell) → is_null v ≡ false → Member (comp.const v)

pub member_of : (e : CompExp) → is_member e ≡ true → Member e
member_of (comp.const v) h = member v (go (is_null v) h)
  where
    go : (b : Bool) → not b ≡ true → b ≡ false
    go true e = cc
    go false e = refl
member_of (comp.column place name kind) h = cc
member_of (comp.call o kind args) h = cc
member_of (comp.aggregate a kind) h = cc

-- the members of a typed set hold their values
members_held : (es : CompExps) → all_pass is_member es ≡ true → AllHold true es → AllHoldValues es
members_held no_comp_exps m h = tt
members_held (comp_exp e es) m h =
    let parts = and_parts (is_member e) (all_pass is_member es) m in
    (go e (member_of e parts.0) h.0, members_held es parts.1 h.1)
  where
    go : (e : CompExp) → Member e → IsMemberHeld e → HoldsValues e
    go _ (member v n) h = h

pub operands_held : (o : ScalarOp) (args : CompExps) → HasLiterals o args → OperandsHold (asks_a_set o) args → AllHoldValues args
operands_held o no_comp_exps l h = tt
operands_held op.In (comp_exp a es) l h = (h.0, members_held es l h.1)
operands_held op.NotIn (comp_exp a es) l h = (h.0, members_held es l h.1)
operands_held o (comp_exp a es) l h = h

module _ (p : Settings) (low : p.scale ≤ 9) (columns : ℕ → Text → Kind → Type 0) (aggregates : AggCall → Kind → Type 0) where
  -- its literal
  pub record Literally (e : CompExp) : Type 0 where
    pub cell : Cell
    pub value : (cells : ℕ → Text → Cell) (aggs : AggCall → Outcome Cell) → value_over p cells aggs e ≡ Ok cell
    pub kind : literal_kind (member_to_sql p e) ≡ exp_kind e
    pub read : literal_cell p (member_to_sql p e) ≡ cell
    pub there : HasValue p (member_to_sql p e)
    pub formed : IsLiteral (member_to_sql p e)

  literally : (e : CompExp) → Member e → IsTypedOver p columns aggregates e → HoldsValues e → Literally e
  literally _ (member v n) i h = record {
    cell = v;
    value = λ cells aggs. refl;
    kind = member_kind p v n;
    read = ap (λ o. unwrap_or o c.Null) (literal_is p low v h i n);
    there = ap is_some (literal_is p low v h i n);
    formed = literal_formed p low v h i;
  }

  abbrev pub AreLiterals : CompExps → Type 0
  AreLiterals no_comp_exps = Unit {0}
  AreLiterals (comp_exp e es) = Literally e × AreLiterals es

  pub are_literals : (es : CompExps) → all_pass is_member es ≡ true → AreTypedOver p columns aggregates es → AllHoldValues es → AreLiterals es
  are_literals no_comp_exps m i h = tt
  are_literals (comp_exp e es) m i h =
      let parts = and_parts (is_member e) (all_pass is_member es) m in
      (literally e (member_of e parts.0) i.0 h.0, are_literals es parts.1 i.1 h.1)

  pub members_kinds : (es : CompExps) → AreLiterals es → map literal_kind (members_to_sql p es) ≡ kinds_in es
  members_kinds no_comp_exps m = refl
  members_kinds (comp_exp e es) m = ap (λ kind. kind ∷ map literal_kind (members_to_sql p es)) m.0.kind ∙ ap (λ l. exp_kind e ∷ l) (members_kinds es m.1)

  pub members_values : (cells : ℕ → Text → Cell) (aggs : AggCall → Outcome Cell) (es : CompExps) → AreLiterals es → map (λ l. Ok (literal_cell p l)) (members_to_sql p es) ≡ values_over p cells aggs es
  members_values cells aggs no_comp_exps m = refl
  members_values cells aggs (comp_exp e es) m = (λ i. (ap Ok m.0.read ∙ sym (m.0.value cells aggs)) i ∷ members_values cells aggs es m.1 i)

  pub members_there : (es : CompExps) → AreLiterals es → AllByRecursion (HasValue p) (members_to_sql p es)
  members_there no_comp_exps m = tt
  members_there (comp_exp e es) m = (m.0.there, members_there es m.1)

  pub members_formed : (es : CompExps) → AreLiterals es → Each IsLiteral (members_to_sql p es)
  members_formed no_comp_exps m = tt
  members_formed (comp_exp e es) m = (m.0.formed, members_formed es m.1)
