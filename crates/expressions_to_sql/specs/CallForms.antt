-- How a call of an operator on so many operands is written.
use Rattle.std.specs.Prelude.{◌≡◌, ◌≤◌, ℕ, ◌==◌, Bool, true, false, nat_lt, if◌then◌else◌}
use Rattle.vtl_cell.specs.declared.operator.ScalarOp.{ScalarOp}
use Rattle.vtl_cell.specs.declared.operator.ScalarOp.TheVariants as op
use Rattle.sql_tree.specs.Formed.{is_binary, is_unary}
use Rattle.expressions_to_sql.specs.declared.forms.CallForm.{CallForm}
use Rattle.expressions_to_sql.specs.declared.forms.CallForm.TheVariants.{NullTest, Set, Choice, Removal, Between, Before, InBrackets}

-- how many operands a form asks for
abbrev pub HasCount : CallForm → ℕ → Type 0
HasCount NullTest n = n ≡ 1
HasCount (Set negated) n = 1 ≤ n
HasCount Choice n = n ≡ 3
HasCount Removal n = n ≡ 2
HasCount Between n = n ≡ 2
HasCount Before n = n ≡ 1
HasCount InBrackets n = Unit {0}

-- a form that asks for so many operands
abbrev pub at_count : (wanted count : ℕ) → CallForm → CallForm
at_count wanted count form = if count == wanted then form else InBrackets

abbrev pub set_at : ℕ → (negated : Bool) → CallForm
set_at count negated = if nat_lt 0 count then Set negated else InBrackets

abbrev pub form_at : ScalarOp → ℕ → CallForm
form_at op.IsNull n = at_count 1 n NullTest
form_at op.In n = set_at n false
form_at op.NotIn n = set_at n true
form_at op.If n = at_count 3 n Choice
form_at op.Replace n = at_count 2 n Removal
form_at o n = if is_binary o then at_count 2 n Between else if is_unary o then at_count 1 n Before else InBrackets
