-- What the readers of expressions answer.
use Rattle.std.specs.Prelude.{◌≡◌, ℕ, List, Option, None, Some, Result, Ok, Err, Box, Vec, map}
use Rattle.std.specs.Borrow.{Bor}
use Rattle.std.specs.declared.alloc.Global.{Global}
use Rattle.vtl_lexer.specs.declared.token.Token.{Token}
use Rattle.vtl_syntax.specs.Trees.{Exp}
use Rattle.vtl_syntax.specs.View.{expr_tree}
use Rattle.vtl_syntax.specs.declared.expressions.Expr.{Expr}
use Rattle.vtl_grammar.specs.ReadExpressions.{read}
use Rattle.vtl_grammar.specs.declared.levels.Level.{Level}
use Rattle.vtl_grammar.specs.Faults.{kinds}
use Rattle.vtl_grammar.specs.Reading.{Got, got}
use Rattle.read_parts.specs.declared.front.Unread.{Unread}
use Rattle.read_parts.specs.declared.front.Unread.TheVariants as u
use Rattle.read_expressions.specs.declared.reads.Read.{Read}
use Rattle.read_expressions.specs.declared.turns.Turn.{Turn}
use Rattle.read_expressions.specs.declared.turns.Turn.TheVariants as t

-- what was read, as the grammar's reading functions give it
abbrev pub got_of : {A B : Type 0} → (A → B) → Read A → Got B
got_of view read = got (view read.tree) read.spare (kinds read.rest.now)

-- the answer is what reading gives; want of memory may come in any case
abbrev pub GetsBy : {A B : Type 0} → (A → B) → Option (Got B) → Result (Read A) Unread → Type 0
GetsBy view reading (Ok read) = reading ≡ Some (got_of view read)
GetsBy view reading (Err u.Absent) = reading ≡ None
GetsBy view reading (Err u.OutOfMemory) = Unit {0}

-- the tree in a box
abbrev pub box_tree : Box Expr Global → Exp
box_tree b = expr_tree b.value

-- Whatever level and tokens it is called at, the function reads what the grammar reads there within the budget.
pub record Nests (budget : ℕ) (pre : Level → Bor (List Token) → Type 0) (post : Level → Bor (List Token) → Result (Read (Box Expr Global)) Unread → Type 0) : Type 0 where
  pub callable : (l : Level) (ts : Bor (List Token)) → pre l ts
  pub reads : (l : Level) (ts : Bor (List Token)) (r : Result (Read (Box Expr Global)) Unread) → post l ts r → GetsBy box_tree (read budget l (kinds ts.now)) r

-- the trees of a list
abbrev pub list_view : {A B : Type 0} → (A → B) → Vec A Global → List B
list_view view v = map view v.items

-- the answer of one turn at what was read so far
abbrev pub GetsTurn : Option (Option (Got Exp)) → Got Exp → Result Turn Unread → Type 0
GetsTurn step g (Ok (t.More next)) = step ≡ Some (Some (got_of box_tree next))
GetsTurn step g (Ok (t.End last)) = (step ≡ Some None) × (g ≡ got_of box_tree last)
GetsTurn step g (Err u.Absent) = step ≡ None
GetsTurn step g (Err u.OutOfMemory) = Unit {0}
