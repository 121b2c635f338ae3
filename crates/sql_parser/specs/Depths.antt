-- Trees with their depths, and readers at a budget of depth.
use Rattle.std.specs.Prelude.{◌≤◌, ℕ, suc, List, Option, Some, Result, Box}
use Rattle.std.specs.Borrow.{Bor}
use Rattle.std.specs.declared.alloc.Global.{Global}
use Rattle.vtl_lists.specs.Options.{◌>>=◌}
use Rattle.grammar_forms.specs.Forms.{Deep, deep, deep_one, Reads, gives, limited}
use Rattle.sql_lexer.specs.declared.token.Token.{Token}
use Rattle.sql_lexer.specs.declared.token.TokenKind.{TokenKind}
use Rattle.sql_tree.specs.Grammar.{Place, Whole, Negated, Signed, expr_at, most_levels}
use Rattle.sql_tree.specs.Trees.{Exp}
use Rattle.sql_tree.specs.View.{expr_tree}
use Rattle.sql_tree.specs.declared.expressions.SqlExpr.{SqlExpr}
use Rattle.vtl_cell.specs.declared.operator.ScalarOp.{ScalarOp}
use Rattle.sql_parser_parts.specs.Answers.{AnswersBy, kinds}
use Rattle.sql_parser_parts.specs.declared.front.Front.{Front}
use Rattle.sql_parser_parts.specs.declared.front.Unread.{Unread}
use Rattle.sql_parser.specs.declared.grammar.Deep as program
use Rattle.sql_parser.specs.declared.grammar.Place as placed
use Rattle.sql_parser.specs.declared.grammar.Place.TheVariants as place

abbrev pub box_tree : Box SqlExpr Global → Exp
box_tree b = expr_tree b.value

abbrev pub deep_view : {A B : Type 0} → (A → B) → program.Deep A → Deep B
deep_view view d = deep (view d.tree) d.depth

abbrev pub place_of : placed.Place → Place
place_of place.Whole = Whole
place_of place.Negated = Negated
place_of place.Signed = Signed

-- what is one deeper than its parts, within the budget
abbrev pub node_reads : ℕ → Exp → ℕ → List TokenKind → Option (Deep Exp × List TokenKind)
node_reads n e depth rest = limited n e (suc depth) >>= (λ g. gives g rest)

-- the function reads parts of that depth at most
pub record Nests (budget : ℕ) (pre : placed.Place → Bor (List Token) → Type 0) (post : placed.Place → Bor (List Token) → Result (Front (program.Deep (Box SqlExpr Global))) Unread → Type 0) : Type 0 where
  pub small : budget ≤ most_levels
  pub callable : (p : placed.Place) (ts : Bor (List Token)) → pre p ts
  pub reads : (p : placed.Place) (ts : Bor (List Token)) (r : Result (Front (program.Deep (Box SqlExpr Global))) Unread) → post p ts r → AnswersBy (deep_view box_tree) ((expr_at budget (place_of p)).reads (kinds ts.now)) r

-- an operator and its right operand
abbrev pub step_view : ScalarOp × program.Deep (Box SqlExpr Global) → ScalarOp × Deep Exp
step_view p = (p.0, deep_view box_tree p.1)

-- the list of one item, as deep as it
abbrev pub first_deep : {A : Type 0} → Reads TokenKind (Deep A) → Reads TokenKind (Deep (List A))
first_deep item ts = item ts >>= (λ p. Some (deep_one p.0) >>= (λ b. gives b p.1))
