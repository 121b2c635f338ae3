-- Calls that want two operands at least.
use Rattle.std.proofs.Common.{◌≡◌, ℕ, true, List, length, Some, refl}
use Rattle.std.specs.Prelude.{nat_le}
use Rattle.vtl_grammar.specs.Grammar.{Tokens}
use Rattle.vtl_grammar.specs.ReadExpressions.{exps, join_body, join_call, join_part, join_parts, set_op_call}
use Rattle.vtl_grammar.specs.Reading.{Gets, got, got_listed}
use Rattle.vtl_syntax.specs.Trees as tree
use Rattle.vtl_syntax.specs.Trees.{Exp, PartTree, exps_of}
use Rattle.vtl_syntax.specs.declared.word_groups.JoinKind.{JoinKind}
use Rattle.vtl_syntax.specs.declared.word_groups.SetOpName.{SetOpName}

pub set_op_call-read : (part : Gets Exp) (f : SetOpName) (ts : Tokens) (es : List Exp) (spare : ℕ) (rest : Tokens) → got_listed part ts ≡ Some (got es spare rest) → nat_le 2 (length es) ≡ true
    → set_op_call part f ts ≡ Some (got (tree.set_op f (exps_of es)) spare rest)
unfolding set_op_call exps
set_op_call-read part f ts es spare rest e h = rw (e, h) refl

pub join_call-read : (n : ℕ) (part : Gets Exp) (k : JoinKind) (ts : Tokens) (ps : List PartTree) (spare : ℕ) (rest : Tokens) → got_listed (join_part part) ts ≡ Some (got ps spare rest) → nat_le 2 (length ps) ≡ true
    → join_call n part k ts ≡ join_body n part k (got ps spare rest)
unfolding join_call join_parts
join_call-read n part k ts ps spare rest e h = rw (e, h) refl
