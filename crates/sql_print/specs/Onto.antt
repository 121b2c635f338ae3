-- What is written behind tokens that stand already.
use Rattle.std.specs.Prelude.{Bool, true, false, ◌++◌, nat_le}
use Rattle.sql_lexer.specs.declared.token.Word.{Word}
use Rattle.sql_lexer.specs.declared.token.Word.TheVariants as w
use Rattle.sql_tree.specs.Grammar.{Tokens}
use Rattle.sql_tree.specs.Printing.{aggregate_word, just, left_level, level_of, op_word, right_level, unary_level, written_column, written_constant, written}
use Rattle.sql_tree.specs.Trees.{Exp, binary, unary, is_null, in_list, constant, column, call, count_all, aggregate, case_when, exists, Exps, no_exps, exp, Branches, no_branches, branch}
use Rattle.sql_print.specs.Tails.{membership, null_test}

abbrev pub put : Word → Tokens → Tokens
put x out = out ++ just x

abbrev pub chosen : Bool → Tokens → Tokens → Tokens
chosen true a b = a
chosen false a b = b

-- a comma where something stands before
abbrev pub parted : Bool → Tokens → Tokens
parted true out = put w.Comma out
parted false out = out

abbrev mutual
  pub onto : Exp → Tokens → Tokens
  onto (binary a o b) out =
      let before = put (op_word o) (chosen (nat_le (level_of a) (left_level o)) (onto a out) (put w.Close (onto a (put w.Open out)))) in
      chosen (nat_le (level_of b) (right_level o)) (onto b before) (put w.Close (onto b (put w.Open before)))
  onto (unary o e) out = let before = put (op_word o) out in chosen (nat_le (level_of e) (unary_level o)) (onto e before) (put w.Close (onto e (put w.Open before)))
  onto (is_null e negated) out = chosen (nat_le (level_of e) 3) (onto e out) (put w.Close (onto e (put w.Open out))) ++ null_test negated
  onto (in_list e negated ls) out = chosen (nat_le (level_of e) 3) (onto e out) (put w.Close (onto e (put w.Open out))) ++ membership negated ls
  onto (constant x) out = out ++ written_constant x
  onto (column x) out = out ++ written_column x
  onto (call f es) out = put w.Close (exps_onto false es (put w.Open (put (op_word f) out)))
  onto count_all out = out ++ written count_all
  onto (aggregate f e) out = put w.Close (onto e (put w.Open (put (aggregate_word f) out)))
  onto (case_when bs e) out = put w.End (onto e (put w.Else (branches_onto bs (put w.Case out))))
  onto (exists s es) out = out ++ written (exists s es)

  pub exps_onto : Bool → Exps → Tokens → Tokens
  exps_onto behind no_exps out = out
  exps_onto behind (exp e es) out = exps_onto true es (onto e (parted behind out))

  pub branches_onto : Branches → Tokens → Tokens
  branches_onto no_branches out = out
  branches_onto (branch e v bs) out = branches_onto bs (onto v (put w.Then (onto e (put w.When out))))

-- a part, in brackets unless it may stand without
abbrev pub part_onto : Exp → Bool → Tokens → Tokens
part_onto e free out = chosen free (onto e out) (put w.Close (onto e (put w.Open out)))
