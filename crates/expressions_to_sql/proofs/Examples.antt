-- What expressions are written as in SQL, each by computation. Between tokens stands a space.
use Rattle.std.proofs.Common.{◌≡◌, ℕ, ℤ, pos, negsuc, ◌+◌, ◌<◌, true, false, List, [], ◌∷◌, map, Some, None, refl, sym, ◌∙◌, arith, append-nil}
use Rattle.std.specs.Prelude.{codes}
use Rattle.std.specs.Fmt.{decimal}
use Rattle.grammar_forms.specs.Written.{run}
use Rattle.vtl_decimal.specs.Written.{last_digits, shortest_digits}
use Rattle.vtl_decimal.proofs.WritingLemmas.{decimal_last}
use Rattle.vtl_time.specs.declared.periods.Frequency.TheVariants.{Quarter}
use Rattle.vtl_decimal.specs.Settings.{Settings}
use Rattle.vtl_decimal.specs.declared.settings.Rounding.TheVariants.{HalfUp}
use Rattle.vtl_cell.specs.declared.cell.Cell.TheVariants as c
use Rattle.vtl_cell.specs.declared.kind.Kind.TheVariants as k
use Rattle.vtl_cell.specs.declared.operator.AggKind.TheVariants as agg
use Rattle.vtl_cell.specs.declared.operator.ScalarOp.{ScalarOp}
use Rattle.vtl_cell.specs.declared.operator.ScalarOp.TheVariants as op
use Rattle.vtl_tree.specs.CompExp.{CompExp, column, const, call, aggregate, no_comp_exps, comp_exp}
use Rattle.sql_lexer.specs.Spelling.{spelled}
use Rattle.sql_tree.specs.Printing.{written}
use Rattle.expressions_to_sql.specs.ToSql.{of_source, to_sql}

abbrev scale_six : Settings
scale_six = record { scale = 6; rounding = HalfUp }

-- in a select with one source of the alias `a`
abbrev shown : CompExp → List ℕ
shown e = run (λ t. 32 ∷ spelled t) (written (to_sql scale_six (of_source (codes "a")) e))

-- ---- operands

abbrev x : CompExp
x = column 0 (codes "x") k.Int

abbrev y : CompExp
y = column 1 (codes "y") k.Int

abbrev z : CompExp
z = column 2 (codes "z") k.Int

abbrev int : ℤ → CompExp
int n = const (c.Int n)

abbrev of_one : ScalarOp → CompExp → CompExp
of_one o a = call o k.Int (comp_exp a no_comp_exps)

abbrev of_two : ScalarOp → CompExp → CompExp → CompExp
of_two o a b = call o k.Int (comp_exp a (comp_exp b no_comp_exps))

abbrev of_three : ScalarOp → CompExp → CompExp → CompExp → CompExp
of_three o a b d = call o k.Int (comp_exp a (comp_exp b (comp_exp d no_comp_exps)))

abbrev text : List ℕ → CompExp
text t = const (c.Text t)

-- ---- operators

abbrev between_and_before : List (CompExp × List ℕ)
between_and_before =
    (of_two op.Or x y, codes " \"a\" . \"x\" OR \"a\" . \"y\"")
    ∷ (of_two op.Xor x y, codes " \"a\" . \"x\" XOR \"a\" . \"y\"")
    ∷ (of_two op.And x y, codes " \"a\" . \"x\" AND \"a\" . \"y\"")
    ∷ (of_two op.Equal x y, codes " \"a\" . \"x\" = \"a\" . \"y\"")
    ∷ (of_two op.NotEqual x y, codes " \"a\" . \"x\" <> \"a\" . \"y\"")
    ∷ (of_two op.Less x y, codes " \"a\" . \"x\" < \"a\" . \"y\"")
    ∷ (of_two op.LessOrEqual x y, codes " \"a\" . \"x\" <= \"a\" . \"y\"")
    ∷ (of_two op.Greater x y, codes " \"a\" . \"x\" > \"a\" . \"y\"")
    ∷ (of_two op.GreaterOrEqual x y, codes " \"a\" . \"x\" >= \"a\" . \"y\"")
    ∷ (of_two op.Add x y, codes " \"a\" . \"x\" + \"a\" . \"y\"")
    ∷ (of_two op.Subtract x y, codes " \"a\" . \"x\" - \"a\" . \"y\"")
    ∷ (of_two op.Concat x y, codes " \"a\" . \"x\" || \"a\" . \"y\"")
    ∷ (of_two op.Multiply x y, codes " \"a\" . \"x\" * \"a\" . \"y\"")
    ∷ (of_two op.Divide x y, codes " \"a\" . \"x\" / \"a\" . \"y\"")
    ∷ (of_one op.Not x, codes " NOT \"a\" . \"x\"")
    ∷ (of_one op.Identity x, codes " + \"a\" . \"x\"")
    ∷ (of_one op.Negate x, codes " - \"a\" . \"x\"")
    ∷ []

between_and_before_are : map (λ e. shown e.0) between_and_before ≡ map (λ e. e.1) between_and_before
between_and_before_are = refl

abbrev functions_and_forms : List (CompExp × List ℕ)
functions_and_forms =
    (of_one op.Absolute x, codes " ABS ( \"a\" . \"x\" )")
    ∷ (of_one op.Floor x, codes " FLOOR ( \"a\" . \"x\" )")
    ∷ (of_one op.Ceil x, codes " CEIL ( \"a\" . \"x\" )")
    ∷ (of_one op.Trim x, codes " TRIM ( \"a\" . \"x\" )")
    ∷ (of_one op.TrimLeft x, codes " LTRIM ( \"a\" . \"x\" )")
    ∷ (of_one op.TrimRight x, codes " RTRIM ( \"a\" . \"x\" )")
    ∷ (of_one op.Length x, codes " LENGTH ( \"a\" . \"x\" )")
    ∷ (of_two op.Modulo x y, codes " MOD ( \"a\" . \"x\" , \"a\" . \"y\" )")
    ∷ (of_two op.Position x y, codes " INSTR ( \"a\" . \"x\" , \"a\" . \"y\" )")
    ∷ (of_two op.ValueOr x y, codes " COALESCE ( \"a\" . \"x\" , \"a\" . \"y\" )")
    ∷ (of_three op.Between x y z, codes " BETWEEN ( \"a\" . \"x\" , \"a\" . \"y\" , \"a\" . \"z\" )")
    ∷ (of_three op.Replace x y z, codes " REPLACE ( \"a\" . \"x\" , \"a\" . \"y\" , \"a\" . \"z\" )")
    ∷ (of_two op.Replace x y, codes " REPLACE ( \"a\" . \"x\" , \"a\" . \"y\" , '' )")
    ∷ (of_one op.IsNull x, codes " \"a\" . \"x\" IS NULL")
    ∷ (of_three op.If x y z, codes " CASE WHEN \"a\" . \"x\" THEN \"a\" . \"y\" ELSE \"a\" . \"z\" END")
    ∷ (of_three op.In x (text (codes "b")) (text (codes "c")), codes " \"a\" . \"x\" IN ( 'b' , 'c' )")
    ∷ (of_three op.NotIn x (text (codes "b")) (text (codes "c")), codes " \"a\" . \"x\" NOT IN ( 'b' , 'c' )")
    ∷ []

functions_and_forms_are : map (λ e. shown e.0) functions_and_forms ≡ map (λ e. e.1) functions_and_forms
functions_and_forms_are = refl

-- ---- constants, aggregates, and brackets where they are needed

abbrev others : List (CompExp × List ℕ)
others =
    (const c.Null, codes " NULL")
    ∷ (const (c.Bool true), codes " TRUE")
    ∷ (const (c.Bool false), codes " FALSE")
    ∷ (text (codes "it's"), codes " 'it''s'")
    ∷ (const (c.Day (record { year = 2024; month = 2; day = 29 })), codes " DATE '2024-02-29'")
    ∷ (const (c.Period (record { frequency = Quarter; year = 2024; part = 3 })), codes " PERIOD '2024-Q3'")
    ∷ (aggregate (record { kind = agg.Count; component = None }) k.Int, codes " COUNT ( * )")
    ∷ (aggregate (record { kind = agg.Sum; component = Some (codes "x") }) k.Int, codes " SUM ( \"a\" . \"x\" )")
    ∷ (of_two op.Multiply (of_two op.Add x y) z, codes " ( \"a\" . \"x\" + \"a\" . \"y\" ) * \"a\" . \"z\"")
    ∷ []

others_are : map (λ e. shown e.0) others ≡ map (λ e. e.1) others
others_are = refl

-- ---- numbers

digit : (n : ℕ) → n < 10 → decimal n ≡ (48 + n) ∷ []
digit n h = sym (append-nil (decimal n)) ∙ decimal_last n [] h

-- an integer, behind a sign where it is negative
seven : shown (int (pos 7)) ≡ codes " 7"
seven = rw (digit 7 (omega arith)) refl

less_seven : shown (int (negsuc 6)) ≡ codes " - 7"
less_seven = rw (digit 7 (omega arith)) refl

-- a number has a point, whole or not
five : shown (const (c.Num (pos 5_000_000))) ≡ codes " 5.0"
unfolding shortest_digits last_digits
five = rw (digit 5 (omega arith)) refl

less_two_and_a_half : shown (const (c.Num (negsuc 2_499_999))) ≡ codes " - 2.5"
unfolding shortest_digits last_digits
less_two_and_a_half = rw (digit 2 (omega arith)) refl

-- digits that are written as a literal; in a set a sign belongs to its literal
rounded : shown (of_two op.Round x (of_one op.Negate (int (pos 2)))) ≡ codes " ROUND ( \"a\" . \"x\" , - 2 )"
rounded = rw (digit 2 (omega arith)) refl

cut : shown (of_three op.Substring x (int (pos 1)) (int (pos 3))) ≡ codes " SUBSTR ( \"a\" . \"x\" , 1 , 3 )"
cut = rw (digit 1 (omega arith), digit 3 (omega arith)) refl

listed : shown (of_two op.In x (int (negsuc 0))) ≡ codes " \"a\" . \"x\" IN ( - 1 )"
listed = rw (digit 1 (omega arith)) refl
