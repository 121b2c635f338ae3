-- Reading the parts that hold no expression, one function for each function of the reader.
use Rattle.std.specs.Prelude.{ℕ, true, false, List, Option, None, Some}
use Rattle.vtl_lexer.specs.declared.keyword.Keyword.TheVariants as keyword
use Rattle.vtl_lexer.specs.declared.token.Sign.TheVariants as sign
use Rattle.vtl_syntax.specs.declared.parts.Comp.{Comp}
use Rattle.vtl_syntax.specs.declared.parts.Comp.TheVariants as comp
use Rattle.vtl_syntax.specs.declared.parts.Constant.{Constant}
use Rattle.vtl_syntax.specs.declared.parts.Constant.TheVariants as constants
use Rattle.vtl_syntax.specs.declared.parts.DataPoints.{DataPoints}
use Rattle.vtl_syntax.specs.declared.parts.ErrorPart.{ErrorPart}
use Rattle.vtl_syntax.specs.declared.parts.GroupPart.{GroupPart}
use Rattle.vtl_syntax.specs.declared.parts.Keeping.{Keeping}
use Rattle.vtl_syntax.specs.declared.parts.Keeping.TheVariants as kept
use Rattle.vtl_syntax.specs.declared.parts.Limit.{Limit}
use Rattle.vtl_syntax.specs.declared.parts.Limit.TheVariants as limits
use Rattle.vtl_syntax.specs.declared.parts.Literal.{Literal}
use Rattle.vtl_syntax.specs.declared.parts.Literal.TheVariants as literals
use Rattle.vtl_syntax.specs.declared.parts.OrderPart.{OrderPart}
use Rattle.vtl_syntax.specs.declared.parts.OverPart.{OverPart}
use Rattle.vtl_syntax.specs.declared.parts.Reference.{Reference}
use Rattle.vtl_syntax.specs.declared.parts.Reference.TheVariants as references
use Rattle.vtl_syntax.specs.declared.parts.RenamePart.{RenamePart}
use Rattle.vtl_syntax.specs.declared.parts.SubPart.{SubPart}
use Rattle.vtl_syntax.specs.declared.parts.TimeCall.{TimeCall}
use Rattle.vtl_syntax.specs.declared.parts.TimeCall.TheVariants as time_calls
use Rattle.vtl_syntax.specs.declared.word_groups.CastKind.{CastKind}
use Rattle.vtl_syntax.specs.declared.word_groups.Filling.{Filling}
use Rattle.vtl_syntax.specs.declared.word_groups.TimeName.{TimeName}
use Rattle.vtl_syntax.specs.declared.word_groups.TimeName.TheVariants as time_names
use Rattle.vtl_grammar.specs.Grammar.{Tokens}
use Rattle.vtl_lists.specs.Options.{◌>>=◌, given}
use Rattle.vtl_grammar.specs.Reading.{Reads, after_keyword, after_sign, word, maybe_word, maybe_after, listed}
use Rattle.vtl_grammar.specs.Words.{name_at, string_at, integer_at, comp_at, numeral_at, constant_at, cast_kind_at, group_kind_at, direction_at, side_at, retain_at, filling_at}
use Rattle.vtl_syntax.specs.declared.word_groups.Retain.{Retain}

-- what stands between the brackets of `cast`
unfoldable pub cast_part : Reads (List ℕ × CastKind)
cast_part ts =
    word string_at ts
    >>= (λ s. after_sign sign.Comma s.1
    >>= (λ after. word cast_kind_at after
    >>= (λ k. Some ((s.0, k.0), k.1))))

-- the literal that a constant is
abbrev pub literal_of : Constant → Option Literal
literal_of (constants.Number n) = Some (literals.Number false n)
literal_of (constants.String s) = Some (literals.String s)
literal_of (constants.Boolean b) = Some (literals.Boolean b)
literal_of constants.Null = None
literal_of (constants.Cast s k) = Some (literals.Cast s k)

unfoldable pub cast_literal : Reads Literal
cast_literal ts =
    after_keyword keyword.Cast ts
    >>= (λ after. after_sign sign.OpenBracket after
    >>= (λ inner. cast_part inner
    >>= (λ p. after_sign sign.CloseBracket p.1
    >>= (λ rest. Some (literals.Cast p.0.0 p.0.1, rest)))))

unfoldable pub literal : Reads Literal
literal ts =
    given (after_sign sign.Minus ts) (λ after. word numeral_at after >>= (λ n. Some (literals.Number true n.0, n.1)))
    (given (word constant_at ts) (λ c. literal_of c.0 >>= (λ l. Some (l, c.1)))
    (cast_literal ts))

unfoldable pub literals_listed : Reads (List Literal)
literals_listed = listed literal

unfoldable pub literal_set : Reads (List Literal)
literal_set ts =
    after_sign sign.OpenBrace ts
    >>= (λ after. literals_listed after
    >>= (λ ls. after_sign sign.CloseBrace ls.1
    >>= (λ rest. Some (ls.0, rest))))

unfoldable pub comps : Reads (List Comp)
comps = listed (word comp_at)

unfoldable pub error_part : Reads ErrorPart
error_part ts =
    maybe_after keyword.Errorcode (word string_at) ts
    >>= (λ c. maybe_after keyword.Errorlevel (word integer_at) c.1
    >>= (λ l. Some (record { code = c.0; level = l.0 }, l.1)))

-- [ "group" ( "by" | "except" ) comps ]
unfoldable pub group_part : Reads (Option GroupPart)
group_part ts =
    given (after_keyword keyword.Group ts)
    (λ after. word group_kind_at after >>= (λ k. comps k.1 >>= (λ cs. Some (Some (record { kind = k.0; names = cs.0 }), cs.1))))
    (Some (None, ts))

unfoldable pub order_part : Reads OrderPart
order_part ts =
    word comp_at ts >>= (λ c. Some (record { component = c.0; direction = (maybe_word direction_at c.1).0 }, (maybe_word direction_at c.1).1))

unfoldable pub order_parts : Reads (List OrderPart)
order_parts = listed order_part

-- "current" "data" "point"
unfoldable pub current : Reads Limit
current ts =
    after_keyword keyword.Current ts
    >>= (λ a. after_keyword keyword.Data a
    >>= (λ b. after_keyword keyword.Point b
    >>= (λ rest. Some (limits.Current, rest))))

unfoldable pub limit : Reads Limit
limit ts =
    given (after_keyword keyword.Unbounded ts) (λ after. word side_at after >>= (λ s. Some (limits.Unbounded s.0, s.1)))
    (given (word integer_at ts) (λ d. word side_at d.1 >>= (λ s. Some (limits.Points d.0 s.0, s.1)))
    (current ts))

-- [ "partition" "by" comps ]
unfoldable pub partition_part : Reads (Option (List Comp))
partition_part ts =
    given (after_keyword keyword.Partition ts)
    (λ a. after_keyword keyword.By a >>= (λ b. comps b >>= (λ cs. Some (Some cs.0, cs.1))))
    (Some (None, ts))

-- [ "order" "by" keys ]
unfoldable pub order_by_part : Reads (Option (List OrderPart))
order_by_part ts =
    given (after_keyword keyword.Order ts)
    (λ a. after_keyword keyword.By a >>= (λ b. order_parts b >>= (λ os. Some (Some os.0, os.1))))
    (Some (None, ts))

-- the bounds of a frame
unfoldable pub limits_between : Reads DataPoints
limits_between ts =
    after_keyword keyword.Points ts
    >>= (λ a. after_keyword keyword.Between a
    >>= (λ b. limit b
    >>= (λ f. after_keyword keyword.And f.1
    >>= (λ c. limit c
    >>= (λ t. Some (record { from = f.0; to = t.0 }, t.1))))))

-- [ "data" "points" "between" bound "and" bound ]
unfoldable pub points_part : Reads (Option DataPoints)
points_part ts = maybe_after keyword.Data limits_between ts

unfoldable pub over_part : Reads OverPart
over_part ts =
    after_keyword keyword.Over ts
    >>= (λ a. after_sign sign.OpenBracket a
    >>= (λ b. partition_part b
    >>= (λ p. order_by_part p.1
    >>= (λ o. points_part o.1
    >>= (λ d. after_sign sign.CloseBracket d.1
    >>= (λ rest. Some (record { partition = p.0; order = o.0; points = d.0 }, rest)))))))

-- the name that a component name is where it is not quoted
abbrev pub plain_name : Comp → Option (List ℕ)
plain_name (comp.Name n) = Some n
plain_name (comp.Quoted n) = None

unfoldable pub reference : Reads Reference
reference ts =
    word comp_at ts
    >>= (λ c. given (after_sign sign.Hash c.1)
    (λ after. plain_name c.0 >>= (λ n. word comp_at after >>= (λ m. Some (references.Member n m.0, m.1))))
    (Some (references.Component c.0, c.1)))

unfoldable pub references_listed : Reads (List Reference)
references_listed = listed reference

unfoldable pub rename_part : Reads RenamePart
rename_part ts =
    reference ts
    >>= (λ f. after_keyword keyword.To f.1
    >>= (λ after. word comp_at after
    >>= (λ t. Some (record { from = f.0; to = t.0 }, t.1))))

unfoldable pub rename_parts : Reads (List RenamePart)
rename_parts = listed rename_part

-- [ "rename" renames ]
unfoldable pub maybe_renames : Reads (Option (List RenamePart))
maybe_renames ts = maybe_after keyword.Rename rename_parts ts

unfoldable pub sub_part : Reads SubPart
sub_part ts =
    word comp_at ts
    >>= (λ c. after_sign sign.Equal c.1
    >>= (λ after. literal after
    >>= (λ l. Some (record { component = c.0; value = l.0 }, l.1))))

unfoldable pub sub_parts : Reads (List SubPart)
sub_parts = listed sub_part

-- [ "keep" refs | "drop" refs ]
unfoldable pub maybe_keeping : Reads (Option Keeping)
maybe_keeping ts =
    given (after_keyword keyword.Keep ts) (λ after. references_listed after >>= (λ rs. Some (Some (kept.Keep rs.0), rs.1)))
    (given (after_keyword keyword.Drop ts) (λ after. references_listed after >>= (λ rs. Some (Some (kept.Drop rs.0), rs.1)))
    (Some (None, ts)))

-- comp "," comp
unfoldable pub two_comps : Reads (Comp × Comp)
two_comps ts =
    word comp_at ts
    >>= (λ a. after_sign sign.Comma a.1
    >>= (λ after. word comp_at after
    >>= (λ b. Some ((a.0, b.0), b.1))))

-- [ "using" comps ]
unfoldable pub using_part : Reads (Option (List Comp))
using_part ts = maybe_after keyword.Using comps ts

-- [ "as" name ]
unfoldable pub alias_part : Reads (Option (List ℕ))
alias_part ts = maybe_after keyword.As (word name_at) ts

-- "," integer [ "," lit ]
unfoldable pub shift_part : Reads (List ℕ × Option Literal)
shift_part ts =
    after_sign sign.Comma ts
    >>= (λ a. word integer_at a
    >>= (λ d. given (after_sign sign.Comma d.1) (λ b. literal b >>= (λ l. Some ((d.0, Some l.0), l.1))) (Some ((d.0, None), d.1))))

-- [ "," ( "all" | "true" | "false" ) ]
unfoldable pub retain_part : Reads (Option Retain)
retain_part ts = given (after_sign sign.Comma ts) (λ after. word retain_at after >>= (λ r. Some (Some r.0, r.1))) (Some (None, ts))

-- "," [ "-" ] integer
unfoldable pub periods_part : Reads TimeCall
periods_part ts =
    after_sign sign.Comma ts
    >>= (λ a. given (after_sign sign.Minus a) (λ b. word integer_at b >>= (λ d. Some (time_calls.Timeshift true d.0, d.1)))
    (word integer_at a >>= (λ d. Some (time_calls.Timeshift false d.0, d.1))))

-- [ "," ( "single" | "all" ) ]
unfoldable pub filling_part : Reads (Option Filling)
filling_part ts = given (after_sign sign.Comma ts) (λ after. word filling_at after >>= (λ f. Some (Some f.0, f.1))) (Some (None, ts))

-- what stands behind the operand of the time operator
unfoldable pub time_part : TimeName → Reads TimeCall
time_part time_names.Timeshift ts = periods_part ts
time_part time_names.FillTimeSeries ts = filling_part ts >>= (λ f. Some (time_calls.FillTimeSeries f.0, f.1))
time_part time_names.FlowToStock ts = Some (time_calls.FlowToStock, ts)
time_part time_names.StockToFlow ts = Some (time_calls.StockToFlow, ts)

-- "," name
unfoldable pub ruleset_part : Reads (List ℕ)
ruleset_part ts = after_sign sign.Comma ts >>= (λ after. word name_at after)

-- [ "rule" comp ]; the word alone is left, since it may be an input
unfoldable pub rule_part : Tokens → Option Comp × Tokens
rule_part ts =
    given (after_keyword keyword.Rule ts) (λ after. given (word comp_at after) (λ c. (Some c.0, c.1)) (None, ts)) (None, ts)
