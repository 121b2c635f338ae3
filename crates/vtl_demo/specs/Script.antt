-- The script: its text, and the tree that it spells.
use Rattle.std.specs.Prelude.{ℕ, List, [], ◌∷◌, Some, None, codes}
use Rattle.vtl_decimal.specs.Settings.{Settings}
use Rattle.vtl_decimal.specs.declared.settings.Rounding.TheVariants.{HalfUp}
use Rattle.vtl_syntax.specs.Trees.{Exp, ScriptTree, aggregate, assignment, binary, calc, calc_part, component, join, join_part, keeping, no_calcs, no_exp, no_parts, no_targets, some_exp, targets, with_clause}
use Rattle.vtl_syntax.specs.declared.parts.Comp.TheVariants as comp
use Rattle.vtl_syntax.specs.declared.parts.Keeping.TheVariants as kept
use Rattle.vtl_syntax.specs.declared.parts.Reference.TheVariants as reference
use Rattle.vtl_syntax.specs.declared.word_groups.AggregateName.TheVariants as name
use Rattle.vtl_syntax.specs.declared.word_groups.AssignKind.TheVariants as assigned
use Rattle.vtl_syntax.specs.declared.word_groups.BinaryOp.TheVariants as op
use Rattle.vtl_syntax.specs.declared.word_groups.GroupKind.TheVariants as group
use Rattle.vtl_syntax.specs.declared.word_groups.JoinKind.TheVariants as kind
use Rattle.vtl_syntax.specs.declared.word_groups.WrittenRole.TheVariants as role

-- six digits after the point, and halves go away from zero
abbrev pub settings : Settings
settings = record { scale = 6; rounding = HalfUp }

abbrev pub text : List ℕ
text = codes "DS_j <- inner_join(D_A as a, D_B as b);\nDS_g <- sum(DS_j[calc measure v := Me_1 * Me_2][keep v] group by Id_2);\n"

-- ---- the tree
abbrev pub named : List ℕ → Exp
named word = component (comp.Name word)

abbrev pub joined : Exp
joined = join kind.Inner (join_part (named (codes "D_A")) (Some (codes "a")) (join_part (named (codes "D_B")) (Some (codes "b")) no_parts)) None no_exp no_targets None None

abbrev pub product : Exp
product = binary (named (codes "Me_1")) op.Multiply (named (codes "Me_2"))

abbrev pub multiplied : Exp
multiplied = with_clause (named (codes "DS_j")) (targets (calc (calc_part (Some role.Measure) (comp.Name (codes "v")) product no_calcs)))

abbrev pub kept_products : Exp
kept_products = with_clause multiplied (keeping (kept.Keep (reference.Component (comp.Name (codes "v")) ∷ [])))

abbrev pub summed : Exp
summed = aggregate name.Sum (some_exp kept_products) (Some (record { kind = group.By; names = comp.Name (codes "Id_2") ∷ [] })) no_exp

abbrev pub tree : ScriptTree
tree = assignment (codes "DS_j") assigned.Persistent joined ∷ assignment (codes "DS_g") assigned.Persistent summed ∷ []
