use Rattle.std.proofs.Common.{◌≡◌, List, ap, ◌∙◌}
use Rattle.vtl_rows.specs.Tables.{listed}
use Rattle.vtl_join.specs.Joining.{Joining}
use Rattle.vtl_join.specs.declared.joined.Operand.{Operand}
use Rattle.vtl_join.proofs.Gatherings.{product_columns, product_points, product_set, product_width, some_operand}
use Rattle.vtl_join.proofs.closing.product.Goals as goal

pub returns-clause-columns : goal.returns-clause-columns
returns-clause-columns c =
    let os = c.as_slice-operands.result.now in
    let js = c.args.j.now.operands in
    let seen : os ≡ js = c.as_slice-operands.ensures.value ∙ ap (λ (x : Joining). x.operands) c.j.view_is in
    product_columns (listed c.table.result.now) os js c.args.made.now seen c.operands_are_sets.ensures c.requires.made c.cross_gathering.result c.cross_gathering.ensures

pub returns-clause-width : goal.returns-clause-width
returns-clause-width c =
    let os = c.as_slice-operands.result.now in
    let js = c.args.j.now.operands in
    let seen : os ≡ js = c.as_slice-operands.ensures.value ∙ ap (λ (x : Joining). x.operands) c.j.view_is in
    product_width (listed c.table.result.now) os js c.args.made.now seen c.operands_are_sets.ensures c.requires.made c.cross_gathering.result c.cross_gathering.ensures

pub returns-clause-points : goal.returns-clause-points
returns-clause-points c =
    let os = c.as_slice-operands.result.now in
    let js = c.args.j.now.operands in
    let seen : os ≡ js = c.as_slice-operands.ensures.value ∙ ap (λ (x : Joining). x.operands) c.j.view_is in
    product_points (listed c.table.result.now) os js c.args.made.now seen c.operands_are_sets.ensures c.requires.made c.cross_gathering.result c.cross_gathering.ensures

pub returns-clause-set : goal.returns-clause-set
returns-clause-set c =
    let os = c.as_slice-operands.result.now in
    let js = c.args.j.now.operands in
    let seen : os ≡ js = c.as_slice-operands.ensures.value ∙ ap (λ (x : Joining). x.operands) c.j.view_is in
    product_set (listed c.table.result.now) os js c.args.made.now seen c.operands_are_sets.ensures c.requires.made
