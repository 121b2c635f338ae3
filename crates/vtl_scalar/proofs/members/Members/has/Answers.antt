use Rattle.std.proofs.Common.{rules, ◌≡◌, Some, None, ◌∙◌}
use Rattle.vtl_cell.specs.ScalarComparison.{member_of}
use Rattle.vtl_scalar.proofs.MemberLemmas.{found_in_first, only_in_second, unknown_in_first, unknown_in_second}
use Rattle.vtl_scalar.proofs.members.Members.has.Goals as goal

pub returns-in_err-is_integer : goal.returns-in_err-is_integer
returns-in_err-is_integer c =
    let none : c.from_residual.result ≡ None = search rules in
    let first : None ≡ member_of c.args.p.now c.args.a.now c.self.inside.integers = search rules in
    none ∙ unknown_in_first c.args.p.now c.args.a.now c.self.inside.integers c.self.inside.others c.args.self.now c.self.view_is c.self.invariant first

pub returns-in_err-is_other : goal.returns-in_err-is_other
returns-in_err-is_other c =
    let none : c.from_residual-in_err-is_other.result ≡ None = search rules in
    let second : None ≡ member_of c.args.p.now c.args.a.now c.self.inside.others = search rules in
    none ∙ unknown_in_second c.args.p.now c.args.a.now c.self.inside.integers c.self.inside.others c.args.self.now c.self.view_is c.self.invariant second

pub returns-then-is_integer : goal.returns-then-is_integer
returns-then-is_integer c =
    let first : Some c.in_ok-is_integer.is_integer ≡ member_of c.args.p.now c.args.a.now c.self.inside.integers = search rules in
    let second : Some c.in_ok-is_other.is_other ≡ member_of c.args.p.now c.args.a.now c.self.inside.others = search rules in
    found_in_first c.args.p.now c.args.a.now c.self.inside.integers c.self.inside.others c.args.self.now c.self.view_is c.self.invariant c.in_ok-is_integer.is_integer c.in_ok-is_other.is_other first second c.if-is_integer.true

pub returns-else-is_integer : goal.returns-else-is_integer
returns-else-is_integer c =
    let first : Some c.in_ok-is_integer.is_integer ≡ member_of c.args.p.now c.args.a.now c.self.inside.integers = search rules in
    let second : Some c.in_ok-is_other.is_other ≡ member_of c.args.p.now c.args.a.now c.self.inside.others = search rules in
    only_in_second c.args.p.now c.args.a.now c.self.inside.integers c.self.inside.others c.args.self.now c.self.view_is c.self.invariant c.in_ok-is_integer.is_integer c.in_ok-is_other.is_other first second c.if-is_integer.false
