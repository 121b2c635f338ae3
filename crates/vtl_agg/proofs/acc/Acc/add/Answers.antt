use Rattle.std.proofs.Common.{◌≡◌, false, sym, ap, ◌∙◌, subst}
use Rattle.std.proofs.lemmas.Result.{on_ok_weaker, on_err_weaker}
use Rattle.vtl_cell.specs.Kinds.{is_null}
use Rattle.vtl_agg.specs.Added.{known_with}
use Rattle.vtl_agg.specs.States.{IsRoomy, is_small, known}
use Rattle.vtl_agg.proofs.KnownLemmas.{added_value, is_roomy, stays_small, not_null, seen}
use Rattle.vtl_agg.proofs.acc.Acc.add.Goals as goal

pub add_value-requires : goal.add_value-requires
add_value-requires c = subst IsRoomy (ap (λ a. a.known) (sym c.self.view_is)) (is_roomy c.args.self.now c.requires)

pub returns-clause-added : goal.returns-clause-added
returns-clause-added c =
    let a = c.args.self.now in
    let inside = c.self.inside in
    let value : is_null c.args.c.now ≡ false = not_null c.args.c.now c.in_default.not-Null in
    on_ok_weaker c.add_value.result
    (λ e xs h.
    added_value a (seen inside.profile inside.kind (known c.add_value.new.state)) xs c.args.c.now
    (ap (λ b. b.settings) c.self.view_is)
    (ap (λ b. b.kind) c.self.view_is)
    (e ∙ ap (λ b. known_with b.settings b.kind b.known c.args.c.now) c.self.view_is)
    value
    h)
    c.add_value.ensures.added

pub returns-clause-err : goal.returns-clause-err
returns-clause-err c =
    on_err_weaker c.add_value.result
    (λ e. ap (λ k. seen c.self.inside.profile c.self.inside.kind k) e ∙ c.self.view_is)
    c.add_value.ensures.err

pub returns-clause-sure : goal.returns-clause-sure
returns-clause-sure c = λ e. c.add_value.ensures.sure (ap (λ a. is_small a.known) c.self.view_is ∙ stays_small c.args.self.now c.requires e)
