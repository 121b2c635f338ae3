use Rattle.std.proofs.Common.{◌≡◌, ◌++◌, ◌∷◌, [], OnOk, ap, ◌∙◌, subst, sym}
use Rattle.std.specs.Borrow.{Bor}
use Rattle.std.specs.Option.{option_map}
use Rattle.vtl_rows.specs.Named.{table_of}
use Rattle.vtl_rows.specs.Tables.{Tabled, listed}
use Rattle.vtl_interp.proofs.Reorders.{new_is_put, taken_is_put}
use Rattle.vtl_interp.proofs.ordered.put_sorted.Goals as goal

pub returns-in-Some : goal.returns-in-Some
returns-in-Some c =
    let some = ap (option_map (λ (t : Bor Tabled). listed t.now)) c.in-Some.is in
    taken_is_put c.args.name.now (listed c.args.table.now) c.args.sorted.now (option_map (λ (t : Bor Tabled). listed t.now) c.get.result) c.get.ensures (λ e. cc)

pub put-requires : goal.put-requires
put-requires c = ap (λ n. table_of n c.args.sorted.now) c.in_ok-shared-in-None.ensures ∙ sym c.get.ensures ∙ ap (option_map (λ (t : Bor Tabled). listed t.now)) c.in-None.is

pub returns-in_ok-rows-in-None : goal.returns-in_ok-rows-in-None
returns-in_ok-rows-in-None c =
    let same = c.in_ok-shared-in-None.ensures in
    new_is_put c.args.name.now (listed c.args.table.now) (listed c.in_ok-rows-in-None.rows) c.args.sorted.now c.put.new.self c.put.result (sym c.get.ensures ∙ ap (option_map (λ (t : Bor Tabled). listed t.now)) c.in-None.is) c.in_ok-rows-in-None.ensures
    (subst (λ n. OnOk c.put.result (c.put.new.self ≡ c.args.sorted.now ++ (n, listed c.in_ok-rows-in-None.rows) ∷ [])) same c.put.ensures.put)
