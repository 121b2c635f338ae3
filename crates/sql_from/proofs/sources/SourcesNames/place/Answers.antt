use Rattle.std.proofs.Common.{◌≡◌, ◌∙◌, ap, sym, length, List, arith}
use Rattle.vtl_rows.specs.declared.gather.Pick.{Pick}
use Rattle.std.specs.Option.{option_map}
use Rattle.std.specs.Prelude.{unwrap_or}
use Rattle.sql_check_parts.specs.Scopes.{row_of}
use Rattle.sql_from.specs.Rows.{width_of}
use Rattle.sql_from.specs.Sources.{parts_of, scope_held}
use Rattle.sql_from.proofs.Parted.{length-picks_from}
use Rattle.sql_from.proofs.Sited.{row_wide}
use Rattle.sql_from.proofs.sources.SourcesNames.place.Goals as goal

pub returns-in-None : goal.returns-in-None
returns-in-None c =
    let ss = c.args.self.now.sources in
    let seen = ap (λ s. s.sources) c.self.view_is in
    let wide : length c.self.inside.picks.items ≡ length (row_of (scope_held ss)) = ap (λ (l : List Pick). length l) c.self.invariant.picked ∙ length-picks_from 0 _ ∙ ap (λ s. width_of (parts_of s)) seen ∙ sym (row_wide ss) in
    let long : c.len.result ≡ length c.self.inside.picks.items = omega (arith, c.len.ensures, c.self.inside.picks.ok) in
    long ∙ wide ∙ ap (λ o. unwrap_or o (length (row_of (scope_held ss)))) (ap (option_map (λ k. k.place)) (sym c.in-None.is) ∙ c.column.ensures.place)
