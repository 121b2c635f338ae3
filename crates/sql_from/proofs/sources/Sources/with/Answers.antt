use Rattle.std.proofs.Common.{◌≡◌, ◌∙◌, ◌++◌, ◌∷◌, [], ◌+◌, List, length, map, ap, sym, subst, Some, None, Option, IsSome, arith, refl}
use Rattle.std.specs.Borrow.{Bor}
use Rattle.std.specs.List.{AllByRecursion, list_any}
use Rattle.std.specs.Map.{keys_of}
use Rattle.std.proofs.lemmas.List.{length-map, map-append}
use Rattle.vtl_text.specs.Texts.{same_text}
use Rattle.vtl_rows.specs.Named.{table_of}
use Rattle.vtl_rows.specs.declared.gather.Pick.{Pick}
use Rattle.vtl_rows.specs.Tables.{Listed}
use Rattle.std.specs.Prelude.{IfSome}
use Rattle.vtl_lists.proofs.Alls.{all_push}
use Rattle.sql_from.specs.Held.{IsHeld}
use Rattle.sql_from.specs.Rows.{picks_from, picks_at, width_of}
use Rattle.sql_from.specs.Sources.{AreSited, IsWide, parts_of, scope_held, source_of, table_given, table_named}
use Rattle.sql_from.specs.declared.sources.SourceTable.{SourceTable}
use Rattle.sql_from.proofs.FromGiven.{copied_is, copied_there, maybe_there}
use Rattle.sql_from.proofs.GivenTables.{source_held}
use Rattle.sql_from.proofs.Parted.{length-picks_from, picks_last}
use Rattle.sql_from.proofs.Sited.{keys_are, sited_last}
use Rattle.sql_from.proofs.sources.Sources.with.Goals as goal

pub unwrap-table-requires : goal.unwrap-table-requires
unwrap-table-requires c =
    let source = c.args.source.now in
    copied_there c.args.table (table_given c.args.self.held source) (c.requires.table ∙ maybe_there c.args.self.held source c.requires.typed.0)

pub put-requires : goal.put-requires
put-requires c =
    ap (λ n. list_any (same_text n) (keys_of c.self.inside.sources)) c.in_ok-share.ensures
    ∙ ap (list_any (same_text c.args.source.now.alias)) (sym (keys_are c.self.inside.sources) ∙ ap (λ s. keys_of (scope_held s.sources)) c.self.view_is) ∙ c.requires.typed.1

pub invariant_of-result : goal.invariant_of-result
invariant_of-result c =
    let ss = c.self.inside.sources in
    let table = c.unwrap-table.result in
    let alias = c.in_ok-share.field-0 in
    let held = c.self.inside.held.now in
    let source = c.args.source.now in
    let is : table.now ≡ table_given held source =
    copied_is c.args.table table (table_given c.args.self.held source) c.unwrap-table.ensures (c.requires.table ∙ maybe_there c.args.self.held source c.requires.typed.0) ∙ ap (λ s. table_given s.held source) (sym c.self.view_is) in
    let now : SourceTable = record { table = table; first = c.len-first.result } in
    let parts = parts_of (map source_of ss) in
    let made : c.put.new.self ≡ ss ++ (alias, now) ∷ [] = c.in_ok-put.ensures.put in
    let shown : parts_of (map source_of (ss ++ (alias, now) ∷ [])) ≡ parts ++ table.now ∷ [] = ap parts_of (map-append source_of ss ((alias, now) ∷ [])) ∙ map-append (λ s. s.1) (map source_of ss) ((alias, table.now) ∷ []) in
    let wide : length c.self.inside.picks.items ≡ width_of parts = ap (λ (l : List Pick). length l) c.self.invariant.picked ∙ length-picks_from 0 parts in
    let first : c.len-first.result ≡ 0 + width_of parts = omega (arith, wide, c.len-first.ensures, c.self.inside.picks.ok) in
    let many : length parts ≡ length ss = length-map (map source_of ss) (λ s. s.1) ∙ length-map ss source_of in
    let place : c.len.result ≡ 0 + length parts = omega (arith, many, c.len.ensures) in
    let listed_is = c.table.ensures in
    let picked : c.push_picks.new.picks.items ≡ picks_from 0 (parts ++ table.now ∷ []) =
    c.in_ok-push_picks.ensures ∙ (λ i. c.self.invariant.picked i ++ picks_at (place i) (length ((c.columns.ensures.columns ∙ ap (λ t. t.columns) listed_is) i))) ∙ sym (picks_last 0 parts table.now) in
    let sited : AreSited 0 (ss ++ (alias, now) ∷ []) = sited_last 0 ss alias now c.self.invariant.sited first in
    let rows : AllByRecursion IsWide (parts ++ table.now ∷ []) = all_push IsWide parts table.now c.self.invariant.wide (subst IsWide listed_is c.columns.ensures.wide) in
    record {
      sited = subst (AreSited 0) (sym made) sited;
      picked = picked ∙ ap (picks_from 0) (sym shown) ∙ ap (λ l. picks_from 0 (parts_of (map source_of l))) (sym made);
      wide = subst (λ l. AllByRecursion IsWide (parts_of (map source_of l))) (sym made) (subst (AllByRecursion IsWide) (sym shown) rows);
      among = subst (λ l. AllByRecursion (IsHeld held) (parts_of (map source_of l))) (sym made) (subst (AllByRecursion (IsHeld held)) (sym shown) (all_push (IsHeld held) parts table.now c.self.invariant.among (subst (IsHeld held) (sym is) (source_held held source))));
      null = c.self.invariant.null;
    }
