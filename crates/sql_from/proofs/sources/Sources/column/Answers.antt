use Rattle.std.proofs.Common.{◌≡◌, ◌∙◌, ◌+◌, ℕ, List, Some, length, map, ap, sym, arith}
use Rattle.std.specs.Option.{option_copied, option_map}
use Rattle.std.specs.Prelude.{option_and_then}
use Rattle.vtl_rows.specs.declared.gather.Pick.{Pick}
use Rattle.sql_check_parts.specs.Scopes.{found, placed, value_among}
use Rattle.sql_from.specs.Rows.{width_of}
use Rattle.sql_from.specs.Sources.{parts_of, scope_held, source_of}
use Rattle.sql_from.specs.declared.sources.SourceTable.{SourceTable}
use Rattle.sql_from.proofs.Parted.{length-picks_from}
use Rattle.sql_from.proofs.Sited.{found_kind, found_place, kind_in, place_from, place_moved, place_within}
use Rattle.sql_from.proofs.sources.Sources.column.Goals as goal

pub returns-in_err-source-clause-kind : goal.returns-in_err-source-clause-kind
returns-in_err-source-clause-kind c =
    let x = c.args.column.now in
    ap (option_map (λ k. k.kind)) c.from_residual.ensures
    ∙ ap (option_and_then (λ (s : SourceTable). kind_in s x)) (sym (ap option_copied c.in_err-source.was) ∙ c.get.ensures)
    ∙ found_kind c.self.inside.sources x ∙ ap (λ s. found (scope_held s.sources) x) c.self.view_is

pub returns-in_err-source-clause-place : goal.returns-in_err-source-clause-place
returns-in_err-source-clause-place c =
    let x = c.args.column.now in
    ap (option_map (λ k. k.place)) c.from_residual.ensures
    ∙ ap (option_and_then (λ (s : SourceTable). place_from s x)) (sym (ap option_copied c.in_err-source.was) ∙ c.get.ensures)
    ∙ found_place c.self.inside.sources x c.self.invariant.sited ∙ ap (λ s. found (placed (scope_held s.sources)) x) c.self.view_is

pub returns-in_err-own-clause-kind : goal.returns-in_err-own-clause-kind
returns-in_err-own-clause-kind c =
    let x = c.args.column.now in
    let known : value_among c.self.inside.sources x.source ≡ Some c.in_ok-source.source.now = sym c.get.ensures ∙ ap option_copied c.in_ok-source.was in
    ap (option_map (λ k. k.kind)) c.from_residual-in_err-own.ensures ∙ sym (ap (option_map (λ k. k.kind)) c.in_err-own.was) ∙ c.column.ensures.kind
    ∙ ap (option_and_then (λ (s : SourceTable). kind_in s x)) (sym known)
    ∙ found_kind c.self.inside.sources x ∙ ap (λ s. found (scope_held s.sources) x) c.self.view_is

pub returns-in_err-own-clause-place : goal.returns-in_err-own-clause-place
returns-in_err-own-clause-place c =
    let x = c.args.column.now in
    let source = c.in_ok-source.source.now in
    let known : value_among c.self.inside.sources x.source ≡ Some source = sym c.get.ensures ∙ ap option_copied c.in_ok-source.was in
    ap (option_map (λ k. k.place)) c.from_residual-in_err-own.ensures
    ∙ ap (option_map (λ (k : ℕ). source.first + k)) (sym (ap (option_map (λ k. k.place)) c.in_err-own.was) ∙ c.column.ensures.place) ∙ sym (place_moved source x)
    ∙ ap (option_and_then (λ (s : SourceTable). place_from s x)) (sym known)
    ∙ found_place c.self.inside.sources x c.self.invariant.sited ∙ ap (λ s. found (placed (scope_held s.sources)) x) c.self.view_is

pub overflow_add-result : goal.overflow_add-result
overflow_add-result c =
    let x = c.args.column.now in
    let ss = c.self.inside.sources in
    let known : value_among ss x.source ≡ Some c.in_ok-source.source.now = sym c.get.ensures ∙ ap option_copied c.in_ok-source.was in
    let wide : length c.self.inside.picks.items ≡ width_of (parts_of (map source_of ss)) = ap (λ (l : List Pick). length l) c.self.invariant.picked ∙ length-picks_from 0 (parts_of (map source_of ss)) in
    let within = place_within ss x c.in_ok-source.source.now c.in_ok-own.own.place c.self.invariant.sited known (sym c.column.ensures.place ∙ ap (option_map (λ k. k.place)) c.in_ok-own.was) in
    omega (arith, wide, within, c.self.inside.picks.ok)

pub returns-clause-kind : goal.returns-clause-kind
returns-clause-kind c =
    let x = c.args.column.now in
    let known : value_among c.self.inside.sources x.source ≡ Some c.in_ok-source.source.now = sym c.get.ensures ∙ ap option_copied c.in_ok-source.was in
    sym (ap (option_map (λ k. k.kind)) c.in_ok-own.was) ∙ c.column.ensures.kind
    ∙ ap (option_and_then (λ (s : SourceTable). kind_in s x)) (sym known)
    ∙ found_kind c.self.inside.sources x ∙ ap (λ s. found (scope_held s.sources) x) c.self.view_is

pub returns-clause-place : goal.returns-clause-place
returns-clause-place c =
    let x = c.args.column.now in
    let source = c.in_ok-source.source.now in
    let known : value_among c.self.inside.sources x.source ≡ Some source = sym c.get.ensures ∙ ap option_copied c.in_ok-source.was in
    ap (option_map (λ (k : ℕ). source.first + k)) (sym (ap (option_map (λ k. k.place)) c.in_ok-own.was) ∙ c.column.ensures.place) ∙ sym (place_moved source x)
    ∙ ap (option_and_then (λ (s : SourceTable). place_from s x)) (sym known)
    ∙ found_place c.self.inside.sources x c.self.invariant.sited ∙ ap (λ s. found (placed (scope_held s.sources)) x) c.self.view_is
