-- How many of a list's components have a role, and how many are times.
use Rattle.std.proofs.Common.{ℕ, ◌≡◌, ◌+◌, ◌<◌, List, filter, length, take, get_or, cond}
use Rattle.std.proofs.lemmas.List.Filters.{length-filter_more}
use Rattle.vtl_tree.specs.Structure.{same_role}
use Rattle.vtl_tree.specs.Times.{is_time}
use Rattle.vtl_tree.specs.declared.structure.Component.{Component}
use Rattle.vtl_tree.specs.declared.structure.Role.{Role}

pub one_more : (r : Role) (xs : List Component) (i : ℕ) (d : Component) → i < length xs → length (filter (λ x. same_role x.role r) (take (i + 1) xs)) ≡ length (filter (λ x. same_role x.role r) (take i xs)) + cond (same_role (get_or xs i d).role r) 1 0
one_more r xs i d h = length-filter_more (λ x. same_role x.role r) xs i d h

pub one_more_time : (xs : List Component) (i : ℕ) (d : Component) → i < length xs → length (filter is_time (take (i + 1) xs)) ≡ length (filter is_time (take i xs)) + cond (is_time (get_or xs i d)) 1 0
one_more_time xs i d h = length-filter_more is_time xs i d h
