-- What holds of each table that is read.
use Rattle.std.proofs.Common.{Option, Some, None}
use Rattle.sql_tree.specs.Trees as tree
use Rattle.sql_tree.specs.Trees.{Branches, Exp, Exps, ItemTree, JoinTree, QueryTree, SelectTree, Text, ValueTree}
use Rattle.sql_meaning.proofs.Lists.{under}
use Rattle.sql_engine.specs.Reads.{EachOfAll, EachOfBranches, EachOfJoin, EachOfMaybe, EachOfQuery, EachOfSelect, EachOfValue, EachRead}

module _ {P Q : Text → Type 0} (f : (name : Text) → P name → Q name) where
  mutual
    read_so : (e : Exp) → EachRead P e → EachRead Q e
    read_so (tree.binary a o b) h = (read_so a h.0, read_so b h.1)
    read_so (tree.unary o e) h = read_so e h
    read_so (tree.is_null e negated) h = read_so e h
    read_so (tree.in_list e negated ls) h = read_so e h
    read_so (tree.constant x) h = tt
    read_so (tree.column x) h = tt
    read_so (tree.call o es) h = all_so es h
    read_so tree.count_all h = tt
    read_so (tree.aggregate o e) h = read_so e h
    read_so (tree.case_when bs e) h = (branches_so bs h.0, read_so e h.1)
    read_so (tree.exists s es) h = f s.table h

    all_so : (es : Exps) → EachOfAll P es → EachOfAll Q es
    all_so tree.no_exps h = tt
    all_so (tree.exp e es) h = (read_so e h.0, all_so es h.1)

    branches_so : (bs : Branches) → EachOfBranches P bs → EachOfBranches Q bs
    branches_so tree.no_branches h = tt
    branches_so (tree.branch c v bs) h = (read_so c h.0, read_so v h.1, branches_so bs h.2)

  maybe_so : (o : Option Exp) → EachOfMaybe P o → EachOfMaybe Q o
  maybe_so None h = tt
  maybe_so (Some e) h = read_so e h

  value_so : (v : ValueTree) → EachOfValue P v → EachOfValue Q v
  value_so (tree.expression e) h = read_so e h
  value_so (tree.window w) h = tt

  join_so : (j : JoinTree) → EachOfJoin P j → EachOfJoin Q j
  join_so (tree.on kind s e) h = (f s.table h.0, read_so e h.1)
  join_so (tree.cross s) h = f s.table h

  select_so : (s : SelectTree) → EachOfSelect P s → EachOfSelect Q s
  select_so s h =
      record {
        source = f s.source.table h.source;
        joins = under join_so s.joins h.joins;
        condition = maybe_so s.condition h.condition;
        having = maybe_so s.having h.having;
        items = under (λ (i : ItemTree) q. value_so i.value q) s.items h.items;
      }

  pub query_so : (q : QueryTree) → EachOfQuery P q → EachOfQuery Q q
  query_so q h = under select_so q h
