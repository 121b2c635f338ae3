-- The tables of joins, behind those of their operands.
use Rattle.std.proofs.Common.{◌≡◌, ℕ, ◌+◌, ◌<◌, ◌≤◌, List, [], ◌∷◌, ◌++◌, map, length, get_or, append_assoc, append-nil, refl, sym, ap, ◌∙◌, arith}
use Rattle.std.specs.Borrow.{Bor}
use Rattle.std.proofs.lemmas.List.{map-append}
use Rattle.vtl_decimal.specs.Settings.{Settings}
use Rattle.vtl_syntax.specs.declared.word_groups.JoinKind.{JoinKind}
use Rattle.vtl_syntax.specs.declared.word_groups.JoinKind.TheVariants as join
use Rattle.vtl_tree.specs.Shown.{shown}
use Rattle.vtl_tree.specs.declared.structure.Structure.{Structure}
use Rattle.sql_tree.specs.Trees.{QueryTree, StatementTree, Text}
use Rattle.joins_to_sql.specs.FullJoins.{full_query, key_structure, keys_query, once_query}
use Rattle.selects_to_sql.specs.Tables.{create_for, Made, Sources, Table, by_names, numbered, over, table_of}
use Rattle.joins_to_sql.specs.JoinTables.{full_made, join_made}
use Rattle.selects_to_sql.proofs.Behind.{IsBehind, given}
use Rattle.joins_to_sql.proofs.FullMeans.{last_is}

-- ---- tables before others stay before them

behind : (p : Settings) (r : Text) (k : JoinKind) (ss : List Structure) (s : Structure) (names : List Text) (T : List Table) (n : ℕ) → IsBehind T (join_made p r k ss s (given names T n)) (join_made p r k ss s (by_names names n))
behind p r join.Inner ss s names T n = record { query = refl; next = refl; tables = sym (append-nil T) }
behind p r join.Left ss s names T n = record { query = refl; next = refl; tables = sym (append-nil T) }
behind p r join.Cross ss s names T n = record { query = refl; next = refl; tables = sym (append-nil T) }
behind p r join.Full [] s names T n = record { query = refl; next = refl; tables = sym (append-nil T) }
behind p r join.Full (a ∷ ss) s names T n = record { query = refl; next = refl; tables = refl }

-- a join over the names of its operands' tables is what is left of it behind these tables
pub record GivesRest (whole : Made) (old done : List StatementTree) (less : Made) : Type 0 where
  pub query : less.query ≡ whole.query
  pub next : less.next ≡ whole.next
  pub tables : done ++ map create_for less.tables ≡ old ++ map create_for whole.tables

pub rest_given : (p : Settings) (r : Text) (k : JoinKind) (ss : List Structure) (s : Structure) (os : Sources) (xs : List Text) (m : ℕ) (old done : List StatementTree) → xs ≡ os.names → m ≡ os.next → done ≡ old ++ map create_for os.tables
    → GivesRest (join_made p r k ss s os) old done (join_made p r k ss s (by_names xs m))
rest_given p r k ss s os xs m old done names next made =
    let is = behind p r k ss s os.names os.tables os.next in
    let same : join_made p r k ss s (by_names xs m) ≡ join_made p r k ss s (by_names os.names os.next) =
    ap (λ (l : List Text). join_made p r k ss s (by_names l m)) names ∙ ap (λ (j : ℕ). join_made p r k ss s (by_names os.names j)) next
    in
    let less = join_made p r k ss s (by_names os.names os.next) in
    record {
      query = ap (λ (x : Made). x.query) same ∙ sym is.query;
      next = ap (λ (x : Made). x.next) same ∙ sym is.next;
      tables =
          ap (λ (x : Made). done ++ map create_for x.tables) same
          ∙ ap (λ l. l ++ map create_for less.tables) made
          ∙ append_assoc old (map create_for os.tables) (map create_for less.tables)
          ∙ ap (λ l. old ++ l) (sym (map-append create_for os.tables less.tables) ∙ sym (ap (map create_for) is.tables));
    }

-- ---- a full join

abbrev full_whole : Settings → (result : Text) → Structure → List Structure → Structure → List Text → ℕ → Made
full_whole p r a ss s xs n = record {
  tables = table_of (numbered r n) (keys_query p a ss xs) ∷ table_of (numbered r (n + 1)) (once_query p (key_structure a) (numbered r n)) ∷ [];
  query = full_query p a ss s xs (numbered r (n + 1));
  next = n + 1 + 1;
}

full_is : (p : Settings) (r : Text) (bs : List (Bor Structure)) (a : Bor Structure) (s : Structure) (xs : List Text) (n : ℕ) → 1 ≤ length bs → a ≡ get_or bs 0 a → full_made p r (shown bs) s (by_names xs n) ≡ full_whole p r a.now (shown bs) s xs n
full_is p r [] a s xs n h is = absurd (omega (arith, h))
full_is p r (b ∷ bs) a s xs n h is =
    let ss = shown (b ∷ bs) in
    let whole = full_whole p r b.now ss s xs n in
    ap (λ (q : QueryTree). over (record { names = []; tables = whole.tables; next = whole.next }) (λ l. q)) (last_is (full_query p b.now ss s) xs (numbered r (n + 1)))
    ∙ ap (λ (z : Bor Structure). full_whole p r z.now ss s xs n) (sym is)

pub full_is_query : (p : Settings) (r : Text) (bs : List (Bor Structure)) (a : Bor Structure) (s : Structure) (xs : List Text) (x : Text) (n m : ℕ) → 1 ≤ length bs → a ≡ get_or bs 0 a → x ≡ numbered r m → m ≡ n + 1
    → full_query p a.now (shown bs) s xs x ≡ (full_made p r (shown bs) s (by_names xs n)).query
full_is_query p r bs a s xs x n m h is named next =
    ap (full_query p a.now (shown bs) s xs) (named ∙ ap (numbered r) next) ∙ sym (ap (λ (w : Made). w.query) (full_is p r bs a s xs n h is))

pub full_is_next : (p : Settings) (r : Text) (bs : List (Bor Structure)) (a : Bor Structure) (s : Structure) (xs : List Text) (n m k : ℕ) → 1 ≤ length bs → a ≡ get_or bs 0 a → m ≡ n + 1 → k ≡ m + 1 → k ≡ (full_made p r (shown bs) s (by_names xs n)).next
full_is_next p r bs a s xs n m k h is next last = last ∙ ap (λ (j : ℕ). j + 1) next ∙ sym (ap (λ (w : Made). w.next) (full_is p r bs a s xs n h is))

-- the table of identifiers is stored, and then the one with each tuple once
pub full_is_tables : (p : Settings) (r : Text) (bs : List (Bor Structure)) (a : Bor Structure) (s t : Structure) (xs : List Text) (x : Text) (n m : ℕ) (old one two : List StatementTree) (all once : QueryTree) → 1 ≤ length bs → a ≡ get_or bs 0 a
    → t ≡ key_structure a.now → all ≡ keys_query p a.now (shown bs) xs → once ≡ once_query p t x → x ≡ numbered r n → m ≡ n + 1
    → one ≡ old ++ create_for (table_of (numbered r n) all) ∷ [] → two ≡ one ++ create_for (table_of (numbered r m) once) ∷ []
    → two ≡ old ++ map create_for (full_made p r (shown bs) s (by_names xs n)).tables
full_is_tables p r bs a s t xs x n m old one two all once h is keys all_is once_is named next first second =
    let key = key_structure a.now in
    let last = create_for (table_of (numbered r m) once) ∷ [] in
    let given_first = create_for (table_of (numbered r n) (keys_query p a.now (shown bs) xs)) in
    second ∙ ap (λ l. l ++ last) first
    ∙ append_assoc old (create_for (table_of (numbered r n) all) ∷ []) last
    ∙ ap (λ (q : QueryTree). old ++ create_for (table_of (numbered r n) q) ∷ last) all_is
    ∙ ap (λ (q : QueryTree). old ++ given_first ∷ create_for (table_of (numbered r m) q) ∷ []) (once_is ∙ ap (λ (u : Structure). once_query p u x) keys ∙ ap (once_query p key) named)
    ∙ ap (λ (j : ℕ). old ++ given_first ∷ create_for (table_of (numbered r j) (once_query p key (numbered r n))) ∷ []) next
    ∙ sym (ap (λ (w : Made). old ++ map create_for w.tables) (full_is p r bs a s xs n h is))

-- without operands there is no table
pub none_is : (p : Settings) (r : Text) (bs : List (Bor Structure)) (s : Structure) (xs : List Text) (n : ℕ) → length bs < 1 → full_made p r (shown bs) s (by_names xs n) ≡ record { tables = []; query = []; next = n }
none_is p r [] s xs n h = refl
none_is p r (b ∷ bs) s xs n h = absurd (omega (arith, h))
