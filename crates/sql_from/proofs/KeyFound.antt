-- What a look-up finds for the key of a group.
use Rattle.std.proofs.Common.{◌≡◌, ℕ, ◌+◌, ◌<◌, ◌&&◌, Bool, not, List, [], ◌∷◌, ◌++◌, length, get_or, take, Some, refl, sym, ap, ◌∙◌, subst}
use Rattle.std.specs.Prelude.{◌==◌}
use Rattle.std.specs.List.{list_all, list_any}
use Rattle.std.proofs.lemmas.List.Folds.{list_all-append, list_all_more}
use Rattle.vtl_cell.specs.Row.{Row, column_of}
use Rattle.vtl_decimal.specs.Settings.{Settings}
use Rattle.vtl_index.specs.RowIndex.{found_rows}
use Rattle.vtl_index.specs.RowKeys.{key_at}
use Rattle.vtl_index.specs.declared.row_keys.NullKeys.TheVariants.{NotFound}
use Rattle.vtl_rows.specs.Named.{NamedTables}
use Rattle.vtl_rows.specs.Places.{row_at}
use Rattle.vtl_rows.specs.Tables.{Listed}
use Rattle.vtl_rows.proofs.Placed.{all_places}
use Rattle.sql_eval.specs.Placed.{is_tied}
use Rattle.sql_meaning.specs.Profiles.{AreOfProfile, IsLawful}
use Rattle.sql_eval.specs.declared.resolved.Side.TheVariants as side
use Rattle.sql_eval.specs.declared.resolved.Tie.{Tie}
use Rattle.sql_eval.specs.Origins.{rows_at}
use Rattle.sql_from.specs.Held.{base_held, rows_held}
use Rattle.sql_from.specs.Joins.{numbers_to}
use Rattle.sql_from.specs.KeyPartners.{AnswersAt, AreTiedAs, IsTiedAs, asking_of}
use Rattle.sql_from.specs.Keys.{all_paired, asked_columns, is_paired, own_columns}
use Rattle.sql_from.specs.declared.key_index.KeyIndex.{KeyIndex}
use Rattle.sql_from.specs.declared.key_pairs.KeyPair.{KeyPair}
use Rattle.sql_from.proofs.Conjunctions.{last_and}
use Rattle.sql_from.proofs.Equalities.{equal_sym}
use Rattle.sql_from.proofs.Found.{any_kept, any_numbered, found_is}
use Rattle.sql_from.proofs.GivenTables.{origin_ranged}

-- ---- equalities

pub inner_before : (own asked : ℕ) → IsTiedAs (record { left = side.Inner own; right = side.Outer asked }) (record { own = own; asked = asked })
inner_before own asked = record { same = λ p inner key. refl }

pub inner_behind : (own asked : ℕ) → IsTiedAs (record { left = side.Outer asked; right = side.Inner own }) (record { own = own; asked = asked })
inner_behind own asked = record { same = λ p inner key. equal_sym p (column_of asked key) (column_of own inner) }

-- one more
pub tied_as_more : (ties : List Tie) (i : ℕ) (t : Tie) (keys keys' : List KeyPair) (pair : KeyPair) → i < length ties → t ≡ get_or ties i t → AreTiedAs (take i ties) keys → IsTiedAs t pair → keys' ≡ keys ++ pair ∷ [] → AreTiedAs (take (i + 1) ties) keys'
tied_as_more ties i t keys keys' pair h at before is more p inner key =
    list_all_more (is_tied p key inner) ties i t h
    ∙ ap (λ u. list_all (is_tied p key inner) (take i ties) && is_tied p key inner u) (sym at)
    ∙ (λ k. before p inner key k && (is.same p inner key ∙ last_and (is_paired p inner key pair)) k)
    ∙ sym (list_all-append (is_paired p inner key) keys (pair ∷ []))
    ∙ ap (all_paired p inner key) (sym more)

-- ---- the look-up of the partners of a key
module _ (p : Settings) (held : NamedTables) (x : KeyIndex) (own : Listed) (keys : List KeyPair) (lawful : IsLawful (base_held p held)) (own_rows : rows_at (rows_held held) x.test.now.table ≡ own.rows)
    (tied : AreTiedAs x.test.now.ties.items keys) (asked : x.asked.items ≡ asked_columns keys) (indexed : x.index ≡ record { rows = own.rows; key = own_columns keys; nulls = NotFound; p = p }) where
  ranged : AreOfProfile p own.rows
  ranged = subst (AreOfProfile p) own_rows (origin_ranged p held x.test.now.table lawful.ranged)

  pub key_answers : AnswersAt (asking_of held p) x
  key_answers key of_profile =
      let t : Row → Bool = λ inner. all_paired p inner key keys in
      (λ i. list_any (λ inner. tied p inner key i) (own_rows i))
      ∙ sym (any_numbered t own.rows (numbers_to (length own.rows)) ∙ ap (list_any t) (all_places own.rows))
      ∙ any_kept (λ j. t (row_at own.rows j)) (numbers_to (length own.rows))
      ∙ ap (λ js. not (length js == 0)) (sym (found_is p lawful.scale own.rows ranged key of_profile keys (λ j. t (row_at own.rows j)) (λ j. refl)))
      ∙ sym (λ i. not (length (found_rows (indexed i) (key_at (indexed i).p (asked i) key)) == 0))
