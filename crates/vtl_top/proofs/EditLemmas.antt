-- The lines of an edits file, the first one apart.
use Rattle.std.proofs.Common.{◌≡◌, ◌⊎◌, inl, inr, ◌<◌, ◌+◌, ◌++◌, ◌∙◌, ℕ, Bool, true, false, cond, List, [], ◌∷◌, length, get_or, take, map, Option, Some, None, Result, Ok, Err, refl, sym, ap, subst, arith}
use Rattle.std.specs.List.{AllByRecursion, after_first, before_first, list_any, position_or_len, slice_split}
use Rattle.std.specs.Map.{keys_of}
use Rattle.std.specs.Option.{option_map}
use Rattle.std.specs.Prelude.{IsUtf8, chars}
use Rattle.std.specs.Str.{is_utf8}
use Rattle.std.proofs.lemmas.List.{map-append}
use Rattle.std.proofs.lemmas.List.Splits.{length-slice_split, slice_split_first, slice_split_none}
use Rattle.std.proofs.lemmas.List.Sums.{fails_before_first}
use Rattle.std.proofs.lemmas.Str.{IsUtf8-from_is_utf8, is_utf8-from_IsUtf8}
use Rattle.vtl_lists.proofs.Alls.{all_push}
use Rattle.vtl_tree.specs.Structure.{same_name}
use Rattle.vtl_tree.specs.Structures.{Named}
use Rattle.vtl_tree.specs.declared.structure.Structure.{Structure}
use Rattle.vtl_status.specs.declared.status.Status.{Status}
use Rattle.vtl_status.specs.declared.status.Status.TheVariants as st
use Rattle.vtl_top.specs.Edits.{Edit, edit_in, edits_behind, edits_in, edits_of, edits_or_fault, ends_line, is_edit}
use Rattle.vtl_top.specs.EditsView.{edit_view}
use Rattle.vtl_top.specs.Kinds.{refused, told_by}
use Rattle.vtl_top.specs.Steps.{Name, Text}
use Rattle.vtl_top.specs.Words.{is_path}
use Rattle.vtl_top.specs.declared.edits.Edit.{Edit as Program}
use Rattle.vtl_top.specs.InputsRead.{AreReadable}
use Rattle.vtl_top.proofs.InputLemmas.{key_taken, new_at}

module _ (inputs : List Name) (before : List Edit) where
  -- what comes of a line that others stand behind
  abbrev pub Behind : Text → List Text → Result (List Edit) ℕ
  Behind line lines = cond (is_edit inputs (edit_in line)) (edits_behind inputs (before ++ edit_in line ∷ []) lines) (Err (length before + 1))

  some_left : (line : Text) (lines : List Text) → 0 < length lines → edits_behind inputs before (line ∷ lines) ≡ Behind line lines
  some_left line [] h = absurd (omega (arith, h))
  some_left line (next ∷ lines) h = refl

  -- a text with a line feed
  pub line_first : (text : Text) → position_or_len ends_line text < length text → edits_behind inputs before (slice_split ends_line text) ≡ Behind (before_first ends_line text) (slice_split ends_line (after_first ends_line text))
  line_first text h =
      let rest = slice_split ends_line (after_first ends_line text) in
      ap (edits_behind inputs before) (slice_split_first ends_line text 0 h) ∙ some_left (before_first ends_line text) rest (omega (arith, length-slice_split ends_line (after_first ends_line text)))

  -- a text without one
  pub no_line : (text : Text) → position_or_len ends_line text ≡ length text → edits_behind inputs before (slice_split ends_line text) ≡ cond (is_path text) (Err (length before + 1)) (Ok before)
  no_line text e = ap (edits_behind inputs before) (slice_split_none ends_line text (λ k d m. fails_before_first ends_line text k d (omega (arith, e, m))))

  module _ (text line behind : Text) (h : position_or_len ends_line text < length text) (is : line ≡ before_first ends_line text) (rest : behind ≡ after_first ends_line text) where
    by_first : (b : Bool) → is_edit inputs (edit_in line) ≡ b → edits_behind inputs before (slice_split ends_line text) ≡ cond b (edits_behind inputs (before ++ edit_in line ∷ []) (slice_split ends_line behind)) (Err (length before + 1))
    by_first b e =
        line_first text h
        ∙ ap (λ (l : Text). Behind l (slice_split ends_line (after_first ends_line text))) (sym is)
        ∙ ap (λ (l : Text). Behind line (slice_split ends_line l)) (sym rest)
        ∙ ap (λ (c : Bool). cond c (edits_behind inputs (before ++ edit_in line ∷ []) (slice_split ends_line behind)) (Err (length before + 1))) e

    -- its first line is no edit, or is one
    pub first_fails : is_edit inputs (edit_in line) ≡ false → edits_behind inputs before (slice_split ends_line text) ≡ Err (length before + 1)
    first_fails e = by_first false e

    pub first_goes : is_edit inputs (edit_in line) ≡ true → edits_behind inputs before (slice_split ends_line text) ≡ edits_behind inputs (before ++ edit_in line ∷ []) (slice_split ends_line behind)
    first_goes e = by_first true e

-- an edit that was found in a line, or none
pub none_found : (b : Bool) (e : Edit) (o : Option Program) → o ≡ None → option_map edit_view o ≡ cond b (Some e) None → b ≡ false
none_found true e o none is = let f : option_map edit_view o ≡ None = ap (option_map edit_view) none in cc
none_found false e o none is = refl

pub record Found (b : Bool) (e : Edit) (x : Program) : Type 0 where
  pub is : b ≡ true
  pub same : edit_view x ≡ e

pub one_found : (b : Bool) (e : Edit) (o : Option Program) (x : Program) → o ≡ Some x → option_map edit_view o ≡ cond b (Some e) None → Found b e x
one_found true e o x found is = record { is = refl; same = let f : option_map edit_view o ≡ Some (edit_view x) = ap (option_map edit_view) found in cc }
one_found false e o x found is = let f : option_map edit_view o ≡ Some (edit_view x) = ap (option_map edit_view) found in cc

pub one_put : (P : Program → Type 0) (before now : List Program) (x : Program) → AllByRecursion P before → P x → now ≡ before ++ x ∷ [] → AllByRecursion P now
one_put P before now x all p e = subst (AllByRecursion P) (sym e) (all_push P before x all p)

pub put_view : (before now : List Program) (x : Program) (e : Edit) → now ≡ before ++ x ∷ [] → edit_view x ≡ e → map edit_view now ≡ map edit_view before ++ e ∷ []
put_view before now x e is same = ap (map edit_view) is ∙ map-append edit_view before (x ∷ []) ∙ ap (λ (y : Edit). map edit_view before ++ y ∷ []) same

-- ---- the file
module _ (path : List ℕ) (inputs : List Name) (bytes : Text) where
  pub edits_text : IsUtf8 bytes → edits_of path inputs bytes ≡ edits_or_fault (edits_in inputs bytes)
  edits_text h = ap (λ b. cond b (edits_or_fault (edits_in inputs bytes)) (Err (st.NotText (chars path)))) (is_utf8-from_IsUtf8 bytes h)

  pub edits_no_text : (status : Status) → ¬ (IsUtf8 bytes) → (status ≡ st.Memory) ⊎ (status ≡ st.NotText (chars path)) → (status ≡ st.Memory) ⊎ (edits_of path inputs bytes ≡ Err status)
  edits_no_text status h (inl e) = inl e
  edits_no_text status h (inr e) = inr (go (is_utf8 bytes) refl ∙ ap Err (sym e))
    where
      go : (b : Bool) → is_utf8 bytes ≡ b → cond b (edits_or_fault (edits_in inputs bytes)) (Err (st.NotText (chars path))) ≡ Err (st.NotText (chars path))
      go true q = absurd (h (IsUtf8-from_is_utf8 bytes q))
      go false q = refl

  -- it is refused by its bytes
  pub edits_refuse : (status : Status) → edits_of path inputs bytes ≡ Err status → told_by status ≡ refused
  edits_refuse status e = go (is_utf8 bytes) (edits_in inputs bytes) e
    where
      go : (b : Bool) (r : Result (List Edit) ℕ) → cond b (edits_or_fault r) (Err (st.NotText (chars path))) ≡ Err status → told_by status ≡ refused
      go true (Ok edits) q = cc
      go true (Err line) q = let same : st.Edits line ≡ status = cc in ap told_by (sym same)
      go false r q = let same : st.NotText (chars path) ≡ status = cc in ap told_by (sym same)

-- ---- the names of inputs
module _ (ins : Named) (i : ℕ) (e : List ℕ × Structure) (h : i < length ins) (at : e ≡ get_or ins i e) (names : List (List ℕ × Unit {0})) (so : keys_of names ≡ take i (keys_of ins)) where
  pub still_new : (name : List ℕ) → AreReadable ins → name ≡ e.0 → list_any (same_name name) (keys_of names) ≡ false
  still_new name are is = ap (λ n. list_any (same_name n) (keys_of names)) is ∙ ap (list_any (same_name e.0)) so ∙ new_at ins i e are h at

  pub name_put : (now : List (List ℕ × Unit {0})) (name : List ℕ) (u : Unit {0}) → name ≡ e.0 → now ≡ names ++ (name, u) ∷ [] → keys_of now ≡ take (i + 1) (keys_of ins)
  name_put now name u is put =
      ap keys_of put ∙ map-append (λ (x : List ℕ × Unit {0}). x.0) names ((name, u) ∷ []) ∙ ap (λ ns. ns ++ name ∷ []) so ∙ ap (λ n. take i (keys_of ins) ++ n ∷ []) is ∙ key_taken ins i e h at
