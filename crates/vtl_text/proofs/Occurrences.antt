-- In UTF-8 a pattern's bytes occur just where its characters do.
use Rattle.std.proofs.Common.{◌≡◌, ℕ, suc, ◌+◌, ◌<◌, ◌≤◌, true, false, List, [], ◌∷◌, ◌++◌, length, take, drop, get_or, Option, None, Some, refl, sym, ap, subst, ◌∙◌, arith, append_assoc, length-append, length-drop, chars, IsUtf8, encode_utf8_all, add-one}
use lib.Utf8.{encode, scalars}
use Rattle.std.specs.Str.{IsCharBoundary}
use Rattle.std.proofs.lemmas.Bool.{false_from_ne_true}
use Rattle.std.proofs.lemmas.List.{take-append-drop, take-append-le, length-take-le, drop_at}
use Rattle.std.proofs.lemmas.List.Prefix.{at_reads, at_from_reads}
use Rattle.std.proofs.lemmas.Str.{encodes-append, encodes-chars, scalars-chars, chars-append, IsUtf8-append, chars_from_encodes, cons_from_encodes, length-le-encodes, IsCharBoundary-start, IsCharBoundary-from_drop, IsUtf8-take, IsUtf8-drop}
use Rattle.memchr.specs.Find.{OccursAt, FindsNeedle}
use Rattle.vtl_text.specs.Texts.{begins, instr_of, replaced_from, replace_of}
use Rattle.vtl_text.proofs.Parts.{scalars-right}
use Rattle.vtl_text.proofs.Places.{begins_splits, NoneBelow, instr_of-split, replaced_past, replaced-none, replace_of-some}

-- a text that begins with the bytes of a pattern begins with its characters
chars_begin : (ps cs rest : List ℕ) → encode_utf8_all cs ≡ encode_utf8_all ps ++ rest → (es : List ℕ) × (cs ≡ ps ++ es) × (encode_utf8_all es ≡ rest)
chars_begin [] cs rest e = (cs, refl, e)
chars_begin (p ∷ ps) cs rest e =
    let first = cons_from_encodes cs (encode_utf8_all ps ++ rest) p (e ∙ append_assoc (encode p) (encode_utf8_all ps) rest) in
    let more = chars_begin ps first.0 rest first.2 in
    (more.0, first.1 ∙ ap (λ l. p ∷ l) more.1, more.2)

pub occurs_after : (hay front needle back : List ℕ) → hay ≡ front ++ (needle ++ back) → OccursAt hay needle (length front)
occurs_after hay front needle back e = record {
  fits = omega (arith, ap length e, length-append front (needle ++ back), length-append needle back);
  reads = at_reads 0 hay needle (length front) back (ap (drop (length front)) e ∙ drop_at front (needle ++ back) (length front) refl);
}

-- where the characters of a pattern stand, its bytes do
pub occurs_where_begins : (hay needle : List ℕ) (n : ℕ) → IsUtf8 hay → IsUtf8 needle → begins (chars needle) (drop n (chars hay)) ≡ true
    → OccursAt hay needle (length (encode_utf8_all (take n (chars hay))))
occurs_where_begins hay needle n u v h =
    let cs = chars hay in
    let rest = drop (length (chars needle)) (drop n cs) in
    let tail : encode_utf8_all (drop n cs) ≡ needle ++ encode_utf8_all rest =
    ap encode_utf8_all (begins_splits (chars needle) (drop n cs) h) ∙ encodes-append (chars needle) rest ∙ ap (λ l. l ++ encode_utf8_all rest) (encodes-chars needle v) in
    occurs_after hay (encode_utf8_all (take n cs)) needle (encode_utf8_all rest)
    (sym (encodes-chars hay u) ∙ ap encode_utf8_all (sym (take-append-drop n cs)) ∙ encodes-append (take n cs) (drop n cs) ∙ ap (λ l. encode_utf8_all (take n cs) ++ l) tail)

-- the first occurrence of a pattern's bytes is at byte k, and is the first of its characters
pub record IsFirstAt (hay needle : List ℕ) (k : ℕ) : Type 0 where
  pub split : chars hay ≡ chars (take k hay) ++ (chars needle ++ chars (drop (k + length needle) hay))
  pub none : NoneBelow (chars needle) (chars hay) (length (chars (take k hay)))
  pub start : IsCharBoundary hay k
  pub end : IsCharBoundary hay (k + length needle)
  pub front : IsUtf8 (take k hay)
  pub back : IsUtf8 (drop (k + length needle) hay)

pub found_first : (hay needle : List ℕ) (k : ℕ) → IsUtf8 hay → IsUtf8 needle → 0 < length needle → FindsNeedle hay needle 0 (Some k) → IsFirstAt hay needle k
found_first hay needle k u v some found =
    let occurs = found.1 in
    let end = k + length needle in
    let at : drop k hay ≡ needle ++ drop end hay = at_from_reads 0 hay needle k occurs.fits occurs.reads in
    let lead : get_or hay k 0 ≡ get_or needle 0 0 = ap (λ i. get_or hay i 0) (omega arith) ∙ occurs.reads 0 some in
    let start : IsCharBoundary hay k =
    (omega (arith, occurs.fits), λ _ high. subst (λ x. 192 ≤ x) (sym lead) ((IsCharBoundary-start needle v).1 some (subst (λ x. 128 ≤ x) lead high))) in
    let front = IsUtf8-take hay k u start in
    let back = IsUtf8-drop hay k u start in
    let parts = chars_begin (chars needle) (chars (drop k hay)) (drop end hay)
    (encodes-chars (drop k hay) back ∙ at ∙ ap (λ l. l ++ drop end hay) (sym (encodes-chars needle v))) in
    let rest : IsUtf8 (drop end hay) =
    (parts.0, (scalars-right (chars needle) parts.0 (ap scalars (sym parts.1) ∙ scalars-chars (drop k hay) back), parts.2)) in
    let split : chars hay ≡ chars (take k hay) ++ (chars needle ++ chars (drop end hay)) =
    ap chars (sym (take-append-drop k hay)) ∙ chars-append (take k hay) (drop k hay) front
    ∙ ap (λ l. chars (take k hay) ++ l) (parts.1 ∙ ap (λ l. chars needle ++ l) (chars_from_encodes parts.0 (drop end hay) rest parts.2)) in
    record {
      split = split;
      none = λ n below. false_from_ne_true _ (λ yes.
          let before = chars (take k hay) in
          let early = occurs_where_begins hay needle n u v yes in
          let same : take n (chars hay) ≡ take n before = ap (take n) split ∙ take-append-le n before _ (omega arith) in
          let whole : encode_utf8_all before ≡ encode_utf8_all (take n before) ++ encode_utf8_all (drop n before) =
          ap encode_utf8_all (sym (take-append-drop n before)) ∙ encodes-append (take n before) (drop n before) in
          let size : length (encode_utf8_all before) ≡ k = ap length (encodes-chars (take k hay) front) ∙ length-take-le k hay (omega (arith, occurs.fits)) in
          found.0.before _ (omega arith)
          (omega (arith, ap (λ l. length (encode_utf8_all l)) same, ap length whole, size, length-append (encode_utf8_all (take n before)) (encode_utf8_all (drop n before)), length-le-encodes (drop n before), length-drop n before))
          early);
      start = start;
      end = IsCharBoundary-from_drop hay end occurs.fits rest;
      front = front;
      back = rest;
    }

-- a pattern whose bytes occur nowhere begins the text at no character
pub found_none : (hay needle : List ℕ) → IsUtf8 hay → IsUtf8 needle → FindsNeedle hay needle 0 None → (n : ℕ) → begins (chars needle) (drop n (chars hay)) ≡ false
found_none hay needle u v none n =
    false_from_ne_true _ (λ yes.
    let early = occurs_where_begins hay needle n u v yes in
    none _ (omega arith) (omega (arith, early.fits)) early)

pub chars_some : (bs : List ℕ) → IsUtf8 bs → 0 < length bs → 0 < length (chars bs)
chars_some bs u some = elim (chars bs) as (λ cs. encode_utf8_all cs ≡ bs → 0 < length cs) [
  | [] ↦ λ e. absurd (omega (arith, ap length e))
  | p ∷ ps ↦ λ e. omega arith
] (encodes-chars bs u)

-- the same of a search in texts that equal these
pub first_of : (hay needle h n : List ℕ) (k : ℕ) (r : Option ℕ) → IsUtf8 hay → IsUtf8 needle → 0 < length needle → h ≡ hay → n ≡ needle → r ≡ Some k → FindsNeedle h n 0 r → IsFirstAt hay needle k
first_of hay needle h n k r u v some hay_is needle_is is found =
    found_first hay needle k u v some (subst (λ x. FindsNeedle hay x 0 (Some k)) needle_is (subst (λ x. FindsNeedle x n 0 (Some k)) hay_is (subst (FindsNeedle h n 0) is found)))

pub none_of : (hay needle h n : List ℕ) (r : Option ℕ) → IsUtf8 hay → IsUtf8 needle → h ≡ hay → n ≡ needle → r ≡ None → FindsNeedle h n 0 r → (i : ℕ) → begins (chars needle) (drop i (chars hay)) ≡ false
none_of hay needle h n r u v hay_is needle_is is found =
    found_none hay needle u v (subst (λ x. FindsNeedle hay x 0 None) needle_is (subst (λ x. FindsNeedle x n 0 None) hay_is (subst (FindsNeedle h n 0) is found)))

-- the place that `instr` gives, from the number of characters before the first occurrence
pub instr_at : (hay needle front : List ℕ) (k n : ℕ) → IsFirstAt hay needle k → front ≡ take k hay → n ≡ length (chars front) → n + 1 ≡ instr_of (chars hay) (chars needle)
instr_at hay needle front k n first front_is n_is =
    let before = chars (take k hay) in
    let after = chars (drop (k + length needle) hay) in
    let sized : n + 1 ≡ suc (length before) = add-one n ∙ ap suc (n_is ∙ ap (λ l. length (chars l)) front_is) in
    sized ∙ sym (instr_of-split (chars needle) before after (subst (λ l. NoneBelow (chars needle) l (length before)) first.split first.none))
    ∙ sym (ap (λ l. instr_of l (chars needle)) first.split)

-- one turn of `replace`: what was written, what stands before the occurrence and what takes its place
pub replace_more : (text by rest needle out front more new : List ℕ) (k : ℕ) → IsFirstAt rest needle k → IsUtf8 needle → 0 < length needle → IsUtf8 out → IsUtf8 by
    → front ≡ take k rest → new ≡ (out ++ front) ++ by → more ≡ drop (k + length needle) rest
    → chars out ++ replaced_from (chars needle) (chars by) 0 (chars rest) ≡ replaced_from (chars needle) (chars by) 0 (chars text)
    → chars new ++ replaced_from (chars needle) (chars by) 0 (chars more) ≡ replaced_from (chars needle) (chars by) 0 (chars text)
replace_more text by rest needle out front more new k first v some o b front_is new_is more_is so_far =
    let ps = chars needle in
    let before = chars (take k rest) in
    let after = chars (drop (k + length needle) rest) in
    let left = replaced_from ps (chars by) 0 after in
    let step : replaced_from ps (chars by) 0 (chars rest) ≡ before ++ (chars by ++ left) =
    ap (replaced_from ps (chars by) 0) first.split
    ∙ replaced_past ps (chars by) before after (chars_some needle v some) (subst (λ l. NoneBelow ps l (length before)) first.split first.none) in
    let written : chars new ≡ (chars out ++ before) ++ chars by =
    ap chars (new_is ∙ ap (λ l. (out ++ l) ++ by) front_is) ∙ chars-append (out ++ take k rest) by (IsUtf8-append out (take k rest) o first.front)
    ∙ ap (λ l. l ++ chars by) (chars-append out (take k rest) o) in
    ap (λ l. chars new ++ replaced_from ps (chars by) 0 (chars l)) more_is ∙ ap (λ l. l ++ left) written
    ∙ append_assoc (chars out ++ before) (chars by) left ∙ append_assoc (chars out) before (chars by ++ left)
    ∙ ap (λ l. chars out ++ l) (sym step) ∙ so_far

-- the end of `replace`: what follows the last occurrence is written as it is
pub replace_end : (text by rest needle out new : List ℕ) → ((i : ℕ) → begins (chars needle) (drop i (chars rest)) ≡ false) → IsUtf8 needle → 0 < length needle → IsUtf8 out
    → new ≡ out ++ rest
    → chars out ++ replaced_from (chars needle) (chars by) 0 (chars rest) ≡ replaced_from (chars needle) (chars by) 0 (chars text)
    → chars new ≡ replace_of (chars text) (chars needle) (chars by)
replace_end text by rest needle out new none v some o new_is so_far =
    ap chars new_is ∙ chars-append out rest o ∙ ap (λ l. chars out ++ l) (sym (replaced-none (chars needle) (chars by) (chars rest) (λ i _. none i)))
    ∙ so_far ∙ sym (replace_of-some (chars text) (chars needle) (chars by) (chars_some needle v some))
