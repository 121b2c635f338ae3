-- What searches find.
use Rattle.std.proofs.Common.{◌≡◌, ◌≤◌, ◌<◌, ◌+◌, ◌∷◌, ◌++◌, ◌∙◌, ◌==◌, [], ℕ, zero, suc, List, Bool, Option, Some, None, true, false, not, length, take, drop, get_or, codes, sym, ap, subst, refl, arith, inl, inr, eqb-true, add-one, append_assoc, length-append, MatchOption}
use Rattle.std.specs.List.{list_all, prefix_len}
use Rattle.std.proofs.Math.Seq.{split_at}
use Rattle.std.proofs.lemmas.Bool.{and_from, cases_Bool}
use Rattle.std.proofs.lemmas.List.{take-append-drop, length-take-le}
use Rattle.std.proofs.lemmas.List.Prefix.{at_from_reads}
use Rattle.std.proofs.lemmas.List.Sums.{prefix_len-le-length}
use Rattle.memchr.specs.Find.{FindsNeedle, IsFirstByte, is_byte}
use Rattle.vtl_lexer.specs.Gaps.{HasNoEnd}
use Rattle.vtl_lexer.specs.Searches.{EndsFirst, StandsFirst}
use Rattle.vtl_lexer.specs.Spelling.{Lacks}
use Rattle.vtl_lists.specs.Runs.{begins_with}
use Rattle.vtl_lists.proofs.Runs.{prefix-passes, prefix-stops}
use Rattle.vtl_text.proofs.Occurrences.{occurs_after}

-- the bytes at the front that pass a test
pub record IsRun (test : ℕ → Bool) (text : List ℕ) (size : ℕ) : Type 0 where
  pub within : size ≤ length text
  pub passes : list_all test (take size text) ≡ true
  pub stops : begins_with test (drop size text) ≡ false

pub run-from_prefix : (test : ℕ → Bool) (text : List ℕ) (size : ℕ) → size ≡ prefix_len test text → IsRun test text size
run-from_prefix test text size e =
    subst (IsRun test text) (sym e) (record {
      within = prefix_len-le-length test text;
      passes = prefix-passes test text;
      stops = prefix-stops test text;
    })

pub lacks-below : (byte : ℕ) (text : List ℕ) (n : ℕ) → ((i : ℕ) → i < n → (get_or text i 0 == byte) ≡ true → ⊥) → Lacks byte (take n text)
lacks-below byte text zero none = refl
lacks-below byte [] (suc n) none = refl
lacks-below byte (first ∷ rest) (suc n) none =
    let here : not (first == byte) ≡ true = elim (cases_Bool (first == byte)) [ inl e ↦ absurd (none 0 (omega arith) e) | inr e ↦ rw e refl ] in
    and_from (not (first == byte)) _ here (lacks-below byte rest n (λ i lt. none (suc i) (omega arith)))

pub stands-first : (byte : ℕ) (text : List ℕ) (place : ℕ) → IsFirstByte (is_byte byte) text (Some place) → StandsFirst byte text place
stands-first byte text place found =
    let at : get_or text place 0 ≡ byte = eqb-true (get_or text place 0) byte found.1 in
    record {
      within = found.0.high;
      lacks = lacks-below byte text place (λ i lt. found.0.before i (omega arith) lt);
      split = split_at text place 0 found.0.high ∙ ap (λ b. take place text ++ b ∷ drop (suc place) text) at ∙ ap (λ n. take place text ++ byte ∷ drop n text) (sym (add-one place));
    }

pub take-whole : (text : List ℕ) → take (length text) text ≡ text
take-whole [] = refl
take-whole (byte ∷ rest) = ap (λ l. byte ∷ l) (take-whole rest)

pub stands-nowhere : (byte : ℕ) (text : List ℕ) → IsFirstByte (is_byte byte) text None → Lacks byte text
stands-nowhere byte text none = subst (Lacks byte) (take-whole text) (lacks-below byte text (length text) (λ i lt. none i (omega arith) lt))

pub ends-first : (text : List ℕ) (place : ℕ) → FindsNeedle text (codes "*/") 0 (Some place) → EndsFirst text place
ends-first text place found =
    let occurs = found.1 in
    let at : drop place text ≡ codes "*/" ++ drop (place + 2) text = at_from_reads 0 text (codes "*/") place occurs.fits occurs.reads in
    record {
      within = occurs.fits;
      none = λ before behind is.
          let whole : text ≡ before ++ (codes "*/" ++ (behind ++ drop place text)) =
          sym (take-append-drop place text) ∙ ap (λ l. l ++ drop place text) is ∙ append_assoc before (codes "*/" ++ behind) (drop place text) in
          let size : length (take place text) ≡ place = length-take-le place text (omega (arith, occurs.fits)) in
          let sizes = length-append before (codes "*/" ++ behind) in
          found.0.before (length before) (omega arith) (omega (arith, ap length is, size, sizes)) (occurs_after text before (codes "*/") (behind ++ drop place text) whole);
      split = sym (take-append-drop place text) ∙ ap (λ l. take place text ++ l) at;
    }

pub ends-nowhere : (text : List ℕ) → FindsNeedle text (codes "*/") 0 None → HasNoEnd text
ends-nowhere text none before behind is =
    none (length before) (omega arith) (omega (arith, ap length is, length-append before (codes "*/" ++ behind))) (occurs_after text before (codes "*/") behind is)

pub stands-result : (byte : ℕ) (text : List ℕ) (r : Option ℕ) → IsFirstByte (is_byte byte) text r → MatchOption r (Lacks byte text) (λ place. StandsFirst byte text place)
stands-result byte text None found = stands-nowhere byte text found
stands-result byte text (Some place) found = stands-first byte text place found

pub ends-result : (text : List ℕ) (r : Option ℕ) → FindsNeedle text (codes "*/") 0 r → MatchOption r (HasNoEnd text) (λ place. EndsFirst text place)
ends-result text None found = ends-nowhere text found
ends-result text (Some place) found = ends-first text place found

-- the same of the bytes of a text
pub run-of_text : (test : ℕ → Bool) (text bytes : List ℕ) (size : ℕ) → size ≡ prefix_len test bytes → bytes ≡ text → IsRun test text size
run-of_text test text bytes size e is = run-from_prefix test text size (e ∙ ap (prefix_len test) is)
