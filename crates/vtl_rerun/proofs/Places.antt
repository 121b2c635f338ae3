-- Results by their places, and by their names.
use Rattle.std.proofs.Common.{◌≡◌, ℕ, zero, suc, ◌+◌, ◌≤◌, ◌<◌, Bool, true, false, cond, ◌||◌, List, [], ◌∷◌, ◌++◌, map, length, take, drop, set, Option, None, Some, is_none, refl, sym, ap, ◌∙◌, arith, append_assoc}
use Rattle.std.specs.List.{list_any}
use Rattle.std.specs.Map.{lookup}
use Rattle.std.specs.Cmp.Lexicographic.{bytes_decides}
use Rattle.std.proofs.lemmas.List.{take-append-drop}
use Rattle.std.proofs.lemmas.List.Folds.{list_any-append}
use Rattle.vtl_rows.specs.Tables.{Listed}
use Rattle.vtl_tree.specs.Structure.{same_name}
use Rattle.vtl_check.specs.Names.{names_in}
use Rattle.vtl_scripts.specs.Meaning.{Statement}
use Rattle.rerun_laws.specs.Depends.{reads_one}
use Rattle.vtl_rerun.specs.Lost.{left_from}
use Rattle.vtl_rerun.specs.Operands.{any_lost, held_at, is_lost, is_lost_from, operand_of, places_from, source_of}
use Rattle.vtl_rerun.specs.Sessions.{AreEach, IsPartOf, gone_with}
use Rattle.vtl_rerun.specs.declared.part.Part.{Part}
use Rattle.vtl_rerun.proofs.Replaced.{left_over}
use Rattle.vtl_rerun.proofs.Results.{Covers}

-- ---- new names
-- each statement gives a name that is none of these, and none of an earlier result
abbrev pub AreNew : List (List ℕ) → List Statement → Type 0
AreNew known [] = Unit {0}
AreNew known (s ∷ ss) = (list_any (same_name s.result) known ≡ false) × AreNew (s.result ∷ known) ss

pub apart_from : (known few : List (List ℕ)) (q : List ℕ) → Covers few known → list_any (same_name q) known ≡ false → list_any (same_name q) few ≡ false
apart_from known few q covers h = go (list_any (same_name q) few) refl
  where
    go : (b : Bool) → list_any (same_name q) few ≡ b → list_any (same_name q) few ≡ false
    go true e = let d : true ≡ false = sym (covers q e) ∙ h in cc
    go false e = e

pub covers_push : (few known : List (List ℕ)) (name : List ℕ) → Covers few known → Covers (few ++ name ∷ []) (name ∷ known)
covers_push few known name covers q h = go (same_name q name) (list_any (same_name q) few) refl (sym (list_any-append (same_name q) few (name ∷ [])) ∙ h)
  where
    go : (b c : Bool) → list_any (same_name q) few ≡ c → (c || (b || false)) ≡ true → (b || list_any (same_name q) known) ≡ true
    go true c e k = refl
    go false true e k = covers q e
    go false false e k = cc

-- ---- look-ups of places
pub place_more : (q m : List ℕ) (b : ℕ) (names : List (List ℕ)) (p : ℕ) → lookup (same_name q) (places_from b names) ≡ Some p → lookup (same_name q) (places_from b (names ++ m ∷ [])) ≡ Some p
place_more q m b [] p e = cc
place_more q m b (n ∷ ns) p e = go (place_more q m (suc b) ns p) (same_name q n) e
  where
    go : (lookup (same_name q) (places_from (suc b) ns) ≡ Some p → lookup (same_name q) (places_from (suc b) (ns ++ m ∷ [])) ≡ Some p) → (c : Bool) → cond c (Some b) (lookup (same_name q) (places_from (suc b) ns)) ≡ Some p → cond c (Some b) (lookup (same_name q) (places_from (suc b) (ns ++ m ∷ []))) ≡ Some p
    go ih true e = e
    go ih false e = ih e

pub place_new : (q m : List ℕ) (b : ℕ) (names : List (List ℕ)) → lookup (same_name q) (places_from b names) ≡ None → lookup (same_name q) (places_from b (names ++ m ∷ [])) ≡ cond (same_name q m) (Some (b + length names)) None
place_new q m b [] e = ap (λ i. cond (same_name q m) (Some i) None) (omega arith)
place_new q m b (n ∷ ns) e = go (place_new q m (suc b) ns) (same_name q n) e
  where
    go : (lookup (same_name q) (places_from (suc b) ns) ≡ None → lookup (same_name q) (places_from (suc b) (ns ++ m ∷ [])) ≡ cond (same_name q m) (Some (suc b + length ns)) None) → (c : Bool) → cond c (Some b) (lookup (same_name q) (places_from (suc b) ns)) ≡ None → cond c (Some b) (lookup (same_name q) (places_from (suc b) (ns ++ m ∷ []))) ≡ cond (same_name q m) (Some (b + length (n ∷ ns))) None
    go ih true e = cc
    go ih false e = ih e ∙ ap (λ i. cond (same_name q m) (Some i) None) (omega arith)

pub place_within : (q : List ℕ) (b : ℕ) (names : List (List ℕ)) (p : ℕ) → lookup (same_name q) (places_from b names) ≡ Some p → (b ≤ p) × (p < b + length names) × (list_any (same_name q) names ≡ true)
place_within q b [] p e = cc
place_within q b (n ∷ ns) p e = go (place_within q (suc b) ns p) (same_name q n) e
  where
    go : (lookup (same_name q) (places_from (suc b) ns) ≡ Some p → (suc b ≤ p) × (p < suc b + length ns) × (list_any (same_name q) ns ≡ true)) → (c : Bool) → cond c (Some b) (lookup (same_name q) (places_from (suc b) ns)) ≡ Some p → (b ≤ p) × (p < b + length (n ∷ ns)) × ((c || list_any (same_name q) ns) ≡ true)
    go ih true e = let s : b ≡ p = cc in (omega (arith, s), omega (arith, s), refl)
    go ih false e = (omega (arith, (ih e).0), omega (arith, (ih e).1), (ih e).2)

-- ---- results at places
pub get_other : (i j : ℕ) (rs : List (Option Listed)) (r : Option Listed) → j < i → held_at (set rs i r) j ≡ held_at rs j
get_other i j [] r h = go i
  where
    go : (i : ℕ) → held_at (set [] i r) j ≡ held_at [] j
    go zero = refl
    go (suc i) = refl
get_other zero j (x ∷ rs) r h = absurd (omega (arith, h))
get_other (suc i) zero (x ∷ rs) r h = refl
get_other (suc i) (suc j) (x ∷ rs) r h = get_other i j rs r (omega (arith, h))

pub get_set : (i : ℕ) (rs : List (Option Listed)) (r : Option Listed) → i < length rs → held_at (set rs i r) i ≡ r
get_set i [] r h = absurd (omega (arith, h))
get_set zero (x ∷ rs) r h = refl
get_set (suc i) (x ∷ rs) r h = get_set i rs r (omega (arith, h))

pub get_left : (i : ℕ) (all : List (Option Listed)) (r : Option Listed) (rs : List (Option Listed)) → drop i all ≡ r ∷ rs → held_at all i ≡ r
get_left zero [] r rs e = cc
get_left zero (x ∷ all) r rs e = cc
get_left (suc i) [] r rs e = cc
get_left (suc i) (x ∷ all) r rs e = get_left i all r rs e

pub left_tail : (i : ℕ) (all : List (Option Listed)) (r : Option Listed) (rs : List (Option Listed)) → drop i all ≡ r ∷ rs → drop (suc i) all ≡ rs
left_tail zero [] r rs e = cc
left_tail zero (x ∷ all) r rs e = cc
left_tail (suc i) [] r rs e = cc
left_tail (suc i) (x ∷ all) r rs e = left_tail i all r rs e

pub left_within : (i : ℕ) (all : List (Option Listed)) (r : Option Listed) (rs : List (Option Listed)) → drop i all ≡ r ∷ rs → i < length all
left_within zero [] r rs e = cc
left_within zero (x ∷ all) r rs e = omega arith
left_within (suc i) [] r rs e = cc
left_within (suc i) (x ∷ all) r rs e = let h = left_within i all r rs e in omega (arith, h)

pub front_next : (i : ℕ) (all : List (Option Listed)) (r : Option Listed) (rs : List (Option Listed)) → drop i all ≡ r ∷ rs → take (suc i) all ≡ take i all ++ r ∷ []
front_next zero [] r rs e = cc
front_next zero (x ∷ all) r rs e = let s : x ≡ r = cc in ap (λ y. y ∷ []) s
front_next (suc i) [] r rs e = cc
front_next (suc i) (x ∷ all) r rs e = ap (λ l. x ∷ l) (front_next i all r rs e)

pub front_set : (i : ℕ) (all : List (Option Listed)) (r : Option Listed) → i < length all → take (suc i) (set all i r) ≡ take i all ++ r ∷ []
front_set i [] r h = absurd (omega (arith, h))
front_set zero (x ∷ all) r h = refl
front_set (suc i) (x ∷ all) r h = ap (λ l. x ∷ l) (front_set i all r (omega (arith, h)))

pub left_set_tail : (i : ℕ) (all : List (Option Listed)) (r w : Option Listed) (rs : List (Option Listed)) → drop i all ≡ r ∷ rs → drop (suc i) (set all i w) ≡ rs
left_set_tail zero [] r w rs e = cc
left_set_tail zero (x ∷ all) r w rs e = cc
left_set_tail (suc i) [] r w rs e = cc
left_set_tail (suc i) (x ∷ all) r w rs e = left_set_tail i all r w rs e

-- ---- what is lost by place is gone by name
abbrev Lost : List ℕ → List (List ℕ) → List (List ℕ) → List (Option Listed) → Type 0
Lost replaced names gone all = (q : List ℕ) → is_lost replaced all (operand_of (places_from 0 names) q) ≡ list_any (same_name q) gone

lost_step : (replaced : List ℕ) (names gone : List (List ℕ)) (all now : List (Option Listed)) (m : List ℕ) (r : Option Listed)
    → same_name m replaced ≡ false → list_any (same_name m) names ≡ false → ((j : ℕ) → j < length names → held_at now j ≡ held_at all j) → held_at now (length names) ≡ r → Lost replaced names gone all
    → Lost replaced (names ++ m ∷ []) (gone_with m r gone) now
lost_step replaced names gone all now m r fresh new others here lost q = go (lookup (same_name q) (places_from 0 names)) refl
  where
    before : is_lost_from replaced all q (source_of (lookup (same_name q) (places_from 0 names))) ≡ list_any (same_name q) gone
    before = lost q

    apart : same_name q m ≡ false → (r : Option Listed) → list_any (same_name q) (gone_with m r gone) ≡ list_any (same_name q) gone
    apart e None = ap (λ b. b || list_any (same_name q) gone) e
    apart e (Some t) = refl

    go : (o : Option ℕ) → lookup (same_name q) (places_from 0 names) ≡ o → is_lost_from replaced now q (source_of (lookup (same_name q) (places_from 0 (names ++ m ∷ [])))) ≡ list_any (same_name q) (gone_with m r gone)
    go (Some p) e =
        ap (λ o. is_lost_from replaced now q (source_of o)) (place_more q m 0 names p e)
        ∙ ap is_none (others p (omega (arith, (place_within q 0 names p e).1)))
        ∙ sym (ap (λ o. is_lost_from replaced all q (source_of o)) e)
        ∙ before
        ∙ sym (apart (differs (same_name q m) refl (place_within q 0 names p e).2) r)
      where
        differs : (b : Bool) → same_name q m ≡ b → list_any (same_name q) names ≡ true → same_name q m ≡ false
        differs true d h = let s : q ≡ m = (bytes_decides q m).0 d in let k : true ≡ false = sym h ∙ ap (λ x. list_any (same_name x) names) s ∙ new in cc
        differs false d h = d
    go None e = at (same_name q m) refl
      where
        by_name : same_name q replaced ≡ list_any (same_name q) gone
        by_name = sym (ap (λ o. is_lost_from replaced all q (source_of o)) e) ∙ before

        at : (b : Bool) → same_name q m ≡ b → is_lost_from replaced now q (source_of (lookup (same_name q) (places_from 0 (names ++ m ∷ [])))) ≡ list_any (same_name q) (gone_with m r gone)
        at false d = ap (λ o. is_lost_from replaced now q (source_of o)) (place_new q m 0 names e ∙ ap (λ b. cond b (Some (0 + length names)) None) d) ∙ by_name ∙ sym (apart d r)
        at true d =
            ap (λ o. is_lost_from replaced now q (source_of o)) (place_new q m 0 names e ∙ ap (λ b. cond b (Some (0 + length names)) None) d)
            ∙ ap (λ i. is_none (held_at now i)) zero_first ∙ ap is_none here ∙ own r
          where
            zero_first : 0 + length names ≡ length names
            zero_first = omega arith

            other : list_any (same_name q) gone ≡ false
            other = sym by_name ∙ ap (λ x. same_name x replaced) ((bytes_decides q m).0 d) ∙ fresh

            own : (r : Option Listed) → is_none r ≡ list_any (same_name q) (gone_with m r gone)
            own None = sym (ap (λ b. b || list_any (same_name q) gone) d)
            own (Some t) = sym other

-- what an expression reads is lost where it reads what is gone
lost_reads : (replaced : List ℕ) (names gone : List (List ℕ)) (all : List (Option Listed)) (s : Statement) (k : ℕ) (x : Part) → Lost replaced names gone all → IsPartOf names k s x → any_lost replaced all x.operands.items ≡ reads_one gone s.node
lost_reads replaced names gone all s k x lost part = ap (any_lost replaced all) part.operands ∙ go (names_in s.node)
  where
    go : (qs : List (List ℕ)) → any_lost replaced all (map (operand_of (places_from 0 names)) qs) ≡ list_any (λ q. list_any (same_name q) gone) qs
    go [] = refl
    go (q ∷ qs) = ap (λ b. b || any_lost replaced all (map (operand_of (places_from 0 names)) qs)) (lost q) ∙ ap (λ b. list_any (same_name q) gone || b) (go qs)

long_push : (names : List (List ℕ)) (m : List ℕ) (i : ℕ) → length names ≡ i → length (names ++ m ∷ []) ≡ suc i
long_push [] m i e = ap suc e
long_push (n ∷ ns) m zero e = cc
long_push (n ∷ ns) m (suc i) e = ap suc (long_push ns m i (omega (arith, e)))

left_places : (replaced : List ℕ) (i : ℕ) (names known gone : List (List ℕ)) (ks : List ℕ) (ss : List Statement) (xs : List Part) (all rs : List (Option Listed))
    → AreEach names ks ss xs → AreNew known ss → Covers names known → list_any (same_name replaced) known ≡ true → length names ≡ i → drop i all ≡ rs → length ss ≡ length rs → Lost replaced names gone all
    → left_from i replaced xs all ≡ take i all ++ left_over gone ss rs
left_places replaced i names known gone [] [] [] all rs each new covers there long left e lost = sym (take-append-drop i all) ∙ ap (λ l. take i all ++ l) left
left_places replaced i names known gone [] [] (x ∷ xs) all rs each new covers there long left e lost = absurd each
left_places replaced i names known gone [] (s ∷ ss) xs all rs each new covers there long left e lost = absurd each
left_places replaced i names known gone (k ∷ ks) [] xs all rs each new covers there long left e lost = absurd each
left_places replaced i names known gone (k ∷ ks) (s ∷ ss) [] all rs each new covers there long left e lost = absurd each
left_places replaced i names known gone (k ∷ ks) (s ∷ ss) (x ∷ xs) all [] each new covers there long left e lost = cc
left_places replaced i names known gone (k ∷ ks) (s ∷ ss) (x ∷ xs) all (r ∷ rs) each new covers there long left e lost =
    ap (λ b. left_from (suc i) replaced xs (cond b (set all i None) all)) (lost_reads replaced names gone all s k x lost each.0)
    ∙ go (λ now more l m. left_places replaced (suc i) (names ++ s.result ∷ []) (s.result ∷ known) more ks ss xs now rs each.1 new.1 (covers_push names known s.result covers) (still (same_name replaced s.result)) (long_push names s.result i long) l (omega (arith, e)) m)
    (reads_one gone s.node)
  where
    still : (b : Bool) → (b || list_any (same_name replaced) known) ≡ true
    still true = refl
    still false = there

    fresh : same_name s.result replaced ≡ false
    fresh = at (same_name s.result replaced) refl
      where
        at : (b : Bool) → same_name s.result replaced ≡ b → same_name s.result replaced ≡ false
        at true d = let h : true ≡ false = sym there ∙ sym (ap (λ x. list_any (same_name x) known) ((bytes_decides s.result replaced).0 d)) ∙ new.0 in cc
        at false d = d

    within : i < length all
    within = left_within i all r rs left

    none_new : list_any (same_name s.result) names ≡ false
    none_new = apart_from known names s.result covers new.0

    go : ((now : List (Option Listed)) (more : List (List ℕ)) → drop (suc i) now ≡ rs → Lost replaced (names ++ s.result ∷ []) more now → left_from (suc i) replaced xs now ≡ take (suc i) now ++ left_over more ss rs)
        → (b : Bool) → left_from (suc i) replaced xs (cond b (set all i None) all) ≡ take i all ++ (cond b None r ∷ left_over (gone_with s.result (cond b None r) gone) ss rs)
    go ih true =
        ih (set all i None) (s.result ∷ gone) (left_set_tail i all r None rs left)
        (lost_step replaced names gone all (set all i None) s.result None fresh none_new (λ j h. get_other i j all None (omega (arith, h, long))) (ap (held_at (set all i None)) long ∙ get_set i all None within) lost)
        ∙ ap (λ l. l ++ left_over (s.result ∷ gone) ss rs) (front_set i all None within) ∙ append_assoc (take i all) (None ∷ []) (left_over (s.result ∷ gone) ss rs)
    go ih false =
        ih all (gone_with s.result r gone) (left_tail i all r rs left)
        (lost_step replaced names gone all all s.result r fresh none_new (λ j h. refl) (ap (held_at all) long ∙ get_left i all r rs left) lost)
        ∙ ap (λ l. l ++ left_over (gone_with s.result r gone) ss rs) (front_next i all r rs left) ∙ append_assoc (take i all) (r ∷ []) (left_over (gone_with s.result r gone) ss rs)

-- what is left part by part, by places, is what reads nothing that is gone
pub left_by_name : (replaced : List ℕ) (known : List (List ℕ)) (ks : List ℕ) (ss : List Statement) (xs : List Part) (rs : List (Option Listed)) → AreEach [] ks ss xs → AreNew known ss → list_any (same_name replaced) known ≡ true → length ss ≡ length rs
    → left_from 0 replaced xs rs ≡ left_over (replaced ∷ []) ss rs
left_by_name replaced known ks ss xs rs each new there e = left_places replaced 0 [] known (replaced ∷ []) ks ss xs rs rs each new (λ q h. cc) there refl refl e (λ q. at (same_name q replaced))
  where
    at : (b : Bool) → b ≡ (b || false)
    at true = refl
    at false = refl
