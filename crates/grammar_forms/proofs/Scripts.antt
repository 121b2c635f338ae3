-- Scripts: tokens spell one at most, and a text is a script or has one fault.
use Rattle.std.proofs.Common.{◌≡◌, ◌∙◌, ◌≤◌, ◌<◌, ◌+◌, ◌-◌, ℕ, zero, suc, false, List, [], ◌∷◌, ◌++◌, map, length, Option, None, Some, refl, sym, ap, subst, arith, append_assoc, append-nil, length-append, take, drop}
use Rattle.std.proofs.Math.Seq.{drop-append_seam}
use Rattle.std.proofs.lemmas.List.{append_cancel_right, drop-map, length-map, map-append, take-append-drop}
use Rattle.vtl_lists.specs.Options.{given}
use Rattle.grammar_forms.specs.Forms.{Form}
use Rattle.grammar_forms.specs.Scripts.{ahead, ScriptSpells, SyntaxFault, WholeScript, byte_of, script_reads}
use Rattle.grammar_forms.proofs.Laws.{Lawful, Stops, exact, stops-nil}
use Rattle.grammar_forms.proofs.Tests.{clash}

-- each statement is never empty, and nothing goes on with it
pub record Closed {T S : Type 0} (class : T → ℕ) (f : Form T S) : Type 0 where
  pub law : Lawful class f
  pub full : f.empty ≡ false
  pub ends : f.more ≡ []

module _ {P T S : Type 0} (kind : P → T) (start : P → ℕ) (class : T → ℕ) (at : ℕ → Form T S) (closed : (i : ℕ) → Closed class (at i)) where
  abbrev kinds : List P → List T
  kinds ts = map kind ts

  full-length : (i : ℕ) (ts : List T) (s : S) → (at i).spells ts s → 1 ≤ length ts
  full-length i [] s h = absurd (clash (at i).empty ((closed i).law.begins [] s h) (closed i).full)
  full-length i (t ∷ ts) s h = omega arith

  read-one : (i : ℕ) (front rest : List T) (s : S) → (at i).spells front s → (at i).reads (front ++ rest) ≡ Some (s, rest)
  read-one i front rest s h = (closed i).law.complete front s rest h (subst (λ m. Stops class m rest) (sym (closed i).ends) (stops-nil class rest))

  -- of two scripts at the front of the same tokens, the longer goes on where the shorter ends
  record GoesOn (b : List S) (u v : List T) (count : ℕ) : Type 0 where
    place : ℕ
    more : List S
    front : List T
    left : u ≡ front ++ v
    spelled : ScriptSpells at place front more
    counts : length b ≡ count + length more

  same-head : (i : ℕ) (f u g v : List T) (x y : S) → f ++ u ≡ g ++ v → (at i).spells f x → (at i).spells g y → (x ≡ y) × (u ≡ v)
  same-head i f u g v x y e hx hy = exact class (at i) (closed i).law (closed i).ends f u g v x y e hx hy

  longer : (i : ℕ) (a b : List S) (f u g v : List T) → length a ≤ length b → ScriptSpells at i f a → ScriptSpells at i g b → f ++ u ≡ g ++ v → GoesOn b u v (length a)
  longer i [] b f u g v h sa sb e = record { place = i; more = b; front = g; left = sym (ap (λ x. x ++ u) sa) ∙ e; spelled = sb; counts = omega arith }
  longer i (x ∷ a) [] f u g v h sa sb e = absurd (omega arith)
  longer i (x ∷ a) (y ∷ b) f u g v h sa sb e =
      let heads = same-head i sa.0 (sa.1 ++ u) sb.0 (sb.1 ++ v) x y (sym (append_assoc sa.0 sa.1 u) ∙ sym (ap (λ z. z ++ u) sa.2) ∙ e ∙ ap (λ z. z ++ v) sb.2 ∙ append_assoc sb.0 sb.1 v) sa.3 sb.3 in
      let r = longer (suc i) a b sa.1 u sb.1 v (omega arith) sa.4 sb.4 heads.1 in
      record { place = r.place; more = r.more; front = r.front; left = r.left; spelled = r.spelled; counts = omega (arith, r.counts) }

  none-left : (i : ℕ) (ss : List S) (ts : List T) → length ss ≡ 0 → ScriptSpells at i ts ss → ts ≡ []
  none-left i [] ts e h = h
  none-left i (s ∷ ss) ts e h = absurd (omega (arith, e))

  some-left : (i : ℕ) (ss : List S) → ScriptSpells at i [] ss → length ss ≡ 0
  some-left i [] h = refl
  some-left i (s ∷ ss) h = absurd (omega (arith, full-length i h.0 s h.3, ap length h.2, length-append h.0 h.1))

  -- ---- over tokens with places

  kinds-append : (a b : List P) → kinds (a ++ b) ≡ kinds a ++ kinds b
  kinds-append a b = map-append kind a b

  kinds-size : (a : List P) → length (kinds a) ≡ length a
  kinds-size a = length-map a kind

  kinds-split : (ts f r : List P) → ts ≡ f ++ r → kinds ts ≡ kinds f ++ kinds r
  kinds-split ts f r e = ap kinds e ∙ kinds-append f r

  same_end : (a b c d : List P) → a ++ b ≡ c ++ d → length b ≡ length d → b ≡ d
  same_end [] b [] d e h = e
  same_end [] b (y ∷ c) d e h = absurd (omega (arith, ap length e, length-append c d))
  same_end (x ∷ a) b [] d e h = absurd (omega (arith, ap length e, length-append a b))
  same_end (x ∷ a) b (y ∷ c) d e h = let tails : a ++ b ≡ c ++ d = cc in same_end a b c d tails h

  pub fault-determined : (least : ℕ) (ts : List P) (bad : Option ℕ) (end d byte d' byte' : ℕ) → SyntaxFault kind start at least ts bad end d byte → SyntaxFault kind start at least ts bad end d' byte' → (d ≡ d') × (byte ≡ byte')
  fault-determined least ts bad end d byte d' byte' f g =
      let below = g.greatest f.front f.rest f.script f.split f.spelled in
      let above = f.greatest g.front g.rest g.script g.split g.spelled in
      let on = longer 0 f.script g.script (kinds f.front) (kinds f.rest) (kinds g.front) (kinds g.rest) (omega (arith, below, above, f.counts, g.counts)) f.spelled g.spelled (sym (kinds-split ts f.front f.rest f.split) ∙ kinds-split ts g.front g.rest g.split) in
      let none = none-left on.place on.more on.front (omega (arith, on.counts, below, above, f.counts, g.counts)) on.spelled in
      let left : kinds f.rest ≡ kinds g.rest = on.left ∙ ap (λ x. x ++ kinds g.rest) none in
      let size : length f.rest ≡ length g.rest = sym (kinds-size f.rest) ∙ ap length left ∙ kinds-size g.rest in
      let rests = same_end f.front f.rest g.front g.rest (sym f.split ∙ g.split) size in
      (omega (arith, below, above, f.counts, g.counts), sym f.is_byte ∙ ap (λ r. byte_of start r bad end) rests ∙ g.is_byte)

  no-tokens : (ts : List P) → length ts ≡ 0 → ts ≡ []
  no-tokens [] e = refl
  no-tokens (t ∷ ts) e = absurd (omega (arith, e))

  pub whole-no-fault : (least : ℕ) (ts : List P) (bad : Option ℕ) (end : ℕ) (script : List S) (d byte : ℕ) → WholeScript kind at least ts bad script → SyntaxFault kind start at least ts bad end d byte → ⊥
  whole-no-fault least ts bad end script d byte whole f =
      let most = f.greatest ts [] script (sym (append-nil ts)) whole.spelled in
      let on = longer 0 script f.script (kinds ts) [] (kinds f.front) (kinds f.rest) (omega (arith, most, f.counts)) whole.spelled f.spelled (append-nil (kinds ts) ∙ kinds-split ts f.front f.rest f.split) in
      let sizes : 0 ≡ length on.front + length (kinds f.rest) = ap length on.left ∙ length-append on.front (kinds f.rest) in
      let gone : length f.rest ≡ 0 = omega (arith, sizes, kinds-size f.rest) in
      let bare : on.front ≡ [] = nil-of on.front (omega (arith, sizes)) in
      let few = some-left on.place on.more (subst (λ x. ScriptSpells at on.place x on.more) bare on.spelled) in
      omega (arith, f.broken (no-tokens f.rest gone) whole.whole, whole.enough, on.counts, few)
    where
      nil-of : (x : List T) → length x ≡ 0 → x ≡ []
      nil-of [] e = refl
      nil-of (t ∷ x) e = absurd (omega (arith, e))

  pub scripts-unique : (i : ℕ) (ts : List T) (a b : List S) → ScriptSpells at i ts a → ScriptSpells at i ts b → a ≡ b
  scripts-unique i ts a b ha hb = go i ts ts a b refl ha hb
    where
      go : (i : ℕ) (us vs : List T) (a b : List S) → us ≡ vs → ScriptSpells at i us a → ScriptSpells at i vs b → a ≡ b
      go i us vs [] [] e ha hb = refl
      go i us vs [] (y ∷ b) e ha hb = absurd (omega (arith, full-length i hb.0 y hb.3, ap length hb.2, length-append hb.0 hb.1, ap length e, ap length ha))
      go i us vs (x ∷ a) [] e ha hb = absurd (omega (arith, full-length i ha.0 x ha.3, ap length ha.2, length-append ha.0 ha.1, ap length e, ap length hb))
      go i us vs (x ∷ a) (y ∷ b) e ha hb =
          let heads = same-head i ha.0 ha.1 hb.0 hb.1 x y (sym ha.2 ∙ e ∙ hb.2) ha.3 hb.3 in
          ap (λ z. z ∷ a) heads.0 ∙ ap (λ zs. y ∷ zs) (go (suc i) ha.1 hb.1 a b heads.1 ha.4 hb.4)

  -- ---- what reading gives

  record IsRead (i : ℕ) (ts : List T) (script : List S) (rest : List T) : Type 0 where
    front : List T
    is : ts ≡ front ++ rest
    spelled : ScriptSpells at i front script

  after-one : (i : ℕ) (ts : List T) (n : ℕ) → ((us : List T) → IsRead (suc i) us (script_reads at n (suc i) us).0 (script_reads at n (suc i) us).1) → (r : Option (S × List T)) → (at i).reads ts ≡ r
      → IsRead i ts (given {B = List S × List T} r (λ s. (s.0 ∷ (script_reads at n (suc i) s.1).0, (script_reads at n (suc i) s.1).1)) ([], ts)).0 (given {B = List S × List T} r (λ s. (s.0 ∷ (script_reads at n (suc i) s.1).0, (script_reads at n (suc i) s.1).1)) ([], ts)).1
  after-one i ts n ih None e = record { front = []; is = refl; spelled = refl }
  after-one i ts n ih (Some p) e =
      let r = (closed i).law.sound ts p.0 p.1 e in
      let more = ih p.1 in
      record { front = r.front ++ more.front; is = r.is ∙ ap (λ x. r.front ++ x) more.is ∙ sym (append_assoc r.front more.front (script_reads at n (suc i) p.1).1); spelled = (r.front, more.front, refl, r.spelled, more.spelled) }

  read-sound : (n i : ℕ) (ts : List T) → IsRead i ts (script_reads at n i ts).0 (script_reads at n i ts).1
  read-sound zero i ts = record { front = []; is = refl; spelled = refl }
  read-sound (suc n) i ts = after-one i ts n (λ us. read-sound n (suc i) us) ((at i).reads ts) refl

  read-most : (n i : ℕ) (s : List S) (f r : List T) → length f ≤ n → ScriptSpells at i f s → length s ≤ length (script_reads at n i (f ++ r)).0
  read-most n i [] f r h sp = omega arith
  read-most zero i (x ∷ s) f r h sp = absurd (omega (arith, h, full-length i sp.0 x sp.3, ap length sp.2, length-append sp.0 sp.1))
  read-most (suc n) i (x ∷ s) f r h sp =
      let split : f ++ r ≡ sp.0 ++ (sp.1 ++ r) = ap (λ z. z ++ r) sp.2 ∙ append_assoc sp.0 sp.1 r in
      let one = read-one i sp.0 (sp.1 ++ r) x sp.3 in
      let more = read-most n (suc i) s sp.1 r (omega (arith, h, full-length i sp.0 x sp.3, ap length sp.2, length-append sp.0 sp.1)) sp.4 in
      rw (split, one) (omega (arith, more))

  -- ---- what reading says of the tokens of a text

  pub all-read : List P → List S × List T
  all-read ts = script_reads at (length (kinds ts)) 0 (kinds ts)

  as-read : (ts : List P) (script : List S) (left : List T) → script_reads at (length (kinds ts)) 0 (kinds ts) ≡ (script, left) → IsRead 0 (kinds ts) script left
  as-read ts script left e = subst (λ p. IsRead 0 (kinds ts) p.0 p.1) e (read-sound (length (kinds ts)) 0 (kinds ts))

  behind : (a b : List T) (n : ℕ) → n ≡ length a → drop n (a ++ b) ≡ b
  behind a b n e = rw e (drop-append_seam a b)

  pub left-fits : (ts rest : List P) (script : List S) → script_reads at (length (kinds ts)) 0 (kinds ts) ≡ (script, kinds rest) → length rest ≤ length ts
  left-fits ts rest script e = let r = as-read ts script (kinds rest) e in omega (arith, ap length r.is, length-append r.front (kinds rest), kinds-size ts, kinds-size rest)

  left-kinds : (ts rest : List P) (script : List S) → script_reads at (length (kinds ts)) 0 (kinds ts) ≡ (script, kinds rest) → kinds (drop (length ts - length rest) ts) ≡ kinds rest
  left-kinds ts rest script e =
      let r = as-read ts script (kinds rest) e in
      sym (drop-map kind (length ts - length rest) ts) ∙ ap (drop (length ts - length rest)) r.is ∙ behind r.front (kinds rest) (length ts - length rest) (omega (arith, ap length r.is, length-append r.front (kinds rest), kinds-size ts, kinds-size rest))

  greatest-read : (ts f r : List P) (s : List S) → ts ≡ f ++ r → ScriptSpells at 0 (kinds f) s → length s ≤ length (script_reads at (length (kinds ts)) 0 (kinds ts)).0
  greatest-read ts f r s e sp =
      let split = kinds-split ts f r e in
      subst (λ us. length s ≤ length (script_reads at (length (kinds ts)) 0 us).0) (sym split) (read-most (length (kinds ts)) 0 s (kinds f) (kinds r) (omega (arith, ap length split, length-append (kinds f) (kinds r))) sp)

  -- the tokens that are left stand last
  pub told-fault : (least : ℕ) (ts rest : List P) (bad : Option ℕ) (end : ℕ) (script : List S) → script_reads at (length (kinds ts)) 0 (kinds ts) ≡ (script, kinds rest)
      → (drop (length ts - length rest) ts ≡ [] → bad ≡ None → length script < least) → SyntaxFault kind start at least ts bad end (length script) (byte_of start (drop (length ts - length rest) ts) bad end)
  told-fault least ts rest bad end script e broken =
      let n : ℕ = length ts - length rest in
      let r = as-read ts script (kinds rest) e in
      let split : ts ≡ take n ts ++ drop n ts = sym (take-append-drop n ts) in
      let front : kinds (take n ts) ≡ r.front = append_cancel_right (kinds (take n ts)) r.front (kinds rest) (ap (λ x. kinds (take n ts) ++ x) (sym (left-kinds ts rest script e)) ∙ sym (kinds-split ts (take n ts) (drop n ts) split) ∙ r.is) in
      record {
        front = take n ts;
        rest = drop n ts;
        split = split;
        script = script;
        spelled = subst (λ x. ScriptSpells at 0 x script) (sym front) r.spelled;
        counts = refl;
        greatest = λ f q s cut sp. subst (λ p. length s ≤ length p.0) e (greatest-read ts f q s cut sp);
        is_byte = refl;
        broken = broken;
      }

  none-behind : (xs : List T) (a : List T) → xs ≡ a ++ [] → xs ≡ a
  none-behind xs a e = e ∙ append-nil a

  pub told-script : (least : ℕ) (ts rest : List P) (bad : Option ℕ) (script : List S) → script_reads at (length (kinds ts)) 0 (kinds ts) ≡ (script, kinds rest) → length rest ≡ 0 → bad ≡ None → least ≤ length script → WholeScript kind at least ts bad script
  told-script least ts rest bad script e none whole enough =
      let r = as-read ts script (kinds rest) e in
      let bare : kinds rest ≡ [] = ap kinds (no-tokens rest none) in
      record { whole = whole; enough = enough; spelled = subst (λ x. ScriptSpells at 0 x script) (sym (none-behind (kinds ts) r.front (r.is ∙ ap (λ x. r.front ++ x) bare))) r.spelled }

-- ---- one turn of a loop over statements

same-lists : {T S : Type 0} (xs ys : List S) (ts : List T) → xs ≡ ys → ◌≡◌ {A = List S × List T} (xs, ts) (ys, ts)
same-lists {T} {S} xs ys ts e = ap {B = List S × List T} (λ zs. (zs, ts)) e

pub ahead-turn : {T S : Type 0} (at : ℕ → Form T S) (n m i : ℕ) (items : List S) (ts : List T) (s : S) (rest : List T) → n ≡ suc m → (at i).reads ts ≡ Some (s, rest) → ahead items (script_reads at n i ts) ≡ ahead (items ++ s ∷ []) (script_reads at m (suc i) rest)
ahead-turn at n m i items ts s rest is e =
    rw (is, e) (same-lists (items ++ s ∷ (script_reads at m (suc i) rest).0) ((items ++ s ∷ []) ++ (script_reads at m (suc i) rest).0) (script_reads at m (suc i) rest).1 (sym (append_assoc items (s ∷ []) (script_reads at m (suc i) rest).0)))

pub ahead-stop : {T S : Type 0} (at : ℕ → Form T S) (n i : ℕ) (items : List S) (ts : List T) → (at i).reads ts ≡ None → ahead items (script_reads at n i ts) ≡ (items, ts)
ahead-stop at zero i items ts e = same-lists (items ++ []) items ts (append-nil items)
ahead-stop at (suc n) i items ts e = rw e (same-lists (items ++ []) items ts (append-nil items))

pub ahead-full : {T S : Type 0} (at : ℕ → Form T S) (n i : ℕ) (items : List S) (ts : List T) → n ≡ 0 → ahead items (script_reads at n i ts) ≡ (items, ts)
ahead-full at zero i items ts e = same-lists (items ++ []) items ts (append-nil items)
ahead-full at (suc n) i items ts e = absurd (omega (arith, e))
