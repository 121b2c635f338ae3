-- A new file is made of its pieces, and the files of a run are written one after the other.
use Rattle.std.proofs.Common.{◌≡◌, ℕ, ◌≤◌, List, [], ◌∷◌, ◌++◌, Option, Some, None, refl, sym, ap, ◌∙◌, inr, arith, inl, map, subst, append_assoc}
use Rattle.std.specs.Option.{option_map}
use Rattle.std.proofs.lemmas.List.{append-nil, map-append}
use Rattle.vtl_files.specs.Outside.{append_last, AppendsAll, FaultAt}
use Rattle.vtl_files.specs.Whole.{AppendsFront}
use Rattle.std.specs.Prelude.{chars, string_bytes}
use Rattle.vtl_files.specs.declared.files.Files.{Ghosts}
use Rattle.vtl_top.specs.OutputView.{NamesPath, output_view}
use Rattle.vtl_top.specs.Steps.{File}
use Rattle.vtl_top.specs.declared.output.Output.{Output}
use Rattle.vtl_top.specs.Answered.{Adds, AddsFront, AddsUpTo, Faulted, OnlyWrites}
use Rattle.vtl_top.proofs.StepLemmas.{rose_before}

-- ---- a new file
grown : (fs : List (List ℕ × List ℕ)) (name bytes more : List ℕ) → append_last more (fs ++ (name, bytes) ∷ []) ≡ fs ++ (name, bytes ++ more) ∷ []
grown [] name bytes more = refl
grown (f ∷ []) name bytes more = refl
grown (f ∷ g ∷ fs) name bytes more = ap (λ l. f ∷ l) (grown (g ∷ fs) name bytes more)

grown_told : (o : Option (List (List ℕ × List ℕ))) (name more : List ℕ) → option_map (append_last more) (option_map (λ fs. fs ++ (name, []) ∷ []) o) ≡ option_map (λ fs. fs ++ (name, more) ∷ []) o
grown_told None name more = refl
grown_told (Some fs) name more = ap Some (grown fs name [] more)

pub whole_file : (w0 w1 w2 : Option (List (List ℕ × List ℕ))) (name bytes : List ℕ) → w1 ≡ option_map (λ fs. fs ++ (name, []) ∷ []) w0 → AppendsAll w1 w2 bytes → Adds w0 w2 ((name, bytes) ∷ [])
whole_file w0 w1 w2 name bytes e all = all ∙ ap (option_map (append_last bytes)) e ∙ grown_told w0 name bytes

pub front_of_file : (w0 w1 w2 : Option (List (List ℕ × List ℕ))) (name bytes : List ℕ) → w1 ≡ option_map (λ fs. fs ++ (name, []) ∷ []) w0 → AppendsFront w1 w2 bytes → AddsFront w0 w2 (name, bytes)
front_of_file w0 w1 w2 name bytes e f = inr (f.1.front, f.0, f.1.whole, f.1.told ∙ ap (option_map (append_last f.1.front)) e ∙ grown_told w0 name f.1.front)

pub whole_as_front : (w0 w1 w2 : Option (List (List ℕ × List ℕ))) (name bytes : List ℕ) → Adds w0 w1 ((name, bytes) ∷ []) → w2 ≡ w1 → AddsFront w0 w2 (name, bytes)
whole_as_front w0 w1 w2 name bytes a e = inr (bytes, [], sym (append-nil bytes), e ∙ a)

-- ---- outputs, one after the other
pub only_writes_nothing : {F : Type 0} (g : Ghosts F) (a : F) → OnlyWrites g a a
only_writes_nothing g a = record { held = refl; misuses = refl; faults = omega arith; absences = refl }

pub only_writes_twice : {F : Type 0} (g : Ghosts F) (a b c : F) → OnlyWrites g a b → OnlyWrites g b c → OnlyWrites g a c
only_writes_twice g a b c r s = record { held = s.held ∙ r.held; misuses = s.misuses ∙ r.misuses; faults = omega (arith, r.faults, s.faults); absences = s.absences ∙ r.absences }

pub adds_nothing : (w : Option (List File)) → Adds w w []
adds_nothing None = refl
adds_nothing (Some fs) = ap Some (sym (append-nil fs))

added_twice : (w : Option (List File)) (xs ys : List File) → option_map (λ all. all ++ ys) (option_map (λ all. all ++ xs) w) ≡ option_map (λ all. all ++ (xs ++ ys)) w
added_twice None xs ys = refl
added_twice (Some fs) xs ys = ap Some (append_assoc fs xs ys)

adds_more : (w0 w1 w2 : Option (List File)) (xs ys : List File) → Adds w0 w1 xs → Adds w1 w2 ys → Adds w0 w2 (xs ++ ys)
adds_more w0 w1 w2 xs ys first then = then ∙ ap (option_map (λ all. all ++ ys)) first ∙ added_twice w0 xs ys

pub written_more : (w0 w1 w2 : Option (List File)) (came : List Output) (x : Output) (bytes : List ℕ) → bytes ≡ x.bytes.items → Adds w0 w1 (map output_view came) → Adds w1 w2 ((string_bytes x.path, bytes) ∷ []) → Adds w0 w2 (map output_view (came ++ x ∷ []))
written_more w0 w1 w2 came x bytes same done now =
    subst (λ l. Adds w0 w2 l) (sym (map-append output_view came (x ∷ [])))
    (adds_more w0 w1 w2 (map output_view came) (output_view x ∷ []) done (subst (λ b. Adds w1 w2 ((string_bytes x.path, b) ∷ [])) same now))

pub came_in_turn : (came : List Output) (x : Output) (rest here start all : List Output) → here ≡ x ∷ rest → came ++ here ≡ start → start ≡ all → all ≡ came ++ x ∷ rest
came_in_turn came x rest here start all is in_turn gives = sym (ap (λ l. came ++ l) (sym is) ∙ in_turn ∙ gives)

pub stopped_in : (w0 w1 w2 : Option (List File)) (all came : List Output) (x : Output) (rest : List Output) (bytes : List ℕ) → bytes ≡ x.bytes.items → all ≡ came ++ x ∷ rest → NamesPath x → Adds w0 w1 (map output_view came)
    → AddsFront w1 w2 (string_bytes x.path, bytes) → AddsUpTo w0 w2 (map output_view all) x.named
stopped_in w0 w1 w2 all came x rest bytes same is named done (inl e) = record {
  whole = map output_view came;
  name = string_bytes x.path;
  front = [];
  left = x.bytes.items;
  rest = map output_view rest;
  split = ap (map output_view) is ∙ map-append output_view came (x ∷ rest);
  named = named;
  told = inl (e ∙ done);
}
stopped_in w0 w1 w2 all came x rest bytes same is named done (inr f) = record {
  whole = map output_view came;
  name = string_bytes x.path;
  front = f.0;
  left = f.1;
  rest = map output_view rest;
  split = ap (map output_view) is ∙ map-append output_view came (x ∷ rest) ∙ ap (λ b. map output_view came ++ (string_bytes x.path, b) ∷ map output_view rest) (sym same ∙ f.2);
  named = named;
  told = inr (adds_more w0 w1 w2 (map output_view came) ((string_bytes x.path, f.0) ∷ []) done f.3);
}

pub faulted_at : {F : Type 0} (g : Ghosts F) (a b c : F) (x : Output) → NamesPath x → g.faults a ≤ g.faults b → FaultAt (g.faults b) (g.faults c) (g.mark c) (g.place c) (string_bytes x.path) → Faulted g a c x.named
faulted_at g a b c x named le f = (named ∙ sym (ap chars f.at_path), record { in_call = rose_before (g.faults a) (g.faults b) (g.faults c) le f.in_call; since_mark = f.since_mark; at_path = refl })
