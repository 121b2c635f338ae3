use Rattle.std.proofs.Common.{◌≡◌, ◌%◌, ◌++◌, length, ap, ◌∙◌, arith}
use Rattle.vtl_pages.specs.Places.{put_all}
use Rattle.vtl_pages.proofs.Lays.{all_pushed, free_there, items_seen, room_is, same_paged, spare_seen, width_seen}
use Rattle.vtl_pages.proofs.Runs.{in_one_block, still_runs}
use Rattle.vtl_pages.proofs.Spots.{first_seen, places_seen, step_seen}
use Rattle.vtl_pages.proofs.pages.Pages.push_run.Goals as goal

pub put_all-requires-clause-in_block : goal.put_all-requires-clause-in_block
put_all-requires-clause-in_block g c =
    let p = c.self.inside in let width = width_seen c.self.view_is in let whole = c.requires.whole in let found = c.find-block.result in let count = c.self.invariant.0.count in
    let aligned : p.len % p.width ≡ 0 = (λ i. (count ∙ ap length (items_seen c.self.view_is)) i % width i) ∙ c.requires.whole_runs in
    in_one_block p.store p.room p.width p.front p.runs p.shift c.self.invariant.1 p.len (length c.args.run.now.items) found.0 found.1 (omega arith) c.find-block.ensures.spot c.find-block.ensures.in_block

pub put_all-requires-clause-few : goal.put_all-requires-clause-few
put_all-requires-clause-few g c =
    let p = c.self.inside in let left = spare_seen c.self.view_is in let spare = c.requires.spare in let whole = c.requires.whole in let at = c.find-block.ensures.spot in
    let few = c.self.invariant.1.few in let wide = c.self.invariant.1.wide in let width = width_seen c.self.view_is in omega arith

pub put_all-requires-clause-there : goal.put_all-requires-clause-there
put_all-requires-clause-there g c =
    let p = c.self.inside in let left = spare_seen c.self.view_is in let spare = c.requires.spare in let whole = c.requires.whole in let at = c.find-block.ensures.spot in let most = c.self.invariant.0.within in
    let wide = c.self.invariant.1.wide in let width = width_seen c.self.view_is in
    omega (arith, room_is p.store.places p.len p.room c.self.invariant.0)

pub put_all-requires-clause-free : goal.put_all-requires-clause-free
put_all-requires-clause-free g c j from below = let p = c.self.inside in let at = c.find-block.ensures.spot in free_there p.store.places p.len p.room c.self.invariant.0 j (omega arith)

pub invariant_of-self : goal.invariant_of-self
invariant_of-self g c =
    let p = c.self.inside in let inv = c.self.invariant in let t = c.put_all.new.self in let e = c.put_all.ensures.places in
    let left = spare_seen c.self.view_is in let width = width_seen c.self.view_is in let spare = c.requires.spare in let whole = c.requires.whole in let wide = inv.1.wide in let most = inv.0.within in
    let count : p.width ≡ length c.args.run.now.items = omega arith in
    ((all_pushed p.store.places p.len p.room inv.0 t.places c.args.run.now.items p.width count (omega arith) (places_seen e ∙ ap (λ i. put_all p.store.places i c.args.run.now.items) c.find-block.ensures.spot)).0, still_runs p.store p.room p.width p.front p.runs p.shift inv.1 t p.room (first_seen e) (step_seen e) inv.1.few)

pub returns-clause-pages : goal.returns-clause-pages
returns-clause-pages g c =
    let p = c.self.inside in let inv = c.self.invariant in let t = c.put_all.new.self in let e = c.put_all.ensures.places in
    let left = spare_seen c.self.view_is in let width = width_seen c.self.view_is in let spare = c.requires.spare in let whole = c.requires.whole in let wide = inv.1.wide in let most = inv.0.within in
    let count : p.width ≡ length c.args.run.now.items = omega arith in
    same_paged ((all_pushed p.store.places p.len p.room inv.0 t.places c.args.run.now.items p.width count (omega arith) (places_seen e ∙ ap (λ i. put_all p.store.places i c.args.run.now.items) c.find-block.ensures.spot)).1 ∙ ap (λ l. l ++ c.args.run.now.items) (items_seen c.self.view_is)) (omega arith) width
