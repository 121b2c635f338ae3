use Rattle.std.proofs.Common.{◌≡◌, length, rules, arith, ap}
use Rattle.std.proofs.lemmas.List.{length_push}
use Rattle.sql_window.proofs.PutLemmas.{put_all, put_more, put_none, put_within}
use Rattle.sql_window.proofs.windows.put_back.Goals as goal

pub loop-value-init : goal.loop-value-init
loop-value-init c = put_none c.args.places.now c.args.values.items c.in_ok-back.back.items c.requires.many c.in_ok-back.ensures

pub index_mut-requires : goal.index_mut-requires
index_mut-requires c =
    let places = c.args.places.now in
    let js = c.pop.new.self.items in
    let m : c.len.result ≡ length js = search rules in
    let long : length c.loop-value.back.items ≡ c.loop-value.back.len = search rules in
    let more = ap length c.in-Some.ensures.items in
    let within = put_within places c.requires.all c.len.result (omega (arith, m, more, length_push js c.in-Some.value, c.loop-value.invariant.few)) in
    omega (arith, within, long, c.loop-value.invariant.long)

pub loop-value-preserved-in-Some : goal.loop-value-preserved-in-Some
loop-value-preserved-in-Some c =
    let js = c.pop.new.self.items in
    let m : c.len.result ≡ length js = search rules in
    put_more c.args.places.now c.args.values.items c.loop-value.values.items js c.loop-value.back.items c.in-Some.value c.len.result c.requires.all c.loop-value.invariant c.in-Some.ensures.items m

pub loop-value-preserved-in-Some-2 : goal.loop-value-preserved-in-Some-2
loop-value-preserved-in-Some-2 c =
    let js = c.pop.new.self.items in
    let m : c.len.result ≡ length js = search rules in
    put_more c.args.places.now c.args.values.items c.loop-value.values.items js c.loop-value.back.items c.in-Some.value c.len.result c.requires.all c.loop-value.invariant c.in-Some.ensures.items m

pub loop-value-preserved : goal.loop-value-preserved
loop-value-preserved c =
    let js = c.pop.new.self.items in
    let m : c.len.result ≡ length js = search rules in
    put_more c.args.places.now c.args.values.items c.loop-value.values.items js c.loop-value.back.items c.in-Some.value c.len.result c.requires.all c.loop-value.invariant c.in-Some.ensures.items m

pub returns : goal.returns
returns c = λ f e.
    let none : length c.loop-value.values.items ≡ 0 = search rules in
    put_all c.args.places.now c.args.values.items c.loop-value.values.items c.loop-value.back.items c.requires.all c.loop-value.invariant none f e
