use Rattle.std.proofs.Common.{◌≡◌, ◌+◌, ◌-◌, is_some, arith, rules}
use Rattle.std.proofs.lemmas.Iterator.{YieldsList-from_range}
use Rattle.std.proofs.lemmas.Iterator.Consumers.{count_from_yields_List, YieldsList-from_filter, YieldsList-at}
use Rattle.layers.specs.Layers.{sensors_of, sensed, with_sensors}
use Rattle.layers.proofs.Layering.{sensors_counted}
use Rattle.source.specs.Meaning.{pair_count}
use Rattle.source.proofs.Sums.{pairs_to_le}
use Rattle.layers.proofs.sensing.SensorsSource.pairs.Given.{Over}
use Rattle.layers.proofs.sensing.SensorsSource.pairs.Goals as goal

all : (g : Over) (c : goal.After-count g) → c.pairs.result + c.count.result ≡ pair_count (with_sensors (g.S.Source.means c.args.self.now.below) (sensors_of c.args.self.now))
all g c =
    let s = c.args.self.now in
    let M = g.S.Source.means s.below in
    let xs = sensors_of s in
    let b = g.S.Source.bounded s.below in
    let few = b.few_equations in
    let first = c.equations-first.result in
    let last = c.equations.result in
    let n = count_from_yields_List c.filter.result c.count.result c.count.ensures.ran
    (YieldsList-from_filter _ (λ i. is_some (sensed M xs i)) (YieldsList-at c.filter.ensures.source (YieldsList-from_range (first + 1) (last + 1) (last - first) (cc) (omega arith))) c.filter.ensures.closure (λ x r q k. search rules)) in
    let t = sensors_counted M b xs in
    let f : first ≡ M.m = c.equations-first.ensures in
    let l : last ≡ (with_sensors M xs).m = c.equations.ensures in
    let p : c.pairs.result ≡ pair_count M = c.pairs.ensures in
    cc

pub overflow_add-result : goal.overflow_add-result
overflow_add-result g c =
    let s = c.args.self.now in
    let M = g.S.Source.means s.below in
    let b = g.S.Source.bounded s.below in
    let few = b.few_equations in
    let xs = sensors_of s in
    let l = pairs_to_le (with_sensors M xs) b.few_unknowns (with_sensors M xs).m in
    let a = all g c in
    omega arith

pub returns : goal.returns
returns g c = all g c
