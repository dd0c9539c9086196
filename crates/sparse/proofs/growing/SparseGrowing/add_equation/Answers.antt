use Rattle.std.proofs.Common.{arith}
use Rattle.source.proofs.Rules.{accepted}
use Rattle.sparse.specs.Lists.{sparse_means}
use Rattle.sparse.proofs.Added.{list_added, starts_few, starts_first, lists_ordered, lists_in_order, lists_fit}
use Rattle.sparse.proofs.Kept.{cells_counted}
use Rattle.sparse.proofs.growing.SparseGrowing.add_equation.Goals as goal

pub fill-requires : goal.fill-requires
fill-requires c =
    let s = c.args.self.now in
    let a = accepted _ (sparse_means s) c.args.unknowns.bits c.in_ok-admits_equation.ensures.rule in
    omega (arith, a.spare, cells_counted s)

pub invariant_of-self : goal.invariant_of-self
invariant_of-self c =
    let s = c.args.self.now in
    let bits = c.args.unknowns.bits in
    let rule = c.in_ok-admits_equation.ensures.rule in
    let more = rw c.len.ensures at c.push.ensures.values in
    let filled = c.fill.ensures in record {
      few = (starts_few s bits _ _ rule more filled, s.few.1);
      first = starts_first s bits _ _ rule more filled;
      ordered = lists_ordered s bits _ _ rule more filled;
      rising = lists_in_order s bits _ _ rule more filled;
      fits = lists_fit s bits _ _ rule more filled;
    }

pub returns : goal.returns
returns c =
    let s = c.args.self.now in
    let bits = c.args.unknowns.bits in
    let rule = c.in_ok-admits_equation.ensures.rule in
    (rule, list_added s bits _ _ rule (rw c.len.ensures at c.push.ensures.values) c.fill.ensures)
