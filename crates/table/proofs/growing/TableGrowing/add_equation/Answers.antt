use Rattle.table.proofs.Known.{row_added, row_fits}
use Rattle.table.proofs.growing.TableGrowing.add_equation.Goals as goal

pub invariant_of-self-clause-fits : goal.invariant_of-self-clause-fits
invariant_of-self-clause-fits c =
    row_fits c.args.self.now c.args.unknowns.bits c.flags.result _ c.in_ok-admits_equation.ensures.rule c.push.ensures.values c.flags.ensures

pub returns : goal.returns
returns c =
    let rule = c.in_ok-admits_equation.ensures.rule in
    (rule, row_added c.args.self.now c.args.unknowns.bits c.flags.result _ rule c.push.ensures.values c.flags.ensures)
