use Rattle.std.proofs.Common.{◌≡◌, sum_by, ◌∙◌, rules}
use Rattle.dense.proofs.Known.{row_len, pairs_counted, pairs_few}
use Rattle.dense.proofs.growing.DenseSource.pairs.Goals as goal

pub sum-requires-clause-fits : goal.sum-requires-clause-fits
sum-requires-clause-fits c = let few = pairs_few c.args.self.now in search rules

pub returns : goal.returns
returns c =
    let total : c.sum.result ≡ sum_by row_len c.args.self.now.rows = search rules in
    total ∙ pairs_counted c.args.self.now
