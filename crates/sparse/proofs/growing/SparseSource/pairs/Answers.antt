use Rattle.std.proofs.Common.{◌∙◌}
use Rattle.sparse.proofs.Kept.{cells_counted}
use Rattle.sparse.proofs.growing.SparseSource.pairs.Goals as goal

pub returns : goal.returns
returns c = c.len.ensures ∙ cells_counted c.args.self.now
