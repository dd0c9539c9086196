use Rattle.std.proofs.Common.{eqb, ap, ◌∙◌, rules}
use Rattle.std.proofs.lemmas.Iterator.{YieldsList-from_slice}
use Rattle.std.proofs.lemmas.Iterator.Search.{any_from_yields_List}
use Rattle.sparse.specs.Cells.{stands_in}
use Rattle.sparse.proofs.Kept.{list_answers}
use Rattle.sparse.proofs.growing.SparseSource.holds.Goals as goal

pub returns : goal.returns
returns c =
    any_from_yields_List (λ y. eqb y c.args.unknown) _ _ c.any.result c.any.ensures.ran (YieldsList-from_slice c.list.result.now (cc)) (λ x b q k. search rules)
    ∙ ap (λ xs. stands_in xs c.args.unknown) c.list.ensures
    ∙ list_answers c.args.self.now c.args.equation c.args.unknown
