use Rattle.std.proofs.Common.{◌≡◌, ◌+◌, true, false, arith, rules}
use Rattle.std.proofs.lemmas.Iterator.{first_from_Range}
use Rattle.source.proofs.Asking.{next_by_search}
use Rattle.source.proofs.questions.Source.next.Goals as goal

pub returns : goal.returns
returns g c =
    let M = g.Self.Source.means c.args.self.now in
    let i = c.args.equation in
    next_by_search M (g.Self.Source.bounded c.args.self.now) i c.args.unknown (c.unknowns.result + 1) c.find.result (omega arith) (omega arith)
    (first_from_Range _ _ _ _ (λ j. M.holds i j ≡ true) (λ j. M.holds i j ≡ false) c.find.ensures.ran (λ x q k. search rules) (λ x q k. search rules))
