use Rattle.std.proofs.Common.{ℕ, leb, sym, ap, ◌∙◌, arith, rules}
use Rattle.std.specs.List.{find}
use Rattle.std.proofs.lemmas.Iterator.{YieldsList-from_slice, YieldsList-from_map}
use Rattle.std.proofs.lemmas.Iterator.Consumers.{YieldsList-at}
use Rattle.std.proofs.lemmas.Iterator.Search.{find_from_yields_List}
use Rattle.std.proofs.lemmas.List.{map-id}
use Rattle.std.proofs.lemmas.Iterator.Adapters.{option_map_id}
use Rattle.sparse.proofs.Kept.{first_in_list}
use Rattle.sparse.proofs.growing.SparseSource.next.Goals as goal

pub returns : goal.returns
returns c =
    let from = λ (x : ℕ). leb c.args.unknown x in
    first_in_list c.args.self.now c.args.equation c.args.unknown c.find.result (omega arith)
    (sym (option_map_id c.find.result)
    ∙ find_from_yields_List from _ _ c.find.result c.find.ensures.ran
    (YieldsList-from_map _ (λ x. x) (YieldsList-at c.map.ensures.source (YieldsList-from_slice c.list.result.now (cc))) c.map.ensures.closure (λ x r q k. search rules)) (λ x b q k. search rules)
    ∙ ap (find from) (map-id c.list.result.now ∙ c.list.ensures))
