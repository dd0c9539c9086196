use Rattle.std.specs.Iterator.Adapters.{enumerate_source, enumerate_count}
use Rattle.account.proofs.Sofar.{Sofar}
use Rattle.account.proofs.checking.check_text.Given as goal

abbrev pub invariant-loop-index : goal.invariant-loop-index
invariant-loop-index l = (goal.iterator-loop-index).is_finite l.index-iterator × Sofar l.text (enumerate_source l.index-iterator) (enumerate_count l.index-iterator) l.account
