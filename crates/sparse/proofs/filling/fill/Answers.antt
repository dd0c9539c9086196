use Rattle.std.proofs.Common.{◌-◌, [], ◌∷◌, ◌++◌, length, sym, ap, ◌∙◌, append_assoc, append-nil, arith, length-append}
use Rattle.sets.specs.Members.{member_of}
use Rattle.sparse.specs.Cells.{numbers_to}
use Rattle.sparse.proofs.Numbers.{numbers_none, numbers_step, numbers_short}
use Rattle.sparse.proofs.filling.fill.Goals as goal
use Rattle.sparse.proofs.filling.fill.Goals.{then-holds, else-holds}

pub loop-unknown-init : goal.loop-unknown-init
loop-unknown-init g c =
    sym (ap (λ xs. c.args.cells.now ++ xs) (numbers_none (member_of c.args.unknowns.bits)) ∙ append-nil c.args.cells.now)

pub loop-unknown-preserved : goal.loop-unknown-preserved
loop-unknown-preserved g c =
    let S = member_of c.args.unknowns.bits in
    let k = c.loop-unknown.unknown in
    let first = c.loop-unknown.auto.unknown in
    let step = numbers_step k S first in
    elim c.if-holds.branch [
      | then-holds w ↦
          let e = ap S (sym c.into.ensures) ∙ sym w.if-holds.ensures in
          let t = rw e at step in
          let s = numbers_short 128 k S first (omega arith) e in
          let l = ap length c.loop-unknown.invariant ∙ length-append c.args.cells.now (numbers_to (k - 1) S) in
          let p = w.push.ensures.values (omega (arith, c.requires)) in
          rw (w.cells-is, t) (p ∙ ap (λ xs. xs ++ k ∷ []) c.loop-unknown.invariant ∙ append_assoc c.args.cells.now (numbers_to (k - 1) S) (k ∷ []))
      | else-holds w ↦
          let e = ap S (sym c.into.ensures) ∙ sym w.if-holds.ensures in
          let t = rw e at step in
          rw (w.cells-is, t) (c.loop-unknown.invariant ∙ ap (λ xs. c.args.cells.now ++ xs) (sym (append-nil _)))
    ]
