use Rattle.std.proofs.Common.{◌≡◌, true, false, leb, sym, ap, ◌∙◌, arith}
use Rattle.std.proofs.lemmas.Bool.{lt-leb}
use Rattle.sets.specs.Counting.{how_many}
use Rattle.sets.specs.Members.{member_of}
use Rattle.sets.proofs.Bitwise.{members_few}
use Rattle.source.specs.Growth.{has_room, reaches_past}
use Rattle.source.proofs.Rules.{passes_first, row_lowest}
use Rattle.source.proofs.growing.admits_equation.Goals as goal

pub returns-then-is_some : goal.returns-then-is_some
returns-then-is_some g c =
    let M = g.S.Source.means c.args.source.now in
    let S = member_of c.args.unknowns.bits in
    let w = members_few c.args.unknowns.bits in
    let e : leb 112 M.m ≡ false = lt-leb 112 M.m (omega arith) in
    let f : has_room c.args.room M (how_many 128 S) ≡ true = ap (λ k. has_room c.args.room M k) (sym c.len.ensures) ∙ sym c.if-not-has_room.ensures in
    let p : reaches_past M.n S ≡ true = rw c.unknowns.ensures at (passes_first c.unknowns.result S c.next_from.result w c.next_from.ensures) ∙ sym c.if-is_some.ensures in
    record { rule = simp (e, f, p); grounds = row_lowest c.args.room M S w }

pub returns : goal.returns
returns g c =
    let M = g.S.Source.means c.args.source.now in
    let S = member_of c.args.unknowns.bits in
    let w = members_few c.args.unknowns.bits in
    let e : leb 112 M.m ≡ false = lt-leb 112 M.m (omega arith) in
    let f : has_room c.args.room M (how_many 128 S) ≡ true = ap (λ k. has_room c.args.room M k) (sym c.len.ensures) ∙ sym c.if-not-has_room.ensures in
    let p : reaches_past M.n S ≡ false = rw c.unknowns.ensures at (passes_first c.unknowns.result S c.next_from.result w c.next_from.ensures) ∙ sym c.if-is_some.ensures in
    record { rule = simp (e, f, p); grounds = row_lowest c.args.room M S w }
