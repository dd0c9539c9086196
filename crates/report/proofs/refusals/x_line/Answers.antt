use Rattle.std.proofs.Common.{◌≡◌, ◌≤◌, [], ◌∷◌, ◌++◌, length, drop, decimal, ap, ◌∙◌, subst, append_assoc, arith}
use Rattle.report.specs.Lines.{x_line}
use Rattle.report.proofs.Pieces.{nothing_yet, piece_on, parted, x_line_parts, parted_length, line_stands}
use Rattle.report.proofs.refusals.x_line.Goals as goal
use Rattle.report.proofs.refusals.x_line.Goals.{After-as_slice-byte}

-- the three numbers, as they stand in the line
numbers : (c : After-as_slice-byte) → parted c.as_slice-number.result.now c.as_slice-line.result.now c.as_slice-byte.result.now ≡ x_line c.args.refusal
numbers c =
    x_line_parts c.args.refusal _ _ _
    (c.as_slice-number.ensures.value ∙ c.of-number.ensures.value ∙ ap decimal c.from.ensures)
    (c.as_slice-line.ensures.value ∙ c.of-line.ensures.value)
    (c.as_slice-byte.ensures.value ∙ c.of-byte.ensures.value)

pub returns : goal.returns
returns c =
    let e = numbers (goal.at.returns c).After-as_slice-byte in
    let a = c.as_slice-number.result.now in
    let b = c.as_slice-line.result.now in
    let d = c.as_slice-byte.result.now in
    let f0 = nothing_yet c.args.area.now in
    let f1 = piece_on _ _ (88 ∷ 58 ∷ []) _ _ _ _ f0 c.put-at.ensures.after c.put-at.ensures.value in
    let f2 = piece_on _ _ a _ _ _ _ f1 c.put-at-2.ensures.after c.put-at-2.ensures.value in
    let f3 = piece_on _ _ (32 ∷ []) _ _ _ _ f2 c.put-at-3.ensures.after c.put-at-3.ensures.value in
    let f4 = piece_on _ _ b _ _ _ _ f3 c.put-at-4.ensures.after c.put-at-4.ensures.value in
    let f5 = piece_on _ _ (32 ∷ []) _ _ _ _ f4 c.put-at-5.ensures.after c.put-at-5.ensures.value in
    let f6 = piece_on _ _ d _ _ _ _ f5 c.put-at-6.ensures.after c.put-at-6.ensures.value in
    let f7 = piece_on _ _ (10 ∷ []) _ _ _ _ f6 c.put.ensures.after c.put.ensures.value in
    let done = line_stands _ (parted a b d) _ _ _ f7 (simp append_assoc) in
    let long = parted_length a b d in
    let fits : length (parted a b d) ≤ length c.args.area.now = omega (arith, long, c.if-area-number.false) in
    (done.0 ∙ ap length e, subst (λ l. length l ≤ length c.args.area.now) e fits, done.1 ∙ ap (λ l. l ++ drop (length l) c.args.area.now) e)
