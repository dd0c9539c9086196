-- What the rows say. Assumes nothing.
use Rattle.std.proofs.Common.{◌≡◌, Bor, Option, Some, None, MatchOption, ℕ, zero, suc, ◌+◌, ◌-◌, ◌^◌, ◌<◌, ◌≤◌, true, false, List, [], ◌∷◌, ◌++◌, length, get_or, take, sum_by, sym, refl, ap, ◌∙◌, arith}
use Rattle.std.proofs.lemmas.Bool.Decides.{nat_tests}
use Rattle.std.proofs.lemmas.List.{take_all}
use Rattle.std.proofs.lemmas.List.Sums.{sum_by_more, sum_by-le}
use Rattle.std.specs.Option.{option_copied}
use Rattle.std.specs.Slice.{IsItemAt}
use Rattle.sets.specs.Counting.{one_of, how_many}
use Rattle.sets.specs.Empty.{UnknownSet, no_unknown}
use Rattle.sets.specs.Members.{member_of}
use Rattle.sets.proofs.Bitwise.{members_one_of}
use Rattle.source.specs.Meaning.{clipped, pairs_to, pair_count}
use Rattle.source.specs.Growth.{with_row, row_refusal}
use Rattle.source.proofs.Clipping.{clip_kept, clip_counted, clip_appended, rows_kept}
use Rattle.source.proofs.Rules.{accepted}
use Rattle.source.proofs.Sums.{how_many_le, pairs_to_none}
use Rattle.dense.specs.declared.rows.Dense.{Dense}
use Rattle.dense.specs.Rows.{in_row, dense_means}

-- the rows keep to the unknowns
pub row_known : (d : Dense) (i j : ℕ) → 1 ≤ i → i ≤ length d.rows → in_row d i j ≡ true → one_of d.unknowns j ≡ true
row_known d i j p q h =
    let l : j ≤ d.unknowns = d.fits (i - 1) j (omega arith) h in
    let o = members_one_of (get_or d.rows (i - 1) no_unknown).bits j h in
    grind (arith, nat_tests)

-- what an equation holds is what its row holds
pub row_says : (d : Dense) (i k : ℕ) (r : Option (Bor UnknownSet)) → IsItemAt d.rows k r → i ≡ k + 1
    → MatchOption (option_copied r) ((j : ℕ) → (dense_means d).holds i j ≡ false) (λ row. (j : ℕ) → (dense_means d).holds i j ≡ member_of row.bits j)
row_says d i k None h e = λ j. let l = h.3 in grind (arith, nat_tests)
row_says d i k (Some x) h e =
    let l = h.3.0 in
    let s : i - 1 ≡ k = omega arith in
    λ j. sym (clip_kept _ _ i j (in_row d i j) (omega arith) (omega arith) (row_known d i j (omega arith) (omega arith)))
    ∙ ap (λ (r : UnknownSet). member_of r.bits j) (ap (λ p. get_or d.rows p no_unknown) s ∙ sym (h.3.1 no_unknown))

-- how many unknowns a row holds
abbrev pub row_len : UnknownSet → ℕ
row_len r = how_many 128 (member_of r.bits)

-- the pairs of the equations up to k are those of the first k rows
rows_counted : (d : Dense) (k : ℕ) → k ≤ length d.rows → pairs_to (dense_means d) k ≡ sum_by row_len (take k d.rows)
rows_counted d zero h = pairs_to_none (dense_means d)
rows_counted d (suc k) h =
    let e : suc k ≡ k + 1 = omega arith in
    let f : k + 1 - 1 ≡ k = omega arith in
    let r = rows_counted d k (omega arith) in
    let c = clip_counted (length d.rows) d.unknowns k (in_row d) (omega arith) d.few.1 (λ j. row_known d (k + 1) j (omega arith) (omega arith)) in
    let s = sum_by_more row_len d.rows k no_unknown (omega arith) in
    let t = ap (λ i. row_len (get_or d.rows i no_unknown)) f in
    rw e (c ∙ omega arith)

-- the pairs are those of all rows
pub pairs_counted : (d : Dense) → sum_by row_len d.rows ≡ pair_count (dense_means d)
pairs_counted d =
    ap (sum_by row_len) (sym (take_all (length d.rows) d.rows (omega arith))) ∙ sym (rows_counted d (length d.rows) (omega arith))

-- they are few
pub pairs_few : (d : Dense) → sum_by row_len d.rows < 2 ^ 64
pairs_few d = omega (arith, d.few.0, sum_by-le row_len 128 d.rows (λ k x h. how_many_le 128 (member_of (get_or d.rows k x).bits)))

-- one row more, behind the others, is one equation more
pub row_added : (d : Dense) (us : UnknownSet) (rows : List UnknownSet) → row_refusal 14336 (dense_means d) (member_of us.bits) ≡ None → (length d.rows < 112 → rows ≡ d.rows ++ us ∷ [])
    → clipped (length rows) d.unknowns (λ i j. member_of (get_or rows (i - 1) no_unknown).bits j) ≡ with_row (dense_means d) (member_of us.bits)
row_added d us rows rule more =
    let a = accepted 14336 (dense_means d) us.bits rule in
    rw (more a.few) (clip_appended (λ (r : UnknownSet). member_of r.bits) d.rows us no_unknown d.unknowns (member_of us.bits) a.known (λ j _. refl))

-- it keeps to the unknowns
pub row_fits : (d : Dense) (us : UnknownSet) (rows : List UnknownSet) → row_refusal 14336 (dense_means d) (member_of us.bits) ≡ None → (length d.rows < 112 → rows ≡ d.rows ++ us ∷ [])
    → (i j : ℕ) → i < length rows → member_of (get_or rows i no_unknown).bits j ≡ true → j ≤ d.unknowns
row_fits d us rows rule more =
    let a = accepted 14336 (dense_means d) us.bits rule in
    rw (more a.few)
    (λ i j h.
    rows_kept (λ (r : UnknownSet). (j : ℕ) → member_of r.bits j ≡ true → j ≤ d.unknowns) d.rows us no_unknown
    (λ j m. let k = a.known j m in grind (arith, nat_tests)) (λ i h j. d.fits i j h) i h j)
