-- What the lists of a sparse source say. Assumes nothing.
use Rattle.std.proofs.Common.{◌≡◌, ℕ, zero, suc, ◌+◌, ◌-◌, ◌<◌, ◌≤◌, true, false, leb, List, [], length, drop, Option, Some, None, sym, refl, ap, ◌∙◌, ⊎_elim, arith, length-drop, length-take}
use Rattle.std.specs.Prelude.{slice_range}
use Rattle.std.specs.List.{find}
use Rattle.std.proofs.lemmas.Bool.{cases_Bool, cases_lt}
use Rattle.std.proofs.lemmas.Bool.Decides.{nat_tests}
use Rattle.std.proofs.lemmas.List.{get_or_past}
use Rattle.sets.specs.Counting.{one_of}
use Rattle.source.specs.Meaning.{pairs_to, NextUnknown}
use Rattle.source.proofs.Asking.{next_found, next_none}
use Rattle.source.proofs.Clipping.{clip_kept, clip_counted}
use Rattle.source.proofs.Sums.{pairs_to_none}
use Rattle.sparse.specs.declared.lists.Sparse.{Sparse}
use Rattle.sparse.specs.Cells.{stands_in, numbers_to, list_at}
use Rattle.sparse.specs.Lists.{end_of, list_of, in_list, sparse_means, sparse_bounded}
use Rattle.sparse.proofs.Numbers.{FoundFrom, numbers_counted, number_from}

-- behind the last list the cells end
end_past : (s : Sparse) (i : ℕ) → length s.starts ≤ i → end_of s i ≡ length s.cells
end_past s i h = get_or_past s.starts i (length s.cells) h

list_is : (s : Sparse) (i : ℕ) → 1 ≤ i → list_of s i ≡ list_at s.starts s.cells (i - 1)
list_is s i p = let e : i - 1 + 1 ≡ i = omega arith in rw e refl

range_empty : (xs : List ℕ) (a : ℕ) → slice_range xs a a ≡ []
range_empty xs a = let z : a - a ≡ 0 = omega arith in rw z refl

list_none : (s : Sparse) (i : ℕ) → one_of (length s.starts) i ≡ false → list_of s i ≡ []
list_none s i h =
    ⊎_elim
    (λ (l : i < 1). let z : i ≡ 0 = omega arith in rw z (range_empty s.cells (end_of s 0)))
    (λ (l : 1 ≤ i).
    let a = end_past s (i - 1) (grind (arith, nat_tests)) in
    let z = end_past s i (grind (arith, nat_tests)) in
    rw (a, z) (range_empty s.cells (length s.cells)))
    (cases_lt i 1)

-- each list is the numbers that stand in it, rising
list_rising : (s : Sparse) (i : ℕ) → 1 ≤ i → i ≤ length s.starts → list_of s i ≡ numbers_to 128 (in_list s i)
list_rising s i p q =
    let e = list_is s i p in
    e ∙ s.rising (i - 1) (omega arith) ∙ ap (λ xs. numbers_to 128 (stands_in xs)) (sym e)

known_of_equation : (s : Sparse) (i j : ℕ) → 1 ≤ i → i ≤ length s.starts → in_list s i j ≡ true → one_of s.unknowns j ≡ true
known_of_equation s i j p q h = let f = s.fits (i - 1) j (omega arith) (rw (list_is s i p) at h) in grind (arith, nat_tests)

-- what an equation holds is what stands in its list
pub list_answers : (s : Sparse) (i j : ℕ) → in_list s i j ≡ (sparse_means s).holds i j
list_answers s i j =
    ⊎_elim
    (λ (o : one_of (length s.starts) i ≡ true).
    let p : 1 ≤ i = grind (arith, nat_tests) in
    let q : i ≤ length s.starts = grind (arith, nat_tests) in
    clip_kept _ _ i j (in_list s i j) p q (known_of_equation s i j p q))
    (λ (o : one_of (length s.starts) i ≡ false). rw (o, list_none s i o) refl)
    (cases_Bool (one_of (length s.starts) i))

-- what stands in any list is an unknown
pub list_known : (s : Sparse) (i j : ℕ) → in_list s i j ≡ true → one_of s.unknowns j ≡ true
list_known s i j h = let a = list_answers s i j in grind (arith, nat_tests)

-- the first number of a list that is not below j
pub first_in_list : (s : Sparse) (i j : ℕ) (r : Option ℕ) → 1 ≤ j → r ≡ find (λ x. leb j x) (list_of s i) → NextUnknown (sparse_means s) i j r
first_in_list s i j r one e =
    ⊎_elim
    (λ (o : one_of (length s.starts) i ≡ true).
    let p : 1 ≤ i = grind (arith, nat_tests) in
    let q : i ≤ length s.starts = grind (arith, nat_tests) in
    by_found r (rw (sym (e ∙ ap (find (λ x. leb j x)) (list_rising s i p q))) at (number_from (in_list s i) j 128)))
    (λ (o : one_of (length s.starts) i ≡ false).
    let z : r ≡ None = e ∙ ap (find (λ x. leb j x)) (list_none s i o) in
    rw z (next_none (sparse_means s) (sparse_bounded s) i j (λ k p q. rw o refl)))
    (cases_Bool (one_of (length s.starts) i))
  where
    by_found : (r : Option ℕ) → FoundFrom (in_list s i) j 1 129 r → NextUnknown (sparse_means s) i j r
    by_found None f =
        let few = s.few.1 in next_none (sparse_means s) (sparse_bounded s) i j (λ k p q. sym (list_answers s i k) ∙ f k (omega arith) (omega arith) p)
    by_found (Some x) f =
        next_found (sparse_means s) (sparse_bounded s) i j x one
        (record { from = f.0; in_it = sym (list_answers s i x) ∙ f.1; none_before = λ k p q. sym (list_answers s i k) ∙ f.2 k (omega arith) p q })

range_counted : (xs : List ℕ) (a z : ℕ) → a ≤ z → z ≤ length xs → length (slice_range xs a z) + a ≡ z
range_counted xs a z p q = omega (arith, length-take (z - a) (drop a xs), length-drop a xs)

-- the cells before list k are the pairs of the equations up to k
lists_counted : (s : Sparse) (k : ℕ) → k ≤ length s.starts → pairs_to (sparse_means s) k ≡ end_of s k
lists_counted s zero h = pairs_to_none (sparse_means s) ∙ sym s.first
lists_counted s (suc k) h =
    let e : suc k ≡ k + 1 = omega arith in
    let f : k + 1 - 1 ≡ k = omega arith in
    let r = lists_counted s k (omega arith) in
    let few = s.few.1 in
    let c = clip_counted (length s.starts) s.unknowns k (in_list s) (omega arith) few (λ j. known_of_equation s (k + 1) j (omega arith) (omega arith)) in
    let n = numbers_counted 128 (in_list s (k + 1)) in
    let l = ap length (list_rising s (k + 1) (omega arith) (omega arith)) in
    let o = s.ordered k (omega arith) in
    let w = range_counted s.cells (end_of s k) (end_of s (k + 1)) o.0 o.1 in
    let t = ap (λ i. length (slice_range s.cells (end_of s i) (end_of s (k + 1)))) f in
    rw e (c ∙ omega arith)

-- the cells are the pairs
pub cells_counted : (s : Sparse) → length s.cells ≡ pairs_to (sparse_means s) (length s.starts)
cells_counted s = sym (end_past s (length s.starts) (omega arith)) ∙ sym (lists_counted s (length s.starts) (omega arith))
