-- Counts and sums: their steps, bounds and order. Assumes nothing.
use Rattle.std.proofs.Common.{◌≡◌, ℕ, zero, suc, ◌+◌, ◌*◌, ◌<◌, ◌≤◌, Bool, true, false, cond, ◌||◌, eqb, length, sym, refl, ap, ◌∙◌, ⊎_elim, mul-suc, add-one, arith}
use Rattle.std.specs.List.{filter, range_with_len}
use Rattle.std.proofs.lemmas.Bool.{cases_Bool, cases_eq, cases_lt, both_ways, eq-eqb, ne_eqb}
use Rattle.std.proofs.lemmas.Bool.Decides.{nat_tests}
use Rattle.sets.specs.Counting.{how_many, sum_over}
use Rattle.source.specs.Meaning.{Meaning, pairs_to}

pub how_many_step : (k : ℕ) (S : ℕ → Bool) → how_many (k + 1) S ≡ how_many k S + cond (S (k + 1)) 1 0
unfolding how_many
how_many_step k S = rw add-one refl

pub sum_over_step : (k : ℕ) (f : ℕ → ℕ) → sum_over (k + 1) f ≡ sum_over k f + f (k + 1)
unfolding sum_over
sum_over_step k f = rw add-one refl

pub pairs_to_step : (M : Meaning) (k : ℕ) → pairs_to M (k + 1) ≡ pairs_to M k + how_many M.n (M.holds (k + 1))
unfolding pairs_to
pairs_to_step M k = sum_over_step k (λ i. how_many M.n (M.holds i))

pub pairs_to_none : (M : Meaning) → pairs_to M 0 ≡ 0
unfolding pairs_to sum_over
pairs_to_none M = refl

pub sum_over_none : (f : ℕ → ℕ) → sum_over 0 f ≡ 0
unfolding sum_over
sum_over_none f = refl

pub how_many_none : (S : ℕ → Bool) → how_many 0 S ≡ 0
unfolding how_many
how_many_none S = refl

pub how_many_le : (k : ℕ) (S : ℕ → Bool) → how_many k S ≤ k
unfolding how_many
how_many_le zero S = omega arith
how_many_le (suc k) S = let r = how_many_le k S in grind (arith, nat_tests)

pub sum_over_le : (k b : ℕ) (f : ℕ → ℕ) → ((i : ℕ) → f i ≤ b) → sum_over k f ≤ b * k
unfolding sum_over
sum_over_le zero b f h = omega arith
sum_over_le (suc k) b f h = let r = sum_over_le k b f h in let s = h (suc k) in let e = mul-suc b k in omega arith

pub sum_over_same : (k : ℕ) (f h : ℕ → ℕ) → ((i : ℕ) → 1 ≤ i → i ≤ k → f i ≡ h i) → sum_over k f ≡ sum_over k h
unfolding sum_over
sum_over_same zero f h e = refl
sum_over_same (suc k) f h e =
    let r = sum_over_same k f h (λ i a b. e i a (omega arith)) in let s = e (suc k) (omega arith) (omega arith) in omega arith

pub how_many_same : (k : ℕ) (S T : ℕ → Bool) → ((i : ℕ) → 1 ≤ i → i ≤ k → S i ≡ T i) → how_many k S ≡ how_many k T
unfolding how_many
how_many_same zero S T e = refl
how_many_same (suc k) S T e =
    let r = how_many_same k S T (λ i a b. e i a (omega arith)) in
    let s = e (suc k) (omega arith) (omega arith) in
    ap (λ x. x + cond (S (suc k)) 1 0) r ∙ ap (λ x. how_many k T + cond x 1 0) s

-- nothing of 1 to k passes
pub how_many_zero : (k : ℕ) (S : ℕ → Bool) → ((i : ℕ) → 1 ≤ i → i ≤ k → S i ≡ false) → how_many k S ≡ 0
unfolding how_many
how_many_zero zero S e = refl
how_many_zero (suc k) S e =
    let r = how_many_zero k S (λ i a b. e i a (omega arith)) in let s = e (suc k) (omega arith) (omega arith) in grind (arith, nat_tests)

-- past the numbers of S there is nothing more to count
pub how_many_more : (d n : ℕ) (S : ℕ → Bool) → ((j : ℕ) → S j ≡ true → j ≤ n) → how_many (n + d) S ≡ how_many n S
how_many_more zero n S h = ap (λ k. how_many k S) (omega arith)
how_many_more (suc d) n S h =
    let a : n + suc d ≡ (n + d) + 1 = omega arith in
    let z : S (n + d + 1) ≡ false = ⊎_elim (λ (e : S (n + d + 1) ≡ true). let l = h (n + d + 1) e in absurd (omega arith)) (λ (e : S (n + d + 1) ≡ false). e) (cases_Bool (S (n + d + 1))) in
    ap (λ k. how_many k S) a ∙ how_many_step (n + d) S ∙ ap (λ b. how_many (n + d) S + cond b 1 0) z ∙ omega (arith, how_many_more d n S h)

-- at most one number passes
pub how_many_one : (k x : ℕ) (S : ℕ → Bool) → ((i : ℕ) → S i ≡ true → i ≡ x) → (S x ≡ true → (1 ≤ x) × (x ≤ k)) → how_many k S ≡ cond (S x) 1 0
unfolding how_many
how_many_one zero x S only in_it = ⊎_elim (λ (e : S x ≡ true). let p = in_it e in absurd (omega arith)) (λ (e : S x ≡ false). rw e refl) (cases_Bool (S x))
how_many_one (suc k) x S only in_it =
    ⊎_elim
    (λ (e : S (suc k) ≡ true).
    let s : suc k ≡ x = only (suc k) e in
    let sx : S x ≡ true = ap S (sym s) ∙ e in
    let z : how_many k S ≡ 0 = how_many_zero k S (λ i a b. ⊎_elim (λ (o : S i ≡ true). let w = only i o in absurd (omega arith)) (λ (o : S i ≡ false). o) (cases_Bool (S i))) in
    rw (e, sx, z) refl)
    (λ (e : S (suc k) ≡ false).
    let below : S x ≡ true → (1 ≤ x) × (x ≤ k) =
    λ s. let p = in_it s in
    ⊎_elim (λ (l : x < suc k). (p.0, omega arith)) (λ (l : suc k ≤ x). let q : x ≡ suc k = omega arith in absurd (both_ways (S (suc k)) e (ap S (sym q) ∙ s))) (cases_lt x (suc k)) in
    let r = how_many_one k x S only below in
    rw e (omega arith))
    (cases_Bool (S (suc k)))

sum_over_add : (k : ℕ) (f h : ℕ → ℕ) → sum_over k (λ i. f i + h i) ≡ sum_over k f + sum_over k h
unfolding sum_over
sum_over_add zero f h = refl
sum_over_add (suc k) f h = let r = sum_over_add k f h in omega arith

sum_over_zero : (k : ℕ) → sum_over k (λ _. 0) ≡ 0
unfolding sum_over
sum_over_zero zero = refl
sum_over_zero (suc k) = let r = sum_over_zero k in omega arith

how_many-sum_over : (k : ℕ) (S : ℕ → Bool) → how_many k S ≡ sum_over k (λ i. cond (S i) 1 0)
unfolding how_many sum_over
how_many-sum_over zero S = refl
how_many-sum_over (suc k) S = let r = how_many-sum_over k S in omega arith

-- pairs counted by rows are as many as counted by columns
pub pairs_swapped : (a b : ℕ) (h : ℕ → ℕ → Bool) → sum_over a (λ i. how_many b (h i)) ≡ sum_over b (λ j. how_many a (λ i. h i j))
unfolding sum_over how_many
pairs_swapped zero b h = sym (sum_over_zero b)
pairs_swapped (suc a) b h =
    let r = pairs_swapped a b h in
    let s = how_many-sum_over b (h (suc a)) in
    let t = sum_over_add b (λ j. how_many a (λ i. h i j)) (λ j. cond (h (suc a) j) 1 0) in
    omega arith

pub pairs_to_le : (M : Meaning) → M.n ≤ 128 → (k : ℕ) → pairs_to M k ≤ 128 * k
unfolding pairs_to
pairs_to_le M b k = sum_over_le k 128 (λ i. how_many M.n (M.holds i)) (λ i. omega (arith, how_many_le M.n (M.holds i)))

pub pairs_to_same : (M N : Meaning) → M.n ≡ N.n → (k : ℕ) → ((i j : ℕ) → i ≤ k → M.holds i j ≡ N.holds i j) → pairs_to M k ≡ pairs_to N k
unfolding pairs_to
pairs_to_same M N e k h =
    sum_over_same k (λ i. how_many M.n (M.holds i)) (λ i. how_many N.n (N.holds i))
    (λ i a b. ap (λ n. how_many n (M.holds i)) e ∙ how_many_same N.n (M.holds i) (N.holds i) (λ j _ _. h i j b))

pub how_many_up : (d k : ℕ) (S : ℕ → Bool) → how_many k S ≤ how_many (k + d) S
how_many_up zero k S = let e : k + 0 ≡ k = omega arith in rw e (omega arith)
how_many_up (suc d) k S =
    let e : k + suc d ≡ (k + d) + 1 = omega arith in let r = how_many_up d k S in let s = how_many_step (k + d) S in rw e (omega arith)

-- one number more counts once
pub how_many_add : (k y : ℕ) (S : ℕ → Bool) → S y ≡ false → 1 ≤ y → y ≤ k → how_many k (λ x. eqb y x || S x) ≡ how_many k S + 1
unfolding how_many
how_many_add zero y S e a b = absurd (omega arith)
how_many_add (suc k) y S e a b =
    ⊎_elim
    (λ (q : y ≡ suc k).
    let f : S (suc k) ≡ false = ap S (sym q) ∙ e in
    let t : eqb y (suc k) ≡ true = eq-eqb y (suc k) q in
    let r : how_many k (λ x. eqb y x || S x) ≡ how_many k S =
    how_many_same k (λ x. eqb y x || S x) S (λ i p l. let n = ne_eqb y i (λ z. omega arith) in rw n refl) in
    rw (f, t) (omega arith))
    (λ (q : y ≡ suc k → ⊥).
    let n = ne_eqb y (suc k) q in
    let r = how_many_add k y S e a (omega arith) in
    rw n (omega arith))
    (cases_eq y (suc k))

-- counted from the front, as a range goes, where each number gives one or nothing
sum_over-range : (f : ℕ → ℕ) (S : ℕ → Bool) (d a : ℕ) → ((i : ℕ) → a < i → f i ≡ cond (S i) 1 0) → sum_over a f + length (filter S (range_with_len (a + 1) d)) ≡ sum_over (a + d) f
sum_over-range f S zero a h = let e : a + 0 ≡ a = omega arith in rw e (omega arith)
sum_over-range f S (suc d) a h =
    let e : a + suc d ≡ (a + 1) + d = omega arith in
    rw e (sym (filtered (S (a + 1)) refl) ∙ sum_over-range f S d (a + 1) (λ i l. h i (omega arith)))
  where
    filtered : (b : Bool) → S (a + 1) ≡ b → sum_over (a + 1) f + length (filter S (range_with_len (a + 1 + 1) d)) ≡ sum_over a f + length (filter S (range_with_len (a + 1) (suc d)))
    filtered true e = let s = sum_over_step a f in let t = rw e at (h (a + 1) (omega arith)) in rw e (omega arith)
    filtered false e = let s = sum_over_step a f in let t = rw e at (h (a + 1) (omega arith)) in rw e (omega arith)

pub how_many-range : (S : ℕ → Bool) (n : ℕ) → length (filter S (range_with_len 1 n)) ≡ how_many n S
how_many-range S n =
    let r = sum_over-range (λ i. cond (S i) 1 0) S n 0 (λ i l. refl) in
    let z = sum_over_none (λ i. cond (S i) 1 0) in
    let e : 0 + n ≡ n = omega arith in
    omega (arith, ap (λ k. sum_over k (λ i. cond (S i) 1 0)) e, how_many-sum_over n S)

-- equations behind the first a, of which each has one pair or none
pub pairs_to-range : (M : Meaning) (S : ℕ → Bool) (d a : ℕ) → ((i : ℕ) → a < i → how_many M.n (M.holds i) ≡ cond (S i) 1 0)
    → pairs_to M a + length (filter S (range_with_len (a + 1) d)) ≡ pairs_to M (a + d)
unfolding pairs_to
pairs_to-range M S d a h = sum_over-range (λ i. how_many M.n (M.holds i)) S d a h
