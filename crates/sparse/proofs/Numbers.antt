-- The numbers of a set, rising. Assumes nothing.
use Rattle.std.proofs.Common.{◌≡◌, ℕ, zero, suc, ◌+◌, ◌-◌, ◌<◌, ◌≤◌, Bool, true, false, cond, leb, eqb, [], ◌∷◌, ◌++◌, length, Option, Some, None, sym, refl, ap, ◌∙◌, ⊎_elim, arith}
use Rattle.std.specs.List.{filter, find, range_with_len}
use Rattle.std.proofs.lemmas.Bool.{cases_Bool, cases_eq, eq-eqb, ne_eqb, eqb-true, leb-true, leb-false}
use Rattle.std.proofs.lemmas.Bool.Decides.{nat_tests}
use Rattle.std.proofs.lemmas.List.{map-id}
use Rattle.std.proofs.lemmas.List.Elements.{filter_agree}
use Rattle.std.proofs.lemmas.List.FromFn.{filter_of_map_range_with_len_more}
use Rattle.std.proofs.lemmas.Map.Views.{any-filter_same}
use Rattle.sets.specs.Counting.{how_many}
use Rattle.sets.specs.Members.{member_of}
use Rattle.sets.proofs.Bitwise.{members_one_of}
use Rattle.source.proofs.Sums.{how_many-range, how_many_step, how_many_up}
use Rattle.sparse.specs.Cells.{stands_in, numbers_to}

-- one number more
numbers_more : (n : ℕ) (S : ℕ → Bool) → numbers_to (n + 1) S ≡ numbers_to n S ++ cond (S (n + 1)) ((n + 1) ∷ []) []
unfolding numbers_to
numbers_more n S =
    let m = filter_of_map_range_with_len_more S (λ x. x) 1 n (n + 1) (omega arith) in
    ap (filter S) (sym (map-id (range_with_len 1 (n + 1)))) ∙ m ∙ ap (λ xs. filter S xs ++ cond (S (n + 1)) ((n + 1) ∷ []) []) (map-id (range_with_len 1 n))

in_range : (x n a : ℕ) → a ≤ x → x < a + n → stands_in (range_with_len a n) x ≡ true
in_range x zero a p q = absurd (omega arith)
in_range x (suc n) a p q =
    ⊎_elim
    (λ (e : a ≡ x). rw (eq-eqb a x e) refl)
    (λ (e : a ≡ x → ⊥). rw (ne_eqb a x e) (in_range x n (a + 1) (omega arith) (omega arith)))
    (cases_eq a x)

-- what stands among the numbers of a set is in it
pub numbers_held : (n : ℕ) (S : ℕ → Bool) → ((x : ℕ) → S x ≡ true → (1 ≤ x) × (x ≤ n)) → (x : ℕ) → stands_in (numbers_to n S) x ≡ S x
unfolding numbers_to
numbers_held n S w x =
    any-filter_same (λ y. eqb y x) S (S x) (λ k e. ap S (eqb-true k x e)) (range_with_len 1 n) ∙
    ⊎_elim
    (λ (e : S x ≡ true). let r = in_range x n 1 (w x e).0 (omega (arith, (w x e).1)) in rw (e, r) refl)
    (λ (e : S x ≡ false). rw e refl)
    (cases_Bool (S x))

-- so they are the numbers that stand among them
pub numbers_again : (n : ℕ) (S : ℕ → Bool) → ((x : ℕ) → S x ≡ true → (1 ≤ x) × (x ≤ n)) → numbers_to n S ≡ numbers_to n (stands_in (numbers_to n S))
unfolding numbers_to
numbers_again n S w = filter_agree S (stands_in (numbers_to n S)) (λ x. sym (numbers_held n S w x)) (range_with_len 1 n)

pub members_within : (bits x : ℕ) → member_of bits x ≡ true → (1 ≤ x) × (x ≤ 128)
members_within bits x h = let o = members_one_of bits x h in (grind (arith, nat_tests), grind (arith, nat_tests))

-- what a search for a number of T finds, from a up to e, that is not below j
abbrev pub FoundFrom : (ℕ → Bool) → ℕ → ℕ → ℕ → Option ℕ → Type 0
FoundFrom T j a e None = (k : ℕ) → a ≤ k → k < e → j ≤ k → T k ≡ false
FoundFrom T j a e (Some x) = (j ≤ x) × (T x ≡ true) × ((k : ℕ) → a ≤ k → j ≤ k → k < x → T k ≡ false)

found_later : (T : ℕ → Bool) (j a e : ℕ) (r : Option ℕ) → (j ≤ a → T a ≡ false) → FoundFrom T j (a + 1) e r → FoundFrom T j a e r
found_later T j a e None h f =
    λ k p q l. ⊎_elim (λ (z : k ≡ a). rw z (h (omega arith))) (λ (z : k ≡ a → ⊥). f k (omega arith) q l) (cases_eq k a)
found_later T j a e (Some x) h f = (
  f.0,
  f.1,
  λ k p l q. ⊎_elim (λ (z : k ≡ a). rw z (h (omega arith))) (λ (z : k ≡ a → ⊥). f.2 k (omega arith) l q) (cases_eq k a),
)

found_from : (T : ℕ → Bool) (j n a : ℕ) → FoundFrom T j a (a + n) (find (λ x. leb j x) (filter T (range_with_len a n)))
found_from T j zero a = λ k p q l. absurd (omega arith)
found_from T j (suc n) a =
    let e : a + suc n ≡ (a + 1) + n = omega arith in
    ⊎_elim
    (λ (t : T a ≡ true).
    ⊎_elim
    (λ (l : leb j a ≡ true). rw (t, l) (leb-true j a l, t, λ k p q r. absurd (omega arith)))
    (λ (l : leb j a ≡ false). rw (e, t, l) (found_later T j a (a + 1 + n) _ (λ p. absurd (omega (arith, leb-false j a l))) (found_from T j n (a + 1))))
    (cases_Bool (leb j a)))
    (λ (t : T a ≡ false). rw (e, t) (found_later T j a (a + 1 + n) _ (λ p. t) (found_from T j n (a + 1))))
    (cases_Bool (T a))

pub numbers_none : (S : ℕ → Bool) → numbers_to 0 S ≡ []
unfolding numbers_to
numbers_none S = refl

pub numbers_counted : (n : ℕ) (S : ℕ → Bool) → length (numbers_to n S) ≡ how_many n S
unfolding numbers_to
numbers_counted n S = how_many-range S n

pub number_from : (T : ℕ → Bool) (j n : ℕ) → FoundFrom T j 1 (1 + n) (find (λ x. leb j x) (numbers_to n T))
unfolding numbers_to
number_from T j n = found_from T j n 1

-- the numbers up to k, where those below it are known
pub numbers_step : (k : ℕ) (S : ℕ → Bool) → 1 ≤ k → numbers_to (k + 1 - 1) S ≡ numbers_to (k - 1) S ++ cond (S k) (k ∷ []) []
numbers_step k S p =
    let e : k - 1 + 1 ≡ k = omega arith in
    let f : k + 1 - 1 ≡ k = omega arith in
    rw f (rw e at (numbers_more (k - 1) S))

-- with k still to come, they are fewer than all
pub numbers_short : (n k : ℕ) (S : ℕ → Bool) → 1 ≤ k → k ≤ n → S k ≡ true → length (numbers_to (k - 1) S) < how_many n S
numbers_short n k S p q e =
    let a : k - 1 + 1 ≡ k = omega arith in
    let b : k + (n - k) ≡ n = omega arith in
    let s = rw (a, e) at (how_many_step (k - 1) S) in
    let u = rw b at (how_many_up (n - k) k S) in
    omega (arith, numbers_counted (k - 1) S)
