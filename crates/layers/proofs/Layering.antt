-- Layers: sensors one by one, and a source read the other way. Assumes nothing.
use Rattle.std.proofs.Common.{◌≡◌, ℕ, ◌+◌, ◌-◌, ◌<◌, Bool, true, false, cond, ◌&&◌, eqb, ltb, List, [], ◌∷◌, ◌++◌, length, get_or, is_some, Some, None, sym, refl, ap, ◌∙◌, ⊎_elim, arith, length-append}
use Rattle.std.specs.List.{filter, range_with_len}
use Rattle.std.proofs.lemmas.List.{get_or_past, get_or_append_left, get_or-append_right}
use Rattle.std.proofs.lemmas.Bool.{cases_order, eq-eqb, lt-ltb}
use Rattle.std.proofs.lemmas.Bool.Decides.{nat_tests}
use Rattle.sets.specs.Counting.{one_of, how_many}
use Rattle.source.specs.Growth.{with_row}
use Rattle.layers.specs.Layers.{with_sensors, sensed, transpose_of, only}
use Rattle.source.specs.Meaning.{Meaning, WithinLimits, pair_count, pairs_to}
use Rattle.source.proofs.Asking.{same_meaning}
use Rattle.source.proofs.Sums.{how_many_one, pairs_to_same, pairs_to-range, pairs_swapped}

get_or_last : (xs : List ℕ) (x k : ℕ) → get_or (xs ++ x ∷ []) k 0 ≡ cond (eqb k (length xs)) x (get_or xs k 0)
get_or_last xs x k =
    ⊎_elim
    (λ (e : k ≡ length xs). let r = get_or-append_right xs (x ∷ []) (length xs) k 0 refl (omega arith) in
    let z : k - length xs ≡ 0 = omega arith in
    rw (eq-eqb k (length xs) e) (r ∙ ap (λ d. get_or {A = ℕ} (x ∷ []) d 0) z))
    (⊎_elim
    (λ (h : k < length xs). let r = get_or_append_left xs (x ∷ []) 0 k h in grind (arith, nat_tests))
    (λ (h : length xs < k). let r = get_or_past (xs ++ x ∷ []) k 0 (rw length-append (omega arith)) in let s = get_or_past xs k 0 (omega arith) in grind (arith, nat_tests)))
    (cases_order k (length xs))

pub one_sensor_more : (M : Meaning) → (xs : List ℕ) (x : ℕ) → M.m + length xs < 128 → one_of M.n x ≡ true
    → with_sensors M (xs ++ x ∷ []) ≡ with_row (with_sensors M xs) (only x)
one_sensor_more M xs x h o =
    same_meaning (with_sensors M (xs ++ x ∷ [])) (with_row (with_sensors M xs) (only x))
    (rw length-append (omega arith)) refl
    (λ i j. let g = get_or_last xs x (i - M.m - 1) in grind (arith, nat_tests))

pub pairs_transposed : (M : Meaning) → pair_count M ≡ pair_count (transpose_of M)
unfolding pairs_to
pairs_transposed M = pairs_swapped M.m M.n M.holds

-- the equations below have the pairs that they had
pub pairs_below : (M : Meaning) (xs : List ℕ) → pairs_to (with_sensors M xs) M.m ≡ pair_count M
pairs_below M xs = pairs_to_same (with_sensors M xs) M refl M.m (λ i j h. grind (arith, nat_tests))

-- a sensor has one pair, or none
sensor_pairs : (M : Meaning) (xs : List ℕ) (i : ℕ) → M.m < i → how_many M.n ((with_sensors M xs).holds i) ≡ cond (is_some (sensed M xs i)) 1 0
sensor_pairs M xs i l =
    let x = get_or xs (i - M.m - 1) 0 in
    let h = (with_sensors M xs).holds i in
    how_many_one M.n x h (λ j e. grind (arith, nat_tests)) (λ e. grind (arith, nat_tests)) ∙ ap (λ b. cond b 1 0) (sym (told (h x) (lt-ltb M.m i l)))
  where
    told : (b : Bool) → ltb M.m i ≡ true → is_some (cond (ltb M.m i && b) (Some (get_or xs (i - M.m - 1) 0)) None) ≡ b
    told true e = rw e refl
    told false e = rw e refl

pub sensors_counted : (M : Meaning) → WithinLimits M → (xs : List ℕ)
    → pair_count M + length (filter (λ i. is_some (sensed M xs i)) (range_with_len (M.m + 1) ((with_sensors M xs).m - M.m))) ≡ pair_count (with_sensors M xs)
sensors_counted M b xs =
    let few = b.few_equations in
    let e : M.m + ((with_sensors M xs).m - M.m) ≡ (with_sensors M xs).m = omega arith in
    ap (λ n. n + length (filter (λ i. is_some (sensed M xs i)) (range_with_len (M.m + 1) ((with_sensors M xs).m - M.m)))) (sym (pairs_below M xs))
    ∙ pairs_to-range (with_sensors M xs) (λ i. is_some (sensed M xs i)) ((with_sensors M xs).m - M.m) M.m (sensor_pairs M xs)
    ∙ ap (pairs_to (with_sensors M xs)) e
