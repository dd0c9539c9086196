-- Sources that stand for a relation cut down to their numbers: what additions make of it. Assumes nothing.
use Rattle.std.proofs.Common.{◌≡◌, ℕ, ◌+◌, ◌-◌, ◌<◌, ◌≤◌, Bool, true, false, cond, ◌&&◌, eqb, List, [], ◌∷◌, ◌++◌, length, get_or, sym, refl, ap, ◌∙◌, subst, ⊎_elim, arith}
use Rattle.std.proofs.lemmas.List.{get_or_append_left, get_or_at, length_push}
use Rattle.std.proofs.lemmas.Bool.{cases_eq, eq-eqb, ne_eqb}
use Rattle.std.proofs.lemmas.Bool.Decides.{nat_tests}
use Rattle.sets.specs.Counting.{one_of, how_many}
use Rattle.source.specs.Growth.{with_row}
use Rattle.source.specs.Meaning.{clipped, pairs_to}
use Rattle.source.proofs.Asking.{same_meaning}
use Rattle.source.proofs.Sums.{how_many_same, how_many_more, pairs_to_step}

-- where the relation keeps to the unknowns, its cut says what it says
pub clip_kept : (m n i j : ℕ) (b : Bool) → 1 ≤ i → i ≤ m → (b ≡ true → one_of n j ≡ true) → b ≡ ((one_of m i && one_of n j) && b)
clip_kept m n i j true p q h = let o = h refl in grind (arith, nat_tests)
clip_kept m n i j false p q h = grind (arith, nat_tests)

-- a new last row
pub clip_row : (m n : ℕ) (f h : ℕ → ℕ → Bool) (S : ℕ → Bool) → ((j : ℕ) → S j ≡ true → one_of n j ≡ true)
    → ((i j : ℕ) → 1 ≤ i → i ≤ m + 1 → 1 ≤ j → j ≤ n → h i j ≡ cond (eqb i (m + 1)) (S j) (f i j)) → clipped (m + 1) n h ≡ with_row (clipped m n f) S
clip_row m n f h S w e =
    same_meaning (clipped (m + 1) n h) (with_row (clipped m n f) S) refl refl (λ i j. let p = e i j in let q = w j in grind (arith, nat_tests))

-- one row more counted, where it keeps to the unknowns
pub clip_counted : (m n k : ℕ) (f : ℕ → ℕ → Bool) → k < m → n ≤ 128 → ((j : ℕ) → f (k + 1) j ≡ true → one_of n j ≡ true)
    → pairs_to (clipped m n f) (k + 1) ≡ pairs_to (clipped m n f) k + how_many 128 (f (k + 1))
clip_counted m n k f h l w =
    let a : n + (128 - n) ≡ 128 = omega arith in
    let s : how_many n ((clipped m n f).holds (k + 1)) ≡ how_many n (f (k + 1)) =
    how_many_same n ((clipped m n f).holds (k + 1)) (f (k + 1)) (λ j p q. sym (clip_kept m n (k + 1) j (f (k + 1) j) (omega arith) (omega arith) (w j))) in
    let r : how_many (n + (128 - n)) (f (k + 1)) ≡ how_many n (f (k + 1)) = how_many_more (128 - n) n (f (k + 1)) (λ j e. let o = w j e in grind (arith, nat_tests)) in
    pairs_to_step (clipped m n f) k ∙ ap (λ x. pairs_to (clipped m n f) k + x) (s ∙ sym r ∙ ap (λ x. how_many x (f (k + 1))) a)

-- One row of a source appended, where `read` says which unknowns a row holds: the last row is the new one, and the others are as they were.
row_appended : {X : Type 0} (read : X → ℕ → Bool) (rows : List X) (x d : X) (i j : ℕ) → 1 ≤ i → i ≤ length rows + 1
    → read (get_or (rows ++ x ∷ []) (i - 1) d) j ≡ cond (eqb i (length rows + 1)) (read x j) (read (get_or rows (i - 1) d) j)
row_appended read rows x d i j p q =
    ⊎_elim
    (λ (e : i ≡ length rows + 1).
    let s : i - 1 ≡ length rows = omega arith in
    rw (eq-eqb i (length rows + 1) e) (ap (λ r. read r j) (get_or_at rows x [] d (i - 1) (sym s))))
    (λ (e : i ≡ length rows + 1 → ⊥).
    rw (ne_eqb i (length rows + 1) e) (ap (λ r. read r j) (get_or_append_left rows (x ∷ []) d (i - 1) (omega arith))))
    (cases_eq i (length rows + 1))

-- what the rows stand for, with one more that holds S behind them
pub clip_appended : {X : Type 0} (read : X → ℕ → Bool) (rows : List X) (x d : X) (n : ℕ) (S : ℕ → Bool) → ((j : ℕ) → S j ≡ true → one_of n j ≡ true)
    → ((j : ℕ) → 1 ≤ j → read x j ≡ S j)
    → clipped (length (rows ++ x ∷ [])) n (λ i j. read (get_or (rows ++ x ∷ []) (i - 1) d) j) ≡ with_row (clipped (length rows) n (λ i j. read (get_or rows (i - 1) d) j)) S
clip_appended read rows x d n S w same =
    rw (length_push rows x)
    (clip_row (length rows) n (λ i j. read (get_or rows (i - 1) d) j) (λ i j. read (get_or (rows ++ x ∷ []) (i - 1) d) j) S w
    (λ i j p q r _. rw (sym (same j r)) (row_appended read rows x d i j p q)))

-- what is true of each row, and of one more behind them
pub rows_kept : {X : Type 0} (Q : X → Type 0) (rows : List X) (x d : X) → Q x → ((i : ℕ) → i < length rows → Q (get_or rows i d))
    → (i : ℕ) → i < length (rows ++ x ∷ []) → Q (get_or (rows ++ x ∷ []) i d)
rows_kept Q rows x d new old i h =
    let l = length_push rows x in
    ⊎_elim
    (λ (q : i ≡ length rows). subst Q (sym (get_or_at rows x [] d i (sym q))) new)
    (λ (q : i ≡ length rows → ⊥). subst Q (sym (get_or_append_left rows (x ∷ []) d i (omega arith))) (old i (omega arith)))
    (cases_eq i (length rows))
