-- One list more behind the others. Assumes nothing.
use Rattle.std.proofs.Common.{◌≡◌, ℕ, ◌+◌, ◌-◌, ◌<◌, ◌≤◌, Bool, cond, eqb, List, [], ◌∷◌, ◌++◌, length, take, drop, sym, refl, ap, ◌∙◌, subst, ⊎_elim, arith, length-append, length-drop}
use Rattle.std.specs.Prelude.{slice_range}
use Rattle.std.proofs.lemmas.List.{get_or_append_left, get_or_at, get_or_past, get_or_default, length_push, take-append-le, drop-append-le, drop_at, take_all}
use Rattle.std.proofs.lemmas.Bool.{cases_eq, eq-eqb, ne_eqb}
use Rattle.sparse.specs.Cells.{stands_in, list_start, list_at, ListsOrdered}

-- the lists with `more` behind them
abbrev starts_with : List ℕ → List ℕ → List ℕ
starts_with starts cells = starts ++ length cells ∷ []

-- the old lists begin where they did, and the new one where the cells ended
pub start_kept : (starts cells more : List ℕ) (i : ℕ) → i ≤ length starts → list_start (starts_with starts cells) (cells ++ more) i ≡ list_start starts cells i
start_kept starts cells more i h =
    ⊎_elim
    (λ (e : i ≡ length starts).
    get_or_at starts (length cells) [] (length (cells ++ more)) i (sym e) ∙ sym (get_or_past starts i (length cells) (omega arith)))
    (λ (e : i ≡ length starts → ⊥).
    get_or_append_left starts (length cells ∷ []) (length (cells ++ more)) i (omega arith) ∙ get_or_default starts i _ _ (omega arith))
    (cases_eq i (length starts))

start_new : (starts cells more : List ℕ) (i : ℕ) → i ≡ length starts + 1 → list_start (starts_with starts cells) (cells ++ more) i ≡ length cells + length more
start_new starts cells more i e =
    get_or_past (starts_with starts cells) i (length (cells ++ more)) (omega (arith, length_push starts (length cells))) ∙ length-append cells more

range_kept : (xs ys : List ℕ) (a z : ℕ) → a ≤ z → z ≤ length xs → slice_range (xs ++ ys) a z ≡ slice_range xs a z
range_kept xs ys a z p q =
    ap (take (z - a)) (drop-append-le a xs ys (omega arith)) ∙ take-append-le (z - a) (drop a xs) ys (omega (arith, length-drop a xs))

range_new : (xs ys : List ℕ) → slice_range (xs ++ ys) (length xs) (length xs + length ys) ≡ ys
range_new xs ys = ap (take (length xs + length ys - length xs)) (drop_at xs ys (length xs) refl) ∙ take_all _ ys (omega arith)

-- the old lists are as they were
list_kept : (starts cells more : List ℕ) (i : ℕ) → ListsOrdered starts cells → i < length starts
    → list_at (starts_with starts cells) (cells ++ more) i ≡ list_at starts cells i
list_kept starts cells more i a h =
    let o = a i h in
    rw (start_kept starts cells more i (omega arith), start_kept starts cells more (i + 1) (omega arith)) (range_kept cells more _ _ o.0 o.1)

-- the last list is the new one
list_new : (starts cells more : List ℕ) (i : ℕ) → i ≡ length starts → list_at (starts_with starts cells) (cells ++ more) i ≡ more
list_new starts cells more i e =
    let a : list_start (starts_with starts cells) (cells ++ more) i ≡ length cells =
    get_or_at starts (length cells) [] (length (cells ++ more)) i (sym e) in
    rw (a, start_new starts cells more (i + 1) (omega arith)) (range_new cells more)

-- what is true of each list, and of one more behind them
pub lists_keep : (Q : List ℕ → Type 0) (starts cells more : List ℕ) → ListsOrdered starts cells → Q more
    → ((i : ℕ) → i < length starts → Q (list_at starts cells i)) → (i : ℕ) → i < length (starts_with starts cells) → Q (list_at (starts_with starts cells) (cells ++ more) i)
lists_keep Q starts cells more o new old i h =
    let n = length_push starts (length cells) in
    ⊎_elim
    (λ (e : i ≡ length starts). subst Q (sym (list_new starts cells more i e)) new)
    (λ (e : i ≡ length starts → ⊥). subst Q (sym (list_kept starts cells more i o (omega arith))) (old i (omega arith)))
    (cases_eq i (length starts))

-- the starts keep their order
pub starts_ordered : (starts cells more : List ℕ) → ListsOrdered starts cells → ListsOrdered (starts_with starts cells) (cells ++ more)
starts_ordered starts cells more o i h =
    let n = length_push starts (length cells) in
    let a = start_kept starts cells more i (omega arith) in
    let l = length-append cells more in
    ⊎_elim
    (λ (e : i ≡ length starts).
    let z = start_new starts cells more (i + 1) (omega arith) in
    let p = get_or_past starts i (length cells) (omega arith) in
    (omega arith, omega arith))
    (λ (e : i ≡ length starts → ⊥).
    let z = start_kept starts cells more (i + 1) (omega arith) in
    let q = o i (omega arith) in
    (omega arith, omega arith))
    (cases_eq i (length starts))

-- the list of each equation, where the new one holds just the numbers of S
pub list_written : (starts cells more : List ℕ) (S : ℕ → Bool) → ListsOrdered starts cells → ((x : ℕ) → stands_in more x ≡ S x)
    → (i j : ℕ) → 1 ≤ i → i ≤ length starts + 1
    → stands_in (slice_range (cells ++ more) (list_start (starts_with starts cells) (cells ++ more) (i - 1)) (list_start (starts_with starts cells) (cells ++ more) i)) j
    ≡ cond (eqb i (length starts + 1)) (S j) (stands_in (slice_range cells (list_start starts cells (i - 1)) (list_start starts cells i)) j)
list_written starts cells more S o held i j p q =
    let e : i - 1 + 1 ≡ i = omega arith in
    ⊎_elim
    (λ (l : i ≡ length starts + 1).
    let n = rw e at (list_new starts cells more (i - 1) (omega arith)) in
    rw (eq-eqb i (length starts + 1) l, n) (held j))
    (λ (l : i ≡ length starts + 1 → ⊥).
    let k = rw e at (list_kept starts cells more (i - 1) o (omega arith)) in
    rw (ne_eqb i (length starts + 1) l, k) refl)
    (cases_eq i (length starts + 1))
