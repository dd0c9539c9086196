-- One piece taken off the front of bytes that are cut at a separator. Assumes nothing.
use Rattle.std.proofs.Common.{◌≡◌, ℕ, zero, suc, ◌+◌, ◌-◌, ◌<◌, ◌≤◌, true, false, eqb, leb, ◌⊎◌, List, [], ◌∷◌, length, take, drop, refl, subst, ⊎_elim, arith, length-drop, length-take-le, drop-drop}
use Rattle.std.specs.List.{between}
use Rattle.std.proofs.lemmas.List.{take_all, take_rest, drop_all}
use Rattle.std.proofs.lemmas.Bool.Decides.{nat_tests, leb_tells}
use Rattle.grammar.specs.Pieces.{cut_at, Front}
use Rattle.grammar.specs.Texts.{lines_from}
use Rattle.grammar.specs.Words.{word, words_from}

-- what lies from an index on, as `&bytes[from..]` gives it
pub front_from : (s n from : ℕ) (bs : List ℕ) → Front s n (take (length bs - from) (drop from bs)) → Front s n (drop from bs)
front_from s n from bs f = subst (Front s n) (take_rest bs from) f

tail : (s n b : ℕ) (bs : List ℕ) → Front s (suc n) (b ∷ bs) → Front s n bs
tail s n b bs f = record {
  within = omega (arith, f.within);
  before = λ k l e. f.before (suc k) (omega arith) e;
  found = λ l. f.found (omega arith);
}

-- up to a separator
pub cut_next : (s : ℕ) (last : List (List ℕ)) (n : ℕ) (bs : List ℕ) → Front s n bs → n < length bs → cut_at s last bs ≡ take n bs ∷ cut_at s last (drop (suc n) bs)
cut_next s last n [] f l = absurd (omega arith)
cut_next s last zero (b ∷ bs) f l = let e : eqb b s ≡ true = grind (arith, nat_tests, f.found l) in rw e
cut_next s last (suc n) (b ∷ bs) f l =
    let e : eqb b s ≡ false = grind (arith, nat_tests, f.before 0 (omega arith)) in
    let r = cut_next s last n bs (tail s n b bs f) (omega arith) in
    rw (e, r)

-- up to the end
pub cut_last : (s n : ℕ) (bs : List ℕ) → Front s n bs → length bs ≤ n → cut_at s ([] ∷ []) bs ≡ bs ∷ []
cut_last s n [] f l = refl
cut_last s zero (b ∷ bs) f l = absurd (omega arith)
cut_last s (suc n) (b ∷ bs) f l =
    let e : eqb b s ≡ false = grind (arith, nat_tests, f.before 0 (omega arith)) in
    let r = cut_last s n bs (tail s n b bs f) (omega arith) in
    rw (e, r)

-- the same where a last separator opens no piece
pub cut_ended : (s n : ℕ) (bs : List ℕ) → Front s n bs → length bs ≤ n → 0 < length bs → cut_at s [] bs ≡ bs ∷ []
cut_ended s n [] f l some = absurd (omega arith)
cut_ended s zero (b ∷ bs) f l some = absurd (omega arith)
cut_ended s (suc n) (b ∷ []) f l some = let e : eqb b s ≡ false = grind (arith, nat_tests, f.before 0 (omega arith)) in rw e
cut_ended s (suc n) (b ∷ (a ∷ bs)) f l some =
    let e : eqb b s ≡ false = grind (arith, nat_tests, f.before 0 (omega arith)) in
    let r = cut_ended s n (a ∷ bs) (tail s n b (a ∷ bs) f) (omega arith) (omega arith) in
    rw (e, r)

-- the bytes between two indices, the second given by the distance
between_front : (bs : List ℕ) (from n : ℕ) → between from (from + n) bs ≡ take n (drop from bs)
between_front bs from n = let e : from + n - from ≡ n = omega arith in rw e

-- one word taken off the front
pub words_next : (line : List ℕ) (from n : ℕ) → from ≤ length line → Front 32 n (drop from line) →
    words_from line from ≡ word (from + 1) (between from (from + n) line) ∷ words_from line (from + n + 1)
words_next line from n h f =
    let long = length-drop from line in
    let here : leb from (length line) ≡ true = grind (arith, nat_tests) in
    ⊎_elim
    (λ l.
    let more : n < length (drop from line) = omega arith in
    let next : leb (from + n + 1) (length line) ≡ true = grind (arith, nat_tests) in
    let size = length-take-le n (drop from line) f.within in
    let place : from + 1 + n + 1 ≡ from + n + 1 + 1 = omega arith in
    let index : from + suc n ≡ from + n + 1 = omega arith in
    rw (here, next, cut_next 32 ([] ∷ []) n (drop from line) f more, between_front line from n, size, place, drop-drop (suc n) from line, index))
    (λ l.
    let all : length (drop from line) ≤ n = omega arith in
    let past : leb (from + n + 1) (length line) ≡ false = grind (arith, nat_tests) in
    rw (here, past, cut_last 32 n (drop from line) f all, between_front line from n, take_all n (drop from line) all))
    (let way : (from + n < length line) ⊎ (length line ≤ from + n) = grind (arith, nat_tests, leb_tells (length line) (from + n)) in way)

-- one line taken off the front
pub lines_next : (text : List ℕ) (from n : ℕ) → from < length text → Front 10 n (drop from text) →
    lines_from text from ≡ between from (from + n) text ∷ lines_from text (from + n + 1)
lines_next text from n h f =
    let long = length-drop from text in
    let index : from + suc n ≡ from + n + 1 = omega arith in
    ⊎_elim
    (λ l.
    let more : n < length (drop from text) = omega arith in
    rw (cut_next 10 [] n (drop from text) f more, between_front text from n, drop-drop (suc n) from text, index))
    (λ l.
    let all : length (drop from text) ≤ n = omega arith in
    let some : 0 < length (drop from text) = omega arith in
    let past = drop_all (from + n + 1) text (omega arith) in
    rw (cut_ended 10 n (drop from text) f all some, past, between_front text from n, take_all n (drop from text) all))
    (let way : (from + n < length text) ⊎ (length text ≤ from + n) = grind (arith, nat_tests, leb_tells (length text) (from + n)) in way)
