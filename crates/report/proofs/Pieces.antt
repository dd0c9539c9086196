-- A line written piece by piece at the front of an area. Assumes nothing.
use Rattle.std.proofs.Common.{◌≡◌, ℕ, ◌+◌, ◌≤◌, List, [], ◌∷◌, ◌++◌, length, take, drop, decimal, sym, refl, ap, ◌∙◌, append_assoc, arith, length-append, length-drop, drop-drop}
use Rattle.std.proofs.lemmas.List.{take_all, take_at, drop_at}
use Rattle.grammar.specs.declared.grounds.Refusal.{Refusal}
use Rattle.grammar.specs.Refusals.{ground_number}
use Rattle.report.specs.Lines.{x_line, overwritten}

-- so far the bytes t stand at the front of an area that held xs, and the next index is i
pub record Fronted (t xs : List ℕ) (i : ℕ) (area : List ℕ) : Type 0 where
  pub stands : area ≡ t ++ drop (length t) xs
  pub next : i ≡ length t

pub nothing_yet : (xs : List ℕ) → Fronted [] xs 0 xs
nothing_yet xs = record { stands = refl; next = refl }

-- one piece more
pub piece_on : (t xs bs : List ℕ) (i j : ℕ) (area after : List ℕ) → Fronted t xs i area → after ≡ overwritten i bs area → j ≡ i + length bs → Fronted (t ++ bs) xs j after
piece_on t xs bs i j area after f put on =
    let n : i + length bs ≡ length t + length bs = omega (arith, f.next) in
    let long = length-append t bs in
    let behind : drop (length t + length bs) (t ++ drop (length t) xs) ≡ drop (length (t ++ bs)) xs =
    sym (drop-drop (length bs) (length t) (t ++ drop (length t) xs)) ∙ ap (drop (length bs)) (drop_at t (drop (length t) xs) (length t) refl) ∙ drop-drop (length bs) (length t) xs ∙ ap (λ k. drop k xs) (sym long) in
    record {
      stands = put ∙ rw (f.stands, n, f.next, take_at t (drop (length t) xs) (length t) refl, behind) (sym (append_assoc t bs (drop (length (t ++ bs)) xs)));
      next = on ∙ n ∙ sym long;
    }

-- ---- the line of a refusal, of three numbers

abbrev pub parted : List ℕ → List ℕ → List ℕ → List ℕ
parted a b c = (88 ∷ 58 ∷ []) ++ (a ++ (32 ∷ (b ++ (32 ∷ (c ++ (10 ∷ []))))))

pub x_line_parts : (r : Refusal) (a b c : List ℕ) → a ≡ decimal (ground_number r.reason) → b ≡ decimal r.line → c ≡ decimal r.byte → parted a b c ≡ x_line r
x_line_parts r a b c ea eb ec = rw (ea, eb, ec)

pub parted_length : (a b c : List ℕ) → length (parted a b c) ≡ length a + length b + length c + 5
parted_length a b c = simp length-append (omega arith)

-- the pieces t that were written are the line l
pub line_stands : (t l xs : List ℕ) (i : ℕ) (area : List ℕ) → Fronted t xs i area → t ≡ l → (i ≡ length l) × (area ≡ l ++ drop (length l) xs)
line_stands t l xs i area f e = (f.next ∙ ap length e, f.stands ∙ ap (λ k. k ++ drop (length k) xs) e)

-- what lies from an index on, cut no shorter
pub to_the_end : (xs : List ℕ) (i k : ℕ) → length xs ≤ i + k → take k (drop i xs) ≡ drop i xs
to_the_end xs i k h = take_all k (drop i xs) (omega (arith, length-drop i xs))
