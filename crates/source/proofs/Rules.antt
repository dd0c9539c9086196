-- The rule for adding an equation says what its grounds say. Assumes nothing.
use Rattle.std.proofs.Common.{◌≡◌, ℕ, suc, ◌+◌, ◌-◌, ◌<◌, ◌≤◌, Bool, true, false, cond, ◌&&◌, ltb, leb, Some, None, is_some, Option, Decides, refl, ⊎_elim, arith}
use Rattle.std.proofs.lemmas.Bool.{leb-true, leb-false, lt-ltb, ltb-true, and_parts, cases_Bool, cases_lt, and_from, both_ways}
use Rattle.std.proofs.lemmas.Bool.Decides.{Decides-below_or, nat_tests}
use Rattle.sets.specs.Counting.{one_of, how_many}
use Rattle.sets.specs.Members.{member_of, FirstFrom}
use Rattle.sets.proofs.Bitwise.{members_few, members_one_of}
use Rattle.source.specs.declared.faults.SourceFault.TheVariants.{Limit, Room, NoSuchUnknown}
use Rattle.source.specs.Faults.{fault_number}
use Rattle.source.specs.Meaning.{Meaning, pair_count}
use Rattle.source.specs.Growth.{has_room, some_of, reaches_past, row_refusal, AgainstRow, LowestGround}

some_decides : (S : ℕ → Bool) (k : ℕ) → Decides (some_of k S) ((i : ℕ) × (i < k) × (S (suc i) ≡ true))
unfolding some_of
some_decides S k =
    Decides-below_or (λ i. S (suc i)) (λ i. S (suc i) ≡ true) (λ i. some_of i S) (λ i. (λ h. h, λ h. h)) refl (λ _. refl) k

pub passes_some : (n : ℕ) (S : ℕ → Bool) → reaches_past n S ≡ true → (j : ℕ) × (S j ≡ true) × (n < j)
unfolding reaches_past
passes_some n S e =
    let s = (some_decides (λ j. S j && ltb n j) 128).0 e in
    let p = and_parts (S (suc s.0)) (ltb n (suc s.0)) s.2 in
    (suc s.0, p.0, ltb-true n (suc s.0) p.1)

pub passes_by : (n j : ℕ) (S : ℕ → Bool) → S j ≡ true → n < j → j ≤ 128 → reaches_past n S ≡ true
unfolding reaches_past
passes_by n j S e h l =
    let p : suc (j - 1) ≡ j = omega arith in
    (some_decides (λ k. S k && ltb n k) 128).1 (j - 1, omega arith, rw p (and_from (S j) (ltb n j) e (lt-ltb n j h)))

pub passes_none : (n : ℕ) (S : ℕ → Bool) → ((j : ℕ) → n < j → S j ≡ false) → reaches_past n S ≡ false
passes_none n S h =
    ⊎_elim
    (λ (e : reaches_past n S ≡ true). let s = passes_some n S e in absurd (both_ways (S s.0) (h s.0 s.2) s.1))
    (λ (e : reaches_past n S ≡ false). e)
    (cases_Bool (reaches_past n S))

-- whether a set has a number above n, by its first one there
pub passes_first : (n : ℕ) (S : ℕ → Bool) (r : Option ℕ) → ((j : ℕ) → S j ≡ true → j ≤ 128) → FirstFrom S (n + 1) r → reaches_past n S ≡ is_some r
passes_first n S None w h = passes_none n S (λ j l. h j (omega arith))
passes_first n S (Some x) w h = passes_by n x S h.in_it (omega (arith, h.from)) (w x h.in_it)

lowest : (room : ℕ) (M : Meaning) (S : ℕ → Bool) (full fits past : Bool) → leb 112 M.m ≡ full → has_room room M (how_many 128 S) ≡ fits
    → reaches_past M.n S ≡ past → ((j : ℕ) → S j ≡ true → j ≤ 128)
    → LowestGround (AgainstRow room M S) (cond full (Some Limit) (cond fits (cond past (Some NoSuchUnknown) None) (Some Room)))
lowest room M S true fits past a b c w = (
  leb-true 112 M.m a,
  λ h. elim h as (λ h. fault_number h < 9 → AgainstRow room M S h → ⊥) [
    | Limit ↦ λ l _. omega arith
    | Room ↦ λ l _. omega arith
    | NoSuchUnknown ↦ λ l _. omega arith
  ],
)
lowest room M S false false past a b c w = (
  leb-false (pair_count M + how_many 128 S) room b,
  λ h. elim h as (λ h. fault_number h < 10 → AgainstRow room M S h → ⊥) [
    | Limit ↦ λ l x. omega (arith, leb-false 112 M.m a)
    | Room ↦ λ l _. omega arith
    | NoSuchUnknown ↦ λ l _. omega arith
  ],
)
lowest room M S false true true a b c w = (
  passes_some M.n S c,
  λ h. elim h as (λ h. fault_number h < 11 → AgainstRow room M S h → ⊥) [
    | Limit ↦ λ l x. omega (arith, leb-false 112 M.m a)
    | Room ↦ λ l x. omega (arith, leb-true (pair_count M + how_many 128 S) room b)
    | NoSuchUnknown ↦ λ l _. omega arith
  ],
)
lowest room M S false true false a b c w =
    λ h. elim h as (λ h. AgainstRow room M S h → ⊥) [
      | Limit ↦ λ x. omega (arith, leb-false 112 M.m a)
      | Room ↦ λ x. omega (arith, leb-true (pair_count M + how_many 128 S) room b)
      | NoSuchUnknown ↦ λ x. both_ways (reaches_past M.n S) c (passes_by M.n x.0 S x.1 x.2 (w x.0 x.1))
    ]

pub row_lowest : (room : ℕ) (M : Meaning) (S : ℕ → Bool) → ((j : ℕ) → S j ≡ true → j ≤ 128) → LowestGround (AgainstRow room M S) (row_refusal room M S)
row_lowest room M S w = lowest room M S (leb 112 M.m) (has_room room M (how_many 128 S)) (reaches_past M.n S) refl refl refl w

-- What an accepted equation is known to be.
pub record Accepted (room : ℕ) (M : Meaning) (S : ℕ → Bool) : Type 0 where
  pub few : M.m < 112
  pub spare : pair_count M + how_many 128 S ≤ room
  pub known : (j : ℕ) → S j ≡ true → one_of M.n j ≡ true

pub accepted : (room : ℕ) (M : Meaning) (bits : ℕ) → row_refusal room M (member_of bits) ≡ None → Accepted room M (member_of bits)
accepted room M bits e =
    let S = member_of bits in
    let none = rw e at (row_lowest room M S (members_few bits)) in
    record {
      few = ⊎_elim (λ (l : M.m < 112). l) (λ (l : 112 ≤ M.m). absurd (none Limit l)) (cases_lt M.m 112);
      spare =
          ⊎_elim (λ (l : room < pair_count M + how_many 128 S). absurd (none Room l)) (λ (l : pair_count M + how_many 128 S ≤ room). l)
          (cases_lt room (pair_count M + how_many 128 S));
      known =
          λ j h.
          let o = members_one_of bits j h in
          ⊎_elim (λ (l : M.n < j). absurd (none NoSuchUnknown (j, h, l))) (λ (l : j ≤ M.n). grind (arith, nat_tests)) (cases_lt M.n j);
    }
