use Rattle.std.proofs.Common.{◌≡◌, ℕ, zero, suc, ◌+◌, ◌<◌, ◌≤◌, false, List, get_or, ◌∙◌, subst, ⊎_elim, arith, rules}
use Rattle.std.specs.Array.{IsFromFnResultFrom}
use Rattle.std.specs.Fn.{Called}
use Rattle.std.proofs.lemmas.List.{get_or_past}
use Rattle.std.proofs.lemmas.Bool.{cases_eq, cases_lt}
use Rattle.std.proofs.lemmas.Bool.Decides.{nat_tests}
use denote.Param.Members.{Mut}
use Rattle.sets.specs.Members.{member_of}
use Rattle.table.proofs.flags.flags.Goals as goal

-- what a closure that stays as it is made at place k
made_at : {F B : Type 0} (g : Mut F (ℕ × Unit {0}) B) (h : ℕ → B) (f : F) → ((x : ℕ) (y : B) (q : F) → Called g f (x, tt) y q → (q ≡ f) × (y ≡ h x))
    → (ys : List B) (i n k : ℕ) (d : B) → i ≤ k → k < i + n → IsFromFnResultFrom g f ys i n → get_or ys k d ≡ h k
made_at g h f calls ys i zero k d a b _ = absurd (omega arith)
made_at g h f calls ys i (suc n) k d a b (q, y, at, called, rest) =
    let s = calls i y q called in
    ⊎_elim
    (λ (e : k ≡ i). rw e (at.1 d ∙ s.1))
    (λ (e : k ≡ i → ⊥). made_at g h f calls ys (i + 1) n k d (omega arith) (omega arith) (subst (λ p. IsFromFnResultFrom g p ys (i + 1) n) s.0 rest))
    (cases_eq k i)

-- a set holds nothing above 128
none_above : (bits k : ℕ) → 128 ≤ k → false ≡ member_of bits (k + 1)
unfolding member_of
none_above bits k h = grind (arith, nat_tests)

pub returns : goal.returns
returns c k =
    let long = c.from_fn.ensures.items.long in
    ⊎_elim
    (λ (h : k < 128). made_at _ (λ k. member_of c.args.unknowns.bits (k + 1)) _ (λ x y q t. search rules) c.from_fn.result 0 128 k false (omega arith) (omega arith) c.from_fn.ensures.items.each)
    (λ (h : 128 ≤ k). get_or_past c.from_fn.result k false (omega arith) ∙ none_above c.args.unknowns.bits k h)
    (cases_lt k 128)
