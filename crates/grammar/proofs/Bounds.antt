-- How far a refused line's byte can lie. Assumes nothing.
use Rattle.std.proofs.Common.{ℕ, ◌+◌, ◌≤◌, Bool, true, false, cond, leb, List, [], ◌∷◌, length, drop, IfSome, IfErr, Some, None, Option, ap, ⊎_elim, arith, length-append, length-drop}
use Rattle.std.proofs.lemmas.Bool.Decides.{leb_tells}
use Rattle.grammar.specs.declared.grounds.Ground.{Ground}
use Rattle.grammar.specs.declared.grounds.Ground.TheVariants.{LineTooLong, ByteOutside, NoMark, NotAName, WordCount}
use Rattle.grammar.specs.declared.grounds.LineFault.{LineFault}
use Rattle.grammar.specs.declared.marks.Kind.{Kind}
use Rattle.grammar.specs.declared.marks.Kind.TheVariants.{Equation, Fault, Offer, Comment}
use Rattle.grammar.specs.Marks.{line_kind}
use Rattle.grammar.specs.Objections.{spaced}
use Rattle.grammar.specs.Pieces.{cut_at}
use Rattle.grammar.specs.Reading.{is_plain, odd_byte, unless, words_by, stands, entry, answer, line_reading}
use Rattle.grammar.specs.Refusals.{checking_order, else_after, first_fault}
use Rattle.grammar.specs.Words.{with_places, words_of, obeys_name_rule, odd_name}
use Rattle.grammar.proofs.Cuts.{spaced-cut_at, words_either}

-- a place that is at most n, if there is one
abbrev Within : ℕ → Option ℕ → Type 0
Within n o = IfSome o (λ k. k ≤ n)

abbrev FaultWithin : ℕ → Option LineFault → Type 0
FaultWithin n o = IfSome o (λ f. f.byte ≤ n)

else_within : (n : ℕ) (g : Ground) (o : Option ℕ) (later : Option LineFault) → Within n o → FaultWithin n later → FaultWithin n (else_after g o later)
else_within n g None later h r = r
else_within n g (Some k) later h r = h

unless_within : (n : ℕ) (b : Bool) → Within n (unless b)
unless_within n true = tt
unless_within n false = omega arith

byte_within : (n k : ℕ) (bs : List ℕ) → k + length bs ≤ n + 1 → Within n (odd_byte k bs)
byte_within n k [] h = tt
byte_within n k (b ∷ bs) h = by (is_plain b) (byte_within n (k + 1) bs (omega arith))
  where
    by : (v : Bool) → Within n (odd_byte (k + 1) bs) → Within n (cond v (odd_byte (k + 1) bs) (Some k))
    by true r = r
    by false r = omega arith

-- the pieces and the spaces between them end before n
name_within : (n k : ℕ) (ps : List (List ℕ)) → k + length (spaced ps) ≤ n → Within n (odd_name (with_places k ps))
name_within n k [] h = tt
name_within n k (p ∷ []) h = by (obeys_name_rule p)
  where
    by : (v : Bool) → Within n (cond v None (Some k))
    by true = tt
    by false = omega arith
name_within n k (p ∷ (q ∷ ps)) h = by (obeys_name_rule p) (name_within n (k + length p + 1) (q ∷ ps) (omega (arith, length-append p (32 ∷ spaced (q ∷ ps)))))
  where
    by : (v : Bool) → Within n (odd_name (with_places (k + length p + 1) (q ∷ ps))) → Within n (cond v (odd_name (with_places (k + length p + 1) (q ∷ ps))) (Some k))
    by true r = r
    by false r = omega arith

words_within : (line : List ℕ) → length line ≤ 240 → Within 241 (odd_name (words_of line))
words_within line h =
    words_either line (λ ws. Within 241 (odd_name ws)) (name_within 241 3 (cut_at 32 ([] ∷ []) (drop 2 line)) (omega (arith, length-drop 2 line, ap length (spaced-cut_at (drop 2 line))))) tt

names_within : (line : List ℕ) (o : Option Kind) → length line ≤ 240 → Within 241 (odd_name (words_by o line))
names_within line None h = tt
names_within line (Some Equation) h = words_within line h
names_within line (Some Fault) h = words_within line h
names_within line (Some Offer) h = words_within line h
names_within line (Some Comment) h = tt

first_within : (line : List ℕ) → FaultWithin 241 (first_fault (stands line) checking_order)
first_within line =
    ⊎_elim
    (λ t.
    let h : length line ≤ 240 = t.1 in
    else_within 241 LineTooLong (stands line LineTooLong) _ (unless_within 241 (leb (length line) 240))
    (else_within 241 ByteOutside (odd_byte 1 line) _ (byte_within 241 1 line (omega arith))
    (else_within 241 NoMark (stands line NoMark) _ (unless_within 241 _)
    (else_within 241 NotAName (stands line NotAName) _ (names_within line (line_kind line) h)
    (else_within 241 WordCount (stands line WordCount) None (unless_within 241 _) tt)))))
    (λ t. rw t.0 (omega arith))
    (leb_tells (length line) 240)

answer_within : {T : Type 0} (n : ℕ) (o : Option LineFault) (x : T) → FaultWithin n o → IfErr (answer o x) (λ f. f.byte ≤ n)
answer_within n None x h = tt
answer_within n (Some f) x h = h

-- the place of an empty word at the end of a line of 240 bytes is the last
pub byte_bound : (line : List ℕ) → IfErr (line_reading line) (λ f. f.byte ≤ 241)
unfolding line_reading
byte_bound line = answer_within 241 (first_fault (stands line) checking_order) (entry line) (first_within line)
