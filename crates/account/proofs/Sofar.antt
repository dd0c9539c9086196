-- A text checked up to some line. Assumes nothing.
use Rattle.std.proofs.Common.{◌≡◌, ℕ, ◌+◌, ◌≤◌, true, cond, eqb, leb, List, [], ◌∷◌, ◌++◌, length, is_ok, Some, None, Ok, Err, Option, Result, sym, refl, ap, ◌∙◌, subst, inr, append_assoc, append-nil, arith, length-append}
use Rattle.std.specs.List.{between, AllByRecursion}
use Rattle.std.specs.Option.{option_map}
use Rattle.std.proofs.lemmas.Bool.Decides.{leb_tells}
use Rattle.std.proofs.lemmas.List.Sums.{sum_by_push}
use Rattle.grammar.specs.declared.grounds.LineFault.{LineFault}
use Rattle.grammar.specs.declared.grounds.Refusal.{Refusal}
use Rattle.grammar.specs.declared.marks.Kind.{Kind}
use Rattle.grammar.specs.Marks.{line_kind}
use Rattle.grammar.specs.Reading.{Entry, line_words, line_reading}
use Rattle.grammar.specs.Texts.{text_lines, lines_from, FirstLine}
use Rattle.grammar.proofs.Order.{read_entry}
use Rattle.line.specs.declared.records.Record.{Record}
use Rattle.line.specs.declared.texts.Lines.{Lines}
use Rattle.std.proofs.ByRecursion.{All-push}
use Rattle.line.specs.Records.{entry_of, told}
use Rattle.account.specs.declared.accounts.Account.{Account}
use Rattle.account.specs.Checking.{mark_by, marked, counts, in_line, or_refused, first_refused, account_or, account, CheckedText}
use Rattle.account.specs.Noting.{kind_by, CountsLines, Noted}

abbrev Reads : List ℕ → Type 0
Reads l = is_ok (line_reading l) ≡ true

-- ---- counting

counts_is : (ls : List (List ℕ)) (a : Account) → CountsLines (λ c. marked c ls) a → a ≡ counts ls
counts_is ls a h = λ i. record { equations = h.equations i; faults = h.faults i; offers = h.offers i; comments = h.comments i; empty = h.empty i }

-- ---- the first refused line

read_over : (n : ℕ) (r : Result (Option Entry) LineFault) (later : Option Refusal) → is_ok r ≡ true → or_refused n r later ≡ later
read_over n (Ok o) later e = refl
read_over n (Err f) later e = absurd cc

all_read : (n : ℕ) (ls : List (List ℕ)) → AllByRecursion Reads ls → first_refused n ls ≡ None
all_read n [] h = refl
all_read n (l ∷ ls) h = read_over n (line_reading l) _ h.0 ∙ all_read (n + 1) ls h.1

first_bad : (n : ℕ) (before : List (List ℕ)) (bad : List ℕ) (after : List (List ℕ)) (f : LineFault) → AllByRecursion Reads before → line_reading bad ≡ Err f →
    first_refused n (before ++ bad ∷ after) ≡ Some (in_line (n + length before) f)
first_bad n [] bad after f h e = rw e (ap (λ k. Some (in_line k f)) (omega arith))
first_bad n (l ∷ before) bad after f h e = read_over n (line_reading l) _ h.0 ∙ first_bad (n + 1) before bad after f h.1 e ∙ ap (λ k. Some (in_line k f)) (omega arith)

-- ---- a text of which so many lines were taken, all of them read, up to an index

pub record Sofar (text : List ℕ) (left : Lines) (n : ℕ) (a : Account) : Type 0 where
  pub same : left.text.now ≡ text
  pub short : length text ≤ 32768
  pub few : n ≤ left.from
  pub taken : List (List ℕ)
  pub whole : text_lines text ≡ taken ++ lines_from text left.from
  pub many : length taken ≡ n
  pub read : AllByRecursion Reads taken
  pub counted : CountsLines (λ c. marked c taken) a

kinds_back : (f : Kind → Entry) → ((kind : Kind) → (f kind).kind ≡ kind) → (m : Option Kind) → option_map (λ x. x.kind) (option_map f m) ≡ m
kinds_back f h None = refl
kinds_back f h (Some kind) = ap Some (h kind)

entered_kind : (line : List ℕ) (o : Option Record) → kind_by o ≡ option_map (λ x. x.kind) (option_map (entry_of line) o)
entered_kind line None = refl
entered_kind line (Some r) = refl

-- a record that was read has the kind of its line
kind_read : (line : List ℕ) (o : Option Record) → told line (Ok o) ≡ line_reading line → kind_by o ≡ line_kind line
kind_read line o e =
    let f : Kind → Entry = λ kind. record { kind = kind; words = line_words line } in
    entered_kind line o ∙ ap (option_map (λ x. x.kind)) (read_entry line (option_map (entry_of line) o) (sym e)) ∙ kinds_back f (λ _. refl) (line_kind line)

counts_like : (f g : ℕ → ℕ) (a : Account) → ((c : ℕ) → f c ≡ g c) → CountsLines f a → CountsLines g a
counts_like f g a e h = record { equations = h.equations ∙ e _; faults = h.faults ∙ e _; offers = h.offers ∙ e _; comments = h.comments ∙ e _; empty = h.empty ∙ e _ }

-- one line more was read
pub line_on : (text : List ℕ) (left after : Lines) (n more : ℕ) (a b : Account) (p : ℕ × ℕ) (o : Option Record) →
    Sofar text left n a → FirstLine left.text.now left.from p → after.text.now ≡ left.text.now → after.from ≡ p.1 + 1 → more ≡ n + 1 →
    told (between p.0 p.1 text) (Ok o) ≡ line_reading (between p.0 p.1 text) → Noted (kind_by o) a b → Sofar text after more b
line_on text left after n more a b p o s first keeps on up reads noted =
    let here : FirstLine text left.from p = subst (λ h. FirstLine h left.from p) s.same first in
    let l = between p.0 p.1 text in
    let rest : lines_from text left.from ≡ l ∷ lines_from text after.from = here.first ∙ rw (on, here.starts) in
    let grown : (c : ℕ) → marked c s.taken + cond (eqb (mark_by (kind_by o)) c) 1 0 ≡ marked c (s.taken ++ l ∷ []) =
    λ c. ap (λ m. marked c s.taken + cond (eqb (mark_by m) c) 1 0) (kind_read l o reads) ∙ sym (sum_by_push (λ k. cond (eqb (mark_by (line_kind k)) c) 1 0) s.taken l) in
    record {
      same = keeps ∙ s.same;
      short = s.short;
      few = omega (arith, s.few, here.forward, here.starts);
      taken = s.taken ++ l ∷ [];
      whole = s.whole ∙ ap (λ x. s.taken ++ x) rest ∙ sym (append_assoc s.taken (l ∷ []) (lines_from text after.from));
      many = length-append s.taken (l ∷ []) ∙ omega (arith, s.many);
      read = All-push Reads s.taken l s.read (sym (ap is_ok reads));
      counted = counts_like (λ c. marked c s.taken + cond (eqb (mark_by (kind_by o)) c) 1 0) (λ c. marked c (s.taken ++ l ∷ [])) b grown (noted (λ c. marked c s.taken) s.counted);
    }

-- ---- the answers

fits : (text : List ℕ) → length text ≤ 32768 → account text ≡ account_or (first_refused 1 (text_lines text)) (text_lines text)
fits text h = let e : leb (length text) 32768 ≡ true = grind (arith, leb_tells (length text) 32768) in rw e

-- every line was read
pub all_lines : (text : List ℕ) (left : Lines) (n : ℕ) (a : Account) → Sofar text left n a → lines_from left.text.now left.from ≡ [] → (Ok a ≡ account text) × CheckedText text (Ok a)
all_lines text left n a s none =
    let nothing : lines_from text left.from ≡ [] = subst (λ h. lines_from h left.from ≡ []) s.same none in
    let all : text_lines text ≡ s.taken = s.whole ∙ ap (λ x. s.taken ++ x) nothing ∙ append-nil s.taken in
    let read : AllByRecursion Reads (text_lines text) = subst (AllByRecursion Reads) (sym all) s.read in
    let is : a ≡ counts (text_lines text) = counts_is s.taken a s.counted ∙ ap counts (sym all) in
    (ap Ok is ∙ sym (fits text s.short ∙ ap (λ r. account_or r (text_lines text)) (all_read 1 (text_lines text) read)), (s.short, read, is))

-- a line was refused
pub bad_line : (text : List ℕ) (left : Lines) (n : ℕ) (a : Account) (p : ℕ × ℕ) (i : ℕ) (f : LineFault) (r : Refusal) →
    Sofar text left n a → FirstLine left.text.now left.from p → i ≡ n → line_reading (between p.0 p.1 text) ≡ Err f → r ≡ in_line (i + 1) f → (Err r ≡ account text) × CheckedText text (Err r)
bad_line text left n a p i f r s first at reads is =
    let here : FirstLine text left.from p = subst (λ h. FirstLine h left.from p) s.same first in
    let l = between p.0 p.1 text in
    let rest : lines_from text left.from ≡ l ∷ lines_from text (p.1 + 1) = here.first ∙ rw here.starts in
    let whole : text_lines text ≡ s.taken ++ l ∷ lines_from text (p.1 + 1) = s.whole ∙ ap (λ x. s.taken ++ x) rest in
    let bad = ap (first_refused 1) whole ∙ first_bad 1 s.taken l (lines_from text (p.1 + 1)) f s.read reads in
    let line : i + 1 ≡ 1 + length s.taken = omega (arith, s.many) in
    let line-back : i + 1 ≡ length s.taken + 1 = omega (arith, s.many) in (
      ap Err (is ∙ ap (λ k. in_line k f) line) ∙ sym (fits text s.short ∙ ap (λ o. account_or o (text_lines text)) bad),
      inr (s.short, record { before = s.taken; bad = l; after = lines_from text (p.1 + 1); fault = f; whole = whole; read = s.read; refused = reads; shown = is ∙ ap (λ k. in_line k f) line-back }),
    )
