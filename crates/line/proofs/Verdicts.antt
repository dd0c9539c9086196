-- What `read_line` promises, from the checks that it makes. Assumes nothing.
use Rattle.std.proofs.Common.{◌≡◌, ℕ, ◌≤◌, Bool, List, length, take, IfErr, Some, Err, Option, Result, sym, ap, ◌∙◌, subst, arith, length-take-le}
use lib.ListN.{length-map}
use Rattle.grammar.specs.declared.grounds.Ground.TheVariants.{WordCount}
use Rattle.grammar.specs.declared.grounds.LineFault.{LineFault}
use Rattle.grammar.specs.declared.marks.Kind.{Kind}
use Rattle.line.specs.declared.places.Places.{Places}
use Rattle.grammar.specs.Marks.{line_kind}
use Rattle.grammar.specs.Reading.{stands, takes, takes_by, unless, line_words, line_reading}
use Rattle.grammar.specs.Objections.{ByGrounds}
use Rattle.grammar.proofs.Bounds.{byte_bound}
use Rattle.grammar.proofs.Cuts.{words_split}
use Rattle.grammar.proofs.Order.{by_grounds}
use Rattle.line.specs.declared.records.Record.{Record}
use Rattle.line.specs.Records.{word_in, words_in, told, ReadsLine}

-- as many places as words
places_counted : (line : List ℕ) (ps : Places) → length (words_in line ps) ≡ ps.len
places_counted line ps = length-map (take ps.len ps.all) (word_in line) ∙ length-take-le ps.len ps.all (omega (arith, ps.within.0, ps.within.1))

pub count_stands : (line : List ℕ) (ps : Places) (kind : Kind) (b : Bool) → words_in line ps ≡ line_words line → line_kind line ≡ Some kind → takes kind ps.len ≡ b → stands line WordCount ≡ unless b
count_stands line ps kind b words k right =
    let n : length (line_words line) ≡ ps.len = sym (ap length words) ∙ places_counted line ps in
    ap (λ m. unless (takes_by (line_kind line) m)) n ∙ ap (λ o. unless (takes_by o ps.len)) k ∙ ap unless right

-- the defined answer has every law
pub reads_line : (line : List ℕ) (r : Result (Option Record) LineFault) → told line r ≡ line_reading line → ReadsLine line r
reads_line line r v = record {
  value = v;
  grounds = subst (ByGrounds line) (sym v) (by_grounds line);
  bound = subst (λ x. IfErr x (λ f. f.byte ≤ 241)) (sym v) (byte_bound line);
  words = words_split line;
}

-- the fault of a check, passed on
pub refused_line : (line : List ℕ) (r : Result (Option Record) LineFault) (f : LineFault) → ((x : LineFault) × (r ≡ Err x) × (x ≡ f)) → Err f ≡ line_reading line → ReadsLine line r
refused_line line r f p v = reads_line line r (ap (told line) (p.1 ∙ ap Err p.2) ∙ v)
