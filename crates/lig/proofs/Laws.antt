-- A packed answer says what the calls below it say: each part fits its bits, so it is read back from them.
use Prim.Native.Nat.{ℕ, ◌+◌, ◌≤◌, ◌<◌}
use native.Mathlib.Omega.{arith}
use mathlib.Core.Path.{◌≡◌, refl, sym, ◌∙◌, ap, subst}
use mathlib.Core.List.{List}
use lib.Dec.{eqb}
use lib.ListN.{length}
use Rattle.layout.specs.Answers.{read_packed, pack, chart_state, ChartAfter, PlanAfter}
use Rattle.layout.specs.Card.{entry_at, spelling_length}
use Rattle.layout.specs.Answers.{NameAnswer, name_number, name_answer}
use Rattle.layout.proofs.ViewLaws.{header-most}
use Rattle.layout.proofs.Accepting.{most_number}
use Rattle.card.proofs.Accepted.{known-word}
use borrow.Author.Tests.{eqb-true}
use mathlib.Core.Bool.{Bool, true, false, cond}
use Rattle.layout.proofs.Packing.{ReadFits, read_fits, pairs-fit}
use Rattle.reader.specs.Read.{answer_from, Reads}
use Rattle.std.specs.Prelude.{Result}
use Rattle.refusals.specs.declared.Refusal.{Refusal}
use Rattle.refusals.specs.Number.{count_in}
use Rattle.refusals.specs.Number as answers
use Rattle.reader.specs.declared.read.Reading.{Reading}
use Rattle.check_pairs.specs.Paired.{Pairs}
use Rattle.sheet.specs.Sheet.{pack_sheet}
use Rattle.sheet.specs.Promise.{Sheet}
use Rattle.sheet.proofs.Fits.{sheet-fits}
use Rattle.lig.specs.Exports.{number_in, ReadPacked, line_in, records_in, SheetPacked}

pub number-packed : (a b c d : ℕ) → a < 65536 → number_in (pack a b c d) ≡ a
number-packed a b c d h = omega arith

module _ (card line old_chart old_plan new_chart new_plan : List ℕ) (a : Result Reading Refusal)
    (reads : Reads card line old_chart old_plan new_chart new_plan a) where
  pub answer-fits : ReadFits (answer_from a)
  answer-fits = subst ReadFits (sym reads.answer) (read_fits card line (length old_chart) (length old_plan))

  pub read-packed : ReadPacked card line old_chart old_plan new_chart new_plan (read_packed (answer_from a))
  read-packed =
      let r = answer_from a in
      let e : number_in (pack r.number r.words r.items r.steps) ≡ r.number
      = number-packed r.number r.words r.items r.steps (omega (arith, answer-fits.number)) in
      record {
        answer = ap read_packed reads.answer;
        chart = subst (λ (x : ℕ). ChartAfter card line (chart_state x) old_chart new_chart) (sym e) reads.chart;
        plan = subst (λ (x : ℕ). PlanAfter card line (eqb x 0) old_plan new_plan) (sym e) reads.plan;
        read = λ z. reads.read (sym e ∙ z);
        none = λ z. reads.none (sym e ∙ z);
        whole = λ i m d. e ∙ reads.whole i m d;
      }

module _ (card line plan before after : List ℕ) (a : Result ℕ Refusal) (paired : Pairs card line plan before after a) where
  pub pairs-fit-code : (answers.number_told a ≤ most_number) × (count_in a ≤ 47)
  pairs-fit-code =
      let h = pairs-fit card line plan (length before) in
      (subst (λ (x : ℕ). x ≤ most_number) (sym paired.number) h.number, subst (λ (x : ℕ). x ≤ 47) (sym paired.count) h.count)

-- The place and the size of a name, which lies within a word's entry, and so near the start of the card.
abbrev found : ℕ → ℕ → NameAnswer
found offset size = record { number = 0; offset = offset; size = size }

pub name-fits : (card : List ℕ) (word offset size : ℕ) → found offset size ≡ name_answer card word → (offset < 4096) × (size < 4096)
name-fits card word offset size = by-test (eqb (name_number card word) 0) refl
  where
    by-test : (b : Bool) → eqb (name_number card word) 0 ≡ b
        → found offset size
        ≡ cond b (found (entry_at card word + 1) (spelling_length card word)) (record { number = name_number card word; offset = 0; size = 0 })
        → (offset < 4096) × (size < 4096)
    by-test true t e =
        let known = known-word card word (eqb-true (name_number card word) 0 t) in
        let at = ap (λ (a : NameAnswer). a.offset) e in
        let long = ap (λ (a : NameAnswer). a.size) e in
        (omega (arith, at, known.known, known.few, header-most card), omega (arith, long, known.short))
    by-test false t e =
        (omega (arith, ap (λ (a : NameAnswer). a.offset) e), omega (arith, ap (λ (a : NameAnswer). a.size) e))

-- A sheet's parts, read back.
module _ (number line records : ℕ) (h : number < 65536) (k : line < 256) (m : records < 1048576) where
  number-back : number_in (pack_sheet number line records) ≡ number
  number-back = omega arith

  line-back : line_in (pack_sheet number line records) ≡ line
  line-back = omega arith

  records-back : records_in (pack_sheet number line records) ≡ records
  records-back = omega arith

pub sheet-packed : {card sheet old_chart old_output new_chart new_output : List ℕ} {number line records : ℕ}
    → Sheet card sheet old_chart old_output new_chart new_output number line records
    → SheetPacked card sheet old_chart old_output new_chart new_output (pack_sheet number line records)
sheet-packed {card} {sheet} {old_chart} {old_output} {new_chart} {new_output} {number} {line} {records} p =
    let (h, k, m) = sheet-fits p in
    let r = pack_sheet number line records in
    let n-is = number-back number line records (omega arith) (omega arith) (omega arith) in
    let l-is = line-back number line records (omega arith) (omega arith) (omega arith) in
    let c-is = records-back number line records (omega arith) (omega arith) (omega arith) in
    record {
      says = rw (n-is, l-is, c-is) p;
      packed = rw (n-is, l-is, c-is) refl;
    }
