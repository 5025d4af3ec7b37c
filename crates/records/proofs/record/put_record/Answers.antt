-- `record::put_record` meets its contract: the 16 bytes that are put together are the record's and its number's. Without an index the foot's
-- parts are those of a record without a foot, as is asked.
use Prim.Native.Nat.{ℕ, ◌+◌, ◌*◌, ◌-◌}
use native.Mathlib.Decide.{ℕ_discrete}
use native.Mathlib.Omega.{arith}
use mathlib.Core.Path.{◌≡◌, ◌∙◌}
use mathlib.Core.List.{List, [], ◌∷◌}
use Rattle.std.proofs.lemmas.List.{drop-drop}
use borrow.Rule.Slice.PartMut.{put_mid}
use borrow.Author.Tests.{eq-eqb, ne_eqb}
use Rattle.grammar.specs.ItemList.{item}
use Rattle.grammar.specs.Chart.{recorded}
use Rattle.layout.specs.Bytes.{low_byte, high_byte}
use Rattle.records.specs.Room.{as_foot, with_number}
use Rattle.records.proofs.RoomLaws.{placed}
use Rattle.records.proofs.record.put_record.Goals as goal

pasted : (room : List ℕ) (m : ℕ) {here bytes : List ℕ} → here ≡ bytes
    → put_mid (16 * m) (16 * m + 16 - 16 * m) room here ≡ placed room m bytes
pasted room m e = let past : 16 * m + (16 * m + 16 - 16 * m) ≡ 16 * m + 16 = omega arith in rw (e, drop-drop, past)

as_bytes : (A γ i j B p q d x y z k : ℕ) {l h l' h' l'' h'' l''' h''' : ℕ} → (γ ≡ 0 → (B ≡ 255) × (p ≡ 0) × (q ≡ 0))
    → l ≡ low_byte x → h ≡ high_byte x → l' ≡ low_byte y → h' ≡ high_byte y → l'' ≡ low_byte z → h'' ≡ high_byte z
    → l''' ≡ low_byte k → h''' ≡ high_byte k
    → A ∷ γ ∷ i ∷ j ∷ B ∷ p ∷ q ∷ d ∷ l ∷ h ∷ l' ∷ h' ∷ l'' ∷ h'' ∷ l''' ∷ h''' ∷ []
    ≡ with_number k (recorded (item A i j (as_foot γ B p q)) d x y z)
as_bytes A γ i j B p q d x y z k w a₁ a₂ a₃ a₄ a₅ a₆ a₇ a₈ = elim (ℕ_discrete γ 0) [
  | yes e ↦ rw (eq-eqb γ 0 e) (cc ((w e).0, (w e).1, (w e).2))
  | no n ↦ rw (ne_eqb γ 0 n) (cc)
]

pub returns : goal.returns
returns c =
    let a = c.args in
    let f = a.foot in
    let o = a.origin in
    let bytes = as_bytes a.cell.left f.index a.cell.from a.cell.to f.symbol f.from f.to o.production o.side o.dependent o.continuation a.number
    c.requires.1 c.low.ensures c.high.ensures c.low-2.ensures c.high-2.ensures c.low-3.ensures c.high-3.ensures c.low-4.ensures
    c.high-4.ensures in
    pasted a.chart.now a.m (c.copy_from_slice.ensures.after ∙ bytes)
