-- Of candidates in rising order the first with an item stays, and what stands earlier comes before it. By induction on the candidates: all
-- that stands is before all that is still to come, and once a candidate's turn is over its item stands, so that nothing after it counts.
use Prim.Native.Nat.{ℕ, ◌≤◌}
use native.Mathlib.Omega.{arith}
use mathlib.Core.Path.{◌≡◌, refl, sym, ◌∙◌, subst, subst₂}
use mathlib.Core.Logic.{inl, inr}
use mathlib.Core.List.Memᴰ
use mathlib.Core.List.{List, [], ◌∷◌, ◌++◌, map, map-append, Memᴰ}
use mathlib.Core.Option.{some}
use Rattle.grammar.specs.Lists.{Stands}
use Rattle.grammar.specs.Chart.{Record, item_of}
use Rattle.grammar.proofs.ListLaws.{in_map, in-stands}
use Rattle.grammar.proofs.StandsLaws.{none-some, stands-length}
use Rattle.chart_model.specs.Build.{add_each}
use Rattle.chart_model.proofs.BuildLaws.{Has, added-cases, add_each-none, stands-cases}
use Rattle.chart_model.proofs.Rising.{Rising, next}
use Rattle.chart_model.proofs.FillModel.{InCell, same, each-grown, grown-stands, grown-cases}

-- An item stands at one position.
abbrev pub Once : List Record → Type 0
Once c = (m m' : ℕ) (e e' : Record) → Stands c m e → Stands c m' e' → item_of e ≡ item_of e' → m ≡ m'

-- Records at positions m and m' of what the adding comes to, m from `lo` on and not after m'; and a candidate f of the item at m'.
module _ (R : Record → Record → Type 0) (self : (r : Record) → R r r) (P : ℕ → ℕ → ℕ → Type 0) (room lo : ℕ) (c : List Record) (once : Once c)
    (m m' : ℕ) (e e' f : Record) (l : lo ≤ m) (l' : m ≤ m') (s : Stands c m e) (s' : Stands c m' e') (h : item_of f ≡ item_of e') where
  abbrev Ahead : List Record → List Record → Type 0
  Ahead a rs = (k : ℕ) (o r : Record) → lo ≤ k → Stands a k o → Memᴰ r rs → R o r

  -- After the turn of r its item stands.
  turn : {a rs : List Record} {r : Record} → Has a (item_of r) → Ahead a (r ∷ rs) → ((q : Record) → Memᴰ q rs → InCell P q)
      → add_each room rs (some a) ≡ some c → Memᴰ f (r ∷ rs) → (Memᴰ f rs → R e f) → R e f
  turn {a} {rs} {r} has ahead cells q i further = elim (Memᴰ.cases_cons i) [ inl d ↦ own d | inr j ↦ further j ]
    where
      own : f ≡ r → R e f
      own d =
          let g = each-grown room rs cells same q in
          let (o, p, w) = in_map item_of a has in
          let (k, t) = in-stands p in
          let b = stands-length t in
          let u = once m' k e' o s' (grown-stands g t) (sym h ∙ subst (λ (x : Record). item_of x ≡ item_of o) (sym d) w) in
          elim (grown-cases g s) [ inl x ↦ ahead m e f l x i | inr y ↦ absurd (omega arith) ]

  ahead_more : {a rs : List Record} {r : Record} → ((q : Record) → Memᴰ q rs → R r q) → Ahead a (r ∷ rs) → Ahead (a ++ (r ∷ [])) (r ∷ rs)
  ahead_more {a} {rs} {r} later ahead k o q b t i = elim (stands-cases a t) [
    | inl x ↦ ahead k o q b x i
    | inr y ↦ elim (Memᴰ.cases_cons i) [
      | inl d ↦ subst₂ R (sym y.1) (sym d) (self r)
      | inr j ↦ subst (λ (x : Record). R x q) (sym y.1) (later q j)
    ]
  ]

  pub first-stays : {a : List Record} (rs : List Record) → Rising R rs → ((r : Record) → Memᴰ r rs → InCell P r) → Ahead a rs
      → add_each room rs (some a) ≡ some c → Memᴰ f rs → R e f
  first-stays [] rising cells ahead q i = absurd (Memᴰ.not-nil i)
  first-stays {a} (r ∷ rs) (next later rising) cells ahead q i =
      let own : Has (a ++ (r ∷ [])) (item_of r) = rw (map-append item_of) (Memᴰ.append_right (map item_of a) (Memᴰ.head refl)) in
      added-cases (λ t. add_each room rs t ≡ some c → R e f) room r a
      (λ old q'. turn old ahead (λ o j. cells o (Memᴰ.tail j)) q' i
      (first-stays rs rising (λ o j. cells o (Memᴰ.tail j)) (λ k o n b t j. ahead k o n b t (Memᴰ.tail j)) q'))
      (λ new b q'. turn own (ahead_more later ahead) (λ o j. cells o (Memᴰ.tail j)) q' i
      (first-stays rs rising (λ o j. cells o (Memᴰ.tail j)) (λ k o n b t j. ahead_more later ahead k o n b t (Memᴰ.tail j)) q'))
      (λ new b q'. absurd (none-some (sym (add_each-none room rs) ∙ q'))) q
