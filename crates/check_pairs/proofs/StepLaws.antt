-- One step back over a plan: a take's place goes on the waiting places, and a give's pair is written in front of those written before,
-- by two stores at the seam of what is untouched and what is written.
use Prim.Native.Nat.{ℕ, suc, ◌-◌, ◌*◌, ◌≤◌, ◌<◌}
use native.Mathlib.Numerals.{add-one}
use native.Mathlib.Omega.{arith}
use mathlib.Core.Path.{◌≡◌, refl, ◌∙◌, ap, subst}
use mathlib.Core.List.{List, [], ◌∷◌, ◌++◌, append_assoc, map, tail, head-eq_of_cons-eq, tail-eq_of_cons-eq}
use lib.ListN.{length, take, drop, get_or, set, length-set}
use lib.Seq.{take-suc, length-take-le}
use Rattle.grammar.specs.Rewriting.{Action, Take, Keep, Give}
use Rattle.grammar.specs.Pairs.{Stretch, place_in, Pair, pair}
use Rattle.grammar.specs.Matching.{takes_action, matched_action, top_of}
use Rattle.layout.specs.Steps.{pairs_bytes}
use Rattle.goals.specs.Shown.{tops}
use Rattle.check_pairs.specs.Matching.{CanGive, met, room_met, Matches}
use Rattle.check_pairs.specs.declared.matching.Matching.{Matching}
use Rattle.goals.proofs.ShownLaws.{tops-length, tops-put}

-- Two stores behind a front.
set_pair : (front rest : List ℕ) (x y a b : ℕ) → set (set (front ++ (x ∷ y ∷ rest)) (length front) a) (suc (length front)) b ≡ front ++ (a ∷ b ∷ rest)
set_pair [] rest x y a b = refl
set_pair (z ∷ front) rest x y a b = ap (λ (l : List ℕ). z ∷ l) (set_pair front rest x y a b)

take-two : (before : List ℕ) (n : ℕ) → suc n < length before
    → take (suc (suc n)) before ≡ take n before ++ (get_or before n 0 ∷ get_or before (suc n) 0 ∷ [])
take-two before n h =
    take-suc before (suc n) 0 h
    ∙ (ap (λ (l : List ℕ). l ++ (get_or before (suc n) 0 ∷ [])) (take-suc before n 0 (omega arith)) ∙ append_assoc (take n before) _ _)

store_pair : (before rest room : List ℕ) (n a b : ℕ) → suc n < length before → room ≡ take (suc (suc n)) before ++ rest
    → set (set room n a) (suc n) b ≡ take n before ++ (a ∷ b ∷ rest)
store_pair before rest room n a b h e =
    let x = get_or before n 0 in
    let y = get_or before (suc n) 0 in
    let front = take n before in
    let d : room ≡ front ++ (x ∷ y ∷ rest) =
    e ∙ (ap (λ (l : List ℕ). l ++ rest) (take-two before n h) ∙ append_assoc front (x ∷ y ∷ []) rest) in
    let l : length front ≡ n = length-take-le n before (omega arith) in
    ap (λ (r : List ℕ). set (set r n a) (suc n) b) d
    ∙ subst (λ (m : ℕ). set (set (front ++ (x ∷ y ∷ rest)) m a) (suc m) b ≡ front ++ (a ∷ b ∷ rest)) l (set_pair front rest x y a b)

module _ (side : Stretch) {at : Matching} {room before : List ℕ} {count : ℕ} where
  give-met : (γ : ℕ) (ts : List Stretch) (xs : List Pair) → 0 < at.waiting → 0 < at.unwritten → Matches before count ts xs at room
      → Matches before count (tail ts) (pair side (top_of ts) ∷ xs) (met (Give γ) side at) (room_met (Give γ) side at room)
  give-met γ [] xs h k m = absurd (omega (arith, tops-length 0 at.takes at.waiting, ap length m.shown))
  give-met γ (t ∷ ts) xs h k m =
      let n = 2 * (at.unwritten - 1) in
      let w : at.waiting ≡ suc (at.waiting - 1) = omega arith in
      let s : get_or at.takes (at.waiting - 1) 0 ∷ tops 0 at.takes (at.waiting - 1) ≡ place_in t ∷ map place_in ts =
      subst (λ (q : ℕ). tops 0 at.takes q ≡ place_in t ∷ map place_in ts) w m.shown in
      let u : 2 * at.unwritten ≡ suc (suc n) = omega arith in
      let r : room ≡ take (suc (suc n)) before ++ (pairs_bytes xs ++ drop (2 * count) before) =
      subst (λ (q : ℕ). room ≡ take q before ++ (pairs_bytes xs ++ drop (2 * count) before)) u m.written in
      record {
        all_takes = m.all_takes;
        shown = tail-eq_of_cons-eq s;
        total = omega (arith, m.total);
        within = m.within;
        written = rw (add-one, ← head-eq_of_cons-eq s)
            (store_pair before (pairs_bytes xs ++ drop (2 * count) before) room n (place_in side) (get_or at.takes (at.waiting - 1) 0)
            (omega (arith, m.total, m.within)) r);
      }

  -- With its action and its side, what waits and is written goes from the rest of the plan to the rest with the step in front.
  pub matches-met : (a : Action) (ts : List Stretch) (xs : List Pair) → CanGive a at → at.waiting ≤ 24 → Matches before count ts xs at room
      → Matches before count (takes_action a side ts) (matched_action a side ts xs) (met a side at) (room_met a side at room)
  matches-met (Take γ) ts xs h l m = record {
    all_takes = length-set at.takes at.waiting (place_in side) ∙ m.all_takes;
    shown = rw add-one
        (tops-put 0 at.takes at.waiting (place_in side) (omega (arith, m.all_takes))
        ∙ ap (λ (l : List ℕ). place_in side ∷ l) m.shown);
    total = m.total;
    within = m.within;
    written = m.written;
  }
  matches-met Keep ts xs h l m = m
  matches-met (Give γ) ts xs h l m = give-met γ ts xs h.0 h.1 m
