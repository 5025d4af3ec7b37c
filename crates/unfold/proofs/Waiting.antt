-- What is pending is read from the stack's top down to base, so a store at the depth is under no entry below it, and what changes only
-- from the depth on leaves it. By induction on how many are pending.
use Prim.Native.Nat.{ℕ, zero, suc, ◌+◌, ◌-◌, ◌≤◌, ◌<◌}
use native.Mathlib.Nat.{le_refl, sub_self}
use native.Mathlib.Omega.{arith}
use mathlib.Core.Path.{◌≡◌, refl, sym, ◌∙◌, ap, subst}
use mathlib.Core.List.{List, [], ◌∷◌}
use lib.ListN.{length, get_or, set, take, length-set}
use lib.Seq.{get_or-set_same, get_or-take, take-set-le, take-take}
use Rattle.card.specs.declared.Action.{Action}
use Rattle.card.specs.declared.Action.TheVariants.{Take, Keep, Give}
use Rattle.unfold.specs.declared.Node.{Node}
use Rattle.unfold.specs.declared.Rest.{Rest}
use Rattle.unfold.specs.Spine.{newest_first, waiting, alone, Stays, CanTake, after, GoesOn}

newest-length : (stack : List ℕ) (base n : ℕ) → length (newest_first stack base n) ≡ n
newest-length stack base zero = refl
newest-length stack base (suc n) = let h = newest-length stack base n in omega arith

pub waiting-length : (stack : List ℕ) (r : Rest) → length (waiting stack r) ≡ r.depth - r.base
waiting-length stack r = newest-length stack r.base (r.depth - r.base)

pub none-waiting : (stack : List ℕ) (m depth : ℕ) → waiting stack (alone m depth) ≡ []
none-waiting stack m depth = rw (sub_self depth)

-- What stays: nothing changes, a store at the depth changes nothing below it, and two changes are one.
pub untouched : {base : ℕ} {stack : List ℕ} → Stays base stack stack
untouched = record { below = refl; long = refl }

stored : (stack : List ℕ) (base depth v : ℕ) → base ≤ depth → Stays base stack (set stack depth v)
stored stack base depth v h = record { below = take-set-le base stack depth v h; long = length-set stack depth v }

pub stays_then : {base : ℕ} {old mid new : List ℕ} → Stays base old mid → Stays base mid new → Stays base old new
stays_then x y = record { below = y.below ∙ x.below; long = y.long ∙ x.long }

-- What stays up to depth stays up to a lower base, and so does what is pending between them.
module _ (base depth : ℕ) {old new : List ℕ} (h : base ≤ depth) (e : Stays depth old new) where
  pub stays-below : Stays base old new
  stays-below =
      record { below = sym (take-take base depth new h) ∙ ap (take base) e.below ∙ take-take base depth old h; long = e.long }

  newest-stays : (n : ℕ) → base + n ≤ depth → newest_first new base n ≡ newest_first old base n
  newest-stays zero l = refl
  newest-stays (suc n) l =
      rw (← get_or-take depth new (base + n) 0 (omega arith), e.below, get_or-take depth old (base + n) 0 (omega arith), newest-stays n (omega arith))

  between_stays : newest_first new base (depth - base) ≡ newest_first old base (depth - base)
  between_stays = newest-stays (depth - base) (omega arith)

pub waiting_stays : (r : Rest) {old new : List ℕ} → r.base ≤ r.depth → Stays r.depth old new → waiting new r ≡ waiting old r
waiting_stays r h e = between_stays r.base r.depth h e

-- One more, and one less.
one-over : (stack : List ℕ) (base depth : ℕ) → base ≤ depth
    → newest_first stack base (depth + 1 - base) ≡ get_or stack depth 0 ∷ newest_first stack base (depth - base)
one-over stack base depth h =
    let e : depth + 1 - base ≡ suc (depth - base) = omega arith in
    let f : base + (depth - base) ≡ depth = omega arith in
    rw (e, f)

one_more : (stack : List ℕ) (base depth v : ℕ) → base ≤ depth → depth < length stack
    → newest_first (set stack depth v) base (depth + 1 - base) ≡ v ∷ newest_first stack base (depth - base)
one_more stack base depth v h l =
    rw (
      one-over (set stack depth v) base depth h,
      get_or-set_same stack depth v 0 l,
      between_stays base depth h (stored stack depth depth v (le_refl depth)),
    )

one_less : (stack : List ℕ) (base depth : ℕ) → base < depth
    → newest_first stack base (depth - base) ≡ get_or stack (depth - 1) 0 ∷ newest_first stack base (depth - 1 - base)
one_less stack base depth h =
    let e : depth - 1 + 1 ≡ depth = omega arith in
    rw e at (one-over stack base (depth - 1) (omega arith))

pub can-take : {a : Action} (whole : Rest) {g : ℕ} → a ≡ Take g → CanTake a whole → whole.base < whole.depth
can-take whole e h = subst (λ (b : Action). CanTake b whole) e h

-- What each action leaves pending, where l is pending before it.
module _ {a : Action} (node : Node) (stack : List ℕ) (whole : Rest) where
  acting : {b : Action} {l new : List ℕ} {rest : Rest} → a ≡ b → waiting stack whole ≡ l
      → rest.position ≡ (after b node l).position → waiting new rest ≡ (after b node l).pending → rest.base ≡ whole.base
      → rest.base ≤ rest.depth → Stays whole.base stack new → GoesOn a node stack whole new rest
  acting e f position pending base above stays =
      record { position = rw (e, f) position; pending = rw (e, f) pending; base = base; above = above; stays = stays }

  pub taking : {g x : ℕ} → a ≡ Take g → CanTake a whole → x ≡ get_or stack (whole.depth - 1) 0
      → GoesOn a node stack whole stack (record { position = x; base = whole.base; depth = whole.depth - 1 })
  taking e h f = let l = can-take whole e h in
      acting e (one_less stack whole.base whole.depth l) f refl refl (omega arith) untouched

  pub keeping : a ≡ Keep → whole.base ≤ whole.depth
      → GoesOn a node stack whole stack (record { position = node.dependent; base = whole.base; depth = whole.depth })
  keeping e h = acting e refl refl refl refl h untouched

  pub giving : {g : ℕ} → a ≡ Give g → whole.base ≤ whole.depth → whole.depth < length stack
      → GoesOn a node stack whole (set stack whole.depth node.continuation)
      (record { position = node.dependent; base = whole.base; depth = whole.depth + 1 })
  giving e h l =
      acting e refl refl (one_more stack whole.base whole.depth node.continuation h l) refl (omega arith)
      (stored stack whole.base whole.depth node.continuation h)
