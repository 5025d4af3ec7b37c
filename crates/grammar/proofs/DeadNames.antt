-- Document 02, Paper 4: a rule with a dead name on its right takes part in no derivation of any line, and leaving it out changes the
-- derivations of no line. A form with a name that stands on the left of no rule keeps it whatever is replaced, and words have no names.
use Prim.Native.Nat.{ℕ, zero, suc}
use mathlib.Core.Path.{◌≡◌, refl, sym, ◌∙◌, ap}
use mathlib.Core.Bool.{Bool, true, false, false≢true}
use mathlib.Core.List.{List, [], ◌∷◌, ◌++◌, map, Memᴰ}
use Rattle.grammar.specs.Lists.{Stands, here, there}
use Rattle.grammar.specs.Rewriting.{Rule, Symbol, word, nonterminal, sides, Replaces, lexical, spine, Step, Steps, done, next, Derivation}
use Rattle.grammar.specs.Rewriting
use Rattle.grammar.specs.Names.{right_names, is_left, on_left, live_rule}
use Rattle.grammar.specs.Plan.{PlanStep, production_in, LeftmostDerivation, LeftmostStep, first, past_word, LeftmostSteps, finish, proceed}
use Rattle.grammar.proofs.ListLaws.{eqb-self, stands-in, some_of_lem, not-all-of}
use Rattle.grammar.proofs.StandsLaws.{stands-unique}
use Rattle.grammar.proofs.Moves.{Move, rule_by, move_of, moves, stands-rule, DerivesBy, carry}
use Rattle.grammar.proofs.Leftmost.{plan-rewrites, leftmost-is-steps}

-- The nonterminal X, with some stack, stands in a form.
pub data Has (X : ℕ) : List Symbol → Type 0 where
  now : {s : List ℕ} {f : List Symbol} → Has X (nonterminal X s ∷ f)
  past : {Y : Symbol} {f : List Symbol} → Has X f → Has X (Y ∷ f)

has-before : {X : ℕ} {f : List Symbol} (h : List Symbol) → Has X f → Has X (f ++ h)
has-before h now = now
has-before h (past x) = past (has-before h x)

has-after : {X : ℕ} {f : List Symbol} (r : List Symbol) → Has X f → Has X (r ++ f)
has-after [] x = x
has-after (Y ∷ r) x = past (has-after r x)

words-have-none : {X : ℕ} (ws : List ℕ) → Has X (map word ws) → ⊥
words-have-none (w ∷ ws) (past x) = words-have-none ws x
words-have-none [] h = elim h [ ]

-- The names on a rule's right are those of its right side: each that stands there is one of them, and each of them stands there.
sides-names : {X : ℕ} (Bs : List ℕ) → Has X (sides Bs) → Memᴰ X Bs
sides-names (B ∷ Bs) now = Memᴰ.head refl
sides-names (B ∷ Bs) (past x) = Memᴰ.tail (sides-names Bs x)
sides-names [] h = elim h [ ]

spine-names : {X : ℕ} (before : List ℕ) (D : ℕ) (t after : List ℕ) → Has X (sides before ++ (nonterminal D t ∷ sides after))
    → Memᴰ X (before ++ (D ∷ after))
spine-names [] D t after now = Memᴰ.head refl
spine-names [] D t after (past x) = Memᴰ.tail (sides-names after x)
spine-names (B ∷ before) D t after now = Memᴰ.head refl
spine-names (B ∷ before) D t after (past x) = Memᴰ.tail (spine-names before D t after x)

sides-have : {X : ℕ} (Bs : List ℕ) → Memᴰ X Bs → Has X (sides Bs)
sides-have (B ∷ Bs) (Memᴰ.head e) = rw e now
sides-have (B ∷ Bs) (Memᴰ.tail m) = past (sides-have Bs m)
sides-have [] h = elim h [ ]

spine-has : {X : ℕ} (before : List ℕ) (D : ℕ) (t after : List ℕ) → Memᴰ X (before ++ (D ∷ after))
    → Has X (sides before ++ (nonterminal D t ∷ sides after))
spine-has [] D t after (Memᴰ.head e) = rw e now
spine-has [] D t after (Memᴰ.tail m) = past (sides-have after m)
spine-has (B ∷ before) D t after (Memᴰ.head e) = rw e now
spine-has (B ∷ before) D t after (Memᴰ.tail m) = past (spine-has before D t after m)

module _ {g : List Rule} where
  pub has_right : {p X : ℕ} {Y : Symbol} {r : List Symbol} (x : Replaces g p Y r) → Has X r → Memᴰ X (right_names (rule_by x))
  has_right (lexical s) (past h) = absurd (words-have-none [] h)
  has_right (spine {D = D} {before = before} {after = after} {t = t} s u) h = spine-names before D t after h

  pub right-has : {p X : ℕ} {Y : Symbol} {r : List Symbol} (x : Replaces g p Y r) → Memᴰ X (right_names (rule_by x)) → Has X r
  right-has (spine {D = D} {before = before} {after = after} {t = t} s u) m = spine-has before D t after m
  right-has (lexical _) m = elim m [ ]

  step-has : {X : ℕ} {f f' : List Symbol} (s : Step g f f') → Memᴰ X (right_names (move_of s).rule) → Has X f'
  step-has (Rewriting.Step.here {f = f} x) m = has-before f (right-has x m)
  step-has (Rewriting.Step.later s) m = past (step-has s m)

module _ (g : List Rule) where
  -- What is replaced stands on the left.
  replaced-on-left : {p X : ℕ} {s : List ℕ} {r : List Symbol} → Replaces g p (nonterminal X s) r → on_left g X ≡ true
  replaced-on-left {X = X} (lexical s) = some_of_lem (is_left X) g (stands-in s) (eqb-self X)
  replaced-on-left {X = X} (spine s t) = some_of_lem (is_left X) g (stands-in s) (eqb-self X)

  -- So a name that stands on no left stays, and no words come of it.
  module _ (X : ℕ) (dead : on_left g X ≡ false) where
    step_keeps : {f f' : List Symbol} → Step g f f' → Has X f → Has X f'
    step_keeps (Rewriting.Step.here x) now = absurd (false≢true (sym dead ∙ replaced-on-left x))
    step_keeps (Rewriting.Step.here {r = r} x) (past h) = has-after r h
    step_keeps (Rewriting.Step.later s) now = now
    step_keeps (Rewriting.Step.later s) (past h) = past (step_keeps s h)

    never-words : {f h : List Symbol} (ws : List ℕ) → Steps g f h → h ≡ map word ws → Has X f → ⊥
    never-words ws done e x = words-have-none ws (rw e at x)
    never-words ws (next s ss) e x = never-words ws ss e (step_keeps s x)

  -- And each step on the way to words is by a rule that has no dead name.
  live-unless : (r : Rule) → ((X : ℕ) → Memᴰ X (right_names r) → on_left g X ≡ false → ⊥) → live_rule g r ≡ true
  live-unless r h = go (live_rule g r) refl
    where
      go : (t : Bool) → live_rule g r ≡ t → t ≡ true
      go true e = refl
      go false e = let (X, m, dead) = not-all-of (on_left g) (right_names r) e in absurd (h X m dead)

  pub moves_live : {f h : List Symbol} (ws : List ℕ) (d : Steps g f h) → h ≡ map word ws → (m : Move) → Memᴰ m (moves d)
      → live_rule g m.rule ≡ true
  moves_live ws (next s ss) e m (Memᴰ.head same) =
      rw same (live-unless (move_of s).rule λ X i dead. never-words X dead ws ss e (step-has s i))
  moves_live ws (next s ss) e m (Memᴰ.tail i) = moves_live ws ss e m i
  moves_live ws done e m h = elim h [ ]

-- A list without what stands at a place.
abbrev pub left_out : {A : Type 0} → ℕ → List A → List A
left_out p [] = []
left_out zero (x ∷ l) = l
left_out (suc p) (x ∷ l) = x ∷ left_out p l

out-stands : {A : Type 0} (p : ℕ) (l : List A) (k : ℕ) (x : A) → Stands (left_out p l) k x → (q : ℕ) × Stands l q x
out-stands p [] k x s = (k, s)
out-stands zero (y ∷ l) k x s = (suc k, there s)
out-stands (suc p) (y ∷ l) k x here = (0, here)
out-stands (suc p) (y ∷ l) k x (there s) = let (q, t) = out-stands p l _ x s in (suc q, there t)

others-stand : {A : Type 0} (p : ℕ) (l : List A) (k : ℕ) (x : A) → (Stands l p x → ⊥) → Stands l k x → (q : ℕ) × Stands (left_out p l) q x
others-stand zero (y ∷ l) k x other here = absurd (other here)
others-stand zero (y ∷ l) k x other (there s) = (_, s)
others-stand (suc p) (y ∷ l) k x other here = (0, here)
others-stand (suc p) (y ∷ l) k x other (there s) = let (q, t) = others-stand p l _ x (λ z. other (there z)) s in (suc q, there t)
others-stand zero [] k x other h = elim h [ ]
others-stand (suc p) [] k x other h = elim h [ ]

-- Production p has a dead name on its right: then no derivation of any words has a move by its rule, no plan of any line a step by its
-- number, and without it the words have the same derivations, move for move.
pub record NeverApplies (g : List Rule) (p : ℕ) (r : Rule) : Type 1 where
  pub no_move : (words : List ℕ) (d : Derivation g words) (m : Move) → Memᴰ m (moves d) → m.rule ≡ r → ⊥
  pub no_step : (at : ℕ → ℕ → Type 0) (n : ℕ) (plan : List PlanStep) → LeftmostDerivation g at n plan → Memᴰ p (map production_in plan) → ⊥
  pub without : (words : List ℕ) (l : List Move) → (DerivesBy g words l → DerivesBy (left_out p g) words l)
      × (DerivesBy (left_out p g) words l → DerivesBy g words l)

module _ (g : List Rule) (p : ℕ) (r : Rule) (s : Stands g p r) (dead : live_rule g r ≡ false) where
  -- One leftmost step by production p is by the rule r, and has its names in the next form.
  leftmost-has : {X : ℕ} {f f' : List Symbol} → LeftmostStep g p f f' → Memᴰ X (right_names r) → Has X f'
  leftmost-has {X} (first {f = f} x) m = has-before f (right-has x (rw (stands-unique s (stands-rule x)) at m))
  leftmost-has (past_word t) m = past (leftmost-has t m)

  no-leftmost : {f h : List Symbol} {ps : List ℕ} (ws : List ℕ) → LeftmostSteps g f ps h → h ≡ map word ws → Memᴰ p ps → ⊥
  no-leftmost ws (proceed t ts) e (Memᴰ.head same) =
      let (X, m, none) = not-all-of (on_left g) (right_names r) dead in
      never-words g X none ws (leftmost-is-steps g ts) e (leftmost-has (rw (← same) at t) m)
  no-leftmost ws (proceed t ts) e (Memᴰ.tail i) = no-leftmost ws ts e i
  no-leftmost ws finish e h = elim h [ ]

  live-other : (x : Rule) → live_rule g x ≡ true → Stands g p x → ⊥
  live-other x live t = false≢true (sym dead ∙ (ap (live_rule g) (stands-unique s t) ∙ live))

  pub never-applies : NeverApplies g p r
  never-applies =
      record {
        no_move = λ words d m i e. false≢true (sym dead ∙ (ap (live_rule g) (sym e) ∙ moves_live g words d refl m i));
        no_step = λ at n plan y i. let (words, stand, steps) = plan-rewrites g at y in no-leftmost words steps refl i;
        without = λ words l. (there-too words l, back words l);
      }
    where
      there-too : (words : List ℕ) (l : List Move) → DerivesBy g words l → DerivesBy (left_out p g) words l
      there-too words l (d, e) =
          let (d', e') = carry (λ x. live_rule g x ≡ true) (λ k x t live. others-stand p g k x (live-other x live) t) d (moves_live g words d refl) in
          (d', e' ∙ e)

      back : (words : List ℕ) (l : List Move) → DerivesBy (left_out p g) words l → DerivesBy g words l
      back words l (d, e) =
          let (d', e') = carry (λ x. Unit {0}) (λ k x t live. out-stands p g k x t) d (λ m i. tt) in (d', e' ∙ e)
