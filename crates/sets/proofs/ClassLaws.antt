-- The sets by the card alone. After the stores of a rule what each set holds is an equation of tests, and so it is after the rules so far; an
-- equation tells both that a production is in a set and that no other is.
use Prim.Native.Nat.{ℕ, ◌+◌, ◌^◌, ◌≤◌, ◌<◌}
use native.Mathlib.Omega.{arith}
use native.Mathlib.Decide.{dec_lt}
use mathlib.Core.Path.{◌≡◌, refl, sym, ap, subst, ◌∙◌}
use mathlib.Core.Logic.{◌⊎◌, inl, inr}
use mathlib.Core.Bool.{Bool, true, false, ◌||◌, ◌&&◌, or-false, or-true, or_assoc}
use mathlib.Core.List.{List, [], ◌∷◌}
use mathlib.Core.Option.{some}
use lib.Bits.{bit_or}
use lib.Dec.{eqb}
use lib.ListN.{length, get_or, get_elem?, length-set}
use lib.Seq.{get_or-set_other}
use borrow.Author.Tests.{eq-eqb, ne_eqb, eqb-true}
use Rattle.grammar.specs.Rewriting.{Rule, Lexical, Spine}
use Rattle.grammar.specs.Names.{left_name}
use Rattle.grammar.proofs.StandsLaws.{none-some}
use Rattle.layout.specs.Card.{max_nonterminals, max_words, max_indices, production}
use Rattle.layout.specs.Rules.{RuleCounted}
use Rattle.card.specs.Productions.{rule_from}
use Rattle.card.specs.declared.Action as declared
use Rattle.card.specs.declared.Production.{Production}
use Rattle.card.specs.declared.Production.TheVariants.{Word, SideFirst, SideLast}
use Rattle.bits.specs.Bits.{bit_of, holds_bit, Least, Without}
use Rattle.bits.proofs.BitLaws.{bit_of-zero, bit-beyond}
use Rattle.bits.proofs.BitSets.{or-bits, without-has, without-lacks}
use Rattle.sets.specs.Places.{first_side_at, first_dependent_at, second_side_at, second_dependent_at, word_at, class_count, OnlyClasses, OnlyMeeting, OnlySpans}
use Rattle.sets.specs.Classes.{in_class, Classified, with_bit, Joined, OfWords}
use Rattle.sets.proofs.CardRules.{first_rules, rules-length, last-rule}
use Rattle.sets.proofs.StoreLaws.{bit-lacks, lacks-bit, with-exact}

-- Tests of one production in two sets, in one.
gathered : (h e x y : Bool) → (h || (e && x) || (e && y)) ≡ (h || (e && (x || y)))
gathered true e x y = refl
gathered false true true y = refl
gathered false true false y = refl
gathered false false x y = refl

-- One production into two sets, and into three, in turn.
module _ (old : List ℕ) (p s t : ℕ) (long : class_count ≤ length old) (a : s < class_count) (b : t < class_count) where
  abbrev two : List ℕ
  two = with_bit (with_bit old s p) t p

  two-length : length two ≡ length old
  two-length = simp length-set

  two-elsewhere : OnlyClasses old two
  two-elsewhere = (
    two-length,
    λ x h. get_or-set_other (with_bit old s p) t x _ 0 (λ e. absurd (omega arith)) ∙ get_or-set_other old s x _ 0 (λ e. absurd (omega arith)),
  )

  two-exact : (x q : ℕ) → holds_bit q (get_or two x 0) ≡ (holds_bit q (get_or old x 0) || (eqb q p && (eqb x s || eqb x t)))
  two-exact x q =
      let inside : t < length (with_bit old s p) = simp length-set (omega arith) in
      with-exact (with_bit old s p) t p inside x q
      ∙ (ap (λ (h : Bool). h || (eqb q p && eqb x t)) (with-exact old s p (omega arith) x q)
      ∙ gathered (holds_bit q (get_or old x 0)) (eqb q p) (eqb x s) (eqb x t))

  module _ (u : ℕ) (c : u < class_count) where
    abbrev three : List ℕ
    three = with_bit two u p

    three-elsewhere : OnlyClasses old three
    three-elsewhere = (
      simp length-set,
      λ x h. get_or-set_other two u x _ 0 (λ e. absurd (omega arith)) ∙ two-elsewhere.1 x h,
    )

    three-exact : (x q : ℕ)
        → holds_bit q (get_or three x 0) ≡ (holds_bit q (get_or old x 0) || (eqb q p && (eqb x s || (eqb x t || eqb x u))))
    three-exact x q =
        with-exact two u p (omega (arith, two-length)) x q
        ∙ (ap (λ (h : Bool). h || (eqb q p && eqb x u)) (two-exact x q)
        ∙ (gathered (holds_bit q (get_or old x 0)) (eqb q p) (eqb x s || eqb x t) (eqb x u)
        ∙ ap (λ (h : Bool). holds_bit q (get_or old x 0) || (eqb q p && h)) (or_assoc (eqb x s) (eqb x t) (eqb x u))))

-- The productions as the code has them.
abbrev Named : Production → Type 0
Named r = RuleCounted max_nonterminals max_words max_indices (rule_from r)

pub word-named : {r : Production} {A w : ℕ} → r ≡ Word A w → Named r → (A < max_nonterminals) × (w < max_words)
word-named e f = subst Named e f

pub first-named : {r : Production} {A B D : ℕ} {a : declared.Action} → r ≡ SideFirst A a B D → Named r
    → (A < max_nonterminals) × (B < max_nonterminals) × (D < max_nonterminals)
first-named e f = let (a, b, c, d, g) = subst Named e f in (a, c.0, d)

pub last-named : {r : Production} {A B D : ℕ} {a : declared.Action} → r ≡ SideLast A a D B → Named r
    → (A < max_nonterminals) × (D < max_nonterminals) × (B < max_nonterminals)
last-named e f = let (a, b, c, d, g) = subst Named e f in (a, d, g.0)

module _ {r : Production} (p : ℕ) {old : List ℕ} (f : Named r) (long : class_count ≤ length old) {new : List ℕ} {x A : ℕ} where
  pub word-joined : {one : List ℕ} {y w : ℕ} → r ≡ Word A w → x ≡ A → y ≡ w → one ≡ with_bit old x p
      → new ≡ with_bit one (word_at y) p → Joined (rule_from r) p old new
  word-joined {w = w} e h i l n =
      let (u, v) = word-named e f in
      rw (e, n, l, h, i)
      record {
        elsewhere = two-elsewhere old p A (word_at w) long (omega arith) (omega arith);
        exact = λ s q k. two-exact old p A (word_at w) long (omega arith) (omega arith) s q;
      }

  pub first-joined : {one mid : List ℕ} {y z B D : ℕ} {a : declared.Action} → r ≡ SideFirst A a B D → x ≡ A → y ≡ B → z ≡ D
      → one ≡ with_bit old x p → mid ≡ with_bit one (first_side_at y) p → new ≡ with_bit mid (second_dependent_at z) p → Joined (rule_from r) p old new
  first-joined {B = B} {D} e h i j l m n =
      let (u, v, w) = first-named e f in
      rw (e, n, m, l, h, i, j)
      record {
        elsewhere = three-elsewhere old p A (first_side_at B) long (omega arith) (omega arith) (second_dependent_at D) (omega arith);
        exact = λ s q k. three-exact old p A (first_side_at B) long (omega arith) (omega arith) (second_dependent_at D) (omega arith) s q;
      }

  pub last-joined : {one mid : List ℕ} {y z B D : ℕ} {a : declared.Action} → r ≡ SideLast A a D B → x ≡ A → y ≡ D → z ≡ B
      → one ≡ with_bit old x p → mid ≡ with_bit one (first_dependent_at y) p → new ≡ with_bit mid (second_side_at z) p → Joined (rule_from r) p old new
  last-joined {B = B} {D} e h i j l m n =
      let (u, v, w) = last-named e f in
      rw (e, n, m, l, h, i, j)
      record {
        elsewhere = three-elsewhere old p A (first_dependent_at D) long (omega arith) (omega arith) (second_side_at B) (omega arith);
        exact = λ s q k. three-exact old p A (first_dependent_at D) long (omega arith) (omega arith) (second_side_at B) (omega arith) s q;
      }

-- The sets for no rule, and for one rule more.
pub classified-none : (sets : List ℕ) → class_count ≤ length sets → ((s : ℕ) → get_or sets s 0 ≡ 0) → Classified [] sets
classified-none sets long zeros =
    record {
      long = long;
      named = λ p r e. absurd (none-some e);
      exact = λ s p r l e. absurd (none-some e);
      no_more = λ s p l h. ap (bit_of p) (zeros s) ∙ bit_of-zero p;
    }

pub classified-more : (card : List ℕ) (p : ℕ) {old new : List ℕ} → Classified (first_rules card p) old
    → RuleCounted max_nonterminals max_words max_indices (production card p) → Joined (production card p) p old new
    → Classified (first_rules card (p + 1)) new
classified-more card p {old} {new} c named j =
    record {
      long = omega (arith, c.long, j.elsewhere.0);
      named = λ q r e. elim (last-rule card p q e) [
        | inl (h, f) ↦ c.named q r f
        | inr (a, b) ↦ subst (RuleCounted max_nonterminals max_words max_indices) (sym b) named
      ];
      exact = λ s q r l e. elim (last-rule card p q e) [
        | inl (h, f) ↦ same s q l (λ d. absurd (omega arith)) ∙ c.exact s q r l f
        | inr (a, b) ↦ j.exact s q l
            ∙ (rw (lacks-bit q (get_or old s 0) (c.no_more s q l (omega (arith, rules-length card p))), eq-eqb q p a)
            (ap (in_class s) (sym b)))
      ];
      no_more = λ s q l h.
          let past : p < q = omega (arith, rules-length card (p + 1)) in
          bit-lacks q (get_or new s 0)
          (same s q l (λ d. absurd (omega arith)) ∙ lacks-bit q (get_or old s 0) (c.no_more s q l (omega (arith, rules-length card p))));
    }
  where
    same : (s q : ℕ) → s < class_count → (q ≡ p → ⊥) → holds_bit q (get_or new s 0) ≡ holds_bit q (get_or old s 0)
    same s q l d = j.exact s q l ∙ rw (ne_eqb q p d) (or-false (holds_bit q (get_or old s 0)))

-- Tables that agree in these sets.
classified-same : {g : List Rule} {old new : List ℕ} → Classified g old → length new ≡ length old
    → ((s : ℕ) → s < class_count → get_or new s 0 ≡ get_or old s 0) → Classified g new
classified-same c e same =
    record {
      long = omega (arith, c.long);
      named = c.named;
      exact = λ s p r l f. ap (holds_bit p) (same s l) ∙ c.exact s p r l f;
      no_more = λ s p l h. ap (bit_of p) (same s l) ∙ c.no_more s p l h;
    }

pub classified-meeting : {g : List Rule} {old new : List ℕ} → Classified g old → OnlyMeeting old new → Classified g new
classified-meeting c only = classified-same c only.0 (λ s l. only.1 s (inl (omega arith)))

pub classified-spans : {g : List Rule} {old new : List ℕ} → Classified g old → OnlySpans old new → Classified g new
classified-spans c only = classified-same c only.0 (λ s l. only.1 s (omega arith))

-- What a rule has at each of its elements: a side or a dependent of that name, first or second; and its word.
abbrev pub FirstSide : ℕ → Rule → Type 0
FirstSide A (Lexical A' w) = ⊥
FirstSide A (Spine A' a [] D after) = ⊥
FirstSide A (Spine A' a (B ∷ before) D after) = B ≡ A

abbrev pub FirstDependent : ℕ → Rule → Type 0
FirstDependent A (Lexical A' w) = ⊥
FirstDependent A (Spine A' a [] D after) = D ≡ A
FirstDependent A (Spine A' a (B ∷ before) D after) = ⊥

abbrev pub SecondSide : ℕ → Rule → Type 0
SecondSide A (Lexical A' w) = ⊥
SecondSide A (Spine A' a [] D []) = ⊥
SecondSide A (Spine A' a [] D (B ∷ after)) = B ≡ A
SecondSide A (Spine A' a (B ∷ before) D after) = ⊥

abbrev pub SecondDependent : ℕ → Rule → Type 0
SecondDependent A (Lexical A' w) = ⊥
SecondDependent A (Spine A' a [] D after) = ⊥
SecondDependent A (Spine A' a (B ∷ before) D after) = D ≡ A

abbrev pub WordRule : ℕ → Rule → Type 0
WordRule w (Lexical A w') = w' ≡ w
WordRule w (Spine A a before D after) = ⊥

-- The places of a rule, as equations; each is one that its test names, and no other.
abbrev Placed : ℕ → Rule → Type 0
Placed s (Lexical A w) = (s ≡ A) ⊎ (s ≡ word_at w)
Placed s (Spine A a (B ∷ before) D after) = (s ≡ A) ⊎ ((s ≡ first_side_at B) ⊎ (s ≡ second_dependent_at D))
Placed s (Spine A a [] D (B ∷ after)) = (s ≡ A) ⊎ ((s ≡ first_dependent_at D) ⊎ (s ≡ second_side_at B))
Placed s (Spine A a [] D []) = (s ≡ A) ⊎ (s ≡ first_dependent_at D)

or-has : {X Y : Type 0} (a b : Bool) → (X → a ≡ true) → (Y → b ≡ true) → X ⊎ Y → (a || b) ≡ true
or-has a b f g (inl x) = rw (f x)
or-has a b f g (inr y) = rw (g y) (or-true a)

or_from : {X Y : Type 0} (a b : Bool) → (a ≡ true → X) → (b ≡ true → Y) → (a || b) ≡ true → X ⊎ Y
or_from true b f g h = inl (f refl)
or_from false b f g h = inr (g h)

placed-in : (s : ℕ) (r : Rule) → Placed s r → in_class s r ≡ true
placed-in s (Lexical A w) = or-has (eqb s A) (eqb s (word_at w)) (eq-eqb s A) (eq-eqb s (word_at w))
placed-in s (Spine A a (B ∷ before) D after) =
    or-has (eqb s A) _ (eq-eqb s A)
    (or-has (eqb s (first_side_at B)) (eqb s (second_dependent_at D)) (eq-eqb s (first_side_at B)) (eq-eqb s (second_dependent_at D)))
placed-in s (Spine A a [] D (B ∷ after)) =
    or-has (eqb s A) _ (eq-eqb s A)
    (or-has (eqb s (first_dependent_at D)) (eqb s (second_side_at B)) (eq-eqb s (first_dependent_at D)) (eq-eqb s (second_side_at B)))
placed-in s (Spine A a [] D []) = or-has (eqb s A) (eqb s (first_dependent_at D)) (eq-eqb s A) (eq-eqb s (first_dependent_at D))

in-placed : (s : ℕ) (r : Rule) → in_class s r ≡ true → Placed s r
in-placed s (Lexical A w) = or_from (eqb s A) (eqb s (word_at w)) (eqb-true s A) (eqb-true s (word_at w))
in-placed s (Spine A a (B ∷ before) D after) =
    or_from (eqb s A) _ (eqb-true s A)
    (or_from (eqb s (first_side_at B)) (eqb s (second_dependent_at D)) (eqb-true s (first_side_at B)) (eqb-true s (second_dependent_at D)))
in-placed s (Spine A a [] D (B ∷ after)) =
    or_from (eqb s A) _ (eqb-true s A)
    (or_from (eqb s (first_dependent_at D)) (eqb s (second_side_at B)) (eqb-true s (first_dependent_at D)) (eqb-true s (second_side_at B)))
in-placed s (Spine A a [] D []) = or_from (eqb s A) (eqb s (first_dependent_at D)) (eqb-true s A) (eqb-true s (first_dependent_at D))

-- The names are below the limits, so a place tells which element it is.
abbrev Counted : Rule → Type 0
Counted r = RuleCounted max_nonterminals max_words max_indices r

own-placed : (A : ℕ) (r : Rule) → left_name r ≡ A → Placed A r
own-placed A (Lexical A' w) e = inl (sym e)
own-placed A (Spine A' a (B ∷ before) D after) e = inl (sym e)
own-placed A (Spine A' a [] D (B ∷ after)) e = inl (sym e)
own-placed A (Spine A' a [] D []) e = inl (sym e)

placed-own : (A : ℕ) → A < max_nonterminals → (r : Rule) → Placed A r → left_name r ≡ A
placed-own A h (Lexical A' w) t = elim t [ inl e ↦ sym e | inr e ↦ absurd (omega arith) ]
placed-own A h (Spine A' a (B ∷ before) D after) t =
    elim t [ inl e ↦ sym e | inr u ↦ elim u [ inl e ↦ absurd (omega arith) | inr e ↦ absurd (omega arith) ] ]
placed-own A h (Spine A' a [] D (B ∷ after)) t =
    elim t [ inl e ↦ sym e | inr u ↦ elim u [ inl e ↦ absurd (omega arith) | inr e ↦ absurd (omega arith) ] ]
placed-own A h (Spine A' a [] D []) t = elim t [ inl e ↦ sym e | inr e ↦ absurd (omega arith) ]

first-side-placed : (A : ℕ) (r : Rule) → FirstSide A r → Placed (first_side_at A) r
first-side-placed A (Lexical A' w) e = absurd e
first-side-placed A (Spine A' a (B ∷ before) D after) e = inr (inl (ap first_side_at (sym e)))
first-side-placed A (Spine A' a [] D after) e = absurd e

placed-first-side : (A : ℕ) → A < max_nonterminals → (r : Rule) → Counted r → Placed (first_side_at A) r → FirstSide A r
placed-first-side A h (Lexical A' w) (x, y) t = elim t [ inl e ↦ absurd (omega arith) | inr e ↦ absurd (omega arith) ]
placed-first-side A h (Spine A' a (B ∷ before) D after) (x, _, y, z, _) t =
    elim t [ inl e ↦ absurd (omega arith) | inr u ↦ elim u [ inl e ↦ omega arith | inr e ↦ absurd (omega arith) ] ]
placed-first-side A h (Spine A' a [] D (B ∷ after)) (x, _, _, y, z) t =
    elim t [ inl e ↦ absurd (omega arith) | inr u ↦ elim u [ inl e ↦ absurd (omega arith) | inr e ↦ absurd (omega arith) ] ]
placed-first-side A h (Spine A' a [] D []) (x, _, _, y, z) t = elim t [ inl e ↦ absurd (omega arith) | inr e ↦ absurd (omega arith) ]

first-dependent-placed : (A : ℕ) (r : Rule) → FirstDependent A r → Placed (first_dependent_at A) r
first-dependent-placed A (Lexical A' w) e = absurd e
first-dependent-placed A (Spine A' a (B ∷ before) D after) e = absurd e
first-dependent-placed A (Spine A' a [] D (B ∷ after)) e = inr (inl (ap first_dependent_at (sym e)))
first-dependent-placed A (Spine A' a [] D []) e = inr (ap first_dependent_at (sym e))

placed-first-dependent : (A : ℕ) → A < max_nonterminals → (r : Rule) → Counted r → Placed (first_dependent_at A) r → FirstDependent A r
placed-first-dependent A h (Lexical A' w) (x, y) t = elim t [ inl e ↦ absurd (omega arith) | inr e ↦ absurd (omega arith) ]
placed-first-dependent A h (Spine A' a (B ∷ before) D after) (x, _, y, z, _) t =
    elim t [ inl e ↦ absurd (omega arith) | inr u ↦ elim u [ inl e ↦ absurd (omega (arith, y.0)) | inr e ↦ absurd (omega arith) ] ]
placed-first-dependent A h (Spine A' a [] D (B ∷ after)) (x, _, _, y, z) t =
    elim t [ inl e ↦ absurd (omega arith) | inr u ↦ elim u [ inl e ↦ omega arith | inr e ↦ absurd (omega arith) ] ]
placed-first-dependent A h (Spine A' a [] D []) (x, _, _, y, z) t = elim t [ inl e ↦ absurd (omega arith) | inr e ↦ omega arith ]

second-side-placed : (A : ℕ) (r : Rule) → SecondSide A r → Placed (second_side_at A) r
second-side-placed A (Lexical A' w) e = absurd e
second-side-placed A (Spine A' a (B ∷ before) D after) e = absurd e
second-side-placed A (Spine A' a [] D (B ∷ after)) e = inr (inr (ap second_side_at (sym e)))
second-side-placed A (Spine A' a [] D []) e = absurd e

placed-second-side : (A : ℕ) → A < max_nonterminals → (r : Rule) → Counted r → Placed (second_side_at A) r → SecondSide A r
placed-second-side A h (Lexical A' w) (x, y) t = elim t [ inl e ↦ absurd (omega arith) | inr e ↦ absurd (omega arith) ]
placed-second-side A h (Spine A' a (B ∷ before) D after) (x, _, y, z, _) t =
    elim t [ inl e ↦ absurd (omega arith) | inr u ↦ elim u [ inl e ↦ absurd (omega (arith, y.0)) | inr e ↦ absurd (omega arith) ] ]
placed-second-side A h (Spine A' a [] D (B ∷ after)) (x, _, _, y, z) t =
    elim t [ inl e ↦ absurd (omega arith) | inr u ↦ elim u [ inl e ↦ absurd (omega arith) | inr e ↦ omega arith ] ]
placed-second-side A h (Spine A' a [] D []) (x, _, _, y, z) t = elim t [ inl e ↦ absurd (omega arith) | inr e ↦ absurd (omega arith) ]

second-dependent-placed : (A : ℕ) (r : Rule) → SecondDependent A r → Placed (second_dependent_at A) r
second-dependent-placed A (Lexical A' w) e = absurd e
second-dependent-placed A (Spine A' a (B ∷ before) D after) e = inr (inr (ap second_dependent_at (sym e)))
second-dependent-placed A (Spine A' a [] D after) e = absurd e

placed-second-dependent : (A : ℕ) → A < max_nonterminals → (r : Rule) → Counted r → Placed (second_dependent_at A) r → SecondDependent A r
placed-second-dependent A h (Lexical A' w) (x, y) t = elim t [ inl e ↦ absurd (omega arith) | inr e ↦ absurd (omega arith) ]
placed-second-dependent A h (Spine A' a (B ∷ before) D after) (x, _, y, z, _) t =
    elim t [ inl e ↦ absurd (omega arith) | inr u ↦ elim u [ inl e ↦ absurd (omega (arith, y.0)) | inr e ↦ omega arith ] ]
placed-second-dependent A h (Spine A' a [] D (B ∷ after)) (x, _, _, y, z) t =
    elim t [ inl e ↦ absurd (omega arith) | inr u ↦ elim u [ inl e ↦ absurd (omega arith) | inr e ↦ absurd (omega (arith, z.0)) ] ]
placed-second-dependent A h (Spine A' a [] D []) (x, _, _, y, z) t = elim t [ inl e ↦ absurd (omega arith) | inr e ↦ absurd (omega arith) ]

word-placed : (w : ℕ) (r : Rule) → Counted r → WordRule w r → (w < max_words) × Placed (word_at w) r
word-placed w (Lexical A w') (x, y) e = (omega arith, inr (ap word_at (sym e)))
word-placed w (Spine A a before D after) f e = absurd e

-- So each set has the productions that it is for, and no others.
module _ {g : List Rule} {sets : List ℕ} (c : Classified g sets) (p : ℕ) {r : Rule} (e : get_elem? g p ≡ some r) where
  has : (s : ℕ) → s < class_count → Placed s r → bit_of p (get_or sets s 0) ≡ 1
  has s l t = eqb-true (bit_of p (get_or sets s 0)) 1 (c.exact s p r l e ∙ placed-in s r t)

  from : (s : ℕ) → s < class_count → bit_of p (get_or sets s 0) ≡ 1 → Placed s r
  from s l o = in-placed s r (sym (c.exact s p r l e) ∙ eq-eqb (bit_of p (get_or sets s 0)) 1 o)

  pub word-has : (w : ℕ) → WordRule w r → bit_of p (get_or sets (word_at w) 0) ≡ 1
  word-has w t = let (few, there) = word-placed w r (c.named p r e) t in has (word_at w) (omega arith) there

  module _ (A : ℕ) (few : A < max_nonterminals) where
    pub own-has : left_name r ≡ A → bit_of p (get_or sets A 0) ≡ 1
    own-has t = has A (omega arith) (own-placed A r t)

    pub own-only : bit_of p (get_or sets A 0) ≡ 1 → left_name r ≡ A
    own-only o = placed-own A few r (from A (omega arith) o)

    pub first-side-has : FirstSide A r → bit_of p (get_or sets (first_side_at A) 0) ≡ 1
    first-side-has t = has (first_side_at A) (omega arith) (first-side-placed A r t)

    pub first-side-only : bit_of p (get_or sets (first_side_at A) 0) ≡ 1 → FirstSide A r
    first-side-only o = placed-first-side A few r (c.named p r e) (from (first_side_at A) (omega arith) o)

    pub first-dependent-has : FirstDependent A r → bit_of p (get_or sets (first_dependent_at A) 0) ≡ 1
    first-dependent-has t = has (first_dependent_at A) (omega arith) (first-dependent-placed A r t)

    pub first-dependent-only : bit_of p (get_or sets (first_dependent_at A) 0) ≡ 1 → FirstDependent A r
    first-dependent-only o = placed-first-dependent A few r (c.named p r e) (from (first_dependent_at A) (omega arith) o)

    pub second-side-has : SecondSide A r → bit_of p (get_or sets (second_side_at A) 0) ≡ 1
    second-side-has t = has (second_side_at A) (omega arith) (second-side-placed A r t)

    pub second-side-only : bit_of p (get_or sets (second_side_at A) 0) ≡ 1 → SecondSide A r
    second-side-only o = placed-second-side A few r (c.named p r e) (from (second_side_at A) (omega arith) o)

    pub second-dependent-has : SecondDependent A r → bit_of p (get_or sets (second_dependent_at A) 0) ≡ 1
    second-dependent-has t = has (second_dependent_at A) (omega arith) (second-dependent-placed A r t)

    pub second-dependent-only : bit_of p (get_or sets (second_dependent_at A) 0) ≡ 1 → SecondDependent A r
    second-dependent-only o = placed-second-dependent A few r (c.named p r e) (from (second_dependent_at A) (omega arith) o)

-- The sets of the words that were looked at, in one.
pub record WordsSoFar (sets : List ℕ) (words rest set : ℕ) : Type 0 where
  pub left : (w : ℕ) → bit_of w rest ≡ 1 → bit_of w words ≡ 1
  pub has : (w p : ℕ) → bit_of w words ≡ 1 → bit_of w rest ≡ 0 → bit_of p set ≡ 0 → bit_of p (get_or sets (word_at w) 0) ≡ 0

module _ {sets : List ℕ} {words rest set : ℕ} (s : WordsSoFar sets words rest set) where
  -- A set of word numbers has none from its width on.
  pub word_small : {w : ℕ} → words < 2 ^ max_words → Least rest w → w < max_words
  word_small {w} fits least = elim (dec_lt w max_words) [
    | yes h ↦ h
    | no h ↦ absurd (omega (arith, s.left w least.has, bit-beyond max_words w words fits (omega arith)))
  ]

  pub words_more : {w rest' set' : ℕ} → Without rest w rest' → set' ≡ bit_or set (get_or sets (word_at w) 0) → WordsSoFar sets words rest' set'
  words_more {w} gone e =
      record {
        left = λ q o. s.left q (without-has gone q o);
        has = λ q p o z y.
            let (u, v) = or-bits p set (get_or sets (word_at w) 0) (sym (ap (bit_of p) e) ∙ y) in
            elim (without-lacks gone q z) [
              | inl k ↦ ap (λ (x : ℕ). bit_of p (get_or sets (word_at x) 0)) k ∙ v
              | inr k ↦ s.has q p o k u
            ];
      }

  pub words-end : rest ≡ 0 → OfWords sets words set
  words-end z w p o = s.has w p o (ap (bit_of w) z ∙ bit_of-zero w)
