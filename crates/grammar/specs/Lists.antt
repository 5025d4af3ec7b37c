-- Words on lists that the definitions share. Nothing here is particular to grammars.
use Rattle.std.specs.Prelude.{ℕ, zero, suc, Bool, true, false, ◌&&◌, ◌||◌}
use mathlib.Core.List.{List, [], ◌∷◌, ◌++◌, Memᴰ}

-- x stands at place k of the list, counted from 0
pub data Stands {A : Type 0} : List A → ℕ → A → Type 0 where
  here : {x : A} {l : List A} → Stands (x ∷ l) 0 x
  there : {x y : A} {l : List A} {k : ℕ} → Stands l k x → Stands (y ∷ l) (suc k) x

-- no element stands twice
pub data Distinct {A : Type 0} : List A → Type 0 where
  none : Distinct []
  more : {x : A} {l : List A} → (Memᴰ x l → ⊥) → Distinct l → Distinct (x ∷ l)

-- f of each element, one after the other
abbrev pub concat_map : {A B : Type 0} → (A → List B) → List A → List B
concat_map f [] = []
concat_map f (x ∷ l) = f x ++ concat_map f l

-- x where the test holds
abbrev pub only : {A : Type 0} → Bool → A → List A
only true x = x ∷ []
only false x = []

-- n - 1, .., 1, 0
abbrev pub up_to : ℕ → List ℕ
up_to zero = []
up_to (suc n) = n ∷ up_to n

-- does the test hold of every element; of some one?
abbrev pub all_of : {A : Type 0} → (A → Bool) → List A → Bool
all_of test [] = true
all_of test (x ∷ l) = test x && all_of test l

abbrev pub some_of : {A : Type 0} → (A → Bool) → List A → Bool
some_of test [] = false
some_of test (x ∷ l) = test x || some_of test l

-- Two lists compared from the left: the first place at which they differ decides, and there the first list's element is before the other's.
-- Or they nowhere differ. Lists of which one ends within the other are not in order.
pub data NotAfter {A : Type 0} (before : A → A → Type 0) : List A → List A → Type 0 where
  ended : NotAfter before [] []
  sooner : {x y : A} {l m : List A} → before x y → NotAfter before (x ∷ l) (y ∷ m)
  agreed : {x : A} {l m : List A} → NotAfter before l m → NotAfter before (x ∷ l) (x ∷ m)
