-- Members of a list, and a test that every member passes. Assumes nothing.
use Rattle.utils.proofs.Prelude.{subst, ⊎_elim, Bool, true, ◌&&◌, List, [], ◌∷◌, ◌++◌, map, ℕ, zero, suc, ◌<◌, T, le_of_suc-le-suc, not-suc-le-zero}
use Rattle.std.proofs.Common.{eq-or-lt_of_le}
use Rattle.utils.specs.Lists.{down_from, join}
use Rattle.utils.proofs.Arms.{both}

pub data Mem {X : Type 0} : X → List X → Type 0 where
  first : {x : X} {xs : List X} → Mem x (x ∷ xs)
  later : {x y : X} {xs : List X} → Mem x xs → Mem x (y ∷ xs)

pub left : {X : Type 0} {x : X} {xs : List X} (ys : List X) → Mem x xs → Mem x (xs ++ ys)
left ys first = first
left ys (later m) = later (left ys m)

pub right : {X : Type 0} {x : X} (xs : List X) {ys : List X} → Mem x ys → Mem x (xs ++ ys)
right [] m = m
right (y ∷ xs) m = later (right xs m)

pub mapped : {X Y : Type 0} (f : X → Y) {x : X} {xs : List X} → Mem x xs → Mem (f x) (map f xs)
mapped f first = first
mapped f (later m) = later (mapped f m)

-- of a family that a number below n counts
pub within : {X : Type 0} (f : ℕ → X) (n k : ℕ) → k < n → Mem (f k) (map f (down_from n))
within f zero k h = absurd (not-suc-le-zero h)
within f (suc n) k h = ⊎_elim (λ e. subst (λ (m : ℕ). Mem (f k) (f m ∷ map f (down_from n))) e first) (λ l. later (within f n k l)) (eq-or-lt_of_le (le_of_suc-le-suc h))

-- of the n-th list of several
abbrev pub nth : {X : Type 0} → ℕ → List (List X) → List X
nth n [] = []
nth zero (b ∷ bs) = b
nth (suc n) (b ∷ bs) = nth n bs

pub inside : {X : Type 0} {x : X} (n : ℕ) (bs : List (List X)) → Mem x (nth n bs) → Mem x (join bs)
inside n [] m = m
inside zero (b ∷ bs) m = left (join bs) m
inside (suc n) (b ∷ bs) m = right b (inside n bs m)

-- a test that every member passes
unfoldable pub all : {X : Type 0} → (X → Bool) → List X → Bool
all f [] = true
all f (x ∷ xs) = f x && all f xs

pub all_at : {X : Type 0} (f : X → Bool) {x : X} {xs : List X} → T (all f xs) → Mem x xs → T (f x)
unfolding all
all_at f t (first {x = x} {xs = xs}) = (both (f x) (all f xs) t).0
all_at f t (later {y = y} {xs = xs} m) = all_at f (both (f y) (all f xs) t).1 m
