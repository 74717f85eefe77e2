-- What tests tell, and going by them. Assumes nothing.
use Rattle.utils.proofs.Prelude.{◌≡◌, refl, Bool, true, false, ◌&&◌, ◌||◌, cond, false≢true}

pub both : (a b : Bool) → (a && b) ≡ true → (a ≡ true) × (b ≡ true)
both true b e = (refl, e)
both false b e = absurd (false≢true e)

pub join : {a b : Bool} → a ≡ true → b ≡ true → (a && b) ≡ true
join p q = λ j. p j && q j

pub either : {X : Type 0} (a b : Bool) → (a || b) ≡ true → (a ≡ true → X) → (b ≡ true → X) → X
either true b e f g = f refl
either false b e f g = g e

pub on : {X : Type 0} (P : X → Type 0) (b : Bool) {x y : X} → (b ≡ true → P x) → (b ≡ false → P y) → P (cond b x y)
on P true f g = f refl
on P false f g = g refl
