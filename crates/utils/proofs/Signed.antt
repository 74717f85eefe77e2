-- The laws of two's complement over a half H, once for every width, and the machine's reading of a signed number. Assumes nothing.
use Rattle.utils.proofs.Prelude.{◌≡◌, refl, sym, ap, ◌∙◌, subst, Bool, true, false, cond, ℕ, suc, ◌*◌, ◌-◌, ◌%◌, ◌^◌, ◌<◌, ◌≤◌, arith, ltb, T}
use Rattle.std.proofs.Common.{Option, Some, None}
use Rattle.utils.proofs.Prelude.{mod-eq_of_lt, ℤ, mag, and_mask, bit_and, w64, SFits, Fits, to_z, of_z, to_z-of_z, lt-ltb, le-ltb, ltb-true, ltb-false}
use native.Mathlib.Nat.{suc-sub-suc}
use Rattle.std.proofs.Common.{pos, negsuc, ◌-ℤ◌, nat_abs}
use lib.Signed.{lt_z, non_neg}
use lib.Bits.{and_le_r}
use mir.ValLaws.{to_z_pos}
use Rattle.utils.specs.declared.Sign.{Sign, TheVariants.Up, TheVariants.Down}
use Rattle.utils.specs.Signed.{signed, twos, parts, code_def}

-- ---- a test, both ways, with its equation
pub by_test : {X : Type 0} (b : Bool) → (b ≡ true → X) → (b ≡ false → X) → X
by_test true f g = f refl
by_test false f g = g refl

pub lt_or_le : {X : Type 0} (a b : ℕ) → (a < b → X) → (b ≤ a → X) → X
lt_or_le a b f g = by_test (ltb a b) (λ e. f (ltb-true a b e)) (λ e. g (ltb-false a b e))

-- ---- codes and integers
pub signed_low : (H y : ℕ) → y < H → signed H y ≡ pos y
signed_low H y h = simp (lt-ltb y H h)

pub signed_high : (H y : ℕ) → H ≤ y → signed H y ≡ negsuc (2 * H - 1 - y)
signed_high H y h = simp (le-ltb y H h)

-- a code's integer is in the range
pub signed_mag : (H y : ℕ) → y < 2 * H → mag (signed H y) < H
signed_mag H y h =
    lt_or_le y H
    (λ l. simp (lt-ltb y H l) l)
    (λ l. simp (le-ltb y H l) (omega arith))

-- and its code is the code
pub twos_signed : (H y : ℕ) → y < 2 * H → twos H (signed H y) ≡ y
twos_signed H y h =
    lt_or_le y H
    (λ l. simp (lt-ltb y H l))
    (λ l. simp (le-ltb y H l) (omega arith))

-- an integer in the range has a code
pub twos_lt : (H : ℕ) (z : ℤ) → mag z < H → twos H z < 2 * H
twos_lt H (pos n) h = omega arith
twos_lt H (negsuc m) h = omega arith

-- the code of a number is read as that number
pub signed_twos : (H : ℕ) (z : ℤ) → mag z < H → signed H (twos H z) ≡ z
signed_twos H (pos n) h = signed_low H n h
signed_twos H (negsuc m) h =
    signed_high H (2 * H - 1 - m) (omega arith) ∙ ap negsuc (omega arith)

-- ---- the machine's reading
-- a signed number that fits is read back as it was
pub kept : {z n : ℤ} → SFits w64 z → z ≡ n → to_z w64 (of_z w64 z) ≡ n
kept {z} f e = to_z-of_z w64 z f ∙ e

-- y - (n + 1), for y at most n
pub minus_full : (n y : ℕ) → y < suc n → pos y -ℤ pos (suc n) ≡ negsuc (n - y)
minus_full n y h = simp (lt-ltb y (suc n) h, suc-sub-suc)

minus : (z : ℤ) → lt_z z (pos 0) ≡ true → negsuc 0 -ℤ z ≡ pos (mag z)
minus (pos n) t = absurd (omega (arith, ltb-true n 0 t))
minus (negsuc m) t = simp (le-ltb (suc m) 1 (omega arith)) (ap pos (omega arith))

parts_down : (z : ℤ) → lt_z z (pos 0) ≡ true → Down (mag z) ≡ parts z
parts_down (pos n) t = absurd (omega (arith, ltb-true n 0 t))
parts_down (negsuc m) t = refl

parts_up : (z : ℤ) → lt_z z (pos 0) ≡ false → Up (nat_abs z) ≡ parts z
parts_up (pos n) t = refl
parts_up (negsuc m) t = absurd (subst T t tt)

-- a number of 64 bits that is not negative: its cast to `usize`
up_cast : (z : ℤ) → SFits w64 z → lt_z z (pos 0) ≡ false → T (non_neg z) × Fits w64 (nat_abs z)
up_cast (pos n) f t = (tt, record { fits = omega (arith, f.sfits) })
up_cast (negsuc m) f t = absurd (subst T t tt)

-- The tests and the operations are on to_z w64 (of_z w64 z), which is z where z fits: one module of what a branch on `z < 0` needs.
module _ (z : ℤ) (f : SFits w64 z) where
  read : to_z w64 (of_z w64 z) ≡ z
  read = kept f refl

  module _ (t : lt_z (to_z w64 (of_z w64 z)) (pos 0) ≡ true) where
    less : lt_z z (pos 0) ≡ true
    less = subst (λ (v : ℤ). lt_z v (pos 0) ≡ true) read t

    -- -1 - z
    pub below_is : negsuc 0 -ℤ to_z w64 (of_z w64 z) ≡ pos (mag z)
    below_is = ap (λ (v : ℤ). negsuc 0 -ℤ v) read ∙ minus z less

    pub below_fits : SFits w64 (negsuc 0 -ℤ to_z w64 (of_z w64 z))
    below_fits = subst (λ (v : ℤ). SFits w64 v) (sym below_is) (record { sfits = f.sfits })

    pub below_read : to_z w64 (of_z w64 (negsuc 0 -ℤ to_z w64 (of_z w64 z))) ≡ pos (mag z)
    below_read = kept below_fits below_is

    pub below_cast : T (non_neg (to_z w64 (of_z w64 (negsuc 0 -ℤ to_z w64 (of_z w64 z))))) × Fits w64 (nat_abs (to_z w64 (of_z w64 (negsuc 0 -ℤ to_z w64 (of_z w64 z)))))
    below_cast = subst (λ (v : ℤ). T (non_neg v) × Fits w64 (nat_abs v)) (sym below_read) (tt, record { fits = omega (arith, f.sfits) })

    pub below_parts : Down (nat_abs (to_z w64 (of_z w64 (negsuc 0 -ℤ to_z w64 (of_z w64 z))))) ≡ parts z
    below_parts = ap (λ (v : ℤ). Down (nat_abs v)) below_read ∙ parts_down z less

  module _ (t : lt_z (to_z w64 (of_z w64 z)) (pos 0) ≡ false) where
    not_less : lt_z z (pos 0) ≡ false
    not_less = subst (λ (v : ℤ). lt_z v (pos 0) ≡ false) read t

    pub above_cast : T (non_neg (to_z w64 (of_z w64 z))) × Fits w64 (nat_abs (to_z w64 (of_z w64 z)))
    above_cast = subst (λ (v : ℤ). T (non_neg v) × Fits w64 (nat_abs v)) (sym read) (up_cast z f not_less)

    pub above_parts : Up (nat_abs (to_z w64 (of_z w64 z))) ≡ parts z
    above_parts = ap (λ (v : ℤ). Up (nat_abs v)) read ∙ parts_up z not_less

-- ---- a code y below 2^12 becomes a signed number: y as it is, or y - 4096
module _ (n y : ℕ) (below : y < suc n) (small : suc n ≤ 2 ^ 63) where
  code_read : to_z w64 y ≡ pos y
  code_read = to_z_pos w64 y (omega arith)

  full_is : to_z w64 y -ℤ pos (suc n) ≡ negsuc (n - y)
  full_is = ap (λ (v : ℤ). v -ℤ pos (suc n)) code_read ∙ minus_full n y below

  pub full_fits : SFits w64 (to_z w64 y -ℤ pos (suc n))
  full_fits = subst (λ (v : ℤ). SFits w64 v) (sym full_is) (record { sfits = omega arith })

  pub full_read : to_z w64 (of_z w64 (to_z w64 y -ℤ pos (suc n))) ≡ negsuc (n - y)
  full_read = kept full_fits full_is

-- a register's value is its own extension
pub whole : (x : ℕ) → x < 2 ^ 64 → x ≡ twos (2 ^ 63) (signed (2 ^ 63) (x % (2 * 2 ^ 63)))
whole x h = sym (ap (λ (y : ℕ). twos (2 ^ 63) (signed (2 ^ 63) y)) (mod-eq_of_lt h) ∙ twos_signed (2 ^ 63) x h)

-- ---- an integer that `sign_of` took apart, put together again
abbrev pub joined : Sign → ℤ
joined (Up n) = pos n
joined (Down m) = negsuc m

joined_parts : (z : ℤ) → joined (parts z) ≡ z
joined_parts (pos n) = refl
joined_parts (negsuc m) = refl

-- After `match sign_of(z) { Up(n) => .. }`: s is the call's result, p its ensures (of z as the machine reads it back), q the arm's equation, and e
-- what the arm shows of f.
pub taken_apart : {X : Type 0} (f : ℤ → X) (z : ℤ) → SFits w64 z → {s t : Sign} {x : X} → s ≡ parts (to_z w64 (of_z w64 z)) → s ≡ t → x ≡ f (joined t) → x ≡ f z
taken_apart f z h p q e = e ∙ ap f (ap joined (sym q ∙ p) ∙ joined_parts (to_z w64 (of_z w64 z)) ∙ to_z-of_z w64 z h)

-- ---- an immediate's code, both ways
on : {X : Type 0} (P : X → Type 0) (pick : Bool → X) (b : Bool) → (b ≡ true → P (pick true)) → (b ≡ false → P (pick false)) → P (pick b)
on P pick true f g = f refl
on P pick false f g = g refl

not_out : {X : Type 0} (n : ℕ) → None ≡ Some n → X
not_out n q = let z : ◌≡◌ {A = ℕ} 0 1 = cc in absurd (omega arith)

pub code_signed : (H y : ℕ) → y < 2 * H → code_def H (signed H y) ≡ Some y
code_signed H y h = simp (lt-ltb (mag (signed H y)) H (signed_mag H y h)) (ap Some (twos_signed H y h))

pub code_is : (H : ℕ) (z : ℤ) (y : ℕ) → code_def H z ≡ Some y → (y < 2 * H) × (signed H y ≡ z)
code_is H z y =
    on (λ (k : (Option ℕ)). k ≡ Some y → (y < 2 * H) × (signed H y ≡ z)) (λ b. cond b (Some (twos H z)) None) (ltb (mag z) H)
    (λ e q. let same : twos H z ≡ y = cc in
    subst (λ (x : ℕ). (x < 2 * H) × (signed H x ≡ z)) same (twos_lt H z (ltb-true _ _ e), signed_twos H z (ltb-true _ _ e)))
    (λ e q. not_out y q)

-- ---- the low sixteen bits
-- a mask below 2^63 leaves no sign: x is a number as the machine keeps it
module _ (x : ℕ) {m : ℕ} (h : m < 2 ^ 63) where
  masked : to_z w64 (bit_and x m) ≡ pos (bit_and x m)
  masked = to_z_pos w64 _ (omega (arith, and_le_r x m))

  pub masked_cast : T (non_neg (to_z w64 (bit_and x m))) × Fits w64 (nat_abs (to_z w64 (bit_and x m)))
  masked_cast = subst (λ (v : ℤ). T (non_neg v) × Fits w64 (nat_abs v)) (sym masked) (tt, record { fits = omega (arith, and_le_r x m) })

pub low_bits : (z : ℤ) → nat_abs (to_z w64 (bit_and (of_z w64 z) 65535)) ≡ twos (2 ^ 63) z % 65536
low_bits z = ap nat_abs (masked (of_z w64 z) (omega arith)) ∙ and_mask (of_z w64 z) 16 ∙ ap (λ (n : ℕ). n % 65536) (code z)
  where
    code : (z : ℤ) → of_z w64 z ≡ twos (2 ^ 63) z
    code (pos n) = refl
    code (negsuc m) = omega arith

-- an immediate that they hold has them as its code: n is what `sixteen_bits` answers, of z as the machine reads it back
pub sixteen : (z : ℤ) → mag z < 32768 → {n : ℕ} → n ≡ twos (2 ^ 63) (to_z w64 (of_z w64 z)) % 65536 → n ≡ twos 32768 z
sixteen z h e = e ∙ ap (λ (v : ℤ). twos (2 ^ 63) v % 65536) (to_z-of_z w64 z (record { sfits = omega arith })) ∙ low z h
  where
    low : (z : ℤ) → mag z < 32768 → twos (2 ^ 63) z % 65536 ≡ twos 32768 z
    low (pos n) h = omega arith
    low (negsuc m) h = omega arith
