-- Shifts, masks and `|` read and write by a layout, once for all layouts: at a layout, `or_read` and `or_build` compute to the terms of code that joins
-- the pieces from the highest down. Assumes nothing.
use Rattle.utils.proofs.Prelude.{◌≡◌, refl, sym, ap, ◌∙◌, subst, true, List, [], ◌∷◌, ℕ, zero, suc, ◌+◌, ◌*◌, ◌-◌, ◌/◌, ◌%◌, ◌^◌, ◌<◌, ◌≤◌, arith, ltb, leb}
use Rattle.utils.proofs.Prelude.{pow_pos, and_mask, bit_and, ltb-true, leb-true}
use lib.Bits.{bit_or, or_shifted}
use lib.Pow.{pow-add, shl_lt}
use Rattle.utils.proofs.Bits.{mask_field, shl_field}
use Rattle.forms.specs.Layout.{Operand, const, take, given, avoid, Layout, bits, place, width, build, Source, from, lit, Piece, piece, pieces, digit, gather, read, size, chain, constants, good}
use Rattle.forms.proofs.Laws.{linked, bits_lt, place_is, digit_lt, gather_lt, constant, chained, built_lt}
use Rattle.utils.proofs.Tests.{both}

-- (w >> k) & (2^n - 1); d << a
abbrev pub masked : ℕ → ℕ → ℕ → ℕ
masked w zero n = bit_and w (2 ^ n - 1)
masked w (suc k) n = bit_and (w / 2 ^ suc k) (2 ^ n - 1)

abbrev pub shifted : ℕ → ℕ → ℕ
shifted d zero = d
shifted d (suc a) = (d * 2 ^ suc a) % 2 ^ 64

pub masked_is : (w k n : ℕ) → masked w k n ≡ bits w k n
masked_is w zero n = and_mask w n
masked_is w (suc k) n = mask_field w (suc k) n

shifted_is : (d n a : ℕ) → d < 2 ^ n → n + a ≤ 64 → shifted d a ≡ d * 2 ^ a
shifted_is d n zero h l = omega arith
shifted_is d n (suc a) h l = shl_field d n (suc a) h l

-- one more piece
module _ (acc q n a d : ℕ) (e : acc ≡ q * 2 ^ (n + a)) (h : d < 2 ^ n) (l : n + a ≤ 64) where
  or_step : bit_or acc (shifted d a) ≡ acc + d * 2 ^ a
  or_step =
      (λ j. bit_or (e j) (shifted_is d n a h l j)) ∙ or_shifted q (n + a) (d * 2 ^ a) (shl_lt n a h) ∙ ap (λ (x : ℕ). x + d * 2 ^ a) (sym e)

  next : acc + d * 2 ^ a ≡ (q * 2 ^ n + d) * 2 ^ a
  next = ap (λ (x : ℕ). x + d * 2 ^ a) (e ∙ ap (λ (x : ℕ). q * x) (pow-add 2 n a)) ∙ spread q (2 ^ n) (2 ^ a)
    where
      spread : (q x y : ℕ) → q * (x * y) + d * y ≡ (q * x + d) * y
      spread q x y = omega arith

-- ---- reading an operand
abbrev pub coded : ℕ → Source → ℕ → ℕ
coded w (from k) n = masked w k n
coded w (lit v) n = v

-- the pieces of an operand joined to acc; a constant 0 is left out
abbrev pub or_all : ℕ → ℕ → List Piece → ℕ
or_all w acc [] = acc
or_all w acc (piece n a (from k) ∷ ps) = or_all w (bit_or acc (shifted (masked w k n) a)) ps
or_all w acc (piece n a (lit zero) ∷ ps) = or_all w acc ps
or_all w acc (piece n a (lit (suc v)) ∷ ps) = or_all w (bit_or acc (shifted (suc v) a)) ps

abbrev pub or_read : ℕ → List Piece → ℕ
or_read w [] = 0
or_read w (piece n a s ∷ ps) = or_all w (shifted (coded w s n) a) ps

coded_is : (w : ℕ) (s : Source) (n : ℕ) → coded w s n ≡ digit w s n
coded_is w (from k) n = masked_is w k n
coded_is w (lit v) n = refl

add3 : (x y g : ℕ) → x + y + g ≡ x + (y + g)
add3 x y g = omega arith

low : (n a : ℕ) → n + a ≤ 64 → a ≤ 64
low n a l = omega arith

nought : (x y : ℕ) → x ≡ x + 0 * y
nought x y = omega arith

abbrev Rest : ℕ → List Piece → ℕ → Type 0
Rest w ps a = (q acc : ℕ) → acc ≡ q * 2 ^ a → or_all w acc ps ≡ acc + gather w ps

or_all_lem : (w : ℕ) (ps : List Piece) (h q acc : ℕ) → chain ps h ≡ true → h ≤ 64 → acc ≡ q * 2 ^ h → or_all w acc ps ≡ acc + gather w ps
or_all_lem w [] h q acc c l e = omega arith
or_all_lem w (piece n a s ∷ ps) h q acc c l e =
    let t = linked n a s ps h c in
    let m : n + a ≤ 64 = subst (λ (x : ℕ). x ≤ 64) t.0 l in
    go s (digit_lt w n s t.1.0) m (e ∙ ap (λ (x : ℕ). q * 2 ^ x) t.0) t.1.1 (λ q' acc' e'. or_all_lem w ps a q' acc' t.1.1 (low n a m) e')
  where
    one : (d : ℕ) → d < 2 ^ n → n + a ≤ 64 → acc ≡ q * 2 ^ (n + a) → chain ps a ≡ true → Rest w ps a → or_all w (acc + d * 2 ^ a) ps ≡ acc + place d a (gather w ps)
    one d h l e f rest =
        rest (q * 2 ^ n + d) (acc + d * 2 ^ a) (next acc q n a d e h l)
        ∙ add3 acc (d * 2 ^ a) (gather w ps) ∙ ap (λ (x : ℕ). acc + x) (sym (place_is d a (gather w ps) (gather_lt w ps a f)))

    go : (s : Source) → digit w s n < 2 ^ n → n + a ≤ 64 → acc ≡ q * 2 ^ (n + a) → chain ps a ≡ true → Rest w ps a → or_all w acc (piece n a s ∷ ps) ≡ acc + place (digit w s n) a (gather w ps)
    go (from k) h l e f rest =
        ap (λ (x : ℕ). or_all w (bit_or acc (shifted x a)) ps) (masked_is w k n) ∙ ap (λ (x : ℕ). or_all w x ps) (or_step acc q n a (bits w k n) e h l) ∙ one (bits w k n) h l e f rest
    go (lit zero) h l e f rest = ap (λ (x : ℕ). or_all w x ps) (nought acc (2 ^ a)) ∙ one 0 h l e f rest
    go (lit (suc v)) h l e f rest = ap (λ (x : ℕ). or_all w x ps) (or_step acc q n a (suc v) e h l) ∙ one (suc v) h l e f rest

or_read_lem : (w : ℕ) (ps : List Piece) (h : ℕ) → chain ps h ≡ true → h ≤ 64 → or_read w ps ≡ gather w ps
or_read_lem w [] h c l = refl
or_read_lem w (piece n a s ∷ ps) h c l =
    let t = linked n a s ps h c in
    let le : n + a ≤ 64 = subst (λ (x : ℕ). x ≤ 64) t.0 l in
    ap (λ (x : ℕ). or_all w (shifted x a) ps) (coded_is w s n) ∙ ap (λ (x : ℕ). or_all w x ps) (shifted_is (digit w s n) n a (digit_lt w n s t.1.0) le)
    ∙ or_all_lem w ps a (digit w s n) (digit w s n * 2 ^ a) t.1.1 (low n a le) refl ∙ sym (place_is (digit w s n) a (gather w ps) (gather_lt w ps a t.1.1))

-- what the code gathers of a word is the operand
pub gathered : (L : Layout) → good L ≡ true → (x : Operand) → leb (size L x) 64 ≡ true → (w : ℕ) → or_read w (pieces L x) ≡ read L w x
gathered L ok x l w = or_read_lem w (pieces L x) (size L x) (chained L ok x) (leb-true _ _ l)

-- ---- writing a word
abbrev pub or_on : Layout → (Operand → ℕ) → ℕ → ℕ
or_on [] env acc = acc
or_on (const n zero ∷ L) env acc = or_on L env acc
or_on (const n (suc v) ∷ L) env acc = or_on L env (bit_or acc (shifted (suc v) (width L)))
or_on (take x n a ∷ L) env acc = or_on L env (bit_or acc (shifted (masked (env x) a n) (width L)))
or_on (given x n a v ∷ L) env acc = or_on L env acc
or_on (avoid x n a v ∷ L) env acc = or_on L env acc

abbrev pub or_build : Layout → (Operand → ℕ) → ℕ
or_build [] env = 0
or_build (const n v ∷ L) env = or_on L env (shifted v (width L))
or_build (take x n a ∷ L) env = or_on L env (shifted (masked (env x) a n) (width L))
or_build (given x n a v ∷ L) env = or_build L env
or_build (avoid x n a v ∷ L) env = or_build L env

module _ (env : Operand → ℕ) where
  on_one : (L : Layout) (acc q n d : ℕ) → constants L ≡ true → d < 2 ^ n → n + width L ≤ 64 → acc ≡ q * 2 ^ (n + width L)
      → ((q acc : ℕ) → acc ≡ q * 2 ^ width L → or_on L env acc ≡ acc + build L env) → or_on L env (acc + d * 2 ^ width L) ≡ acc + place d (width L) (build L env)
  on_one L acc q n d c h l e rest =
      rest (q * 2 ^ n + d) (acc + d * 2 ^ width L) (next acc q n (width L) d e h l)
      ∙ add3 acc (d * 2 ^ width L) (build L env) ∙ ap (λ (x : ℕ). acc + x) (sym (place_is d (width L) (build L env) (built_lt L env c)))

  or_on_lem : (L : Layout) (acc q : ℕ) → constants L ≡ true → width L ≤ 64 → acc ≡ q * 2 ^ width L → or_on L env acc ≡ acc + build L env
  or_on_lem [] acc q c l e = omega arith
  or_on_lem (const n zero ∷ L) acc q c l e =
      let t = both (ltb 0 (2 ^ n)) (constants L) c in
      ap (or_on L env) (nought acc (2 ^ width L)) ∙ on_one L acc q n 0 t.1 (pow_pos n) l e (λ q' acc' e'. or_on_lem L acc' q' t.1 (low n (width L) l) e')
  or_on_lem (const n (suc v) ∷ L) acc q c l e =
      let t = both (ltb (suc v) (2 ^ n)) (constants L) c in
      let h = ltb-true (suc v) (2 ^ n) t.0 in
      ap (or_on L env) (or_step acc q n (width L) (suc v) e h l) ∙ on_one L acc q n (suc v) t.1 h l e (λ q' acc' e'. or_on_lem L acc' q' t.1 (low n (width L) l) e')
  or_on_lem (take x n a ∷ L) acc q c l e =
      ap (λ (z : ℕ). or_on L env (bit_or acc (shifted z (width L)))) (masked_is (env x) a n) ∙ ap (or_on L env) (or_step acc q n (width L) (bits (env x) a n) e (bits_lt (env x) a n) l)
      ∙ on_one L acc q n (bits (env x) a n) c (bits_lt (env x) a n) l e (λ q' acc' e'. or_on_lem L acc' q' c (low n (width L) l) e')
  or_on_lem (given x n a v ∷ L) acc q c l e = or_on_lem L acc q c l e
  or_on_lem (avoid x n a v ∷ L) acc q c l e = or_on_lem L acc q c l e

  or_build_lem : (L : Layout) → constants L ≡ true → width L ≤ 64 → or_build L env ≡ build L env
  or_build_lem [] c l = refl
  or_build_lem (const n v ∷ L) c l =
      let t = both (ltb v (2 ^ n)) (constants L) c in
      ap (or_on L env) (shifted_is v n (width L) (ltb-true v (2 ^ n) t.0) l) ∙ or_on_lem L (v * 2 ^ width L) v t.1 (low n (width L) l) refl
      ∙ sym (place_is v (width L) (build L env) (built_lt L env t.1))
  or_build_lem (take x n a ∷ L) c l =
      ap (λ (z : ℕ). or_on L env (shifted z (width L))) (masked_is (env x) a n) ∙ ap (or_on L env) (shifted_is (bits (env x) a n) n (width L) (bits_lt (env x) a n) l)
      ∙ or_on_lem L (bits (env x) a n * 2 ^ width L) (bits (env x) a n) c (low n (width L) l) refl ∙ sym (place_is (bits (env x) a n) (width L) (build L env) (built_lt L env c))
  or_build_lem (given x n a v ∷ L) c l = or_build_lem L c l
  or_build_lem (avoid x n a v ∷ L) c l = or_build_lem L c l

-- what the code puts together is the word
pub put_together : (L : Layout) → good L ≡ true → leb (width L) 64 ≡ true → (env : Operand → ℕ) → or_build L env ≡ build L env
put_together L ok l env = or_build_lem env L (constant L ok) (leb-true _ _ l)
