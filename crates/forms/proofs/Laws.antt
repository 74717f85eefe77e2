-- Any good layout reads and writes without loss, once for all layouts. A word, and an operand of it, are both chains of digits; the layout says
-- that the two chains have the same digits. Assumes nothing.
use Rattle.utils.proofs.Prelude.{◌≡◌, refl, sym, ap, ◌∙◌, subst, Bool, true, ◌&&◌, cond, List, [], ◌∷◌, ℕ, zero, suc, ◌+◌, ◌*◌, ◌/◌, ◌%◌, ◌^◌, ◌<◌, arith, eqb, ltb, leb}
use Rattle.utils.proofs.Prelude.{mod-eq_of_lt, mod-lt, pow_pos, eq-eqb, eqb-true, lt-ltb, ltb-true}
use native.Mathlib.Nat.{mod-one, div-one}
use lib.Arith.{digits_lt}
use lib.Pow.{pow-add, mod-pow-add}
use Rattle.utils.proofs.Digits.{same_high, same_low}
use Rattle.forms.specs.Layout.{Operand, imm, rd, rs1, rs2, funct, csr, short, others, code, all, every}
use Rattle.forms.specs.Layout.{const, take, given, avoid, Layout, bits, place, width, matches, build, Source, from, lit, Piece, piece, insert, add, pieces}
use Rattle.forms.specs.Layout.{digit, gather, read, size, spares, readable, held, holds, chosen, fits, chain, constants, good}
use Rattle.utils.proofs.Tests.{both, join, on}
use Rattle.forms.proofs.Tests.{all_of}

-- ---- operands are known by their places
abbrev nth : Operand → List Operand → ℕ → Operand
nth x [] n = x
nth x (y ∷ ys) zero = x
nth x (y ∷ ys) (suc n) = nth y ys n

named : (x : Operand) → nth imm others (code x) ≡ x
named = elim [ imm ↦ refl | rd ↦ refl | rs1 ↦ refl | rs2 ↦ refl | funct ↦ refl | csr ↦ refl | short ↦ refl ]

same_op : (x y : Operand) → eqb (code x) (code y) ≡ true → x ≡ y
same_op x y e = sym (named x) ∙ ap (nth imm others) (eqb-true (code x) (code y) e) ∙ named y

all_nth : (p : Operand → Bool) (x : Operand) (xs : List Operand) (n : ℕ) → all p (x ∷ xs) ≡ true → p (nth x xs n) ≡ true
all_nth p x [] n e = e
all_nth p x (y ∷ ys) zero e = (both (all p (y ∷ ys)) (p x) e).1
all_nth p x (y ∷ ys) (suc n) e = all_nth p y ys n (both (all p (y ∷ ys)) (p x) e).0

pub every_at : (p : Operand → Bool) → every p ≡ true → (x : Operand) → p x ≡ true
every_at p e x = subst (λ (y : Operand). p y ≡ true) (named x) (all_nth p imm others (code x) e)

-- ---- digits
pub bits_lt : (w k n : ℕ) → bits w k n < 2 ^ n
bits_lt w zero n = mod-lt w (pow_pos n)
bits_lt w (suc k) n = mod-lt (w / 2 ^ suc k) (pow_pos n)

bits_is : (w k n : ℕ) → w % 2 ^ (n + k) ≡ bits w k n * 2 ^ k + w % 2 ^ k
bits_is w zero n = mod-pow-add w n 0 ∙ ap (λ (x : ℕ). x % 2 ^ n * 2 ^ 0 + w % 2 ^ 0) (div-one w)
bits_is w (suc k) n = mod-pow-add w n (suc k)

pub place_is : (d k r : ℕ) → r < 2 ^ k → place d k r ≡ d * 2 ^ k + r
place_is d zero r h = omega arith
place_is d (suc k) r h = refl

pub digit_lt : (w n : ℕ) (s : Source) → fits s n ≡ true → digit w s n < 2 ^ n
digit_lt w n (from k) e = bits_lt w k n
digit_lt w n (lit v) e = ltb-true v (2 ^ n) e

-- ---- a chain of digits
pub linked : (n a : ℕ) (s : Source) (ps : List Piece) (h : ℕ) → chain (piece n a s ∷ ps) h ≡ true → (h ≡ n + a) × ((fits s n ≡ true) × (chain ps a ≡ true))
linked n a s ps h e = let t = both (eqb h (n + a)) (fits s n && chain ps a) e in (eqb-true _ _ t.0, both (fits s n) (chain ps a) t.1)

pub gather_lt : (w : ℕ) (ps : List Piece) (h : ℕ) → chain ps h ≡ true → gather w ps < 2 ^ h
gather_lt w [] h e = pow_pos h
gather_lt w (piece n a s ∷ ps) h e =
    let t = linked n a s ps h e in
    let r = gather_lt w ps a t.1.1 in
    subst (λ (k : ℕ). place (digit w s n) a (gather w ps) < 2 ^ k) (sym t.0)
    (subst (λ (k : ℕ). k < 2 ^ (n + a)) (sym (place_is (digit w s n) a (gather w ps) r))
    (subst (λ (k : ℕ). digit w s n * 2 ^ a + gather w ps < k) (sym (pow-add 2 n a)) (digits_lt (digit_lt w n s t.1.0) r)))

-- what is said of each piece: R n a s of a piece of n bits from bit a on
abbrev Each : (ℕ → ℕ → Source → Type 0) → List Piece → Type 0
Each R [] = Unit {0}
Each R (piece n a s ∷ ps) = R n a s × Each R ps

-- sorted or not, the pieces are the same
module _ (R : ℕ → ℕ → Source → Type 0) (n a : ℕ) (s : Source) where
  put_in : (ps : List Piece) → R n a s → Each R ps → Each R (insert (piece n a s) ps)
  put_in [] e g = (e, g)
  put_in (piece m b t ∷ ps) e g = on (Each R) (leb b a) (λ _. (e, g)) (λ _. (g.0, put_in ps e g.1))

  out : (ps : List Piece) → Each R (insert (piece n a s) ps) → R n a s × Each R ps
  out [] = λ g. g
  out (piece m b t ∷ ps) =
      on (λ (l : List Piece). Each R l → R n a s × Each R (piece m b t ∷ ps)) (leb b a) (λ _ g. g) (λ _ g. let r = out ps g.1 in (r.0, (g.0, r.1)))

  add_in : (x y : Operand) (ps : List Piece) → (x ≡ y → R n a s) → Each R ps → Each R (add x y (piece n a s) ps)
  add_in x y ps h g = on (Each R) (eqb (code x) (code y)) (λ e. put_in ps (h (same_op x y e)) g) (λ _. g)

  add_rest : (x y : Operand) (ps : List Piece) → Each R (add x y (piece n a s) ps) → Each R ps
  add_rest x y ps = on (λ (l : List Piece). Each R l → Each R ps) (eqb (code x) (code y)) (λ _ g. (out ps g).1) (λ _ g. g)

  add_here : (y : Operand) (ps : List Piece) → Each R (add y y (piece n a s) ps) → R n a s
  add_here y ps g = (out ps (subst (λ (b : Bool). Each R (cond b (insert (piece n a s) ps) ps)) (eq-eqb (code y) (code y) refl) g)).0

-- v has the digits of w
abbrev Agrees : ℕ → ℕ → ℕ → ℕ → Source → Type 0
Agrees w v n a s = bits v a n ≡ digit w s n

-- v has the digits that are given
abbrev Given : ℕ → ℕ → ℕ → Source → Type 0
Given v n a (from k) = Unit {0}
Given v n a (lit u) = bits v a n ≡ u

abbrev pub Held : ℕ → List Piece → Type 0
Held v ps = Each (Given v) ps

pub held_true : (v : ℕ) (ps : List Piece) → held v ps ≡ true → Held v ps
held_true v [] e = tt
held_true v (piece n a (from k) ∷ ps) e = (tt, held_true v ps e)
held_true v (piece n a (lit u) ∷ ps) e = let t = both (held v ps) (eqb (bits v a n) u) e in (eqb-true _ _ t.1, held_true v ps t.0)

held_of : (w v : ℕ) (ps : List Piece) → Each (Agrees w v) ps → held v ps ≡ true
held_of w v [] g = refl
held_of w v (piece n a (from k) ∷ ps) g = held_of w v ps g.1
held_of w v (piece n a (lit u) ∷ ps) g = join (held_of w v ps g.1) (eq-eqb _ _ g.0)

-- v has the digits of w exactly when its low bits are what is gathered
agree_of : (w v : ℕ) (ps : List Piece) (h : ℕ) → chain ps h ≡ true → v % 2 ^ h ≡ gather w ps → Each (Agrees w v) ps
agree_of w v [] h e q = tt
agree_of w v (piece n a s ∷ ps) h e q =
    let t = linked n a s ps h e in
    let r = gather_lt w ps a t.1.1 in
    let p : bits v a n * 2 ^ a + v % 2 ^ a ≡ digit w s n * 2 ^ a + gather w ps =
    sym (bits_is v a n) ∙ ap (λ (k : ℕ). v % 2 ^ k) (sym t.0) ∙ q ∙ place_is (digit w s n) a (gather w ps) r in
    (same_high (2 ^ a) (mod-lt v (pow_pos a)) r p, agree_of w v ps a t.1.1 (same_low (2 ^ a) (bits v a n) (digit w s n) (mod-lt v (pow_pos a)) r p))

of_agree : (w v : ℕ) (ps : List Piece) (h : ℕ) → chain ps h ≡ true → Each (Agrees w v) ps → v % 2 ^ h ≡ gather w ps
of_agree w v [] h e g = ap (λ (k : ℕ). v % 2 ^ k) (eqb-true h 0 e) ∙ mod-one v
of_agree w v (piece n a s ∷ ps) h e g =
    let t = linked n a s ps h e in
    ap (λ (k : ℕ). v % 2 ^ k) t.0 ∙ bits_is v a n
    ∙ (λ j. g.0 j * 2 ^ a + of_agree w v ps a t.1.1 g.1 j) ∙ sym (place_is (digit w s n) a (gather w ps) (gather_lt w ps a t.1.1))

-- ---- the word as a chain of its own
abbrev frame : Layout → (Operand → ℕ) → List Piece
frame [] env = []
frame (const n v ∷ L) env = piece n (width L) (lit v) ∷ frame L env
frame (take x n a ∷ L) env = piece n (width L) (lit (bits (env x) a n)) ∷ frame L env
frame (given x n a v ∷ L) env = frame L env
frame (avoid x n a v ∷ L) env = frame L env

framed : (L : Layout) (env : Operand → ℕ) → constants L ≡ true → chain (frame L env) (width L) ≡ true
framed [] env e = refl
framed (const n v ∷ L) env e = let t = both (ltb v (2 ^ n)) (constants L) e in join (eq-eqb (n + width L) _ refl) (join t.0 (framed L env t.1))
framed (take x n a ∷ L) env e = join (eq-eqb (n + width L) _ refl) (join (lt-ltb _ _ (bits_lt (env x) a n)) (framed L env e))
framed (given x n a v ∷ L) env e = framed L env e
framed (avoid x n a v ∷ L) env e = framed L env e

built : (L : Layout) (env : Operand → ℕ) → gather 0 (frame L env) ≡ build L env
built [] env = refl
built (const n v ∷ L) env = ap (place v (width L)) (built L env)
built (take x n a ∷ L) env = ap (place (bits (env x) a n) (width L)) (built L env)
built (given x n a v ∷ L) env = built L env
built (avoid x n a v ∷ L) env = built L env

pub built_lt : (L : Layout) (env : Operand → ℕ) → constants L ≡ true → build L env < 2 ^ width L
built_lt L env e = subst (λ (k : ℕ). k < 2 ^ width L) (built L env) (gather_lt 0 (frame L env) (width L) (framed L env e))

-- ---- a word has the operands' digits exactly when each operand has the word's
module _ (env : Operand → ℕ) (w : ℕ) where
  down : (L : Layout) → Each (Agrees 0 w) (frame L env) → ((x : Operand) → Held (env x) (pieces L x)) → (x : Operand) → Each (Agrees w (env x)) (pieces L x)
  down [] g h x = tt
  down (const n v ∷ L) g h x = down L g.1 h x
  down (take y n a ∷ L) g h x =
      add_in (Agrees w (env x)) n a (from (width L)) x y (pieces L x) (λ e. ap (λ (z : Operand). bits (env z) a n) e ∙ sym g.0)
      (down L g.1 (λ z. add_rest (Given (env z)) n a (from (width L)) z y (pieces L z) (h z)) x)
  down (given y n a v ∷ L) g h x =
      add_in (Agrees w (env x)) n a (lit v) x y (pieces L x) (λ e. ap (λ (z : Operand). bits (env z) a n) e ∙ add_here (Given (env y)) n a (lit v) y (pieces L y) (h y))
      (down L g (λ z. add_rest (Given (env z)) n a (lit v) z y (pieces L z) (h z)) x)
  down (avoid y n a v ∷ L) g h x = down L g h x

  up : (L : Layout) → ((x : Operand) → Each (Agrees w (env x)) (pieces L x)) → matches L w ≡ true → Each (Agrees 0 w) (frame L env)
  up [] g m = tt
  up (const n v ∷ L) g m = let t = both (matches L w) (eqb (bits w (width L) n) v) m in (eqb-true _ _ t.1, up L g t.0)
  up (take y n a ∷ L) g m =
      (sym (add_here (Agrees w (env y)) n a (from (width L)) y (pieces L y) (g y)), up L (λ x. add_rest (Agrees w (env x)) n a (from (width L)) x y (pieces L x) (g x)) m)
  up (given y n a v ∷ L) g m = up L (λ x. add_rest (Agrees w (env x)) n a (lit v) x y (pieces L x) (g x)) m
  up (avoid y n a v ∷ L) g m = up L g m

  matched : (L : Layout) → Each (Agrees 0 w) (frame L env) → matches L w ≡ true
  matched [] g = refl
  matched (const n v ∷ L) g = join (matched L g.1) (eq-eqb _ _ g.0)
  matched (take x n a ∷ L) g = matched L g.1
  matched (given x n a v ∷ L) g = matched L g
  matched (avoid x n a v ∷ L) g = matched L g

-- what `holds` tells
pub holds_true : (L : Layout) (x : Operand) (v : ℕ) → holds L x v ≡ true → Held v (pieces L x) × (v < 2 ^ size L x)
holds_true L x v e = let t = both (held v (pieces L x)) (ltb v (2 ^ size L x)) e in (held_true v (pieces L x) t.0, ltb-true _ _ t.1)

-- ---- the law of a layout
module _ (L : Layout) (ok : good L ≡ true) where
  pub constant : constants L ≡ true
  constant = (both (constants L) (every (λ x. chain (pieces L x) (size L x))) ok).0

  pub chained : (x : Operand) → chain (pieces L x) (size L x) ≡ true
  chained = every_at (λ x. chain (pieces L x) (size L x)) (both (constants L) (every (λ x. chain (pieces L x) (size L x))) ok).1

  -- an operand that was read is in range
  pub read_lt : (w : ℕ) (x : Operand) → read L w x < 2 ^ size L x
  read_lt w x = gather_lt w (pieces L x) (size L x) (chained x)

  agrees : (w : ℕ) (x : Operand) → Each (Agrees w (read L w x)) (pieces L x)
  agrees w x = agree_of w (read L w x) (pieces L x) (size L x) (chained x) (mod-eq_of_lt (read_lt w x))

  -- and the layout can hold it
  pub read_holds : (w : ℕ) (x : Operand) → holds L x (read L w x) ≡ true
  read_holds w x = join (held_of w (read L w x) (pieces L x) (agrees w x)) (lt-ltb _ _ (read_lt w x))

  -- reading, then writing
  pub read_build : (w : ℕ) → w < 2 ^ width L → matches L w ≡ true → build L (read L w) ≡ w
  read_build w h m =
      sym (built L (read L w)) ∙ sym (of_agree 0 w (frame L (read L w)) (width L) (framed L (read L w) constant) (up (read L w) w L (agrees w) m)) ∙ mod-eq_of_lt h

  pub readable_chosen : (w : ℕ) → readable w L ≡ true → chosen (read L w) L ≡ true
  readable_chosen w e = join (all_of (λ x. holds L x (read L w x)) others (read_holds w)) (both (matches L w) (spares L (read L w)) e).1

  -- writing, then reading
  module _ (env : Operand → ℕ) where
    pub build_lt : build L env < 2 ^ width L
    build_lt = built_lt L env constant

    has : Each (Agrees 0 (build L env)) (frame L env)
    has = agree_of 0 (build L env) (frame L env) (width L) (framed L env constant) (mod-eq_of_lt build_lt ∙ sym (built L env))

    module _ (e : chosen env L ≡ true) (i : holds L imm (env imm) ≡ true) where
      able : (x : Operand) → Held (env x) (pieces L x) × (env x < 2 ^ size L x)
      able x = holds_true L x (env x) (every_at (λ x. holds L x (env x)) (join (both (all (λ x. holds L x (env x)) others) (spares L env) e).0 i) x)

      back : (x : Operand) → read L (build L env) x ≡ env x
      back x =
          sym (of_agree (build L env) (env x) (pieces L x) (size L x) (chained x) (down env (build L env) L has (λ z. (able z).0) x)) ∙ mod-eq_of_lt (able x).1

      pub chosen_back : read L (build L env) ≡ env
      chosen_back = λ j x. back x j

      pub chosen_readable : readable (build L env) L ≡ true
      chosen_readable =
          join (matched env (build L env) L has) (ap (spares L) chosen_back ∙ (both (all (λ x. holds L x (env x)) others) (spares L env) e).1)
