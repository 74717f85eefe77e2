-- What is known of a word, field by field, decides which form of a table reads it: computed tests over any table, so that code which has tested some
-- fields needs to name no form. Assumes nothing.
use Rattle.utils.proofs.Prelude.{◌≡◌, refl, sym, ap, ◌∙◌, Bool, true, false, ◌&&◌, ◌||◌, not, cond, false≢true, List, [], ◌∷◌, ℕ, zero, suc, ◌+◌, ◌*◌, ◌/◌, ◌%◌, ◌^◌, ◌<◌, ◌≤◌, arith, eqb, ltb}
use Rattle.std.proofs.Common.{Ok}
use Rattle.utils.proofs.Prelude.{mod-eq_of_lt, eq-eqb, ne_eqb, eqb-true, ltb-true}
use native.Mathlib.Nat.{mod-one}
use lib.Pow.{mod-pow-add, shr-shr}
use Rattle.utils.proofs.Tests.{both, join, either, on}
use Rattle.refusals.specs.declared.Refusal.{Refusal}
use Rattle.forms.specs.Layout.{Layout, const, take, given, avoid, Operand, all, bits, width, matches, spares, Piece, piece, from, lit, pieces, gather, read, readable, constants, good}
use Rattle.forms.specs.Sound.{first, any, Bit, bit, spread, of_word, clash}
use Rattle.forms.specs.Meaning.{Meaning, read_as, read_of}
use Rattle.forms.proofs.Tests.{all_by, not_any}
use Rattle.forms.proofs.Laws.{bits_lt, constant}
use Rattle.forms.proofs.Shifts.{masked, masked_is}
use Rattle.forms.proofs.Sound.{bits_fld, Has, spread_has, word_has, clash_not}

-- ---- what is known of a number
pub data Fact : Type 0 where
  is : ℕ → ℕ → ℕ → Fact  -- is k n v: its n bits from bit k on are v
  isnt : ℕ → ℕ → ℕ → Fact  -- isnt k n v: they are not v
  under : ℕ → Fact  -- under n: it is below 2 ^ n
  over : ℕ → Fact  -- over n: it is not

abbrev pub Known : ℕ → List Fact → Type 0
Known w [] = Unit {0}
Known w (is k n v ∷ fs) = (bits w k n ≡ v) × Known w fs
Known w (isnt k n v ∷ fs) = (bits w k n ≡ v → ⊥) × Known w fs
Known w (under n ∷ fs) = (w < 2 ^ n) × Known w fs
Known w (over n ∷ fs) = (2 ^ n ≤ w) × Known w fs

abbrev pub of_facts : List Fact → List Bit
of_facts [] = []
of_facts (is k n v ∷ fs) = spread n k v (of_facts fs)
of_facts (isnt k n v ∷ fs) = of_facts fs
of_facts (under n ∷ fs) = of_facts fs
of_facts (over n ∷ fs) = of_facts fs

-- what code's shift and mask show
module _ (w k n : ℕ) {v : ℕ} where
  pub seen : masked w k n ≡ v → bits w k n ≡ v
  seen e = sym (masked_is w k n) ∙ e

  pub unseen : (masked w k n ≡ v → ⊥) → bits w k n ≡ v → ⊥
  unseen f e = f (masked_is w k n ∙ e)

-- every bit of ks is one of js
abbrev sees : ℕ → ℕ → List Bit → Bool
sees k v [] = false
sees k v (bit j u ∷ js) = (eqb j k && eqb u v) || sees k v js

abbrev pub tells : List Bit → List Bit → Bool
tells js [] = true
tells js (bit k v ∷ ks) = sees k v js && tells js ks

-- a number that has the bits ks has a field that it is known not to have
abbrev pub bans : List Fact → List Bit → Bool
bans [] ks = false
bans (is k n v ∷ fs) ks = bans fs ks
bans (isnt k n v ∷ fs) ks = (ltb v (2 ^ n) && tells ks (spread n k v [])) || bans fs ks
bans (under n ∷ fs) ks = bans fs ks
bans (over n ∷ fs) ks = bans fs ks

-- the number cannot have the bits ks
abbrev pub denies : List Fact → List Bit → Bool
denies fs ks = clash ks (of_facts fs) || bans fs ks

-- ---- what these tests mean
module _ (w : ℕ) where
  pub known_has : (fs : List Fact) → Known w fs → Has w (of_facts fs)
  known_has [] h = tt
  known_has (is k n v ∷ fs) h = spread_has w n k v (of_facts fs) h.0 (known_has fs h.1)
  known_has (isnt k n v ∷ fs) h = known_has fs h.1
  known_has (under n ∷ fs) h = known_has fs h.1
  known_has (over n ∷ fs) h = known_has fs h.1

  sees_is : (k v : ℕ) (js : List Bit) → Has w js → sees k v js ≡ true → bits w k 1 ≡ v
  sees_is k v [] h e = absurd (false≢true e)
  sees_is k v (bit j u ∷ js) h e =
      either (eqb j k && eqb u v) (sees k v js) e
      (λ q. let t = both (eqb j k) (eqb u v) q in ap (λ (i : ℕ). bits w i 1) (sym (eqb-true j k t.0)) ∙ h.0 ∙ eqb-true u v t.1)
      (λ q. sees_is k v js h.1 q)

  pub tells_has : (js ks : List Bit) → Has w js → tells js ks ≡ true → Has w ks
  tells_has js [] h e = tt
  tells_has js (bit k v ∷ ks) h e = let t = both (sees k v js) (tells js ks) e in (sees_is k v js h t.0, tells_has js ks h t.1)

  pub spread_rest : (n k v : ℕ) (r : List Bit) → Has w (spread n k v r) → Has w r
  spread_rest zero k v r h = h
  spread_rest (suc n) k v r h = spread_rest n k v r h.1

  -- bits make a field
  field_mod : (n k v : ℕ) (r : List Bit) → Has w (spread n k v r) → bits w k n ≡ v % 2 ^ n
  field_mod zero k v r h = bits_fld w k 0 ∙ mod-one _ ∙ sym (mod-one v)
  field_mod (suc n) k v r h =
      bits_fld w k (suc n) ∙ top (w / 2 ^ k)
      ∙ (λ j. (ap (λ (x : ℕ). x % 2 ^ 1) (shr-shr w k n) ∙ sym (bits_fld w (k + n) 1) ∙ h.0 ∙ bits_fld v n 1) j * 2 ^ n + (sym (bits_fld w k n) ∙ field_mod n k v r h.1) j)
      ∙ sym (top v)
    where
      next : suc n ≡ 1 + n
      next = omega arith

      top : (x : ℕ) → x % 2 ^ suc n ≡ x / 2 ^ n % 2 ^ 1 * 2 ^ n + x % 2 ^ n
      top x = ap (λ (m : ℕ). x % 2 ^ m) next ∙ mod-pow-add x 1 n

  pub field_is : (n k v : ℕ) (r : List Bit) → ltb v (2 ^ n) ≡ true → Has w (spread n k v r) → bits w k n ≡ v
  field_is n k v r l h = field_mod n k v r h ∙ mod-eq_of_lt (ltb-true v (2 ^ n) l)

  bans_not : (fs : List Fact) (ks : List Bit) → Known w fs → bans fs ks ≡ true → Has w ks → ⊥
  bans_not [] ks h e g = false≢true e
  bans_not (is k n v ∷ fs) ks h e g = bans_not fs ks h.1 e g
  bans_not (isnt k n v ∷ fs) ks h e g =
      either (ltb v (2 ^ n) && tells ks (spread n k v [])) (bans fs ks) e
      (λ q. let t = both (ltb v (2 ^ n)) (tells ks (spread n k v [])) q in h.0 (field_is n k v [] t.0 (tells_has ks (spread n k v []) g t.1)))
      (λ q. bans_not fs ks h.1 q g)
  bans_not (under n ∷ fs) ks h e g = bans_not fs ks h.1 e g
  bans_not (over n ∷ fs) ks h e g = bans_not fs ks h.1 e g

  pub denies_not : (fs : List Fact) (ks : List Bit) → Known w fs → denies fs ks ≡ true → Has w ks → ⊥
  denies_not fs ks h e g =
      either (clash ks (of_facts fs)) (bans fs ks) e (λ q. clash_not w ks (of_facts fs) g (known_has fs h) q) (λ q. bans_not fs ks h q g)

  -- a field that is told, and one that is denied
  module _ (fs : List Fact) (h : Known w fs) (k n v : ℕ) where
    pub is_told : (ltb v (2 ^ n) && tells (of_facts fs) (spread n k v [])) ≡ true → bits w k n ≡ v
    is_told e =
        let t = both (ltb v (2 ^ n)) (tells (of_facts fs) (spread n k v [])) e in
        field_is n k v [] t.0 (tells_has (of_facts fs) (spread n k v []) (known_has fs h) t.1)

    pub is_denied : denies fs (spread n k v []) ≡ true → bits w k n ≡ v → ⊥
    is_denied e q = denies_not fs (spread n k v []) h e (spread_has w n k v [] q tt)

-- ---- a form: its constants, and what its operands must not be
-- p of the place of the operand in the word, where the operand is one field of n bits
abbrev whole : ℕ → List Piece → (ℕ → Bool) → Bool
whole n [] p = false
whole n (piece m b (lit u) ∷ ps) p = false
whole n (piece m b (from k) ∷ (q ∷ ps)) p = false
whole n (piece m (suc b) (from k) ∷ []) p = false
whole n (piece m zero (from k) ∷ []) p = eqb m n && p k

-- what an operand must not be, by the form
pub data Off : Type 0 where
  off : Operand → ℕ → ℕ → ℕ → Off  -- off x n a v: the n bits of x from bit a on are not v

abbrev pub offs : Layout → List Off
offs [] = []
offs (const n v ∷ L) = offs L
offs (take x n a ∷ L) = offs L
offs (given x n a v ∷ L) = offs L
offs (avoid x n a v ∷ L) = off x n a v ∷ offs L

abbrev pub spare : (Operand → ℕ) → Off → Bool
spare env (off x n a v) = not (eqb (bits (env x) a n) v)

pub spares_is : (env : Operand → ℕ) (L : Layout) → all (spare env) (offs L) ≡ spares L env
spares_is env [] = refl
spares_is env (const n v ∷ L) = spares_is env L
spares_is env (take x n a ∷ L) = spares_is env L
spares_is env (given x n a v ∷ L) = spares_is env L
spares_is env (avoid x n a v ∷ L) = ap (λ (b : Bool). b && spare env (off x n a v)) (spares_is env L)

-- an operand of L is not that; it is
abbrev spared : List Fact → Layout → Off → Bool
spared fs L (off x n a v) = eqb a 0 && whole n (pieces L x) (λ k. denies fs (spread n k v []))

abbrev barred : List Fact → Layout → Off → Bool
barred fs L (off x n a v) = eqb a 0 && whole n (pieces L x) (λ k. ltb v (2 ^ n) && tells (of_facts fs) (spread n k v []))

-- the form reads the word; it does not
abbrev pub opens : List Fact → Layout → Bool
opens fs L = tells (of_facts fs) (of_word L) && all (spared fs L) (offs L)

abbrev pub shuts : List Fact → Layout → Bool
shuts fs L = denies fs (of_word L) || any (barred fs L) (offs L)

module _ (w : ℕ) where
  has_matches : (L : Layout) → constants L ≡ true → Has w (of_word L) → matches L w ≡ true
  has_matches [] c h = refl
  has_matches (const n v ∷ L) c h =
      let t = both (ltb v (2 ^ n)) (constants L) c in
      join (has_matches L t.1 (spread_rest w n (width L) v (of_word L) h)) (eq-eqb _ _ (field_is w n (width L) v (of_word L) t.0 h))
  has_matches (take x n a ∷ L) c h = has_matches L c h
  has_matches (given x n a v ∷ L) c h = has_matches L c h
  has_matches (avoid x n a v ∷ L) c h = has_matches L c h

  whole_read : (n : ℕ) (ps : List Piece) (p : ℕ → Bool) → whole n ps p ≡ true → (k : ℕ) × ((p k ≡ true) × (bits (gather w ps) 0 n ≡ bits w k n))
  whole_read n [] p e = absurd (false≢true e)
  whole_read n (piece m b (lit u) ∷ ps) p e = absurd (false≢true e)
  whole_read n (piece m b (from k) ∷ (q ∷ ps)) p e = absurd (false≢true e)
  whole_read n (piece m (suc b) (from k) ∷ []) p e = absurd (false≢true e)
  whole_read n (piece m zero (from k) ∷ []) p e =
      let t = both (eqb m n) (p k) e in
      let same : m ≡ n = eqb-true m n t.0 in
      (k, (t.1, ap (λ (i : ℕ). bits w k i % 2 ^ n) same ∙ mod-eq_of_lt (bits_lt w k n)))

  module _ (fs : List Fact) (h : Known w fs) (L : Layout) where
    -- the operand's bits from bit a on are a field of the word
    placed : (n a : ℕ) (ps : List Piece) (p : ℕ → Bool) → (eqb a 0 && whole n ps p) ≡ true → (k : ℕ) × ((p k ≡ true) × (bits (gather w ps) a n ≡ bits w k n))
    placed n a ps p e =
        let t = both (eqb a 0) (whole n ps p) e in
        let r = whole_read n ps p t.1 in
        (r.0, (r.1.0, ap (λ (i : ℕ). bits (gather w ps) i n) (eqb-true a 0 t.0) ∙ r.1.1))

    is_spared : (o : Off) → spared fs L o ≡ true → spare (read L w) o ≡ true
    is_spared (off x n a v) e =
        let r = placed n a (pieces L x) (λ k. denies fs (spread n k v [])) e in
        ap not (ne_eqb _ _ (λ q. is_denied w fs h r.0 n v r.1.0 (sym r.1.1 ∙ q)))

    is_barred : (o : Off) → spare (read L w) o ≡ true → barred fs L o ≡ true → ⊥
    is_barred (off x n a v) s e =
        let r = placed n a (pieces L x) (λ k. ltb v (2 ^ n) && tells (of_facts fs) (spread n k v [])) e in
        false≢true (ap not (sym (eq-eqb _ _ (r.1.1 ∙ is_told w fs h r.0 n v r.1.0))) ∙ s)

    pub opened : constants L ≡ true → opens fs L ≡ true → readable w L ≡ true
    opened c e =
        let t = both (tells (of_facts fs) (of_word L)) (all (spared fs L) (offs L)) e in
        join (has_matches L c (tells_has w (of_facts fs) (of_word L) (known_has w fs h) t.0))
        (sym (spares_is (read L w) L) ∙ all_by (spared fs L) (spare (read L w)) is_spared (offs L) t.1)

    pub shut : shuts fs L ≡ true → readable w L ≡ true → ⊥
    shut e r =
        let t = both (matches L w) (spares L (read L w)) r in
        let s = spares_is (read L w) L ∙ t.1 in
        either (denies fs (of_word L)) (any (barred fs L) (offs L)) e
        (λ q. denies_not w fs (of_word L) h q (word_has w L t.0))
        (λ q. not_any (barred fs L) (spare (read L w)) (spare (read L w)) (offs L) s s (λ o p _ b. is_barred o p b) q)

-- ---- a table: the facts settle every form of it
abbrev pub settles : List Fact → List Layout → Bool
settles fs T = all (λ L. shuts fs L || opens fs L) T

abbrev pub fits : List Fact → Layout → Bool
fits fs L = not (shuts fs L)

-- s L says that a good form L does not pass p, and o L that it does
module _ (p s o : Layout → Bool) (no : (L : Layout) → s L ≡ true → p L ≡ true → ⊥) (yes : (L : Layout) → good L ≡ true → o L ≡ true → p L ≡ true) where
  pub settled : (T : List Layout) (n : Refusal) → all good T ≡ true → all (λ L. s L || o L) T ≡ true → first p T n ≡ first (λ L. not (s L)) T n
  settled [] n g e = refl
  settled (L ∷ T) n g e =
      let a = both (all good T) (good L) g in
      let b = both (all (λ M. s M || o M) T) (s L || o L) e in
      go (s L) refl (p L) refl b.1 a.1 (settled T n a.0 b.0)
    where
      go : (x : Bool) → s L ≡ x → (y : Bool) → p L ≡ y → (x || o L) ≡ true → good L ≡ true → first p T n ≡ first (λ M. not (s M)) T n
          → cond y (Ok L) (first p T n) ≡ cond (not x) (Ok L) (first (λ M. not (s M)) T n)
      go true a true b e g rest = absurd (no L a b)
      go true a false b e g rest = rest
      go false a true b e g rest = refl
      go false a false b e g rest = absurd (false≢true (sym b ∙ yes L g e))

-- ---- refusals of a word that has no form, by its fields: the first that the word has gives the refusal
pub data Reason : Type 0 where
  reason : ℕ → ℕ → ℕ → Refusal → Reason  -- reason k n v m: m, where the n bits from bit k on are v

abbrev pub refusal_by : List Reason → Refusal → ℕ → Refusal
refusal_by [] last w = last
refusal_by (reason k n v m ∷ rs) last w = cond (eqb (bits w k n) v) m (refusal_by rs last w)

abbrev pub refusal_known : List Fact → List Reason → Refusal → Refusal
refusal_known fs [] last = last
refusal_known fs (reason k n v m ∷ rs) last = cond (denies fs (spread n k v [])) (refusal_known fs rs last) m

-- the refusal is settled: a reason that is not denied is told, and no later one is asked
abbrev pub clears : List Fact → List Reason → Bool
clears fs [] = true
clears fs (reason k n v m ∷ rs) = (denies fs (spread n k v []) && clears fs rs) || (ltb v (2 ^ n) && tells (of_facts fs) (spread n k v []))

refusal_known_lem : (w : ℕ) (fs : List Fact) → Known w fs → (rs : List Reason) (last : Refusal) → clears fs rs ≡ true → refusal_by rs last w ≡ refusal_known fs rs last
refusal_known_lem w fs h [] last e = refl
refusal_known_lem w fs h (reason k n v m ∷ rs) last e =
    either (denies fs (spread n k v []) && clears fs rs) (ltb v (2 ^ n) && tells (of_facts fs) (spread n k v [])) e
    (λ q.
    let t = both (denies fs (spread n k v [])) (clears fs rs) q in
    (λ j. cond (ne_eqb (bits w k n) v (is_denied w fs h k n v t.0) j) m (refusal_known_lem w fs h rs last t.1 j)) ∙ ap (λ (b : Bool). cond b (refusal_known fs rs last) m) (sym t.0))
    (λ q.
    let yes : bits w k n ≡ v = is_told w fs h k n v q in
    ap (λ (b : Bool). cond b m (refusal_by rs last w)) (eq-eqb (bits w k n) v yes)
    ∙ on (λ (x : Refusal). m ≡ x) (denies fs (spread n k v [])) (λ d. absurd (is_denied w fs h k n v d yes)) (λ _. refl))

-- ---- the law: what is known of a word gives its instruction, or its refusal
module _ {I : Type 0} (T : List Layout) (S : Meaning I) (ok : all good T ≡ true) (rs : List Reason) (last : Refusal) (reading_refusal : (w : ℕ) → S.reading_refusal w ≡ refusal_by rs last w) where
  pub by_facts : (w : ℕ) (fs : List Fact) → Known w fs → (settles fs T && clears fs rs) ≡ true → read_of T S w ≡ read_as S w (first (fits fs) T (refusal_known fs rs last))
  by_facts w fs h q =
      let t = both (settles fs T) (clears fs rs) q in
      let e = reading_refusal w ∙ refusal_known_lem w fs h rs last t.1 in
      let by_test = settled (readable w) (shuts fs) (opens fs) (shut w fs h) (λ L g. opened w fs h L (constant L g)) T (refusal_known fs rs last) ok t.0 in
      ap (read_as S w) (ap (first (readable w) T) e ∙ by_test)
