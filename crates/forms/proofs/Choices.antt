-- What is known of an instruction's operands decides which form of a table writes it: computed tests over any table, as in Facts. Assumes nothing.
use Rattle.utils.proofs.Prelude.{◌≡◌, refl, sym, ap, ◌∙◌, Bool, true, false, ◌&&◌, ◌||◌, not, false≢true, List, [], ◌∷◌, ℕ, ◌^◌, ◌<◌, arith, eqb, ltb, leb}
use Rattle.utils.proofs.Prelude.{lt_of_lt_of_le, pow_mono, eq-eqb, ne_eqb, lt-ltb, leb-true, not-true}
use Rattle.utils.proofs.Tests.{both, join, either}
use Rattle.utils.proofs.Digits.{fld_past}
use Rattle.forms.specs.Layout.{Layout, Operand, others, all, bits, spares, Piece, piece, from, lit, pieces, size, held, holds, chosen, chain, good}
use Rattle.forms.specs.Sound.{first, any, spread, of_pieces}
use Rattle.forms.specs.Meaning.{Meaning, write_as, write_of}
use Rattle.forms.proofs.Tests.{all_by, not_any}
use Rattle.forms.proofs.Laws.{linked, chained, holds_true}
use Rattle.forms.proofs.Sound.{bits_fld, Has, spread_has, pieces_have}
use Rattle.forms.proofs.Facts.{Fact, is, isnt, under, over, Known, of_facts, tells, denies, known_has, tells_has, field_is, spread_rest, denies_not}
use Rattle.forms.proofs.Facts.{is_told, is_denied, Off, off, offs, spare, spares_is, settled}

-- ---- what is known of an operand
pub data Told : Type 0 where
  exactly : ℕ → Told
  such : List Fact → Told

abbrev pub KnownAs : ℕ → Told → Type 0
KnownAs v (exactly u) = v ≡ u
KnownAs v (such fs) = Known v fs

-- it has at most n bits; it has more
abbrev small : List Fact → ℕ → Bool
small [] n = false
small (is k m v ∷ fs) n = small fs n
small (isnt k m v ∷ fs) n = small fs n
small (under m ∷ fs) n = leb m n || small fs n
small (over m ∷ fs) n = small fs n

abbrev large : List Fact → ℕ → Bool
large [] n = false
large (is k m v ∷ fs) n = large fs n
large (isnt k m v ∷ fs) n = large fs n
large (under m ∷ fs) n = large fs n
large (over m ∷ fs) n = leb n m || large fs n

-- the layout can hold it; it cannot: above the operand's bits eight more are 0
abbrev holdable : Told → Layout → Operand → Bool
holdable (exactly u) L x = holds L x u
holdable (such fs) L x = tells (of_facts fs) (of_pieces (pieces L x)) && small fs (size L x)

abbrev unheld : Told → Layout → Operand → Bool
unheld (exactly u) L x = not (holds L x u)
unheld (such fs) L x = denies fs (spread 8 (size L x) 0 (of_pieces (pieces L x))) || large fs (size L x)

-- its n bits from bit a on are not v; they are
abbrev misses : Told → ℕ → ℕ → ℕ → Bool
misses (exactly u) n a v = not (eqb (bits u a n) v)
misses (such fs) n a v = denies fs (spread n a v [])

abbrev hits : Told → ℕ → ℕ → ℕ → Bool
hits (exactly u) n a v = eqb (bits u a n) v
hits (such fs) n a v = ltb v (2 ^ n) && tells (of_facts fs) (spread n a v [])

-- ---- a form: it writes the operands; it does not
abbrev missed : (Operand → Told) → Off → Bool
missed ks (off x n a v) = misses (ks x) n a v

abbrev hit : (Operand → Told) → Off → Bool
hit ks (off x n a v) = hits (ks x) n a v

abbrev pub picks : (Operand → Told) → Layout → Bool
picks ks L = all (λ x. holdable (ks x) L x) others && all (missed ks) (offs L)

abbrev pub drops : (Operand → Told) → Layout → Bool
drops ks L = any (λ x. unheld (ks x) L x) others || any (hit ks) (offs L)

-- ---- what these tests mean
small_lt : (v : ℕ) (fs : List Fact) (n : ℕ) → Known v fs → small fs n ≡ true → v < 2 ^ n
small_lt v [] n h e = absurd (false≢true e)
small_lt v (is k m u ∷ fs) n h e = small_lt v fs n h.1 e
small_lt v (isnt k m u ∷ fs) n h e = small_lt v fs n h.1 e
small_lt v (under m ∷ fs) n h e = either (leb m n) (small fs n) e (λ q. lt_of_lt_of_le h.0 (pow_mono (leb-true m n q))) (λ q. small_lt v fs n h.1 q)
small_lt v (over m ∷ fs) n h e = small_lt v fs n h.1 e

large_not : (v : ℕ) (fs : List Fact) (n : ℕ) → Known v fs → large fs n ≡ true → v < 2 ^ n → ⊥
large_not v [] n h e l = false≢true e
large_not v (is k m u ∷ fs) n h e l = large_not v fs n h.1 e l
large_not v (isnt k m u ∷ fs) n h e l = large_not v fs n h.1 e l
large_not v (under m ∷ fs) n h e l = large_not v fs n h.1 e l
large_not v (over m ∷ fs) n h e l =
    either (leb n m) (large fs n) e (λ q. let p = lt_of_lt_of_le l (pow_mono (leb-true n m q)) in let z = h.0 in omega arith) (λ q. large_not v fs n h.1 q l)

held_by : (v : ℕ) (ps : List Piece) (h : ℕ) → chain ps h ≡ true → Has v (of_pieces ps) → held v ps ≡ true
held_by v [] h c g = refl
held_by v (piece n a (from k) ∷ ps) h c g = held_by v ps a (linked n a (from k) ps h c).1.1 g
held_by v (piece n a (lit u) ∷ ps) h c g =
    let t = linked n a (lit u) ps h c in
    join (held_by v ps a t.1.1 (spread_rest v n a u (of_pieces ps) g)) (eq-eqb _ _ (field_is v n a u (of_pieces ps) t.1.0 g))

module _ (L : Layout) (x : Operand) (v : ℕ) where
  is_holdable : good L ≡ true → (k : Told) → KnownAs v k → holdable k L x ≡ true → holds L x v ≡ true
  is_holdable g (exactly u) h e = ap (holds L x) h ∙ e
  is_holdable g (such fs) h e =
      let t = both (tells (of_facts fs) (of_pieces (pieces L x))) (small fs (size L x)) e in
      join (held_by v (pieces L x) (size L x) (chained L g x) (tells_has v (of_facts fs) (of_pieces (pieces L x)) (known_has v fs h) t.0)) (lt-ltb _ _ (small_lt v fs (size L x) h t.1))

  is_unheld : (k : Told) → KnownAs v k → unheld k L x ≡ true → holds L x v ≡ true → ⊥
  is_unheld (exactly u) h e q = false≢true (sym (not-true (holds L x u) e) ∙ ap (holds L x) (sym h) ∙ q)
  is_unheld (such fs) h e q =
      let t = holds_true L x v q in
      either (denies fs (spread 8 (size L x) 0 (of_pieces (pieces L x)))) (large fs (size L x)) e
      (λ d. denies_not v fs (spread 8 (size L x) 0 (of_pieces (pieces L x))) h d
      (spread_has v 8 (size L x) 0 (of_pieces (pieces L x)) (bits_fld v (size L x) 8 ∙ fld_past (size L x) v (size L x) 8 t.1 (omega arith)) (pieces_have v (pieces L x) t.0)))
      (λ d. large_not v fs (size L x) h d t.1)

module _ (v n a u : ℕ) where
  is_miss : (k : Told) → KnownAs v k → misses k n a u ≡ true → not (eqb (bits v a n) u) ≡ true
  is_miss (exactly t) h e = ap (λ (y : ℕ). not (eqb (bits y a n) u)) h ∙ e
  is_miss (such fs) h e = ap not (ne_eqb (bits v a n) u (is_denied v fs h a n u e))

  is_hit : (k : Told) → KnownAs v k → hits k n a u ≡ true → not (eqb (bits v a n) u) ≡ true → ⊥
  is_hit (exactly t) h e q = false≢true (ap not (sym (ap (λ (y : ℕ). eqb (bits y a n) u) h ∙ e)) ∙ q)
  is_hit (such fs) h e q = false≢true (ap not (sym (eq-eqb (bits v a n) u (is_told v fs h a n u e))) ∙ q)

module _ (env : Operand → ℕ) (ks : Operand → Told) (h : (x : Operand) → KnownAs (env x) (ks x)) where
  is_missed : (o : Off) → missed ks o ≡ true → spare env o ≡ true
  is_missed (off x n a v) e = is_miss (env x) n a v (ks x) (h x) e

  not_hit : (o : Off) → spare env o ≡ true → hit ks o ≡ true → ⊥
  not_hit (off x n a v) s e = is_hit (env x) n a v (ks x) (h x) e s

  module _ (L : Layout) where
    picked : good L ≡ true → picks ks L ≡ true → chosen env L ≡ true
    picked g e =
        let t = both (all (λ x. holdable (ks x) L x) others) (all (missed ks) (offs L)) e in
        join (all_by (λ x. holdable (ks x) L x) (λ x. holds L x (env x)) (λ x. is_holdable L x (env x) g (ks x) (h x)) others t.0)
        (sym (spares_is env L) ∙ all_by (missed ks) (spare env) is_missed (offs L) t.1)

    dropped : drops ks L ≡ true → chosen env L ≡ true → ⊥
    dropped e c =
        let t = both (all (λ x. holds L x (env x)) others) (spares L env) c in
        let s = spares_is env L ∙ t.1 in
        either (any (λ x. unheld (ks x) L x) others) (any (hit ks) (offs L)) e
        (λ q. not_any (λ x. unheld (ks x) L x) (λ x. holds L x (env x)) (λ x. holds L x (env x)) others t.0 t.0 (λ x p _ u. is_unheld L x (env x) (ks x) (h x) u p) q)
        (λ q. not_any (hit ks) (spare env) (spare env) (offs L) s s (λ o p _ u. not_hit o p u) q)

-- ---- the law: what is known of the operands gives the form, or none
module _ {I : Type 0} (T : List Layout) (S : Meaning I) (ok : all good T ≡ true) where
  pub by_operands : (i : I) (ks : Operand → Told) → ((x : Operand) → KnownAs (S.ops i x) (ks x)) → all (λ L. drops ks L || picks ks L) T ≡ true
      → write_of T S i ≡ write_as S i (first (λ L. not (drops ks L)) T (S.writing_refusal i))
  by_operands i ks h e =
      ap (write_as S i) (settled (chosen (S.ops i)) (drops ks) (picks ks) (dropped (S.ops i) ks h) (picked (S.ops i) ks h) T (S.writing_refusal i) ok e)
