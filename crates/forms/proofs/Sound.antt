-- A sound table reads and writes without loss: no word and no operands have two layouts. Assumes nothing.
use Rattle.utils.proofs.Prelude.{◌≡◌, refl, sym, ap, ◌∙◌, subst, Bool, true, false, ◌&&◌, ◌||◌, not, cond, false≢true, List, [], ◌∷◌, ℕ, zero, suc, ◌+◌, ◌-◌, ◌/◌, ◌%◌, ◌^◌, ◌<◌, arith, eqb}
use Rattle.std.proofs.Common.{Ok, Err}
use Rattle.refusals.specs.Answer.{Answer}
use Rattle.utils.proofs.Prelude.{eqb-true, eqb-false, not-true}
use native.Mathlib.Nat.{div-one}
use lib.Pow.{field, shr-shr, mod-mod-pow}
use Rattle.refusals.specs.declared.Refusal.{Refusal}
use Rattle.forms.specs.Layout.{Layout, const, take, given, avoid, Operand, imm, others, all, bits, width, matches, build, read, spares}
use Rattle.forms.specs.Layout.{Piece, piece, from, lit, pieces, holds, readable, chosen, good}
use Rattle.forms.specs.Sound.{first, any, Bit, bit, spread, of_word, of_pieces, differs, clash, apart, distinct, sound}
use Rattle.utils.proofs.Tests.{both, either, on}
use Rattle.refusals.proofs.Answers.{no_value}
use Rattle.forms.proofs.Tests.{not_any}
use Rattle.forms.proofs.Laws.{Held, holds_true, read_build, read_holds, build_lt, readable_chosen, chosen_back, chosen_readable}

-- ---- the first that passes
pub same_value : (L M : Layout) → ◌≡◌ {A = Answer Layout} (Ok L) (Ok M) → L ≡ M
same_value L M e = cc

pub first_true : (p : Layout → Bool) (T : List Layout) (n : Refusal) (L : Layout) → first p T n ≡ Ok L → p L ≡ true
first_true p [] n L = λ q. no_value n L q
first_true p (M ∷ T) n L =
    on (λ (k : Answer Layout). k ≡ Ok L → p L ≡ true) (p M) (λ e q. subst (λ (N : Layout). p N ≡ true) (same_value M L q) e) (λ _ q. first_true p T n L q)

pub first_all : (f p : Layout → Bool) (T : List Layout) (n : Refusal) (L : Layout) → all f T ≡ true → first p T n ≡ Ok L → f L ≡ true
first_all f p [] n L e = λ q. no_value n L q
first_all f p (M ∷ T) n L e =
    let t = both (all f T) (f M) e in
    on (λ (k : Answer Layout). k ≡ Ok L → f L ≡ true) (p M) (λ _ q. subst (λ (N : Layout). f N ≡ true) (same_value M L q) t.1) (λ _ q. first_all f p T n L t.0 q)

-- what one test finds another finds, where it excludes all else
first_too : (p q : Layout → Bool) (T : List Layout) (n m : Refusal) (L : Layout) → ((M : Layout) → apart M L ≡ true → q M ≡ true → ⊥) → distinct T ≡ true
    → first p T n ≡ Ok L → q L ≡ true → first q T m ≡ Ok L
first_too p q [] n m L ex e = λ f. no_value n L f
first_too p q (M ∷ T) n m L ex e =
    let t = both (all (apart M) T) (distinct T) e in
    on (λ (k : Answer Layout). k ≡ Ok L → q L ≡ true → first q (M ∷ T) m ≡ Ok L) (p M)
    (λ _ f h. subst (λ (N : Layout). first q (N ∷ T) m ≡ Ok L) (sym (same_value M L f)) (ap (λ (b : Bool). cond b (Ok L) (first q T m)) h))
    (λ _ f h. on (λ (k : Answer Layout). k ≡ Ok L) (q M) (λ g. absurd (ex M (first_all (apart M) p T n L t.0 f) g)) (λ _. first_too p q T n m L ex t.1 f h))

-- none passes
pub first_none : (p : Layout → Bool) (T : List Layout) (n : Refusal) → any p T ≡ false → first p T n ≡ Err n
first_none p [] n = λ e. refl
first_none p (L ∷ T) n = go (p L) (first_none p T n)
  where
    go : (b : Bool) → (any p T ≡ false → first p T n ≡ Err n) → (b || any p T) ≡ false → cond b (Ok L) (first p T n) ≡ Err n
    go true f e = absurd (false≢true (sym e))
    go false f e = f e

-- ---- single bits
pub bits_fld : (w k n : ℕ) → bits w k n ≡ w / 2 ^ k % 2 ^ n
bits_fld w zero n = ap (λ (x : ℕ). x % 2 ^ n) (sym (div-one w))
bits_fld w (suc k) n = refl

sub : (w k n i : ℕ) → i < n → bits w (k + i) 1 ≡ bits (bits w k n) i 1
sub w k n i l =
    bits_fld w (k + i) 1 ∙ ap (λ (x : ℕ). x % 2 ^ 1) (sym (shr-shr w k i))
    ∙ sym (mod-mod-pow (w / 2 ^ k / 2 ^ i) (n - 1 - i) 1) ∙ ap (λ (x : ℕ). x % 2 ^ 1) (sym (field (w / 2 ^ k) (n - 1 - i + 1) i))
    ∙ ap (λ (x : ℕ). w / 2 ^ k % 2 ^ x / 2 ^ i % 2 ^ 1) whole ∙ ap (λ (x : ℕ). x / 2 ^ i % 2 ^ 1) (sym (bits_fld w k n)) ∙ sym (bits_fld (bits w k n) i 1)
  where
    whole : n - 1 - i + 1 + i ≡ n
    whole = omega arith

-- v has these bits
abbrev pub Has : ℕ → List Bit → Type 0
Has v [] = Unit {0}
Has v (bit k u ∷ ks) = (bits v k 1 ≡ u) × Has v ks

pub spread_has : (w n k v : ℕ) (r : List Bit) → bits w k n ≡ v → Has w r → Has w (spread n k v r)
spread_has w n k v r e g = go n (λ i l. sub w k n i l ∙ ap (λ (x : ℕ). bits x i 1) e)
  where
    go : (m : ℕ) → ((i : ℕ) → i < m → bits w (k + i) 1 ≡ bits v i 1) → Has w (spread m k v r)
    go zero h = g
    go (suc m) h = (h m (omega arith), go m (λ i l. h i (omega arith)))

pub word_has : (w : ℕ) (L : Layout) → matches L w ≡ true → Has w (of_word L)
word_has w [] m = tt
word_has w (const n v ∷ L) m =
    let t = both (matches L w) (eqb (bits w (width L) n) v) m in
    spread_has w n (width L) v (of_word L) (eqb-true _ _ t.1) (word_has w L t.0)
word_has w (take x n a ∷ L) m = word_has w L m
word_has w (given x n a v ∷ L) m = word_has w L m
word_has w (avoid x n a v ∷ L) m = word_has w L m

pub pieces_have : (v : ℕ) (ps : List Piece) → Held v ps → Has v (of_pieces ps)
pieces_have v [] h = tt
pieces_have v (piece n a (from k) ∷ ps) h = pieces_have v ps h.1
pieces_have v (piece n a (lit u) ∷ ps) h = spread_has v n a u (of_pieces ps) h.0 (pieces_have v ps h.1)

differs_not : (w k v : ℕ) (ks : List Bit) → bits w k 1 ≡ v → Has w ks → differs k v ks ≡ true → ⊥
differs_not w k v [] h g e = false≢true e
differs_not w k v (bit j u ∷ ks) h g e =
    either (eqb j k && not (eqb u v)) (differs k v ks) e
    (λ q.
    let t = both (eqb j k) (not (eqb u v)) q in
    eqb-false u v (not-true (eqb u v) t.1) (sym g.0 ∙ ap (λ (i : ℕ). bits w i 1) (eqb-true j k t.0) ∙ h))
    (λ q. differs_not w k v ks h g.1 q)

pub clash_not : (w : ℕ) (js ks : List Bit) → Has w js → Has w ks → clash js ks ≡ true → ⊥
clash_not w [] ks h g e = false≢true e
clash_not w (bit k v ∷ js) ks h g e =
    either (differs k v ks) (clash js ks) e (λ q. differs_not w k v ks h.0 g q) (λ q. clash_not w js ks h.1 g q)

-- no word and no operands have two layouts that are apart
apart_both : (L M : Layout) → apart L M ≡ true
    → (clash (of_word L) (of_word M) ≡ true) × (any (λ x. clash (of_pieces (pieces L x)) (of_pieces (pieces M x))) others ≡ true)
apart_both L M = both (clash (of_word L) (of_word M)) (any (λ x. clash (of_pieces (pieces L x)) (of_pieces (pieces M x))) others)

pub word_once : (w : ℕ) (L M : Layout) → readable w L ≡ true → clash (of_word M) (of_word L) ≡ true → readable w M ≡ true → ⊥
word_once w L M r a q =
    let h : (N : Layout) → readable w N ≡ true → Has w (of_word N) = λ N e. word_has w N (both (matches N w) (spares N (read N w)) e).0 in
    clash_not w (of_word M) (of_word L) (h M q) (h L r) a

readable_once : (w : ℕ) (L M : Layout) → readable w L ≡ true → apart M L ≡ true → readable w M ≡ true → ⊥
readable_once w L M r a q = word_once w L M r (apart_both M L a).0 q

chosen_once : (env : Operand → ℕ) (L M : Layout) → chosen env L ≡ true → apart M L ≡ true → chosen env M ≡ true → ⊥
chosen_once env L M r a q =
    let h : (N : Layout) → chosen env N ≡ true → all (λ x. holds N x (env x)) others ≡ true = λ N e. (both (all (λ x. holds N x (env x)) others) (spares N env) e).0 in
    let g : (N : Layout) (x : Operand) → holds N x (env x) ≡ true → Has (env x) (of_pieces (pieces N x)) = λ N x e. pieces_have (env x) (pieces N x) (holds_true N x (env x) e).0 in
    not_any (λ x. clash (of_pieces (pieces M x)) (of_pieces (pieces L x))) (λ x. holds M x (env x)) (λ x. holds L x (env x)) others (h M q) (h L r)
    (λ x e f c. clash_not (env x) (of_pieces (pieces M x)) (of_pieces (pieces L x)) (g M x e) (g L x f) c) (apart_both M L a).1

-- ---- the law of a table
module _ (T : List Layout) (ok : sound T ≡ true) where
  sound_parts : (all good T ≡ true) × (distinct T ≡ true)
  sound_parts = both (all good T) (distinct T) ok

  pub found_good : (p : Layout → Bool) (n : Refusal) (L : Layout) → first p T n ≡ Ok L → good L ≡ true
  found_good p n L e = first_all good p T n L sound_parts.0 e

  -- a word's layout is its operands' layout, and they are written as the word
  pub read_back : (w : ℕ) (n m : Refusal) (L : Layout) → first (readable w) T n ≡ Ok L → w < 2 ^ width L
      → (first (chosen (read L w)) T m ≡ Ok L) × ((holds L imm (read L w imm) ≡ true) × (build L (read L w) ≡ w))
  read_back w n m L e h =
      let g = found_good (readable w) n L e in
      let r = first_true (readable w) T n L e in
      let v = readable_chosen L g w r in (
        first_too (readable w) (chosen (read L w)) T n m L (λ M a q. chosen_once (read L w) L M v a q) sound_parts.1 e v,
        (read_holds L g w imm, read_build L g w h (both (matches L w) (spares L (read L w)) r).0),
      )

  -- operands' layout is that of the word in which they are written, and they are read of it
  pub write_back : (env : Operand → ℕ) (n m : Refusal) (L : Layout) → first (chosen env) T n ≡ Ok L → holds L imm (env imm) ≡ true
      → (first (readable (build L env)) T m ≡ Ok L) × ((read L (build L env) ≡ env) × (build L env < 2 ^ width L))
  write_back env n m L e i =
      let g = found_good (chosen env) n L e in
      let v = first_true (chosen env) T n L e in
      let r = chosen_readable L g env v i in (
        first_too (chosen env) (readable (build L env)) T n m L (λ M a q. readable_once (build L env) L M r a q) sound_parts.1 e r,
        (chosen_back L g env v i, build_lt L g env),
      )

  -- a form that reads a word reads every word of the form
  pub same_layout : (w v : ℕ) (n m : Refusal) (L : Layout) → first (readable w) T n ≡ Ok L → readable v L ≡ true → first (readable v) T m ≡ Ok L
  same_layout w v n m L e r = first_too (readable w) (readable v) T n m L (λ M a q. readable_once v L M r a q) sound_parts.1 e r
