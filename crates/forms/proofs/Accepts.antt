-- What a table tells of the words that it accepts, and that two tables accept no word in common. Assumes nothing.
use Rattle.utils.proofs.Prelude.{◌≡◌, refl, subst, ◌⊎◌, inl, inr, Bool, true, ◌&&◌, List, [], ◌∷◌, ◌++◌, ℕ, ◌^◌, ◌<◌, eqb, ltb, leb}
use Rattle.std.proofs.Common.{Ok, Err}
use Rattle.refusals.specs.Answer.{Answer}
use Rattle.utils.proofs.Prelude.{lt_of_lt_of_le, pow_mono, eqb-true, leb-true}
use Rattle.refusals.specs.declared.Refusal.{Refusal}
use Rattle.forms.specs.Layout.{Layout, const, take, given, avoid, Operand, imm, rd, rs1, rs2, funct, csr, short, all, every, bits, width, size, matches, spares, read, readable}
use Rattle.forms.specs.Sound.{first, spread, of_word, clash, sound}
use Rattle.forms.specs.Meaning.{Meaning, Every, read_as, read_of}
use Rattle.utils.proofs.Tests.{both, on}
use Rattle.forms.proofs.Laws.{read_lt, every_at}
use Rattle.refusals.proofs.Answers.{no_value}
use Rattle.forms.proofs.Sound.{first_all, found_good, word_has, word_once}
use Rattle.forms.proofs.Facts.{Fact, Known, tells, tells_has, field_is, shuts, shut}

-- what each form says of what it reads, holds of an instruction that is accepted
pub by_layouts : {I : Type 0} (S : Meaning I) (w : ℕ) (P : I → Type 0) (T : List Layout) → Every (λ L. readable w L ≡ true → P (S.make (read L w))) T → (i : I) → read_of T S w ≡ Ok i → P i
by_layouts {I} S w P T h i = go T (S.reading_refusal w) h
  where
    go : (T : List Layout) (n : Refusal) → Every (λ L. readable w L ≡ true → P (S.make (read L w))) T → read_as S w (first (readable w) T n) ≡ Ok i → P i
    go [] n h = λ q. no_value n i q
    go (L ∷ T) n h =
        on (λ (k : Answer Layout). read_as S w k ≡ Ok i → P i) (readable w L)
        (λ e q. subst P ((let z : S.make (read L w) ≡ i = cc in z)) (h.0 e)) (λ _. go T n h.1)

-- a computed test of the forms
pub by_test : (f : Layout → Bool) {P : Layout → Type 0} → ((L : Layout) → f L ≡ true → P L) → (T : List Layout) → all f T ≡ true → Every P T
by_test f h [] e = tt
by_test f h (L ∷ T) e = let t = both (all f T) (f L) e in (h L t.1, by_test f h T t.0)

-- every form of T clashes, in the bits of the word, with every form of U
abbrev pub crossed : List Layout → List Layout → Bool
crossed T U = all (λ L. all (λ M. clash (of_word M) (of_word L)) U) T

pub not_both : {I J : Type 0} (T U : List Layout) (R : Meaning I) (S : Meaning J) (w : ℕ) (i : I) (j : J) → crossed T U ≡ true
    → read_of T R w ≡ Ok i → read_of U S w ≡ Ok j → ⊥
not_both T U R S w i j e p q =
    by_layouts R w (λ _. ⊥) T (by_test _ (λ L f r. by_layouts S w (λ _. ⊥) U (by_test _ (λ M c. word_once w L M r c) U f) j q) T e) i p

-- the n bits of the word from bit k on are v, as the layout has it
abbrev pub fixes : ℕ → ℕ → ℕ → Layout → Bool
fixes k n v L = ltb v (2 ^ n) && tells (of_word L) (spread n k v [])

pub fixed : (k n v w : ℕ) (L : Layout) → fixes k n v L ≡ true → readable w L ≡ true → bits w k n ≡ v
fixed k n v w L e r =
    let t = both (ltb v (2 ^ n)) (tells (of_word L) (spread n k v [])) e in
    field_is w n k v [] t.0 (tells_has w (of_word L) (spread n k v []) (word_has w L (both (matches L w) (spares L (read L w)) r).0) t.1)

-- ---- the fields that a layout fixes, and the words that a table accepts by them
abbrev pub Fixed : Layout → ℕ → Type 0
Fixed [] w = Unit {0}
Fixed (const n v ∷ L) w = (bits w (width L) n ≡ v) × Fixed L w
Fixed (take x n a ∷ L) w = Fixed L w
Fixed (given x n a v ∷ L) w = Fixed L w
Fixed (avoid x n a v ∷ L) w = Fixed L w

pub fields_of : (L : Layout) (w : ℕ) → matches L w ≡ true → Fixed L w
fields_of [] w m = tt
fields_of (const n v ∷ L) w m = let t = both (matches L w) (eqb (bits w (width L) n) v) m in (eqb-true _ _ t.1, fields_of L w t.0)
fields_of (take x n a ∷ L) w m = fields_of L w m
fields_of (given x n a v ∷ L) w m = fields_of L w m
fields_of (avoid x n a v ∷ L) w m = fields_of L w m

-- of some form the word has all fields, and its operands are not what they must not be
abbrev pub Words : List Layout → ℕ → Type 0
Words [] w = ⊥
Words (L ∷ T) w = (Fixed L w × (spares L (read L w) ≡ true)) ⊎ Words T w

pub accepted : {I : Type 0} (T : List Layout) (S : Meaning I) (w : ℕ) (i : I) → read_of T S w ≡ Ok i → Words T w
accepted {I} T S w i = go T (S.reading_refusal w)
  where
    go : (T : List Layout) (n : Refusal) → read_as S w (first (readable w) T n) ≡ Ok i → Words T w
    go [] n = λ q. no_value n i q
    go (L ∷ T) n =
        on (λ (k : Answer Layout). read_as S w k ≡ Ok i → Words (L ∷ T) w) (readable w L)
        (λ e _. let t = both (matches L w) (spares L (read L w)) e in inl (fields_of L w t.0, t.1)) (λ _ q. inr (go T n q))

-- forms that do not read a word are passed over
abbrev pub Unread : ℕ → List Layout → Type 0
Unread w T = Every (λ L. readable w L ≡ true → ⊥) T

pub passed : (w : ℕ) (T U : List Layout) (n : Refusal) → Unread w T → first (readable w) (T ++ U) n ≡ first (readable w) U n
passed w [] U n h = refl
passed w (L ∷ T) U n h = on (λ (k : Answer Layout). k ≡ first (readable w) U n) (readable w L) (λ e. absurd (h.0 e)) (λ _. passed w T U n h.1)

pub unread : (w : ℕ) (fs : List Fact) → Known w fs → (T : List Layout) → all (shuts fs) T ≡ true → Unread w T
unread w fs h T e = by_test (shuts fs) (shut w fs h) T e

-- ---- the operands of an instruction that is read: each has no more bits than `room` says
-- how many bits an operand has at most, in every table of the repository
abbrev pub room : Operand → ℕ
room imm = 12
room rd = 5
room rs1 = 5
room rs2 = 5
room funct = 4
room csr = 12
room short = 1

abbrev pub roomy : (Operand → ℕ) → Layout → Bool
roomy room L = every (λ x. leb (size L x) (room x))

pub record Made {I : Type 0} (S : Meaning I) (room : Operand → ℕ) (i : I) : Type 0 where
  pub env : Operand → ℕ
  pub same : S.make env ≡ i
  pub low : (x : Operand) → env x < 2 ^ room x

pub made_of : {I : Type 0} (T : List Layout) (S : Meaning I) (room : Operand → ℕ) → sound T ≡ true → all (roomy room) T ≡ true → (w : ℕ) (i : I) → read_of T S w ≡ Ok i → Made S room i
made_of {I} T S room ok r w i = go (first (readable w) T (S.reading_refusal w)) refl
  where
    go : (k : Answer Layout) → first (readable w) T (S.reading_refusal w) ≡ k → read_as S w k ≡ Ok i → Made S room i
    go (Ok L) e q = record {
      env = read L w;
      same = (cc);
      low = λ x.
          lt_of_lt_of_le (read_lt L (found_good T ok (readable w) (S.reading_refusal w) L e) w x)
          (pow_mono (leb-true (size L x) (room x) (every_at (λ y. leb (size L y) (room y)) (first_all (roomy room) (readable w) T (S.reading_refusal w) L r e) x)));
    }
    go (Err n) e q = no_value n i q
