-- The demand on reading and writing, once for any table: what is read is written again, what is written is read again, and writing is refused
-- exactly where no word would be read so. A table gives one computed test and a `Faithful`, nothing of a form. Assumes nothing.
use Rattle.utils.proofs.Prelude.{◌≡◌, refl, sym, ap, ◌∙◌, subst, Bool, true, ◌&&◌, cond, false≢true, List, [], ◌∷◌, ℕ, ◌^◌, ◌<◌, eqb, ltb, leb}
use Rattle.std.proofs.Common.{Some, None, Ok, Err}
use Rattle.refusals.specs.Answer.{Answer}
use Rattle.utils.proofs.Prelude.{lt_of_lt_of_le, get_or, eqb-true, ltb-true, leb-true}
use Rattle.refusals.specs.declared.Refusal.{Refusal}
use Rattle.forms.specs.Layout.{Layout, Operand, imm, rd, rs1, rs2, funct, csr, short, all, good, every}
use Rattle.forms.specs.Layout.{Piece, piece, from, lit, pieces, place, gather, width, size, read, build, readable, chosen, holds}
use Rattle.forms.specs.Sound.{first, distinct, sound}
use Rattle.forms.specs.Meaning.{Meaning, FaithfulBelow, Agrees, Every, Faithful, listed, room_of, within, put, read_as, read_of, write_as, write_of, lits, below, fitted, limited}
use Rattle.forms.specs.Demand3.{OnlyWord, RefusedExactly}
use Rattle.utils.proofs.Tests.{both, either, on}
use Rattle.forms.proofs.Laws.{every_at, read_lt, read_holds, readable_chosen, chosen_back, chosen_readable, build_lt}
use Rattle.refusals.proofs.Answers.{no_value}
use Rattle.forms.proofs.Sound.{same_value, first_true, found_good, same_layout, read_back, write_back}
use Rattle.forms.proofs.AnyReader.{refused_by, only_by}
use Rattle.forms.proofs.Codes.{within_is, put_is}

-- ---- a Meaning within limits is faithful
lits_same : (w : ℕ) (ps : List Piece) → lits ps ≡ true → gather w ps ≡ gather 0 ps
lits_same w [] e = refl
lits_same w (piece n a (from k) ∷ ps) e = absurd (false≢true e)
lits_same w (piece n a (lit v) ∷ ps) e = ap (place v a) (lits_same w ps e)

module _ {I : Type 0} (S : Meaning I) (limit : Operand → ℕ) (s : FaithfulBelow S limit) where
  agrees : (L : Layout) → good L ≡ true → (every (below limit L) && fitted L) ≡ true → (w : ℕ) → Agrees S L w
  agrees L g e w = record { ops = λ j. listed (λ x. s.ops_make (read L w) low x j); code = s.code_make (read L w) low; room = room }
    where
      layout : (every (below limit L) ≡ true) × (fitted L ≡ true)
      layout = both (every (below limit L)) (fitted L) e

      low : (x : Operand) → read L w x < limit x
      low x =
          either (leb (2 ^ size L x) (limit x)) (lits (pieces L x) && ltb (read L 0 x) (limit x)) (every_at (below limit L) layout.0 x)
          (λ l. lt_of_lt_of_le (read_lt L g w x) (leb-true _ _ l))
          (λ l.
          let t = both (lits (pieces L x)) (ltb (read L 0 x) (limit x)) l in
          subst (λ (k : ℕ). k < limit x) (sym (lits_same w (pieces L x) t.0)) (ltb-true _ _ t.1))

      room : room_of (S.is_short (S.make (read L w))) ≡ 2 ^ width L
      room =
          let t = both (lits (pieces L short)) (eqb (2 ^ width L) (room_of (eqb (read L 0 short) 1))) layout.1 in
          ap room_of (s.short_make (read L w) low ∙ ap (λ (k : ℕ). eqb k 1) (lits_same w (pieces L short) t.0)) ∙ sym (eqb-true _ _ t.1)

  all_agree : (T : List Layout) → all good T ≡ true → limited limit T ≡ true → Every (λ L. (w : ℕ) → Agrees S L w) T
  all_agree [] g e = tt
  all_agree (L ∷ T) g e =
      let a = both (all good T) (good L) g in
      let b = both (limited limit T) (every (below limit L) && fitted L) e in
      (agrees L a.1 b.1, all_agree T a.0 b.0)

  pub by_limits : (T : List Layout) → sound T ≡ true → limited limit T ≡ true → Faithful T S
  by_limits T ok e = record { layouts = all_agree T (both (all good T) (distinct T) ok).0 e; code_ops = s.code_ops; make_ops = s.make_ops }

-- ---- what a faithful Meaning gives
every_layout : (P : Layout → Type 0) (p : Layout → Bool) (T : List Layout) (n : Refusal) (L : Layout) → Every P T → first p T n ≡ Ok L → P L
every_layout P p [] n L h = λ e. no_value n L e
every_layout P p (M ∷ T) n L h =
    on (λ (k : Answer Layout). k ≡ Ok L → P L) (p M) (λ _ q. subst P (same_value M L q) h.0) (λ _ q. every_layout P p T n L h.1 q)

same_at : (f g : Operand → ℕ) → listed f ≡ listed g → (x : Operand) → f x ≡ g x
same_at f g e =
    let at : (n : ℕ) → get_or (listed f) n 0 ≡ get_or (listed g) n 0 = λ n. ap (λ (l : List ℕ). get_or l n 0) e in
    elim [ imm ↦ at 0 | rd ↦ at 1 | rs1 ↦ at 2 | rs2 ↦ at 3 | funct ↦ at 4 | csr ↦ at 5 | short ↦ at 6 ]

module _ {I : Type 0} (T : List Layout) (S : Meaning I) (ok : sound T ≡ true) (s : Faithful T S) where
  agrees_of : (p : Layout → Bool) (n : Refusal) (L : Layout) → first p T n ≡ Ok L → (w : ℕ) → Agrees S L w
  agrees_of p n L e = every_layout (λ M. (w : ℕ) → Agrees S M w) p T n L s.layouts e

  -- what is read of a word is written as the word
  again : (w : ℕ) (L : Layout) → first (readable w) T (S.reading_refusal w) ≡ Ok L → w < room_of (S.is_short (S.make (read L w))) → write_of T S (S.make (read L w)) ≡ Ok w
  again w L e h =
      let i = S.make (read L w) in
      let b = agrees_of (readable w) (S.reading_refusal w) L e w in
      let same : S.ops i ≡ read L w = λ j x. same_at (S.ops i) (read L w) b.ops x j in
      let q = read_back T ok w (S.reading_refusal w) (S.writing_refusal i) L e (subst (λ (k : ℕ). w < k) b.room h) in
      let c : within L (S.code i) ≡ Some (read L w imm) = ap (within L) b.code ∙ ap (λ (t : Bool). cond t (Some (read L w imm)) None) q.1.0 in
      ap (write_as S i) (ap (λ (env : Operand → ℕ). first (chosen env) T (S.writing_refusal i)) same ∙ q.0) ∙ (λ j. put (c j) (build L (same j))) ∙ ap Ok q.1.1

  -- a word that is read as an instruction is what the instruction is written as
  pub read_then_write : (w : ℕ) (i : I) → read_of T S w ≡ Ok i → w < room_of (S.is_short i) → write_of T S i ≡ Ok w
  read_then_write w i = go (first (readable w) T (S.reading_refusal w)) refl
    where
      go : (k : Answer Layout) → first (readable w) T (S.reading_refusal w) ≡ k → read_as S w k ≡ Ok i → w < room_of (S.is_short i) → write_of T S i ≡ Ok w
      go (Ok L) e q = let same : S.make (read L w) ≡ i = cc in subst (λ (x : I). w < room_of (S.is_short x) → write_of T S x ≡ Ok w) same (again w L e)
      go (Err n) e q = no_value n i q

  -- what is read can be written, whatever bits the word has above its form's: the word without them is read the same
  pub writable : (w : ℕ) (i : I) → read_of T S w ≡ Ok i → (x : ℕ) × (write_of T S i ≡ Ok x)
  writable w i = go (first (readable w) T (S.reading_refusal w)) refl
    where
      go : (k : Answer Layout) → first (readable w) T (S.reading_refusal w) ≡ k → read_as S w k ≡ Ok i → (x : ℕ) × (write_of T S i ≡ Ok x)
      go (Ok L) e q =
          let g = found_good T ok (readable w) (S.reading_refusal w) L e in
          let v = build L (read L w) in
          let c = readable_chosen L g w (first_true (readable w) T (S.reading_refusal w) L e) in
          let f = same_layout T ok w v (S.reading_refusal w) (S.reading_refusal v) L e (chosen_readable L g (read L w) c (read_holds L g w imm)) in
          let made : S.make (read L w) ≡ i = cc in
          let is : S.make (read L v) ≡ i = ap S.make (chosen_back L g (read L w) c (read_holds L g w imm)) ∙ made in
          let room : 2 ^ width L ≡ room_of (S.is_short i) = sym (agrees_of (readable w) (S.reading_refusal w) L e v).room ∙ ap (λ (j : I). room_of (S.is_short j)) is in
          (v, read_then_write v i (ap (read_as S v) f ∙ ap Ok is) (subst (λ (n : ℕ). v < n) room (build_lt L g (read L w))))
      go (Err n) e q = no_value n i q

  -- the word that an instruction is written as is in its room, and is read as the instruction
  pub write_then_read : (i : I) (w : ℕ) → write_of T S i ≡ Ok w → (w < room_of (S.is_short i)) × (read_of T S w ≡ Ok i)
  write_then_read i w = go (first (chosen (S.ops i)) T (S.writing_refusal i)) refl
    where
      go : (k : Answer Layout) → first (chosen (S.ops i)) T (S.writing_refusal i) ≡ k → write_as S i k ≡ Ok w → (w < room_of (S.is_short i)) × (read_of T S w ≡ Ok i)
      go (Ok L) e q =
          let p = put_is (within L (S.code i)) (build L (S.ops i)) w q in
          let c = within_is L (S.code i) p.0.0 p.0.1 in
          let t = write_back T ok (S.ops i) (S.writing_refusal i) (S.reading_refusal (build L (S.ops i))) L e (subst (λ (m : ℕ). holds L imm m ≡ true) (s.code_ops i p.0.0 c.0) c.1) in
          let same : S.make (read L (build L (S.ops i))) ≡ i = ap S.make t.1.0 ∙ s.make_ops i p.0.0 c.0 in
          let room : 2 ^ width L ≡ room_of (S.is_short i) =
          sym (agrees_of (chosen (S.ops i)) (S.writing_refusal i) L e (build L (S.ops i))).room ∙ ap (λ (x : I). room_of (S.is_short x)) same in
          subst (λ (x : ℕ). (x < room_of (S.is_short i)) × (read_of T S x ≡ Ok i)) p.1
          (subst (λ (k : ℕ). build L (S.ops i) < k) room t.1.1, ap (read_as S (build L (S.ops i))) t.0 ∙ ap Ok same)
      go (Err n) e q = no_value n w q

  -- writing an instruction is refused exactly when no word of its room is read as the instruction
  pub refused_exactly : (i : I) → RefusedExactly (λ x. read_of T S x ≡ Ok i) (room_of (S.is_short i)) (write_of T S i)
  refused_exactly i = refused_by (λ x. read_of T S x ≡ Ok i) (room_of (S.is_short i)) (write_of T S i) (λ x h e. read_then_write x i e h) (write_then_read i)

  -- and no two words of its room are
  pub only_word : (i : I) → OnlyWord (λ x. read_of T S x ≡ Ok i) (room_of (S.is_short i))
  only_word i = only_by (λ x. read_of T S x ≡ Ok i) (room_of (S.is_short i)) (write_of T S i) (λ x h e. read_then_write x i e h) (write_then_read i)
