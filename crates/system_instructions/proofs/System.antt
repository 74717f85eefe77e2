-- The demand on reading and writing (forms' `Demand3`), for the SYSTEM reading: over `illegal_def` and `encode_illegal_def`, any profile, and any
-- instruction value, nonsense included. The table gives it for shapes; what a profile makes of a shape goes both ways. Assumes nothing.
use Rattle.utils.proofs.Prelude.{◌≡◌, refl, sym, ap, ◌∙◌, subst, ⊎_elim, Bool, true, false, cond, ℕ, ◌^◌, ◌<◌, arith}
use Rattle.std.proofs.Common.{Ok, Err}
use Rattle.refusals.specs.Answer.{Answer}
use Rattle.refusals.specs.declared.Refusal.TheVariants as refusal
use Rattle.csr_addresses.specs.declared.Csr.{Csr}
use Rattle.csr_addresses.specs.Address.{idx_def}
use Rattle.registers.specs.Numbers.{are_valid}
use Rattle.registers.proofs.Numbers.{are_valid_lem}
use Rattle.profiles.specs.declared.Profile.{Profile}
use Rattle.csrs.specs.Gates.{decode_csr_def, available}
use Rattle.csrs.proofs.Laws.{found_idx, found_lt, own, available_found, found_available, none_found, look}
use Rattle.forms.specs.Meaning.{read_of}
use Rattle.forms.specs.Demand3.{RefusedExactly, OnlyWord}
use Rattle.utils.proofs.Tests.{on}
use Rattle.forms.proofs.AnyReader.{refused_by, only_by}
use Rattle.refusals.proofs.Answers.{no_value}
use Rattle.forms.proofs.Demand3
use Rattle.system_decoder.specs.declared.CsrOp.{CsrOp, TheVariants.Write, TheVariants.Set, TheVariants.Clear}
use Rattle.system_decoder.specs.declared.Fence.{Fence, TheVariants.Vma, TheVariants.Vvma, TheVariants.Gvma}
use Rattle.system_encoder.proofs.System.{system_sound, faithful, read_low, short_word}
use Rattle.system_instructions.specs.declared.IllegalInst.{IllegalInst}
use Rattle.system_instructions.specs.declared.IllegalInst.TheVariants.{Wfi, Csrrw, Csrrs, Csrrc, Csrrwi, Csrrsi, Csrrci, Mret, Sret, Sfencevma, Hfencevvma, Hfencegvma}
use Rattle.system_decoder.specs.Forms.{system}
use Rattle.system_decoder.specs.declared.Shape.{Shape}
use Rattle.system_decoder.specs.declared.Shape.TheVariants.{Wfi as wfi, Mret as mret, Sret as sret, Fence as fence, Access as access}
use Rattle.system_decoder.specs.System.{Low, meaning, always, barred_def}
use Rattle.system_instructions.specs.Instruction.{inst_of, fence_of, found_def, inst_at, read_shape, illegal_def, place_of, access_to, own_shape, shape_for, encode_illegal_def}
use Rattle.system_encoder.specs.System.{reached, checked_def, write_shape}

-- ---- what a profile makes of a shape, and back
-- a CSR form that is read is not barred, and its register is found at its address
pub record Legal (p : Profile) (o : CsrOp) (m : Bool) (a d x : ℕ) (i : IllegalInst) : Type 0 where
  pub csr : Csr
  pub free : barred_def a (always o) x ≡ false
  pub at : decode_csr_def p a ≡ Ok csr
  pub is : inst_of o m csr d x ≡ i

pub legal : (p : Profile) (o : CsrOp) (m : Bool) (a d x : ℕ) (i : IllegalInst) → inst_at p (access o m a d x) ≡ Ok i → Legal p o m a d x i
legal p o m a d x i = go (barred_def a (always o) x) refl
  where
    made : (c : Csr) → ◌≡◌ {A = Answer IllegalInst} (Ok (inst_of o m c d x)) (Ok i) → inst_of o m c d x ≡ i
    made c e = cc

    go : (b : Bool) → barred_def a (always o) x ≡ b → cond b (Err refusal.InvalidCsrOp) (found_def (decode_csr_def p a) o m d x) ≡ Ok i → Legal p o m a d x i
    go true q e = no_value refusal.InvalidCsrOp i e
    go false q e =
        ⊎_elim (λ t. record { csr = t.0; free = q; at = t.1; is = made t.0 (sym (ap (λ k. found_def k o m d x) t.1) ∙ e) })
        (λ n. no_value refusal.InvalidCsrOp i (sym (none_found (λ c. Ok (inst_of o m c d x)) (Err refusal.InvalidCsrOp) p a n) ∙ e)) (look p a)

pub own_fence : (f : Fence) (a b : ℕ) → own_shape (fence_of f a b) ≡ fence f a b
own_fence Vma a b = refl
own_fence Vvma a b = refl
own_fence Gvma a b = refl

pub own_access : (o : CsrOp) (m : Bool) (c : Csr) (d x : ℕ) → own_shape (inst_of o m c d x) ≡ access_to o m c d x
own_access Write false c d x = refl
own_access Set false c d x = refl
own_access Clear false c d x = refl
own_access Write true c d x = refl
own_access Set true c d x = refl
own_access Clear true c d x = refl

-- the register that is found at an address has the address
pub own_found : (p : Profile) (o : CsrOp) (m : Bool) (a d x : ℕ) (c : Csr) → decode_csr_def p a ≡ Ok c → own_shape (inst_of o m c d x) ≡ access o m a d x
own_found p o m a d x c e = own_access o m c d x ∙ ap (λ (y : (Answer ℕ)). access o m (place_of y) d x) (found_idx p a c e)

pub inst_back : (p : Profile) (s : Shape) (i : IllegalInst) → Low s → inst_at p s ≡ Ok i → shape_for p i ≡ Ok s
inst_back p wfi i l e = let z : Wfi ≡ i = cc in ap (shape_for p) (sym z)
inst_back p mret i l e = let z : Mret ≡ i = cc in ap (shape_for p) (sym z)
inst_back p sret i l e = let z : Sret ≡ i = cc in ap (shape_for p) (sym z)
inst_back p (fence f a b) i l e =
    let z : fence_of f a b ≡ i = cc in
    ap (shape_for p) (sym z) ∙ ap (checked_def p) (own_fence f a b) ∙ ap (λ (v : Bool). cond v (Ok (fence f a b)) (Err refusal.Register)) (are_valid_lem a b l.0 l.1)
inst_back p (access o m a d x) i l e =
    let t = legal p o m a d x i e in
    ap (shape_for p) (sym t.is) ∙ ap (checked_def p) (own_found p o m a d x t.csr t.at)
    ∙ ap (λ (v : Bool). cond v (reached (available p a) (barred_def a (always o) x) (access o m a d x)) (Err refusal.Register)) (are_valid_lem d x l.1.0 l.1.1)
    ∙ (λ j. reached (found_available p a t.at j) (t.free j) (access o m a d x))

module _ (p : Profile) where
  abbrev Reads : IllegalInst → Answer Shape → Type 0
  Reads i (Ok s) = inst_at p s ≡ Ok i
  Reads i (Err n) = Unit {0}

  fence_reads : (f : Fence) (a b : ℕ) → Reads (fence_of f a b) (checked_def p (fence f a b))
  fence_reads f a b = on (Reads (fence_of f a b)) (are_valid a b) (λ _. refl) (λ _. tt)

  access_reads : (o : CsrOp) (m : Bool) (c : Csr) (d x : ℕ) → Reads (inst_of o m c d x) (checked_def p (access_to o m c d x))
  access_reads o m c d x = on Read (are_valid d x) (λ _. place (idx_def c) refl) (λ _. tt)
    where
      Read : Answer Shape → Type 0
      Read = Reads (inst_of o m c d x)

      -- what is found there is the register, if anything is
      there : (a : ℕ) → ((f : Csr) → decode_csr_def p a ≡ Ok f → f ≡ c) → Read (reached (available p a) (barred_def a (always o) x) (access o m a d x))
      there a e =
          on Read (available p a) (λ t. on Read (barred_def a (always o) x) (λ _. tt) (λ b. found (available_found p a (rw t tt)) b)) (λ _. tt)
        where
          found : ((f : Csr) × (decode_csr_def p a ≡ Ok f)) → barred_def a (always o) x ≡ false → Read (Ok (access o m a d x))
          found w b = (λ j. cond (b j) (Err refusal.InvalidCsrOp) (found_def (w.1 j) o m d x)) ∙ ap (λ (y : Csr). Ok (inst_of o m y d x)) (e w.0 w.1)

      place : (i : (Answer ℕ)) → idx_def c ≡ i → Read (reached (available p (place_of i)) (barred_def (place_of i) (always o) x) (access o m (place_of i) d x))
      place (Ok a) e = there a (λ f q. own p a c f e q)
      place (Err n) e = there (2 ^ 12) (λ f q. absurd (omega (arith, found_lt p (2 ^ 12) f q)))

  reads : (i : IllegalInst) → Reads i (shape_for p i)
  reads Wfi = refl
  reads (Csrrw c d x) = access_reads Write false c d.0 x.0
  reads (Csrrs c d x) = access_reads Set false c d.0 x.0
  reads (Csrrc c d x) = access_reads Clear false c d.0 x.0
  reads (Csrrwi c d x) = access_reads Write true c d.0 x
  reads (Csrrsi c d x) = access_reads Set true c d.0 x
  reads (Csrrci c d x) = access_reads Clear true c d.0 x
  reads Mret = refl
  reads Sret = refl
  reads (Sfencevma a b) = fence_reads Vma a.0 b.0
  reads (Hfencevvma a b) = fence_reads Vvma a.0 b.0
  reads (Hfencegvma a b) = fence_reads Gvma a.0 b.0

  pub inst_forth : (i : IllegalInst) (s : Shape) → shape_for p i ≡ Ok s → inst_at p s ≡ Ok i
  inst_forth i s e = subst (Reads i) e (reads i)

-- ---- the demand
-- a word that is read as an instruction is what the instruction is written as
pub read_then_write : (p : Profile) (w : ℕ) (i : IllegalInst) → illegal_def p w ≡ Ok i → w < 2 ^ 32 → encode_illegal_def p i ≡ Ok w
unfolding illegal_def encode_illegal_def
read_then_write p w i q h = go (read_of system meaning w) refl (ap (read_shape p) (sym (short_word w h)) ∙ q)
  where
    go : (k : Answer Shape) → read_of system meaning w ≡ k → read_shape p k ≡ Ok i → encode_illegal_def p i ≡ Ok w
    go (Ok s) e r = ap write_shape (inst_back p s i (read_low system refl refl w s e) r) ∙ Demand3.read_then_write system meaning system_sound faithful w s e h
    go (Err n) e r = no_value refusal.Unknown i r

-- the word that an instruction is written as is below 2^32, and is read as the instruction
pub write_then_read : (p : Profile) (i : IllegalInst) (w : ℕ) → encode_illegal_def p i ≡ Ok w → (w < 2 ^ 32) × (illegal_def p w ≡ Ok i)
unfolding illegal_def encode_illegal_def
write_then_read p i w = go (shape_for p i) refl
  where
    go : (k : Answer Shape) → shape_for p i ≡ k → write_shape k ≡ Ok w → (w < 2 ^ 32) × (illegal_def p w ≡ Ok i)
    go (Ok s) e q =
        let t = Demand3.write_then_read system meaning system_sound faithful s w q in
        (t.0, ap (read_shape p) (short_word w t.0 ∙ t.1) ∙ inst_forth p i s e)
    go (Err n) e q = no_value n w q

-- writing an instruction is refused exactly when no word below 2^32 is read as the instruction
pub refused_exactly : (p : Profile) (i : IllegalInst) → RefusedExactly (λ x. illegal_def p x ≡ Ok i) (2 ^ 32) (encode_illegal_def p i)
refused_exactly p i = refused_by (λ x. illegal_def p x ≡ Ok i) (2 ^ 32) (encode_illegal_def p i) (λ x h e. read_then_write p x i e h) (write_then_read p i)

-- and no two words below 2^32 are
pub only_word : (p : Profile) (i : IllegalInst) → OnlyWord (λ x. illegal_def p x ≡ Ok i) (2 ^ 32)
only_word p i = only_by (λ x. illegal_def p x ≡ Ok i) (2 ^ 32) (encode_illegal_def p i) (λ x h e. read_then_write p x i e h) (write_then_read p i)
