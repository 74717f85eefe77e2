-- The typed instruction of a SYSTEM word: what a profile makes of a word's shape, and the shape in which an instruction is written. With it
-- document 01's "Reading a SYSTEM word" is whole.
use Rattle.std.specs.Prelude.{Bool, true, false, cond, ℕ, ◌^◌}
use Rattle.std.specs.Prelude.{Result, Ok, Err}
use Rattle.refusals.specs.Answer.{Answer}
use Rattle.refusals.specs.declared.Refusal.TheVariants as refusal
use Rattle.csrs.specs.declared.Absent.{Absent}
use Rattle.csr_addresses.specs.declared.Csr.{Csr}
use Rattle.csr_addresses.specs.Address.{idx_def}
use Rattle.registers.specs.declared.Register.{Register}
use Rattle.csrs.specs.Gates.{decode_csr_def, if_found}
use Rattle.profiles.specs.declared.Profile.{Profile}
use Rattle.system_decoder.specs.declared.CsrOp.{CsrOp}
use Rattle.system_decoder.specs.declared.CsrOp.TheVariants.{Write, Set, Clear}
use Rattle.system_decoder.specs.declared.Fence.{Fence}
use Rattle.system_decoder.specs.declared.Fence.TheVariants.{Vma, Vvma, Gvma}
use Rattle.system_decoder.specs.declared.Shape.{Shape}
use Rattle.system_decoder.specs.declared.Shape.TheVariants.{Wfi as wfi, Mret as mret, Sret as sret, Fence as fence, Access as access}
use Rattle.system_decoder.specs.System.{always, barred_def, shape_at}
use Rattle.system_encoder.specs.System.{checked_def, write_shape}
use Rattle.system_instructions.specs.declared.IllegalInst.{IllegalInst}
use Rattle.system_instructions.specs.declared.IllegalInst.TheVariants.{Wfi, Csrrw, Csrrs, Csrrc, Csrrwi, Csrrsi, Csrrci, Mret, Sret, Sfencevma, Hfencevvma, Hfencegvma}

-- ---- what a profile makes of a shape
abbrev pub register : ℕ → Register
register n = record { 0 = n }

abbrev pub inst_of : CsrOp → Bool → Csr → ℕ → ℕ → IllegalInst
inst_of Write false c d x = Csrrw c (register d) (register x)
inst_of Set false c d x = Csrrs c (register d) (register x)
inst_of Clear false c d x = Csrrc c (register d) (register x)
inst_of Write true c d x = Csrrwi c (register d) x
inst_of Set true c d x = Csrrsi c (register d) x
inst_of Clear true c d x = Csrrci c (register d) x

abbrev pub fence_of : Fence → ℕ → ℕ → IllegalInst
fence_of Vma a b = Sfencevma (register a) (register b)
fence_of Vvma a b = Hfencevvma (register a) (register b)
fence_of Gvma a b = Hfencegvma (register a) (register b)

abbrev pub found_def : Result Csr Absent → CsrOp → Bool → ℕ → ℕ → Answer IllegalInst
found_def k o m d x = if_found (λ c. Ok (inst_of o m c d x)) (Err refusal.InvalidCsrOp) k

abbrev pub inst_at : Profile → Shape → Answer IllegalInst
inst_at p wfi = Ok Wfi
inst_at p mret = Ok Mret
inst_at p sret = Ok Sret
inst_at p (fence f a b) = Ok (fence_of f a b)
inst_at p (access o m a d x) = cond (barred_def a (always o) x) (Err refusal.InvalidCsrOp) (found_def (decode_csr_def p a) o m d x)

-- ---- the reading
abbrev pub read_shape : Profile → Answer Shape → Answer IllegalInst
read_shape p (Ok s) = inst_at p s
read_shape p (Err n) = Err refusal.Unknown

unfoldable pub illegal_def : Profile → ℕ → Answer IllegalInst
illegal_def p w = read_shape p (shape_at w)

-- ---- the shape of an instruction
-- a register that has no address of its own gets 4096, where no profile has one
abbrev pub place_of : Answer ℕ → ℕ
place_of (Ok a) = a
place_of (Err n) = 2 ^ 12

abbrev pub access_to : CsrOp → Bool → Csr → ℕ → ℕ → Shape
access_to o m c d x = access o m (place_of (idx_def c)) d x

abbrev pub own_shape : IllegalInst → Shape
own_shape Wfi = wfi
own_shape (Csrrw c d x) = access_to Write false c d.0 x.0
own_shape (Csrrs c d x) = access_to Set false c d.0 x.0
own_shape (Csrrc c d x) = access_to Clear false c d.0 x.0
own_shape (Csrrwi c d x) = access_to Write true c d.0 x
own_shape (Csrrsi c d x) = access_to Set true c d.0 x
own_shape (Csrrci c d x) = access_to Clear true c d.0 x
own_shape Mret = mret
own_shape Sret = sret
own_shape (Sfencevma a b) = fence Vma a.0 b.0
own_shape (Hfencevvma a b) = fence Vvma a.0 b.0
own_shape (Hfencegvma a b) = fence Gvma a.0 b.0

abbrev pub shape_for : Profile → IllegalInst → Answer Shape
shape_for p i = checked_def p (own_shape i)

-- ---- the writing
unfoldable pub encode_illegal_def : Profile → IllegalInst → Answer ℕ
encode_illegal_def p i = write_shape (shape_for p i)
