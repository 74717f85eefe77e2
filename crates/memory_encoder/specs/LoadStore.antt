-- What a load and a store are written as, by the tables that they are read by (`memory_decoder`): document 01's refusals 6, 9 and 10. After that, what
-- the encoder's own functions answer.
use Rattle.std.specs.Prelude.{ℕ, ◌%◌, ◌≡◌, true, false, ◌&&◌, cond, eqb, ltb, ℤ}
use Rattle.std.specs.Prelude.{Option, Some, None, Ok, Err}
use Rattle.refusals.specs.Answer.{Answer}
use Rattle.refusals.specs.declared.Refusal.TheVariants as refusal
use Rattle.utils.specs.declared.Width.{Width}
use Rattle.profiles.specs.declared.Profile.{Profile}
use Rattle.forms.specs.Layout.{Operand, imm, rd, rs1, rs2, funct, csr, short}
use Rattle.forms.specs.Meaning.{write_of}
use Rattle.memory_decoder.specs.declared.LoadInstr.{LoadInstr}
use Rattle.memory_decoder.specs.declared.StoreInstr.{StoreInstr}
use Rattle.memory_decoder.specs.Forms.{loads, stores}
use Rattle.memory_decoder.specs.Load as Load
use Rattle.memory_decoder.specs.Store as Store

-- writing asks nothing of the profile
unfoldable pub encode_load_def : Profile → LoadInstr → Answer ℕ
encode_load_def p i = write_of loads Load.meaning i

unfoldable pub encode_store_def : Profile → StoreInstr → Answer ℕ
encode_store_def p i = write_of stores Store.meaning i

-- ---- what the encoder's own functions answer
-- operands by their numbers: x is a load's rd or a store's rs2
abbrev pub operands : ℕ → ℕ → ℕ → ℕ → Operand → ℕ
operands x b f n imm = n
operands x b f n rd = x
operands x b f n rs1 = b
operands x b f n rs2 = x
operands x b f n funct = f
operands x b f n csr = 0
operands x b f n short = 0

-- what a compressed load or store of the register x is written as, by the funct3 f of its 32-bit form
pub record Compressed (f x b : ℕ) (z : ℤ) (len : Width) (r : Answer ℕ) : Type 0 where
  pub as_load : f ≡ 0b010 → r ≡ write_of loads Load.meaning (Load.mk x b z len true false)
  pub as_store : f ≡ 0b110 → r ≡ write_of stores Store.meaning (Store.mk x b z len true)

-- a code that is a multiple of s below l
abbrev pub stepped : ℕ → ℕ → Option ℕ → Option ℕ
stepped s l (Some n) = cond (eqb (n % s) 0 && ltb n l) (Some n) None
stepped s l None = None

-- a code that was found, or document 01's refusal 10
abbrev pub coded : Option ℕ → Answer ℕ
coded (Some n) = Ok n
coded None = Err refusal.Immediate
