-- What a word is as a store, by the table of stores: document 01's "Reading loads and stores".
use Rattle.std.specs.Prelude.{ℕ, Bool, cond, eqb, ℤ, Err}
use Rattle.refusals.specs.Answer.{Answer}
use Rattle.refusals.specs.declared.Refusal.{Refusal}
use Rattle.refusals.specs.declared.Refusal.TheVariants as refusal
use Rattle.utils.specs.Signed.{signed, twos, code_def}
use Rattle.utils.specs.declared.Width.{Width}
use Rattle.profiles.specs.declared.Profile.{Profile}
use Rattle.forms.specs.Layout.{Operand, imm, rd, rs1, rs2, funct, csr, short}
use Rattle.forms.specs.Meaning.{Meaning, read_of, bit_of}
use Rattle.memory_decoder.specs.Access.{is_long, unread, unwritten}
use Rattle.memory_decoder.specs.Forms.{stores}
use Rattle.memory_decoder.specs.Funct3.{width_of, size_of}
use Rattle.memory_decoder.specs.declared.StoreInstr.{StoreInstr}

abbrev pub mk : ℕ → ℕ → ℤ → Width → Bool → StoreInstr
mk s b n len c = record { rs2 = record { 0 = s }; rs1 = record { 0 = b }; imm = n; len = len; is_compressed = c }

-- the store of a form's operands: the immediate is signed, in twelve bits
abbrev pub made : (Operand → ℕ) → StoreInstr
made env = mk (env rs2) (env rs1) (signed 2048 (env imm)) (width_of (env funct)) (eqb (env short) 1)

-- and back
abbrev pub operands_of : StoreInstr → Operand → ℕ
operands_of i imm = twos 2048 i.imm
operands_of i rd = 0
operands_of i rs1 = i.rs1.0
operands_of i rs2 = i.rs2.0
operands_of i funct = size_of i.len
operands_of i csr = 0
operands_of i short = bit_of i.is_compressed

abbrev pub writing_refusal : StoreInstr → Refusal
writing_refusal i = unwritten i.rs2.0 i.rs1.0

abbrev pub meaning : Meaning StoreInstr
meaning = record { make = made; ops = operands_of; code = λ i. code_def 2048 i.imm; is_short = λ i. i.is_compressed; reading_refusal = unread 0x23; writing_refusal = writing_refusal }

-- ---- the reading; it asks nothing of the profile
unfoldable pub store_def : Profile → ℕ → Answer StoreInstr
store_def p w = read_of stores meaning w

-- a reading of words of one length: a word of the other length is not of the form
abbrev pub uncompressed_store_def : Profile → ℕ → Answer StoreInstr
uncompressed_store_def p w = cond (is_long w) (store_def p w) (Err refusal.NotTheForm)

abbrev pub compressed_store_def : Profile → ℕ → Answer StoreInstr
compressed_store_def p w = cond (is_long w) (Err refusal.NotTheForm) (store_def p w)
