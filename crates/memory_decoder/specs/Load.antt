-- What a word is as a load, by the table of loads: document 01's "Reading loads and stores".
use Rattle.std.specs.Prelude.{ℕ, Bool, cond, eqb, leb, ℤ, Err}
use Rattle.refusals.specs.Answer.{Answer}
use Rattle.refusals.specs.declared.Refusal.{Refusal}
use Rattle.refusals.specs.declared.Refusal.TheVariants as refusal
use Rattle.utils.specs.Signed.{signed, twos, code_def}
use Rattle.utils.specs.declared.Width.{Width}
use Rattle.profiles.specs.declared.Profile.{Profile}
use Rattle.forms.specs.Layout.{Operand, imm, rd, rs1, rs2, funct, csr, short}
use Rattle.forms.specs.Meaning.{Meaning, read_of, bit_of}
use Rattle.memory_decoder.specs.Access.{is_long, unread, unwritten}
use Rattle.memory_decoder.specs.Forms.{loads}
use Rattle.memory_decoder.specs.Funct3.{width_of, funct3_of}
use Rattle.memory_decoder.specs.declared.LoadInstr.{LoadInstr}

abbrev pub mk : ℕ → ℕ → ℤ → Width → Bool → Bool → LoadInstr
mk d b n len c u = record { rd = record { 0 = d }; rs1 = record { 0 = b }; imm = n; len = len; is_compressed = c; is_unsigned = u }

-- the load of a form's operands: the immediate is signed, in twelve bits
abbrev pub made : (Operand → ℕ) → LoadInstr
made env = mk (env rd) (env rs1) (signed 2048 (env imm)) (width_of (env funct)) (eqb (env short) 1) (leb 4 (env funct))

-- and back
abbrev pub operands_of : LoadInstr → Operand → ℕ
operands_of i imm = twos 2048 i.imm
operands_of i rd = i.rd.0
operands_of i rs1 = i.rs1.0
operands_of i rs2 = 0
operands_of i funct = funct3_of i.len i.is_unsigned
operands_of i csr = 0
operands_of i short = bit_of i.is_compressed

abbrev pub writing_refusal : LoadInstr → Refusal
writing_refusal i = unwritten i.rd.0 i.rs1.0

abbrev pub meaning : Meaning LoadInstr
meaning = record { make = made; ops = operands_of; code = λ i. code_def 2048 i.imm; is_short = λ i. i.is_compressed; reading_refusal = unread 0x03; writing_refusal = writing_refusal }

-- ---- the reading; it asks nothing of the profile
unfoldable pub load_def : Profile → ℕ → Answer LoadInstr
load_def p w = read_of loads meaning w

-- a reading of words of one length: a word of the other length is not of the form
abbrev pub uncompressed_load_def : Profile → ℕ → Answer LoadInstr
uncompressed_load_def p w = cond (is_long w) (load_def p w) (Err refusal.NotTheForm)

abbrev pub compressed_load_def : Profile → ℕ → Answer LoadInstr
compressed_load_def p w = cond (is_long w) (Err refusal.NotTheForm) (load_def p w)
