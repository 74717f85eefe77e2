-- The loads and stores that are read, a line each, as Volume I draws them, RV64I and C: the word's bits from the highest down, and after them what the
-- word does not hold.
use Rattle.std.specs.Prelude.{ℕ, List, [], ◌∷◌, ◌++◌}
use Rattle.forms.specs.Layout.{Layout, Operand, rd, rs1, rs2, funct}
use Rattle.forms.specs.Segments.{fix, field, uimm, simm, reg, creg, equal, except, aligned, is, not_x0, long, compressed}

-- ---- formats of compressed words that loads and stores share: funct3 is f, and x the register that is loaded or stored
-- C.LW, C.SW: uimm[5:3] | rs1' | uimm[2|6] | x'
abbrev pub c_word : ℕ → Operand → Layout
c_word f x = fix 3 f ++ uimm 5 3 ++ creg rs1 ++ uimm 2 2 ++ uimm 6 6 ++ creg x ++ fix 2 0b00 ++ aligned 2

-- C.LD, C.SD: uimm[5:3] | rs1' | uimm[7:6] | x'
abbrev pub c_double : ℕ → Operand → Layout
c_double f x = fix 3 f ++ uimm 5 3 ++ creg rs1 ++ uimm 7 6 ++ creg x ++ fix 2 0b00 ++ aligned 3

-- ---- loads: the operand funct is funct3 of the 32-bit load, which is the width and the sign
-- LB, LH, LW, LD, LBU, LHU, LWU; funct3 7 is reserved
abbrev pub load : Layout
load = simm 11 0 ++ reg rs1 ++ field funct 3 ++ reg rd ++ fix 7 0b0000011 ++ except funct 3 0b111 ++ long

abbrev pub c_lw : Layout
c_lw = c_word 0b010 rd ++ equal funct 3 0b010 ++ compressed

abbrev pub c_ld : Layout
c_ld = c_double 0b011 rd ++ equal funct 3 0b011 ++ compressed

-- C.LWSP: uimm[5] | rd | uimm[4:2|7:6]; the base is sp, and rd 0 is reserved
abbrev pub c_lwsp : Layout
c_lwsp = fix 3 0b010 ++ uimm 5 5 ++ reg rd ++ uimm 4 2 ++ uimm 7 6 ++ fix 2 0b10 ++ aligned 2 ++ is rs1 2 ++ not_x0 rd ++ equal funct 3 0b010 ++ compressed

-- C.LDSP: uimm[5] | rd | uimm[4:3|8:6]; the base is sp, and rd 0 is reserved
abbrev pub c_ldsp : Layout
c_ldsp = fix 3 0b011 ++ uimm 5 5 ++ reg rd ++ uimm 4 3 ++ uimm 8 6 ++ fix 2 0b10 ++ aligned 3 ++ is rs1 2 ++ not_x0 rd ++ equal funct 3 0b011 ++ compressed

abbrev pub loads : List Layout
loads = load ∷ c_lw ∷ c_ld ∷ c_lwsp ∷ c_ldsp ∷ []

-- ---- stores: funct3 of the 32-bit store is 0 to 3, and the operand funct its two low bits, the width
-- SB, SH, SW, SD: imm[11:5] | rs2 | rs1 | funct3 | imm[4:0]
abbrev pub store : Layout
store = simm 11 5 ++ reg rs2 ++ reg rs1 ++ fix 1 0b0 ++ field funct 2 ++ simm 4 0 ++ fix 7 0b0100011 ++ long

abbrev pub c_sw : Layout
c_sw = c_word 0b110 rs2 ++ equal funct 2 0b10 ++ compressed

abbrev pub c_sd : Layout
c_sd = c_double 0b111 rs2 ++ equal funct 2 0b11 ++ compressed

-- C.SWSP: uimm[5:2|7:6] | rs2; the base is sp
abbrev pub c_swsp : Layout
c_swsp = fix 3 0b110 ++ uimm 5 2 ++ uimm 7 6 ++ reg rs2 ++ fix 2 0b10 ++ aligned 2 ++ is rs1 2 ++ equal funct 2 0b10 ++ compressed

-- C.SDSP: uimm[5:3|8:6] | rs2; the base is sp
abbrev pub c_sdsp : Layout
c_sdsp = fix 3 0b111 ++ uimm 5 3 ++ uimm 8 6 ++ reg rs2 ++ fix 2 0b10 ++ aligned 3 ++ is rs1 2 ++ equal funct 2 0b11 ++ compressed

abbrev pub stores : List Layout
stores = store ∷ c_sw ∷ c_sd ∷ c_swsp ∷ c_sdsp ∷ []
