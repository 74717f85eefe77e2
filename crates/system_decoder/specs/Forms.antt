-- The SYSTEM words that are read, a line each, as the manuals draw them: the word's bits from the highest down, and after them what the word does
-- not hold. They are Volume I's Zicsr and six of Volume II's privileged instructions; docs/DIFFERENCES.md lists the others.
use Rattle.std.specs.Prelude.{ℕ, List, [], ◌∷◌, ◌++◌}
use Rattle.forms.specs.Layout.{Layout, rd, rs1, rs2, funct, csr}
use Rattle.forms.specs.Segments.{fix, field, reg, equal, long}
use Rattle.system_decoder.specs.declared.Fence.{Fence}
use Rattle.system_decoder.specs.declared.Fence.TheVariants.{Vma, Vvma, Gvma}

-- the operand funct is the instruction's place in the table
abbrev pub nth : ℕ → Layout
nth k = equal funct 4 k ++ long

-- funct12 | 0 | 0 | 0 | SYSTEM
abbrev pub plain : ℕ → Layout
plain funct12 = fix 12 funct12 ++ fix 5 0b00000 ++ fix 3 0b000 ++ fix 5 0b00000 ++ fix 7 0b1110011

abbrev pub wfi : Layout
wfi = plain 0b000100000101 ++ nth 0

abbrev pub mret : Layout
mret = plain 0b001100000010 ++ nth 1

abbrev pub sret : Layout
sret = plain 0b000100000010 ++ nth 2

-- funct7 | rs2 | rs1 | 0 | 0 | SYSTEM
abbrev pub funct7 : Fence → ℕ
funct7 Vma = 0b0001001
funct7 Vvma = 0b0010001
funct7 Gvma = 0b0110001

abbrev pub fenced : ℕ → Layout
fenced f = fix 7 f ++ reg rs2 ++ reg rs1 ++ fix 3 0b000 ++ fix 5 0b00000 ++ fix 7 0b1110011

abbrev pub sfence_vma : Layout
sfence_vma = fenced (funct7 Vma) ++ nth 3

abbrev pub hfence_vvma : Layout
hfence_vvma = fenced (funct7 Vvma) ++ nth 4

abbrev pub hfence_gvma : Layout
hfence_gvma = fenced (funct7 Gvma) ++ nth 5

-- csr | rs1 or uimm | funct3 | rd | SYSTEM
abbrev pub access : ℕ → Layout
access funct3 = field csr 12 ++ reg rs1 ++ fix 3 funct3 ++ reg rd ++ fix 7 0b1110011

abbrev pub csrrw : Layout
csrrw = access 0b001 ++ nth 6

abbrev pub csrrs : Layout
csrrs = access 0b010 ++ nth 7

abbrev pub csrrc : Layout
csrrc = access 0b011 ++ nth 8

abbrev pub csrrwi : Layout
csrrwi = access 0b101 ++ nth 9

abbrev pub csrrsi : Layout
csrrsi = access 0b110 ++ nth 10

abbrev pub csrrci : Layout
csrrci = access 0b111 ++ nth 11

abbrev pub accesses : List Layout
accesses = csrrw ∷ csrrs ∷ csrrc ∷ csrrwi ∷ csrrsi ∷ csrrci ∷ []

abbrev pub system : List Layout
system = wfi ∷ mret ∷ sret ∷ sfence_vma ∷ hfence_vvma ∷ hfence_gvma ∷ accesses
