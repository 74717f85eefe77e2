-- The words in which a layout is written, joined by `++`: first the word's bits from the highest down, then what the word does not hold.
use Rattle.std.specs.Prelude.{ℕ, ◌+◌, ◌-◌, [], ◌∷◌}
use Rattle.forms.specs.Layout.{Layout, const, take, given, avoid, Operand, imm, short}

-- ---- bits of the word
-- n bits that are v
abbrev pub fix : ℕ → ℕ → Layout
fix n v = const n v ∷ []

-- the operand x in n bits
abbrev pub field : Operand → ℕ → Layout
field x n = take x n 0 ∷ []

-- the immediate's bits h down to l, as the manuals name them: where it is unsigned, and where it is signed
abbrev pub uimm : ℕ → ℕ → Layout
uimm h l = take imm (h + 1 - l) l ∷ []

abbrev pub simm : ℕ → ℕ → Layout
simm h l = uimm h l

-- a register
abbrev pub reg : Operand → Layout
reg x = field x 5

-- a register of the eight popular ones, x8 to x15, in three bits
abbrev pub creg : Operand → Layout
creg x = take x 3 0 ∷ given x 1 3 1 ∷ []

-- ---- no bits of the word
-- the operand x, of n bits, is v
abbrev pub equal : Operand → ℕ → ℕ → Layout
equal x n v = given x n 0 v ∷ []

-- the operand x, of n bits, is not v
abbrev pub except : Operand → ℕ → ℕ → Layout
except x n v = avoid x n 0 v ∷ []

-- the immediate's bits below bit n are 0: it is a multiple of 2 ^ n
abbrev pub aligned : ℕ → Layout
aligned n = equal imm n 0

-- the register x is v
abbrev pub is : Operand → ℕ → Layout
is x v = equal x 5 v

-- the register x is not x0
abbrev pub not_x0 : Operand → Layout
not_x0 x = except x 5 0

-- the word has 32 bits, or 16
abbrev pub long : Layout
long = equal short 1 0

abbrev pub compressed : Layout
compressed = equal short 1 1
