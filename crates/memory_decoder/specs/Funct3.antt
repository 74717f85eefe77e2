-- funct3 of loads and stores: its low two bits are the width, its bit 2 that a load is unsigned (Volume I, RV64I).
use Rattle.std.specs.Prelude.{ℕ, ◌+◌, ◌*◌, ◌%◌, ◌^◌, Bool, [], ◌∷◌, get_or}
use Rattle.utils.specs.declared.Width.{Width}
use Rattle.utils.specs.declared.Width.TheVariants.{Byte, Byte2, Byte4, Byte8}
use Rattle.forms.specs.Meaning.{bit_of}

abbrev pub width_of : ℕ → Width
width_of f = get_or (Byte ∷ Byte2 ∷ Byte4 ∷ Byte8 ∷ []) (f % 2 ^ 2) Byte

abbrev pub size_of : Width → ℕ
size_of Byte = 0
size_of Byte2 = 1
size_of Byte4 = 2
size_of Byte8 = 3

abbrev pub funct3_of : Width → Bool → ℕ
funct3_of len u = 4 * bit_of u + size_of len
