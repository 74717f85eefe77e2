-- The four widths of an access in bits and bytes, and sign extension from a width to 64 bits.
use Rattle.std.specs.Prelude.{ℕ, ◌-◌, ◌*◌, ◌/◌, ◌%◌, ◌^◌, cond, ◌==◌, ◌≡◌}
use Rattle.std.specs.Prelude.{Result, Ok, Err}
use Rattle.utils.specs.declared.UnknownWidth.{UnknownWidth}
use Rattle.utils.specs.Signed.{signed, twos}
use Rattle.utils.specs.declared.Width.{Width}
use Rattle.utils.specs.declared.Width.TheVariants.{Byte, Byte2, Byte4, Byte8}

abbrev pub bits_of : Width → ℕ
bits_of Byte = 8
bits_of Byte2 = 16
bits_of Byte4 = 32
bits_of Byte8 = 64

abbrev pub bytes_of : Width → ℕ
bytes_of w = bits_of w / 8

-- the width of n bits, or that no width has as many
abbrev pub width_from : ℕ → Result Width UnknownWidth
width_from n =
    cond (n == 8) (Ok Byte)
    (cond (n == 16) (Ok Byte2)
    (cond (n == 32) (Ok Byte4)
    (cond (n == 64) (Ok Byte8)
    (Err (record { 0 = n })))))

abbrev pub IsWidthFrom : ℕ → Result Width UnknownWidth → Type 0
IsWidthFrom n r = r ≡ width_from n

-- half of the codes that a width has: the first that means a negative number
abbrev pub half_of : Width → ℕ
half_of w = 2 ^ (bits_of w - 1)

-- the low bits of x, 2 H codes of them, read as signed and written in 64 bits
abbrev pub extended : ℕ → ℕ → ℕ
extended H x = twos (2 ^ 63) (signed H (x % (2 * H)))
