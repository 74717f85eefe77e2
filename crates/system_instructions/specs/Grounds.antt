-- The words in which demand 3's last sentence is stated: "A word in CSR form is refused as InvalidCsrOp exactly when its address names no register
-- available under the profile, or it would write a read-only one."
use Rattle.std.specs.Prelude.{◌≡◌, false, ◌⊎◌, ℕ, ◌%◌, ◌^◌}
use Rattle.std.specs.Prelude.{Err}
use Rattle.refusals.specs.declared.Refusal.TheVariants as refusal
use Rattle.utils.specs.Field.{fld}
use Rattle.profiles.specs.declared.Profile.{Profile}
use Rattle.csrs.specs.Gates.{available}
use Rattle.system_instructions.specs.Instruction.{illegal_def}

-- low seven bits 0x73, bits 13:12 not zero
abbrev pub CsrForm : ℕ → Type 0
CsrForm w = (w % 2 ^ 7 ≡ 0x73) × ¬ (fld w 12 2 ≡ 0)

-- bits 31:20
abbrev pub address : ℕ → ℕ
address w = fld w 20 12

-- write always writes; set and clear write when the rs1 field is not 0
abbrev pub Writes : ℕ → Type 0
Writes w = (fld w 12 2 ≡ 1) ⊎ ¬ (fld w 15 5 ≡ 0)

-- address bits 11:10 both one
abbrev pub ReadOnly : ℕ → Type 0
ReadOnly a = fld a 10 2 ≡ 3

-- it would write a read-only one
abbrev pub ReadOnlyWrite : ℕ → Type 0
ReadOnlyWrite w = ReadOnly (address w) × Writes w

-- the address names no available register, or it would write a read-only one
abbrev pub Grounds : Profile → ℕ → Type 0
Grounds p w = (available p (address w) ≡ false) ⊎ ReadOnlyWrite w

-- refused as InvalidCsrOp
abbrev pub Invalid : Profile → ℕ → Type 0
Invalid p w = illegal_def p w ≡ Err refusal.InvalidCsrOp
