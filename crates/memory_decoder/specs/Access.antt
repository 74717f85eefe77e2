-- What loads and stores share, as accesses to memory: the length of a word, and the refusals.
use Rattle.std.specs.Prelude.{ℕ, ◌%◌, ◌^◌, Bool, cond, eqb}
use Rattle.refusals.specs.declared.Refusal.{Refusal}
use Rattle.refusals.specs.declared.Refusal.TheVariants as refusal
use Rattle.registers.specs.Numbers.{are_valid}

-- a word has 32 bits where its low two bits are 11 (Volume I, "Base Instruction-Length Encoding"), else it is compressed
abbrev pub is_long : ℕ → Bool
is_long w = eqb (w % 2 ^ 2) 0b11

-- a word of no form: 5 where its low two bits are 10, 4 where it has the opcode, else 3
abbrev pub unread : ℕ → ℕ → Refusal
unread opcode w = cond (eqb (w % 2 ^ 2) 0b10) refusal.StackForm (cond (eqb (w % 2 ^ 7) opcode) refusal.Width refusal.NotTheForm)

-- an instruction of no form, by its two registers: 6 where one is above 31, else 9
abbrev pub unwritten : ℕ → ℕ → Refusal
unwritten x b = cond (are_valid x b) refusal.NoForm refusal.Register
