-- The SYSTEM writing: whether a profile lets a shape be written, or why not; and the shape's word, by the table that reads it.
use Rattle.std.specs.Prelude.{Bool, cond, ℕ}
use Rattle.std.specs.Prelude.{Ok, Err}
use Rattle.refusals.specs.Answer.{Answer}
use Rattle.refusals.specs.declared.Refusal.TheVariants as refusal
use Rattle.registers.specs.Numbers.{are_valid}
use Rattle.profiles.specs.declared.Profile.{Profile}
use Rattle.csrs.specs.Gates.{available}
use Rattle.forms.specs.Meaning.{write_of}
use Rattle.system_decoder.specs.Forms.{system}
use Rattle.system_decoder.specs.declared.Shape.{Shape}
use Rattle.system_decoder.specs.declared.Shape.TheVariants.{Wfi as wfi, Mret as mret, Sret as sret, Fence as fence, Access as access}
use Rattle.system_decoder.specs.System.{always, barred_def, meaning}

-- ---- document 01's checks of a shape that may hold any numbers, in its order
-- 7: the register is not available; 8: the operation writes a read-only register
abbrev pub reached : Bool → Bool → Shape → Answer Shape
reached there barred s = cond there (cond barred (Err refusal.ReadOnly) (Ok s)) (Err refusal.Csr)

-- 6: a register or uimm above 31
abbrev pub checked_def : Profile → Shape → Answer Shape
checked_def p wfi = Ok wfi
checked_def p mret = Ok mret
checked_def p sret = Ok sret
checked_def p (fence f a b) = cond (are_valid a b) (Ok (fence f a b)) (Err refusal.Register)
checked_def p (access o m a d x) = cond (are_valid d x) (reached (available p a) (barred_def a (always o) x) (access o m a d x)) (Err refusal.Register)

-- ---- the writing
abbrev pub write_shape : Answer Shape → Answer ℕ
write_shape (Ok s) = write_of system meaning s
write_shape (Err n) = Err n
