-- Document 02, no. 4: the SYSTEM reading with the reason of a refusal 2. "The old answer is still had by dropping the reason": that is `illegal_def`
-- (proofs/Reasons).
use Rattle.std.specs.Prelude.{◌≡◌, false, ℕ}
use Rattle.std.specs.Prelude.{Result, Ok, Err}
use Rattle.refusals.specs.Answer.{Answer}
use Rattle.refusals.specs.declared.Refusal.{Refusal}
use Rattle.refusals.specs.declared.Refusal.TheVariants as refusal
use Rattle.system_instructions.specs.declared.DecodeError.{DecodeError}
use Rattle.system_instructions.specs.declared.DecodeError.TheVariants.{InvalidCsrOp, Unknown}
use Rattle.profiles.specs.declared.Profile.{Profile}
use Rattle.csrs.specs.Gates.{available, SomeProfile}
use Rattle.system_decoder.specs.declared.Reason.{Reason}
use Rattle.system_decoder.specs.declared.Reason.TheVariants.{ReadOnly as a, GateOff as b, NoSuch as c}
use Rattle.system_decoder.specs.declared.Shape.{Shape}
use Rattle.system_decoder.specs.declared.Shape.TheVariants.{Wfi as wfi, Mret as mret, Sret as sret, Fence as fence, Access as access}
use Rattle.system_decoder.specs.System.{shape_at}
use Rattle.system_decoder.specs.Reasons.{letter_of, judged_def}
use Rattle.system_instructions.specs.declared.IllegalInst.{IllegalInst}
use Rattle.system_instructions.specs.declared.IllegalInst.TheVariants.{Wfi, Mret, Sret}
use Rattle.system_instructions.specs.Instruction.{inst_of, fence_of}
use Rattle.system_instructions.specs.Grounds.{address, ReadOnlyWrite}

abbrev pub refused_for : Reason → Result IllegalInst DecodeError
refused_for y = Err (InvalidCsrOp y)

-- what a profile makes of a shape
abbrev pub explained_at : Profile → Shape → Result IllegalInst DecodeError
explained_at p wfi = Ok Wfi
explained_at p mret = Ok Mret
explained_at p sret = Ok Sret
explained_at p (fence f x y) = Ok (fence_of f x y)
explained_at p (access o m n d x) = judged_def (λ r. Ok (inst_of o m r d x)) refused_for p o n x

abbrev pub explained_shape : Profile → Answer Shape → Result IllegalInst DecodeError
explained_shape p (Ok s) = explained_at p s
explained_shape p (Err n) = Err Unknown

-- the reading
unfoldable pub explained_def : Profile → ℕ → Result IllegalInst DecodeError
explained_def p w = explained_shape p (shape_at w)

-- the same without the reason
abbrev pub refusal_of : DecodeError → Refusal
refusal_of (InvalidCsrOp r) = refusal.InvalidCsrOp
refusal_of Unknown = refusal.Unknown

abbrev pub without_reason : Result IllegalInst DecodeError → Answer IllegalInst
without_reason (Ok i) = Ok i
without_reason (Err e) = Err (refusal_of e)

-- ---- the reasons of a word in CSR form, each by what it says
abbrev pub Because : Profile → ℕ → Reason → Type 0
Because p w a = ReadOnlyWrite w
Because p w b = ¬ ReadOnlyWrite w × ((available p (address w) ≡ false) × SomeProfile (address w))
Because p w c = ¬ ReadOnlyWrite w × ¬ SomeProfile (address w)

-- ---- the reason's letter, 0 where there is none
abbrev pub letter_in : Result IllegalInst DecodeError → ℕ
letter_in (Ok i) = 0
letter_in (Err (InvalidCsrOp r)) = letter_of r
letter_in (Err Unknown) = 0
