-- Document 02, no. 4, why a CSR was refused: "a read-only write, b gate off, c no such", and "a comes before b and c".
use Rattle.std.specs.Prelude.{Bool, true, false, ℕ}
use Rattle.std.specs.Prelude.{Result, Ok, Err}
use Rattle.csrs.specs.declared.Absent.{Absent}
use Rattle.csrs.specs.declared.Absent.TheVariants.{GateOff, NoSuch}
use Rattle.profiles.specs.declared.Profile.{Profile}
use Rattle.csr_addresses.specs.declared.Csr.{Csr}
use Rattle.csrs.specs.Gates.{decode_csr_def}
use Rattle.system_decoder.specs.declared.CsrOp.{CsrOp}
use Rattle.system_decoder.specs.declared.Shape.{Shape}
use Rattle.system_decoder.specs.declared.Shape.TheVariants.{Wfi as wfi, Mret as mret, Sret as sret, Fence as fence, Access as access}
use Rattle.system_decoder.specs.declared.Reason.{Reason}
use Rattle.system_decoder.specs.declared.Reason.TheVariants.{ReadOnly as a, GateOff as b, NoSuch as c}
use Rattle.system_decoder.specs.System.{always, barred_def}

-- the letters, in ASCII
abbrev pub letter_of : Reason → ℕ
letter_of a = 0x61
letter_of b = 0x62
letter_of c = 0x63

-- why no register is found
abbrev pub reason_of : Absent → Reason
reason_of GateOff = b
reason_of NoSuch = c

-- what is made of an access: f of its register, or g of the reason. The first argument is whether it would write a read-only register
abbrev pub judged : {X : Type 0} → (Csr → X) → (Reason → X) → Bool → Result Csr Absent → X
judged f g true k = g a
judged f g false (Ok r) = f r
judged f g false (Err e) = g (reason_of e)

abbrev pub judged_def : {X : Type 0} → (Csr → X) → (Reason → X) → Profile → CsrOp → ℕ → ℕ → X
judged_def f g p op address src = judged f g (barred_def address (always op) src) (decode_csr_def p address)

-- whether it is legal, or why not
abbrev pub access_legality : Profile → CsrOp → ℕ → ℕ → Result (Unit {0}) Reason
access_legality p op address src = judged_def (λ r. Ok tt) Err p op address src

abbrev pub legality_def : Profile → Shape → Result (Unit {0}) Reason
legality_def p wfi = Ok tt
legality_def p mret = Ok tt
legality_def p sret = Ok tt
legality_def p (fence f x y) = Ok tt
legality_def p (access op m address d src) = access_legality p op address src
