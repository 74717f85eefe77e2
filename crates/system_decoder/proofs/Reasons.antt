-- Dropping the reason of a refused CSR form: whoever makes one thing of all reasons asks no more than whether the register is available, and whether
-- the access is barred. Assumes nothing.
use Rattle.utils.proofs.Prelude.{◌≡◌, refl, ◌∙◌, Bool, true, false, ◌&&◌, not, cond}
use Rattle.std.proofs.Common.{Result, Ok, Err}
use Rattle.std.specs.Result.{is_ok}
use Rattle.csrs.specs.declared.Absent.{Absent}
use Rattle.csrs.specs.declared.Absent.TheVariants.{GateOff, NoSuch}
use Rattle.profiles.specs.declared.Profile.{Profile}
use Rattle.csr_addresses.specs.declared.Csr.{Csr}
use Rattle.csrs.specs.Gates.{decode_csr_def, if_found, is_found, available}
use Rattle.system_decoder.specs.declared.Reason.{Reason}
use Rattle.system_decoder.specs.declared.Shape.{Shape}
use Rattle.system_decoder.specs.declared.Shape.TheVariants.{Wfi as wfi, Mret as mret, Sret as sret, Fence as fence, Access as access}
use Rattle.system_decoder.specs.System.{always, barred_def, legal_def}
use Rattle.system_decoder.specs.Reasons.{judged, legality_def}

-- what h makes of the answer is the answer that h's own values give
pub judged_by : {X Y : Type 0} (h : X → Y) (f : Csr → X) (g : Reason → X) (b : Bool) (k : Result Csr Absent) → h (judged f g b k) ≡ judged (λ r. h (f r)) (λ y. h (g y)) b k
judged_by h f g true k = refl
judged_by h f g false (Ok r) = refl
judged_by h f g false (Err GateOff) = refl
judged_by h f g false (Err NoSuch) = refl

-- one answer for all reasons
pub one_answer : {X : Type 0} (f : Csr → X) (x : X) (b : Bool) (k : Result Csr Absent) → judged f (λ y. x) b k ≡ cond b x (if_found f x k)
one_answer f x true k = refl
one_answer f x false (Ok r) = refl
one_answer f x false (Err GateOff) = refl
one_answer f x false (Err NoSuch) = refl

pub legal_is : (p : Profile) (s : Shape) → is_ok (legality_def p s) ≡ legal_def p s
unfolding available
legal_is p wfi = refl
legal_is p mret = refl
legal_is p sret = refl
legal_is p (fence f x y) = refl
legal_is p (access o m a d x) =
    judged_by is_ok (λ r. Ok tt) Err (barred_def a (always o) x) (decode_csr_def p a)
    ∙ one_answer (λ r. true) false (barred_def a (always o) x) (decode_csr_def p a)
    ∙ test (barred_def a (always o) x) (is_found (decode_csr_def p a))
  where
    test : (b t : Bool) → cond b false t ≡ not b && t
    test true t = refl
    test false t = refl
