-- Which refusals the checks of a shape have. Assumes nothing.
use Rattle.utils.proofs.Prelude.{◌≡◌, sym, inl, inr, Bool, true, false, ◌&&◌, List, [], ◌∷◌, leb}
use Rattle.std.proofs.Common.{Err}
use Rattle.refusals.specs.Answer.{Answer}
use Rattle.refusals.specs.declared.Refusal.{Refusal}
use Rattle.refusals.specs.declared.Refusal.TheVariants as refusal
use Rattle.profiles.specs.declared.Profile.{Profile}
use Rattle.csrs.specs.Gates.{available}
use Rattle.forms.specs.Numbers.{OneOf}
use Rattle.utils.proofs.Tests.{on}
use Rattle.refusals.proofs.Answers.{no_value, same_refusal}
use Rattle.system_decoder.specs.declared.Shape.{Shape}
use Rattle.system_decoder.specs.declared.Shape.TheVariants.{Wfi as wfi, Mret as mret, Sret as sret, Fence as fence, Access as access}
use Rattle.system_decoder.specs.System.{always, barred_def}
use Rattle.system_encoder.specs.System.{reached, checked_def}

-- document 01's 6, 7 and 8
abbrev pub checking_refusals : List Refusal
checking_refusals = refusal.Register ∷ refusal.Csr ∷ refusal.ReadOnly ∷ []

abbrev pub ByChecks : Answer Shape → Type 0
ByChecks k = (e : Refusal) → k ≡ Err e → OneOf checking_refusals e

pub check_numbers : (p : Profile) (s : Shape) → ByChecks (checked_def p s)
check_numbers p wfi = λ n e. no_value n wfi (sym e)
check_numbers p mret = λ n e. no_value n mret (sym e)
check_numbers p sret = λ n e. no_value n sret (sym e)
check_numbers p (fence f a b) = on ByChecks (leb a 31 && leb b 31) (λ _ n e. no_value n (fence f a b) (sym e)) (λ _ n e. inl (sym (same_refusal e)))
check_numbers p (access o m a d x) =
    on ByChecks (leb d 31 && leb x 31) (λ _. past (available p a) (barred_def a (always o) x)) (λ _ n e. inl (sym (same_refusal e)))
  where
    past : (there barred : Bool) → ByChecks (reached there barred (access o m a d x))
    past true true n e = inr (inr (inl (sym (same_refusal e))))
    past true false n e = no_value n (access o m a d x) (sym e)
    past false barred n e = inr (inl (sym (same_refusal e)))
