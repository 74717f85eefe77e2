-- The number of an answer, and where it is 0. Assumes nothing.
use Rattle.utils.proofs.Prelude.{◌≡◌, refl, sym, ◌↔◌, ℕ}
use Rattle.std.proofs.Common.{Ok, Err}
use Rattle.refusals.specs.Answer.{Answer, number_of}
use Rattle.refusals.specs.declared.Refusal.{Refusal}
use Rattle.refusals.specs.declared.Refusal.TheVariants as refusal
use Rattle.refusals.proofs.Answers.{no_value}

-- documents 01 and 02; 0 is no refusal
abbrev pub number_in : {X : Type 0} → Answer X → ℕ
number_in (Ok x) = 0
number_in (Err e) = number_of e

pub never_zero : (e : Refusal) → ¬ (number_of e ≡ 0)
never_zero refusal.Unknown z = cc
never_zero refusal.InvalidCsrOp z = cc
never_zero refusal.NotTheForm z = cc
never_zero refusal.Width z = cc
never_zero refusal.StackForm z = cc
never_zero refusal.Register z = cc
never_zero refusal.Csr z = cc
never_zero refusal.ReadOnly z = cc
never_zero refusal.NoForm z = cc
never_zero refusal.Immediate z = cc
never_zero refusal.RecordKind z = cc
never_zero refusal.CutShort z = cc
never_zero refusal.Field z = cc
never_zero refusal.OutputShort z = cc
never_zero refusal.Hart z = cc
never_zero refusal.Reading z = cc
never_zero refusal.ListLengths z = cc

-- there is no refusal exactly where there is a value
pub value_exactly : {X : Type 0} (r : Answer X) → ((e : Refusal) → ¬ (r ≡ Err e)) ↔ ((x : X) × (r ≡ Ok x))
value_exactly (Ok x) = (λ _. (x, refl), λ _ e q. no_value e x (sym q))
value_exactly (Err e) = (λ none. absurd (none e refl), λ t. no_value e t.0 t.1)

-- and the number is 0 exactly there
pub zero_exactly : {X : Type 0} (r : Answer X) → (number_in r ≡ 0) ↔ ((x : X) × (r ≡ Ok x))
zero_exactly (Ok x) = (λ _. (x, refl), λ _. refl)
zero_exactly (Err e) = (λ z. absurd (never_zero e z), λ t. no_value e t.0 t.1)
