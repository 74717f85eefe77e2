-- Refusals go by their numbers, and no refusal is a value. Assumes nothing.
use Rattle.utils.proofs.Prelude.{◌≡◌, refl, sym, ap, ◌∙◌, Bool, true, [], ◌∷◌, ℕ, get_or, eqb, eqb-true}
use Rattle.std.proofs.Common.{Result, Ok, Err}
use Rattle.refusals.specs.Answer.{Answer, number_of}
use Rattle.refusals.specs.declared.Refusal.{Refusal}
use Rattle.refusals.specs.declared.Refusal.TheVariants as refusal

abbrev named : ℕ → Refusal
named n = get_or (refusal.Unknown ∷ refusal.Unknown ∷ refusal.InvalidCsrOp ∷ refusal.NotTheForm ∷ refusal.Width ∷ refusal.StackForm ∷ refusal.Register ∷ refusal.Csr ∷ refusal.ReadOnly ∷ refusal.NoForm ∷ refusal.Immediate ∷ refusal.RecordKind ∷ refusal.CutShort ∷ refusal.Field ∷ refusal.OutputShort ∷ refusal.Hart ∷ refusal.Reading ∷ refusal.ListLengths ∷ []) n refusal.Unknown

named_back : (e : Refusal) → named (number_of e) ≡ e
named_back refusal.Unknown = refl
named_back refusal.InvalidCsrOp = refl
named_back refusal.NotTheForm = refl
named_back refusal.Width = refl
named_back refusal.StackForm = refl
named_back refusal.Register = refl
named_back refusal.Csr = refl
named_back refusal.ReadOnly = refl
named_back refusal.NoForm = refl
named_back refusal.Immediate = refl
named_back refusal.RecordKind = refl
named_back refusal.CutShort = refl
named_back refusal.Field = refl
named_back refusal.OutputShort = refl
named_back refusal.Hart = refl
named_back refusal.Reading = refl
named_back refusal.ListLengths = refl

pub same_number : (e f : Refusal) → number_of e ≡ number_of f → e ≡ f
same_number e f q = sym (named_back e) ∙ ap named q ∙ named_back f

-- two refusals are the same
abbrev pub is_same : Refusal → Refusal → Bool
is_same e f = eqb (number_of e) (number_of f)

pub by_same : (e f : Refusal) → is_same e f ≡ true → e ≡ f
by_same e f t = same_number e f (eqb-true (number_of e) (number_of f) t)

pub no_value : {E F X : Type 0} (e : E) (f : F) → ◌≡◌ {A = Result F E} (Err e) (Ok f) → X
no_value e f q = let z : ⊥ = cc in absurd z

pub same_refusal : {F : Type 0} {e f : Refusal} → ◌≡◌ {A = Answer F} (Err e) (Err f) → e ≡ f
same_refusal q = cc
