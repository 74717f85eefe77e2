-- Refusals and uniqueness, of any reading of words: they follow where reading then writing, and writing then reading, give back what was. Assumes nothing.
use Rattle.utils.proofs.Prelude.{◌≡◌, refl, sym, ◌∙◌, ℕ, ◌<◌, arith}
use Rattle.std.proofs.Common.{Ok, Err}
use Rattle.refusals.specs.Answer.{Answer}
use Rattle.refusals.proofs.Answers.{no_value}
use Rattle.forms.specs.Demand3.{Refuses, NoWord, OnlyWord, RefusedExactly}

same_word : (x y : ℕ) → ◌≡◌ {A = Answer ℕ} (Ok x) (Ok y) → x ≡ y
same_word x y e = cc

module _ (reads : ℕ → Type 0) (room : ℕ) (r : (Answer ℕ)) (back : (x : ℕ) → x < room → reads x → r ≡ Ok x) (forth : (x : ℕ) → r ≡ Ok x → (x < room) × reads x) where
  pub refused_by : RefusedExactly reads room r
  refused_by = (λ no x h e. no_value no.0 x (sym no.1 ∙ back x h e), go r refl)
    where
      go : (a : (Answer ℕ)) → r ≡ a → NoWord reads room → Refuses r
      go (Ok x) e none = let t = forth x e in absurd (none x t.0 t.1)
      go (Err n) e none = (n, e)

  pub only_by : OnlyWord reads room
  only_by x y h k e f = same_word x y (sym (back x h e) ∙ back y k f)
