-- Which refusals a table has: a word's is the one that its `Meaning` gives, an instruction's the one that its `Meaning` gives or, where it has a
-- form, 10. Assumes nothing.
use Rattle.utils.proofs.Prelude.{◌≡◌, refl, sym, ◌∙◌, subst, ◌⊎◌, inl, inr, ⊎_elim, Bool, true, false≢true, List, [], ◌∷◌, ℕ, eqb, eqb-true}
use Rattle.std.proofs.Common.{Option, Some, None, Ok, Err}
use Rattle.refusals.specs.Answer.{Answer}
use Rattle.utils.proofs.Tests.{both, either, on}
use Rattle.forms.specs.Layout.{Layout, all, readable, chosen, build}
use Rattle.forms.specs.Sound.{first, any}
use Rattle.forms.specs.Meaning.{Meaning, within, put, read_as, read_of, write_as, write_of}
use Rattle.forms.specs.Numbers.{OneOf}
use Rattle.refusals.specs.declared.Refusal.{Refusal}
use Rattle.refusals.specs.declared.Refusal.TheVariants as refusal
use Rattle.refusals.proofs.Answers.{is_same, by_same, no_value, same_refusal}

first_refusal : (p : Layout → Bool) (T : List Layout) (d e : Refusal) → first p T d ≡ Err e → e ≡ d
first_refusal p [] d e = λ q. sym (same_refusal q)
first_refusal p (L ∷ T) d e = on (λ (k : Answer Layout). k ≡ Err e → e ≡ d) (p L) (λ _ q. no_value e L (sym q)) (λ _. first_refusal p T d e)

module _ {I : Type 0} (T : List Layout) (S : Meaning I) where
  pub reading_number : (w : ℕ) (e : Refusal) → read_of T S w ≡ Err e → e ≡ S.reading_refusal w
  reading_number w e = go (first (readable w) T (S.reading_refusal w)) refl
    where
      go : (k : Answer Layout) → first (readable w) T (S.reading_refusal w) ≡ k → read_as S w k ≡ Err e → e ≡ S.reading_refusal w
      go (Ok L) p q = no_value e _ (sym q)
      go (Err d) p q = sym (same_refusal q) ∙ first_refusal (readable w) T (S.reading_refusal w) d p

  pub writing_number : (i : I) (e : Refusal) → write_of T S i ≡ Err e → (e ≡ S.writing_refusal i) ⊎ (e ≡ refusal.Immediate)
  writing_number i e = go (first (chosen (S.ops i)) T (S.writing_refusal i)) refl
    where
      held : (k : Option ℕ) (w : ℕ) → put k w ≡ Err e → e ≡ refusal.Immediate
      held (Some m) w q = no_value e w (sym q)
      held None w q = sym (same_refusal q)

      go : (k : Answer Layout) → first (chosen (S.ops i)) T (S.writing_refusal i) ≡ k → write_as S i k ≡ Err e → (e ≡ S.writing_refusal i) ⊎ (e ≡ refusal.Immediate)
      go (Ok L) p q = inr (held (within L (S.code i)) (build L (S.ops i)) q)
      go (Err d) p q = inl (sym (same_refusal q) ∙ first_refusal (chosen (S.ops i)) T (S.writing_refusal i) d p)

-- ---- sets of refusals: the test that one lies in another is computed
one_of : (fs : List Refusal) (e : Refusal) → any (is_same e) fs ≡ true → OneOf fs e
one_of [] e t = false≢true t
one_of (f ∷ fs) e t = either (is_same e f) (any (is_same e) fs) t (λ q. inl (by_same e f q)) (λ q. inr (one_of fs e q))

pub wider : (ds fs : List Refusal) → all (λ d. any (is_same d) fs) ds ≡ true → (e : Refusal) → OneOf ds e → OneOf fs e
wider [] fs t e h = absurd h
wider (d ∷ ds) fs t e h =
    let s = both (all (λ d. any (is_same d) fs) ds) (any (is_same d) fs) t in
    ⊎_elim (λ q. subst (OneOf fs) (sym q) (one_of fs d s.1)) (wider ds fs s.0 e) h
