-- Document 02, no. 4: the look-up's two ways to say no, over all profiles. Assumes nothing.
use Rattle.utils.proofs.Prelude.{◌≡◌, refl, sym, ap, ◌∙◌, ◌↔◌, Bool, true, false, false≢true, ℕ, ◌≤◌, arith, T}
use Rattle.std.proofs.Common.{Option, Some, None, Err}
use Rattle.csrs.specs.declared.Absent.TheVariants.{GateOff, NoSuch}
use Rattle.csr_addresses.specs.declared.Csr.{Csr}
use Rattle.utils.proofs.Members.{all, all_at}
use Rattle.csr_addresses.proofs.Find.{found_at, found_in}
use Rattle.csr_addresses.proofs.Laws.{idx_lt}
use Rattle.profiles.specs.declared.Profile.{Profile}
use Rattle.profiles.specs.Profile.{full_profile}
use Rattle.csrs.specs.declared.Row.{Row}
use Rattle.csrs.specs.Gates.{allows_def, rows, row_idx, spot_def, gated_def, answer, decode_csr_def, is_found, available, SomeProfile}
use Rattle.csrs.proofs.Laws.{found_gated}

-- the full profile opens every gate
rows_open : T (all (λ r. allows_def full_profile r.gate) rows)
unfolding all
rows_open = tt

module _ (a : ℕ) where
  -- some profile makes an address available exactly where there is a row
  with_row : (r : Row) → spot_def a ≡ Some r → SomeProfile a
  unfolding available decode_csr_def spot_def
  with_row r e = (
    full_profile,
    (
      omega arith,
      ap (λ (s : Option Row). is_found (answer full_profile s)) e ∙ found_gated (allows_def full_profile r.gate) r.csr
          ∙ holds (allows_def full_profile r.gate) (all_at (λ s. allows_def full_profile s.gate) rows_open (found_in row_idx a rows r e)),
    ),
  )
    where
      holds : (b : Bool) → T b → b ≡ true
      holds true t = refl
      holds false t = absurd t

  without_row : spot_def a ≡ None → SomeProfile a → ⊥
  unfolding available decode_csr_def
  without_row e s = false≢true (sym (ap (λ (k : Option Row). is_found (answer s.0 k)) e) ∙ s.1.1)

  module _ (p : Profile) where
    -- "gate off" exactly where the address is not available here and some profile makes it available
    pub gate_off : (decode_csr_def p a ≡ Err GateOff) ↔ ((available p a ≡ false) × SomeProfile a)
    unfolding available decode_csr_def
    gate_off = step (spot_def a) refl
      where
        shut : (b : Bool) (c : Csr) → is_found (gated_def b c) ≡ false → gated_def b c ≡ Err GateOff
        shut true c e = absurd (false≢true (sym e))
        shut false c e = refl

        step : (s : Option Row) → spot_def a ≡ s → (answer p s ≡ Err GateOff) ↔ ((is_found (answer p s) ≡ false) × SomeProfile a)
        step (Some r) e = (λ q. (ap is_found q, with_row r e), λ t. shut (allows_def p r.gate) r.csr t.0)
        step None e = (λ q. let z : ⊥ = cc in absurd z, λ t. absurd (without_row e t.1))

    -- "no such" exactly where no profile makes it available
    pub no_such : (decode_csr_def p a ≡ Err NoSuch) ↔ ¬ SomeProfile a
    unfolding decode_csr_def
    no_such = step (spot_def a) refl
      where
        gated : (b : Bool) (c : Csr) → gated_def b c ≡ Err NoSuch → ⊥
        gated true c q = cc
        gated false c q = cc

        step : (s : Option Row) → spot_def a ≡ s → (answer p s ≡ Err NoSuch) ↔ ¬ SomeProfile a
        step (Some r) e = (λ q. absurd (gated (allows_def p r.gate) r.csr q), λ n. absurd (n (with_row r e)))
        step None e = (λ _. without_row e, λ _. refl)

    -- addresses have twelve bits
    pub above : 4096 ≤ a → decode_csr_def p a ≡ Err NoSuch
    unfolding decode_csr_def spot_def
    above h = step (spot_def a) refl
      where
        step : (s : Option Row) → spot_def a ≡ s → answer p s ≡ Err NoSuch
        step (Some r) e = absurd (omega (arith, idx_lt r.csr a (found_at row_idx a rows r e)))
        step None e = refl
