-- The arms of registers with a payload, by the line of the table that has their registers, which are told by their variants' numbers.
use Rattle.utils.proofs.Prelude.{◌≡◌, sym, ap, ◌∙◌, subst, ⊎_elim, List, [], ◌∷◌, ℕ, T}
use denote.Enum.Declared.{tag_of}
use mir.Val.{has_key}
use types.Run.{OneOf, hit}
use Rattle.csr_addresses.specs.declared.Csr.{Csr}
use Rattle.csr_addresses.specs.contracts.Csr.{the_type}
use Rattle.csr_addresses.specs.Address.{idx_def}
use Rattle.utils.proofs.Members.{all}
use Rattle.csr_addresses.proofs.Find.{keeps}
use Rattle.csrs.specs.Gates.{gate_def}
use Rattle.csrs.proofs.Waits.{if_among, in_group, waits, custom_waits}
use Rattle.csrs.proofs.gate_of.Goals as goal

-- a register of one of the variants ks, as an arm knows it
told : {X : Type 0} (ks : List ℕ) {c : Csr} → (OneOf ks (tag_of the_type c) → X) → (d : Csr) → c ≡ d → T (has_key ks (tag_of the_type d)) → X
told ks {c} f d q t = f (hit ks (tag_of the_type c) (subst (λ (x : Csr). T (has_key ks (tag_of the_type x))) (sym q) t))

pub returns-in-Pmpcfg : goal.returns-in-Pmpcfg
unfolding all keeps if_among in_group
returns-in-Pmpcfg c = let w = told (10 ∷ 11 ∷ []) (waits 0 (10 ∷ 11 ∷ []) tt c.args.register c.requires.1) in ⊎_elim (λ q. w _ q.1 tt) (λ q. w _ q.1 tt) c.in-Pmpcfg.is

pub returns-in-Mhpmcounter : goal.returns-in-Mhpmcounter
unfolding all keeps if_among in_group
returns-in-Mhpmcounter c = let w = told (17 ∷ 19 ∷ []) (waits 2 (17 ∷ 19 ∷ []) tt c.args.register c.requires.1) in ⊎_elim (λ q. w _ q.1 tt) (λ q. w _ q.1 tt) c.in-Mhpmcounter.is

pub returns-in-Custom : goal.returns-in-Custom
returns-in-Custom c = let e = c.in-Custom.is in custom_waits c.in-Custom.addr (sym (ap idx_def e) ∙ c.requires.1) ∙ ap (λ d. gate_def (idx_def d)) (sym e)
