-- Which gate a register waits for, by its variant: the registers with a payload that an arm of `gate_of` has are of one line of the table.
-- Assumes nothing.
use Rattle.utils.proofs.Prelude.{◌≡◌, refl, sym, ap, ◌∙◌, subst, Bool, true, false, ◌&&◌, ◌||◌, not, List, [], ◌∷◌, map, ℕ, zero, suc, ◌+◌, ◌-◌, ◌≤◌, arith, leb, T}
use Rattle.std.proofs.Common.{Ok}
use Rattle.utils.proofs.Prelude.{leb-true}
use denote.Enum.Declared.{tag_of}
use mir.Val.{has_key}
use types.Run.{OneOf, miss}
use Rattle.utils.proofs.Tests.{both}
use Rattle.csr_addresses.specs.declared.Csr.{Csr, TheVariants.Custom}
use Rattle.utils.specs.Lists.{down_from, join}
use Rattle.csr_addresses.specs.Find.{find}
use Rattle.csr_addresses.specs.Address.{idx_def, registers}
use Rattle.csr_addresses.specs.contracts.Csr.{the_type}
use Rattle.utils.proofs.Members.{Mem, left, right, mapped, within, all}
use Rattle.csr_addresses.proofs.Find.{keeps, kept, found_at, found_in, hit}
use Rattle.csr_addresses.proofs.Laws.{at_is, every, idx_once}
use Rattle.csrs.specs.declared.Gate.{Gate, TheVariants.Always, TheVariants.MaskBit}
use Rattle.csrs.specs.Gates.{Group, group, groups, behind, rows_of, custom_row, row_idx, spot_def, gate_in, gate_def}
use Rattle.csrs.proofs.Arms.{rows_distinct}
use Rattle.csrs.proofs.Laws.{there, there_is}

-- a register passes the test f, if it is of one of the variants ks; what holds of each of the list holds of every one that has an address
unfoldable pub if_among : List ℕ → (Csr → Bool) → Csr → Bool
if_among ks f c = not (has_key ks (tag_of the_type c)) || f c

tagged : (ks : List ℕ) (f : Csr → Bool) → T (all (if_among ks f) registers) → (c : Csr) {a : ℕ} → idx_def c ≡ Ok a → OneOf ks (tag_of the_type c) → T (f c)
unfolding if_among
tagged ks f t c {a} e o = step (has_key ks (tag_of the_type c)) refl (every (if_among ks f) t c a e)
  where
    step : (b : Bool) → has_key ks (tag_of the_type c) ≡ b → T (not b || f c) → T (f c)
    step true q u = u
    step false q u = absurd (miss ks (tag_of the_type c) (rw q tt) o)

-- ---- a line's registers wait for the line's gate
abbrev gate_at : ℕ → List Group → Gate
gate_at n [] = Always
gate_at zero (group g cs ∷ ls) = g
gate_at (suc n) (l ∷ ls) = gate_at n ls

abbrev families_at : ℕ → List Group → List (List Csr)
families_at n [] = []
families_at zero (group g cs ∷ ls) = cs
families_at (suc n) (l ∷ ls) = families_at n ls

lined : (i : ℕ) (ls : List Group) {c : Csr} → Mem c (join (families_at i ls)) → Mem (behind (gate_at i ls) c) (join (map rows_of ls))
lined i [] m = mapped (behind Always) m
lined zero (group g cs ∷ ls) m = left (join (map rows_of ls)) (mapped (behind g) m)
lined (suc i) (l ∷ ls) m = right (rows_of l) (lined i ls m)

unfoldable pub in_group : ℕ → Csr → Bool
in_group i c = keeps (λ b. there (find idx_def b (join (families_at i groups)))) (idx_def c)

pub waits : (i : ℕ) (ks : List ℕ) → T (all (if_among ks (in_group i)) registers) → (c : Csr) {a : ℕ} → idx_def c ≡ Ok a → OneOf ks (tag_of the_type c) → gate_at i groups ≡ gate_def (idx_def c)
unfolding in_group spot_def
waits i ks t c {a} e o =
    let cs = join (families_at i groups) in
    let w = there_is (find idx_def a cs) (kept (λ b. there (find idx_def b cs)) a (idx_def c) e (tagged ks (in_group i) t c e o)) in
    let m = subst (λ (d : Csr). Mem d cs) (idx_once w.0 c a (found_at idx_def a cs w.0 w.1) e) (found_in idx_def a cs w.0 w.1) in
    sym (ap gate_def e ∙ ap gate_in (hit row_idx a rows_distinct (left (map custom_row (down_from 64)) (lined i groups m)) e))

-- ---- a custom register waits for its bit
pub custom_low : (n : ℕ) {a : ℕ} → idx_def (Custom n) ≡ Ok a → 0x7C0 ≤ n
custom_low n {a} e = leb-true 0x7C0 n (both (leb 0x7C0 n) (leb n 0x7FF) (at_is (leb 0x7C0 n && leb n 0x7FF) n a e).0).0

pub custom_waits : (n : ℕ) {a : ℕ} → idx_def (Custom n) ≡ Ok a → MaskBit (n - 0x7C0) ≡ gate_def (idx_def (Custom n))
unfolding spot_def
custom_waits n {a} e =
    let d = both (leb 0x7C0 n) (leb n 0x7FF) (at_is (leb 0x7C0 n && leb n 0x7FF) n a e).0 in
    let low : 0x7C0 ≤ n = leb-true 0x7C0 n d.0 in
    let high : n ≤ 0x7FF = leb-true n 0x7FF d.1 in
    let z : 0x7C0 + (n - 0x7C0) ≡ n = omega arith in
    sym (ap gate_def e ∙ ap gate_in (hit row_idx a rows_distinct (right (join (map rows_of groups)) (rw z at (within custom_row 64 (n - 0x7C0) (omega arith)))) e))
