-- Which CSRs a profile makes available: document 01's table of gates, with the addresses of registers' `idx_def`. Where a
-- register is does not depend on the profile.
use Rattle.std.specs.Prelude.{◌≡◌, Bool, true, false, List, [], ◌∷◌, ◌++◌, map, ℕ, ◌+◌, ◌*◌, ◌^◌, ◌<◌}
use Rattle.std.specs.Prelude.{Option, Some, None, Result, Ok, Err}
use Rattle.refusals.specs.Answer.{Answer}
use Rattle.csrs.specs.declared.Absent.{Absent}
use Rattle.csrs.specs.declared.Absent.TheVariants.{GateOff, NoSuch}
use Rattle.csrs.specs.declared.Row.{Row}
use Rattle.csr_addresses.specs.declared.Csr.{Csr}
use Rattle.csr_addresses.specs.declared.Csr.TheVariants.{Mhartid, Mstatus, Misa, Mie, Mtvec, Mscratch, Mip, Mvendorid, Marchid, Mimpid, Pmpcfg, Pmpaddr}
use Rattle.csr_addresses.specs.declared.Csr.TheVariants.{Mcycle, Minstret, Cycle, Time, Instret, Mhpmcounter, Mcountinhibit, Mhpmevent, Mcounteren}
use Rattle.csr_addresses.specs.declared.Csr.TheVariants.{Menvcfg, Mseccfg, Mconfigptr, Medeleg, Mideleg, Mtinst, Mtval2, Tselect, Tdata1, Tdata2, Tdata3}
use Rattle.csr_addresses.specs.declared.Csr.TheVariants.{Mcontext, Dcsr, Dpc, Dscratch0, Dscratch1, Mepc, Mcause, Mtval, Sstatus, Sie, Stvec, Scounteren}
use Rattle.csr_addresses.specs.declared.Csr.TheVariants.{Senvcfg, Sscratch, Sepc, Scause, Stval, Sip, Satp, Scontext, Stimecmp, Hstatus, Hedeleg}
use Rattle.csr_addresses.specs.declared.Csr.TheVariants.{Hideleg, Hvip, Hip, Hie, Hgeip, Hgeie, Henvcfg, Hcounteren, Htimedelta, Htval, Htinst, Hgatp}
use Rattle.csr_addresses.specs.declared.Csr.TheVariants.{Vsstatus, Vsie, Vstvec, Vsscratch, Vsepc, Vscause, Vstval, Vsip, Vsatp, Vstart, Vxsat, Vxrm}
use Rattle.csr_addresses.specs.declared.Csr.TheVariants.{Vcsr, Vl, Vtype, Vlenb, Seed, Custom}
use Rattle.utils.specs.Lists.{down_from, join}
use Rattle.csr_addresses.specs.Find.{find}
use Rattle.csr_addresses.specs.Address.{idx_def}
use Rattle.profiles.specs.declared.Profile.{Profile}
use Rattle.csrs.specs.declared.Gate.{Gate}
use Rattle.csrs.specs.declared.Gate.TheVariants.{Always, Zicntr, Zihpm, Tee, Smode, Hmode, Sstc, Vector, Crypto, MaskBit, Never}
use Rattle.profiles.specs.Profile.{bit_at}

abbrev pub allows_def : Profile → Gate → Bool
allows_def p Always = true
allows_def p Zicntr = p.has_zicntr
allows_def p Zihpm = p.has_zihpm_extension
allows_def p Tee = p.has_tee_extension
allows_def p Smode = p.has_s_extension
allows_def p Hmode = p.has_h_extension
allows_def p Sstc = p.is_sstc_enabled
allows_def p Vector = p.has_v_extension
allows_def p Crypto = p.has_crypto_extension
allows_def p (MaskBit k) = bit_at p.custom k
allows_def p Never = false

-- a group of the table: a gate and its registers, family by family
pub data Group : Type 0 where
  group : Gate → List (List Csr) → Group

abbrev pub groups : List Group
groups =
    group Always
    ((Mstatus ∷ Misa ∷ Mie ∷ Mtvec ∷ Mscratch ∷ Mip ∷ [])
    ∷ (Mhartid ∷ Mvendorid ∷ Marchid ∷ Mimpid ∷ [])
    ∷ map (λ k. Pmpcfg (2 * k)) (down_from 8)
    ∷ map Pmpaddr (down_from 64)
    ∷ (Mcountinhibit ∷ Mcounteren ∷ Menvcfg ∷ Mconfigptr ∷ Tselect ∷ Mcause ∷ Mepc ∷ Mtval ∷ [])
    ∷ [])
    ∷ group Zicntr ((Mcycle ∷ Minstret ∷ Cycle ∷ Time ∷ Instret ∷ []) ∷ [])
    ∷ group Zihpm (map Mhpmcounter (down_from 29) ∷ map Mhpmevent (down_from 29) ∷ [])
    ∷ group Tee ((Mseccfg ∷ []) ∷ [])
    ∷ group Smode
    ((Medeleg ∷ Mideleg ∷ [])
    ∷ (Sstatus ∷ Sie ∷ Stvec ∷ Scounteren ∷ Senvcfg ∷ Sscratch ∷ Sepc ∷ Scause ∷ Stval ∷ Sip ∷ [])
    ∷ (Satp ∷ Scontext ∷ [])
    ∷ [])
    ∷ group Sstc ((Stimecmp ∷ []) ∷ [])
    ∷ group Hmode
    ((Mtinst ∷ Mtval2 ∷ [])
    ∷ (Hstatus ∷ Hedeleg ∷ Hideleg ∷ Hvip ∷ Hip ∷ Hie ∷ Hgeip ∷ Hgeie ∷ Henvcfg ∷ Hcounteren ∷ Htimedelta ∷ Htval ∷ Htinst ∷ Hgatp ∷ [])
    ∷ (Vsstatus ∷ Vsie ∷ Vstvec ∷ Vsscratch ∷ Vsepc ∷ Vscause ∷ Vstval ∷ Vsip ∷ Vsatp ∷ [])
    ∷ [])
    ∷ group Vector ((Vstart ∷ Vxsat ∷ Vxrm ∷ Vcsr ∷ Vl ∷ Vtype ∷ Vlenb ∷ []) ∷ [])
    ∷ group Crypto ((Seed ∷ []) ∷ [])
    ∷ []

abbrev pub behind : Gate → Csr → Row
behind g c = record { gate = g; csr = c }

abbrev pub rows_of : Group → List Row
rows_of (group g cs) = map (behind g) (join cs)

-- and a row for each bit of the custom mask
abbrev pub custom_row : ℕ → Row
custom_row k = behind (MaskBit k) (Custom (0x7C0 + k))

abbrev pub rows : List Row
rows = join (map rows_of groups) ++ map custom_row (down_from 64)

-- the row of the register that has this address
abbrev pub row_idx : Row → Answer ℕ
row_idx r = idx_def r.csr

unfoldable pub spot_def : ℕ → Option Row
spot_def a = find row_idx a rows

-- the answer there, under a profile. Document 02, no. 4: "the CSR, or "gate off" for an address that some profile makes available, or "no such" for
-- one that none does"
abbrev pub gated_def : Bool → Csr → Result Csr Absent
gated_def true c = Ok c
gated_def false c = Err GateOff

abbrev pub answer : Profile → Option Row → Result Csr Absent
answer p (Some r) = gated_def (allows_def p r.gate) r.csr
answer p None = Err NoSuch

unfoldable pub decode_csr_def : Profile → ℕ → Result Csr Absent
decode_csr_def p a = answer p (spot_def a)

-- what is made of the register that is found, or x where none is: all that is asked where no reason is
abbrev pub if_found : {X : Type 0} → (Csr → X) → X → Result Csr Absent → X
if_found f x (Ok c) = f c
if_found f x (Err e) = x

abbrev pub is_found : Result Csr Absent → Bool
is_found k = if_found (λ c. true) false k

unfoldable pub available : Profile → ℕ → Bool
available p a = is_found (decode_csr_def p a)

-- some profile makes the address available
abbrev pub SomeProfile : ℕ → Type 0
SomeProfile a = (p : Profile) × ((p.custom < 2 ^ 64) × (available p a ≡ true))

-- ---- the parts
-- the gate of the row at a register's address; where there is no row, what no profile has
abbrev pub gate_in : Option Row → Gate
gate_in (Some r) = r.gate
gate_in None = Never

abbrev pub gate_def : Answer ℕ → Gate
gate_def (Ok a) = gate_in (spot_def a)
gate_def (Err e) = Never

-- the registers that have an address and no row
abbrev pub nevers : List Csr
nevers = Tdata1 ∷ Tdata2 ∷ Tdata3 ∷ Mcontext ∷ Dcsr ∷ Dpc ∷ Dscratch0 ∷ Dscratch1 ∷ []
