-- Where each CSR is: the manuals' addresses, for the registers of the Rust's list, and the list itself.
use Rattle.std.specs.Prelude.{Bool, true, false, ◌&&◌, List, [], ◌∷◌, map, ℕ, ◌+◌, ◌*◌, ◌%◌, eqb, leb}
use Rattle.std.specs.Prelude.{Ok, Err}
use Rattle.refusals.specs.Answer.{Answer}
use Rattle.refusals.specs.declared.Refusal.TheVariants as refusal
use Rattle.csr_addresses.specs.declared.Csr.{Csr}
use Rattle.csr_addresses.specs.declared.Csr.TheVariants.{Mhartid, Mstatus, Misa, Mie, Mtvec, Mscratch, Mip, Mvendorid, Marchid, Mimpid, Pmpcfg}
use Rattle.csr_addresses.specs.declared.Csr.TheVariants.{Pmpaddr, Mcycle, Minstret, Cycle, Time, Instret, Mhpmcounter, Mcountinhibit, Mhpmevent}
use Rattle.csr_addresses.specs.declared.Csr.TheVariants.{Mcounteren, Menvcfg, Mseccfg, Mconfigptr, Medeleg, Mideleg, Mtinst, Mtval2, Tselect}
use Rattle.csr_addresses.specs.declared.Csr.TheVariants.{Tdata1, Tdata2, Tdata3, Mcontext, Dcsr, Dpc, Dscratch0, Dscratch1, Mepc, Mcause, Mtval}
use Rattle.csr_addresses.specs.declared.Csr.TheVariants.{Sstatus, Sie, Stvec, Scounteren, Senvcfg, Sscratch, Sepc, Scause, Stval, Sip, Satp}
use Rattle.csr_addresses.specs.declared.Csr.TheVariants.{Scontext, Stimecmp, Hstatus, Hedeleg, Hideleg, Hvip, Hip, Hie, Hgeip, Hgeie, Henvcfg}
use Rattle.csr_addresses.specs.declared.Csr.TheVariants.{Hcounteren, Htimedelta, Htval, Htinst, Hgatp, Vsstatus, Vsie, Vstvec, Vsscratch, Vsepc}
use Rattle.csr_addresses.specs.declared.Csr.TheVariants.{Vscause, Vstval, Vsip, Vsatp, Vstart, Vxsat, Vxrm, Vcsr, Vl, Vtype, Vlenb, Seed, Custom}
use Rattle.utils.specs.Lists.{down_from, join}

-- an address where the payload is one that the register has, else refusal 7
abbrev pub at_if : Bool → ℕ → Answer ℕ
at_if true a = Ok a
at_if false a = Err refusal.Csr

abbrev pub idx_def : Csr → Answer ℕ
idx_def Mhartid = Ok 0xF14
idx_def Mstatus = Ok 0x300
idx_def Misa = Ok 0x301
idx_def Mie = Ok 0x304
idx_def Mtvec = Ok 0x305
idx_def Mscratch = Ok 0x340
idx_def Mip = Ok 0x344
idx_def Mvendorid = Ok 0xF11
idx_def Marchid = Ok 0xF12
idx_def Mimpid = Ok 0xF13
idx_def (Pmpcfg n) = at_if (eqb (n % 2) 0 && leb n 14) (0x3A0 + n)
idx_def (Pmpaddr n) = at_if (leb n 63) (0x3B0 + n)
idx_def Mcycle = Ok 0xB00
idx_def Minstret = Ok 0xB02
idx_def Cycle = Ok 0xC00
idx_def Time = Ok 0xC01
idx_def Instret = Ok 0xC02
idx_def (Mhpmcounter n) = at_if (leb n 28) (0xB03 + n)
idx_def Mcountinhibit = Ok 0x320
idx_def (Mhpmevent n) = at_if (leb n 28) (0x323 + n)
idx_def Mcounteren = Ok 0x306
idx_def Menvcfg = Ok 0x30A
idx_def Mseccfg = Ok 0x747
idx_def Mconfigptr = Ok 0xF15
idx_def Medeleg = Ok 0x302
idx_def Mideleg = Ok 0x303
idx_def Mtinst = Ok 0x34A
idx_def Mtval2 = Ok 0x34B
idx_def Tselect = Ok 0x7A0
idx_def Tdata1 = Ok 0x7A1
idx_def Tdata2 = Ok 0x7A2
idx_def Tdata3 = Ok 0x7A3
idx_def Mcontext = Ok 0x7A8
idx_def Dcsr = Ok 0x7B0
idx_def Dpc = Ok 0x7B1
idx_def Dscratch0 = Ok 0x7B2
idx_def Dscratch1 = Ok 0x7B3
idx_def Mepc = Ok 0x341
idx_def Mcause = Ok 0x342
idx_def Mtval = Ok 0x343
idx_def Sstatus = Ok 0x100
idx_def Sie = Ok 0x104
idx_def Stvec = Ok 0x105
idx_def Scounteren = Ok 0x106
idx_def Senvcfg = Ok 0x10A
idx_def Sscratch = Ok 0x140
idx_def Sepc = Ok 0x141
idx_def Scause = Ok 0x142
idx_def Stval = Ok 0x143
idx_def Sip = Ok 0x144
idx_def Satp = Ok 0x180
idx_def Scontext = Ok 0x5A8
idx_def Stimecmp = Ok 0x14D
idx_def Hstatus = Ok 0x600
idx_def Hedeleg = Ok 0x602
idx_def Hideleg = Ok 0x603
idx_def Hvip = Ok 0x645
idx_def Hip = Ok 0x644
idx_def Hie = Ok 0x604
idx_def Hgeip = Ok 0xE12
idx_def Hgeie = Ok 0x607
idx_def Henvcfg = Ok 0x60A
idx_def Hcounteren = Ok 0x606
idx_def Htimedelta = Ok 0x605
idx_def Htval = Ok 0x643
idx_def Htinst = Ok 0x64A
idx_def Hgatp = Ok 0x680
idx_def Vsstatus = Ok 0x200
idx_def Vsie = Ok 0x204
idx_def Vstvec = Ok 0x205
idx_def Vsscratch = Ok 0x240
idx_def Vsepc = Ok 0x241
idx_def Vscause = Ok 0x242
idx_def Vstval = Ok 0x243
idx_def Vsip = Ok 0x244
idx_def Vsatp = Ok 0x280
idx_def Vstart = Ok 0x8
idx_def Vxsat = Ok 0x9
idx_def Vxrm = Ok 0xA
idx_def Vcsr = Ok 0xF
idx_def Vl = Ok 0xC20
idx_def Vtype = Ok 0xC21
idx_def Vlenb = Ok 0xC22
idx_def Seed = Ok 0x15
idx_def (Custom n) = at_if (leb 0x7C0 n && leb n 0x7FF) n

-- the registers that have an address: those without a payload, and the five families
abbrev pub singles : List Csr
singles =
    Mhartid ∷ Mstatus ∷ Misa ∷ Mie ∷ Mtvec ∷ Mscratch ∷ Mip ∷ Mvendorid ∷ Marchid ∷ Mimpid
    ∷ Mcycle ∷ Minstret ∷ Cycle ∷ Time ∷ Instret ∷ Mcountinhibit ∷ Mcounteren ∷ Menvcfg ∷ Mseccfg ∷ Mconfigptr
    ∷ Medeleg ∷ Mideleg ∷ Mtinst ∷ Mtval2
    ∷ Tselect ∷ Tdata1 ∷ Tdata2 ∷ Tdata3 ∷ Mcontext ∷ Dcsr ∷ Dpc ∷ Dscratch0 ∷ Dscratch1
    ∷ Mepc ∷ Mcause ∷ Mtval
    ∷ Sstatus ∷ Sie ∷ Stvec ∷ Scounteren ∷ Senvcfg ∷ Sscratch ∷ Sepc ∷ Scause ∷ Stval ∷ Sip ∷ Satp ∷ Scontext ∷ Stimecmp
    ∷ Hstatus ∷ Hedeleg ∷ Hideleg ∷ Hvip ∷ Hip ∷ Hie ∷ Hgeip ∷ Hgeie ∷ Henvcfg ∷ Hcounteren ∷ Htimedelta ∷ Htval ∷ Htinst ∷ Hgatp
    ∷ Vsstatus ∷ Vsie ∷ Vstvec ∷ Vsscratch ∷ Vsepc ∷ Vscause ∷ Vstval ∷ Vsip ∷ Vsatp
    ∷ Vstart ∷ Vxsat ∷ Vxrm ∷ Vcsr ∷ Vl ∷ Vtype ∷ Vlenb ∷ Seed
    ∷ []

abbrev pub families : List (List Csr)
families =
    map (λ k. Pmpcfg (2 * k)) (down_from 8)
    ∷ map Pmpaddr (down_from 64)
    ∷ map Mhpmcounter (down_from 29)
    ∷ map Mhpmevent (down_from 29)
    ∷ map (λ k. Custom (0x7C0 + k)) (down_from 64)
    ∷ []

abbrev pub registers : List Csr
registers = join (singles ∷ families)
