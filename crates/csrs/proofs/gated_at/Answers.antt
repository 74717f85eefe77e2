-- Each arm names a register and its address, a range is the block of a family, and where no arm answers there is no row.
use Rattle.utils.proofs.Prelude.{◌≡◌, refl, sym, ap, ◌∙◌, false, List, [], ◌∷◌, ℕ, ◌^◌, zero-le, arith, rules}
use Rattle.std.proofs.Common.{Ok}
use Rattle.utils.proofs.Arms.{any, run, climb}
use Rattle.csr_addresses.specs.declared.Csr.{Csr}
use Rattle.csr_addresses.specs.Address.{idx_def}
use Rattle.utils.proofs.Members.{all}
use Rattle.csr_addresses.proofs.Find.{keeps}
use Rattle.csrs.proofs.Arms.{pmpaddr, counter, event, pmpcfg, odd_pmpcfg, custom, only, gap}
use Rattle.csrs.proofs.Laws.{is_never, with_gate}
use Rattle.csrs.proofs.gated_at.Goals as goal
use Rattle.csrs.proofs.gated_at.Goals.{in-768, in-769, in-772, in-773, in-832, in-836, in-3860, in-3857, in-3858, in-3859, in-2816, in-2818, in-3072, in-3073, in-3074, in-800, in-774, in-778, in-1863, in-3861, in-770, in-771, in-842, in-843, in-1952, in-834, in-833, in-835, in-256, in-260, in-261, in-262, in-266, in-320, in-321, in-322, in-323, in-324, in-333, in-384, in-1448, in-1536, in-1538, in-1539, in-1605, in-1604, in-1540, in-3602, in-1543, in-1546, in-1542, in-1541, in-1603, in-1610, in-1664, in-512, in-516, in-517, in-576, in-577, in-578, in-579, in-580, in-640, in-8, in-9, in-10, in-15, in-3104, in-3105, in-3106, in-21, in-803-to-831, in-928-to-943+then-id-eq0, in-944-to-1007, in-1984-to-2047, in-2819-to-2847}

-- the single numbers of the match, last first
abbrev keys : List ℕ
keys =
    0x15 ∷ 0xC22 ∷ 0xC21 ∷ 0xC20 ∷ 0xF ∷ 0xA ∷ 0x9 ∷ 0x8 ∷ 0x280 ∷ 0x244 ∷ 0x243 ∷ 0x242 ∷ 0x241 ∷ 0x240 ∷ 0x205 ∷ 0x204
    ∷ 0x200 ∷ 0x680 ∷ 0x64A ∷ 0x643 ∷ 0x605 ∷ 0x606 ∷ 0x60A ∷ 0x607 ∷ 0xE12 ∷ 0x604 ∷ 0x644 ∷ 0x645 ∷ 0x603 ∷ 0x602 ∷ 0x600 ∷ 0x5A8
    ∷ 0x180 ∷ 0x14D ∷ 0x144 ∷ 0x143 ∷ 0x142 ∷ 0x141 ∷ 0x140 ∷ 0x10A ∷ 0x106 ∷ 0x105 ∷ 0x104 ∷ 0x100 ∷ 0x343 ∷ 0x341 ∷ 0x342 ∷ 0x7B3
    ∷ 0x7B2 ∷ 0x7B1 ∷ 0x7B0 ∷ 0x7A8 ∷ 0x7A3 ∷ 0x7A2 ∷ 0x7A1 ∷ 0x7A0 ∷ 0x34B ∷ 0x34A ∷ 0x303 ∷ 0x302 ∷ 0xF15 ∷ 0x747 ∷ 0x30A ∷ 0x306
    ∷ 0x320 ∷ 0xC02 ∷ 0xC01 ∷ 0xC00 ∷ 0xB02 ∷ 0xB00 ∷ 0xF13 ∷ 0xF12 ∷ 0xF11 ∷ 0xF14 ∷ 0x344 ∷ 0x340 ∷ 0x305 ∷ 0x304 ∷ 0x301 ∷ 0x300
    ∷ []

-- the register that was found has the address, and is none of the eight that no profile has
record Placed (f : Csr) (a : ℕ) : Type 0 where
  pub at : idx_def f ≡ Ok a
  pub other : is_never f ≡ false

-- it is the arm's
family : {f d : Csr} {a : ℕ} → f ≡ d → idx_def d ≡ Ok a → is_never d ≡ false → Placed f a
family q i n = record { at = ap idx_def q ∙ i; other = ap is_never q ∙ n }

-- and so is the number
key : {f d : Csr} {a k : ℕ} → f ≡ d → a ≡ k → idx_def d ≡ Ok k → is_never d ≡ false → Placed f a
key q e i n = family q (i ∙ ap Ok (sym e)) n

placed : (c : goal.Joined-csr) → Placed c.match-csr.found c.args.csr
unfolding any run is_never
placed c =
    elim c.match-csr.branch [
      | in-768 w ↦ key w.found-is w.in-768.is refl refl
      | in-769 w ↦ key w.found-is w.in-769.is refl refl
      | in-772 w ↦ key w.found-is w.in-772.is refl refl
      | in-773 w ↦ key w.found-is w.in-773.is refl refl
      | in-832 w ↦ key w.found-is w.in-832.is refl refl
      | in-836 w ↦ key w.found-is w.in-836.is refl refl
      | in-3860 w ↦ key w.found-is w.in-3860.is refl refl
      | in-3857 w ↦ key w.found-is w.in-3857.is refl refl
      | in-3858 w ↦ key w.found-is w.in-3858.is refl refl
      | in-3859 w ↦ key w.found-is w.in-3859.is refl refl
      | in-2816 w ↦ key w.found-is w.in-2816.is refl refl
      | in-2818 w ↦ key w.found-is w.in-2818.is refl refl
      | in-3072 w ↦ key w.found-is w.in-3072.is refl refl
      | in-3073 w ↦ key w.found-is w.in-3073.is refl refl
      | in-3074 w ↦ key w.found-is w.in-3074.is refl refl
      | in-800 w ↦ key w.found-is w.in-800.is refl refl
      | in-774 w ↦ key w.found-is w.in-774.is refl refl
      | in-778 w ↦ key w.found-is w.in-778.is refl refl
      | in-1863 w ↦ key w.found-is w.in-1863.is refl refl
      | in-3861 w ↦ key w.found-is w.in-3861.is refl refl
      | in-770 w ↦ key w.found-is w.in-770.is refl refl
      | in-771 w ↦ key w.found-is w.in-771.is refl refl
      | in-842 w ↦ key w.found-is w.in-842.is refl refl
      | in-843 w ↦ key w.found-is w.in-843.is refl refl
      | in-1952 w ↦ key w.found-is w.in-1952.is refl refl
      | in-834 w ↦ key w.found-is w.in-834.is refl refl
      | in-833 w ↦ key w.found-is w.in-833.is refl refl
      | in-835 w ↦ key w.found-is w.in-835.is refl refl
      | in-256 w ↦ key w.found-is w.in-256.is refl refl
      | in-260 w ↦ key w.found-is w.in-260.is refl refl
      | in-261 w ↦ key w.found-is w.in-261.is refl refl
      | in-262 w ↦ key w.found-is w.in-262.is refl refl
      | in-266 w ↦ key w.found-is w.in-266.is refl refl
      | in-320 w ↦ key w.found-is w.in-320.is refl refl
      | in-321 w ↦ key w.found-is w.in-321.is refl refl
      | in-322 w ↦ key w.found-is w.in-322.is refl refl
      | in-323 w ↦ key w.found-is w.in-323.is refl refl
      | in-324 w ↦ key w.found-is w.in-324.is refl refl
      | in-333 w ↦ key w.found-is w.in-333.is refl refl
      | in-384 w ↦ key w.found-is w.in-384.is refl refl
      | in-1448 w ↦ key w.found-is w.in-1448.is refl refl
      | in-1536 w ↦ key w.found-is w.in-1536.is refl refl
      | in-1538 w ↦ key w.found-is w.in-1538.is refl refl
      | in-1539 w ↦ key w.found-is w.in-1539.is refl refl
      | in-1605 w ↦ key w.found-is w.in-1605.is refl refl
      | in-1604 w ↦ key w.found-is w.in-1604.is refl refl
      | in-1540 w ↦ key w.found-is w.in-1540.is refl refl
      | in-3602 w ↦ key w.found-is w.in-3602.is refl refl
      | in-1543 w ↦ key w.found-is w.in-1543.is refl refl
      | in-1546 w ↦ key w.found-is w.in-1546.is refl refl
      | in-1542 w ↦ key w.found-is w.in-1542.is refl refl
      | in-1541 w ↦ key w.found-is w.in-1541.is refl refl
      | in-1603 w ↦ key w.found-is w.in-1603.is refl refl
      | in-1610 w ↦ key w.found-is w.in-1610.is refl refl
      | in-1664 w ↦ key w.found-is w.in-1664.is refl refl
      | in-512 w ↦ key w.found-is w.in-512.is refl refl
      | in-516 w ↦ key w.found-is w.in-516.is refl refl
      | in-517 w ↦ key w.found-is w.in-517.is refl refl
      | in-576 w ↦ key w.found-is w.in-576.is refl refl
      | in-577 w ↦ key w.found-is w.in-577.is refl refl
      | in-578 w ↦ key w.found-is w.in-578.is refl refl
      | in-579 w ↦ key w.found-is w.in-579.is refl refl
      | in-580 w ↦ key w.found-is w.in-580.is refl refl
      | in-640 w ↦ key w.found-is w.in-640.is refl refl
      | in-8 w ↦ key w.found-is w.in-8.is refl refl
      | in-9 w ↦ key w.found-is w.in-9.is refl refl
      | in-10 w ↦ key w.found-is w.in-10.is refl refl
      | in-15 w ↦ key w.found-is w.in-15.is refl refl
      | in-3104 w ↦ key w.found-is w.in-3104.is refl refl
      | in-3105 w ↦ key w.found-is w.in-3105.is refl refl
      | in-3106 w ↦ key w.found-is w.in-3106.is refl refl
      | in-21 w ↦ key w.found-is w.in-21.is refl refl
      | in-803-to-831 w ↦ family w.found-is (event (omega arith) (omega arith)) refl
      | in-928-to-943+then-id-eq0 w ↦ family w.found-is (pmpcfg (omega arith) (omega arith) w.if-id-eq0.true) refl
      | in-944-to-1007 w ↦ family w.found-is (pmpaddr (omega arith) (omega arith)) refl
      | in-1984-to-2047 w ↦ family w.found-is (custom (omega arith) (omega arith)) refl
      | in-2819-to-2847 w ↦ family w.found-is (counter (climb 1 2818 keys tt (omega arith) (search rules)) (omega arith)) refl
    ]

pub returns-else-id-eq0 : goal.returns-else-id-eq0
returns-else-id-eq0 c = sym (odd_pmpcfg (omega arith) (omega arith) c.if-id-eq0.false)

pub returns-in_default : goal.returns-in_default
unfolding all keeps only any
returns-in_default c = sym (gap keys 0 803 tt zero-le (omega arith) (search rules))

pub returns-in_default-2 : goal.returns-in_default-2
unfolding all keeps only any
returns-in_default-2 c = sym (gap keys 832 928 tt (omega arith) (omega arith) (search rules))

pub returns-in_default-3 : goal.returns-in_default-3
unfolding all keeps only any
returns-in_default-3 c = sym (gap keys 1008 1984 tt (omega arith) (omega arith) (search rules))

pub returns-in_default-4 : goal.returns-in_default-4
unfolding all keeps only any
returns-in_default-4 c = sym (gap keys 2048 2818 tt (omega arith) (omega arith) (search rules))

pub returns-in_default-5 : goal.returns-in_default-5
unfolding all keeps only any
returns-in_default-5 c = sym (gap keys 2848 (2 ^ 64) tt (omega arith) c.ranges.csr.fits (search rules))

pub gate_of-requires : goal.gate_of-requires
gate_of-requires c = (_, (placed c).at)

pub returns : goal.returns
returns c = let t = placed c.before in with_gate _ _ t.at t.other c.gate_of.ensures
