-- What nearly every proof cites of the logic's libraries, so that a proof names its library names in one line. Assumes nothing.
pub use mathlib.Core.Path.{◌≡◌, refl, sym, ap, ◌∙◌, subst}
pub use mathlib.Core.Logic.{◌⊎◌, inl, inr, ⊎_elim, ◌↔◌}
pub use mathlib.Core.Bool.{Bool, true, false, ◌&&◌, ◌||◌, not, cond, false≢true}
pub use mathlib.Core.List.{List, [], ◌∷◌, ◌++◌, map, append-nil, append_assoc}
pub use Prim.Native.Nat.{ℕ, zero, suc, ◌+◌, ◌*◌, ◌-◌, ◌/◌, ◌%◌, ◌^◌, ◌<◌, ◌≤◌, zero-le}
pub use native.Mathlib.Nat.{add-zero, le_of_suc-le-suc, le_refl, lt_of_lt_of_le, mod-eq_of_lt, mod-lt, not-suc-le-zero, zero-add}
pub use native.Mathlib.Numerals.{add-one}
pub use native.Mathlib.Omega.{arith}
pub use lib.Dec.{eqb, ltb, leb, T}
pub use lib.IntN.{ℤ}
pub use lib.Signed.{mag}
pub use lib.ListN.{length, get_or, take, drop, set, length-append, length-drop, length-set, take-append-drop, get_or-eq_default}
pub use lib.Seq.{length-take-le}
pub use lib.Pow.{pow_mono, pow_pos}
pub use lib.Bits.{and_mask, bit_and}
pub use mir.Syntax.{w64}
pub use mir.Val.{SFits, Fits, to_z, of_z}
pub use mir.ValLaws.{to_z-of_z}
pub use borrow.Author.Rules.{rules}
pub use borrow.Author.Tests.{eq-eqb, ne_eqb, eqb-true, eqb-false, lt-ltb, le-ltb, ltb-true, ltb-false, le-leb, lt-leb, leb-true, not-true}
