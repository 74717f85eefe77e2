-- A compressed store is what the call answered of its parts.
use Rattle.utils.proofs.Prelude.{◌≡◌, refl, sym, ◌∙◌, true, arith, w64, SFits, to_z, of_z, to_z-of_z, ℕ}
use Rattle.refusals.specs.Answer.{Answer}
use Rattle.forms.specs.Meaning.{write_of}
use Rattle.memory_decoder.specs.declared.StoreInstr.{StoreInstr}
use Rattle.memory_decoder.specs.Forms.{stores}
use Rattle.memory_decoder.specs.Store.{meaning, mk}
use Rattle.memory_encoder.specs.LoadStore.{encode_store_def}
use Rattle.memory_encoder.proofs.encode_store.Goals as goal

-- r is what a call answered of the store's parts, with the base b
same : (i : StoreInstr) → SFits w64 i.imm → {b : ℕ} {r : Answer ℕ} → i.is_compressed ≡ true → b ≡ i.rs1.0
    → r ≡ write_of stores meaning (mk i.rs2.0 b (to_z w64 (of_z w64 i.imm)) i.len true) → r ≡ write_of stores meaning i
same i fits short e p = p ∙ (λ j. write_of stores meaning (mk i.rs2.0 (e j) (to_z-of_z w64 i.imm fits j) i.len (sym short j)))

pub returns-then-rs1-eq-SP : goal.returns-then-rs1-eq-SP
unfolding encode_store_def
returns-then-rs1-eq-SP c = same c.args.store (record { sfits = omega arith }) c.if-store.true (sym c.if-rs1-eq-SP.true) c.encode_stack_store.ensures

pub returns-then-store : goal.returns-then-store
unfolding encode_store_def
returns-then-store c = same c.args.store (record { sfits = omega arith }) c.if-store.true refl (c.encode_compressed.ensures.as_store refl)
