-- Which words are accepted as a load or a store, and that none is accepted as both. Assumes nothing.
use Rattle.utils.proofs.Prelude.{◌≡◌, refl, ℕ}
use Rattle.std.proofs.Common.{Ok}
use Rattle.profiles.specs.declared.Profile.{Profile}
use Rattle.forms.specs.Meaning.{read_of}
use Rattle.forms.proofs.Accepts.{Words, accepted, not_both}
use Rattle.memory_decoder.specs.Forms.{loads, stores}
use Rattle.memory_decoder.specs.Load as Load
use Rattle.memory_decoder.specs.Store as Store
use Rattle.memory_decoder.specs.Load.{load_def}
use Rattle.memory_decoder.specs.Store.{store_def}
use Rattle.memory_decoder.specs.declared.LoadInstr.{LoadInstr}
use Rattle.memory_decoder.specs.declared.StoreInstr.{StoreInstr}

-- ---- an answer that is an instruction, and what it was read of
pub load_form : (p : Profile) (w : ℕ) (i : LoadInstr) → load_def p w ≡ Ok i → read_of loads Load.meaning w ≡ Ok i
unfolding load_def
load_form p w i e = e

pub form_load : (p : Profile) (w : ℕ) (i : LoadInstr) → read_of loads Load.meaning w ≡ Ok i → load_def p w ≡ Ok i
unfolding load_def
form_load p w i e = e

pub store_form : (p : Profile) (w : ℕ) (i : StoreInstr) → store_def p w ≡ Ok i → read_of stores Store.meaning w ≡ Ok i
unfolding store_def
store_form p w i e = e

pub form_store : (p : Profile) (w : ℕ) (i : StoreInstr) → read_of stores Store.meaning w ≡ Ok i → store_def p w ≡ Ok i
unfolding store_def
form_store p w i e = e

-- ---- the theorems
-- a word that is accepted has, of some form of the table, every constant, and no operand that the form excludes
pub loads_accept : (p : Profile) (w : ℕ) (i : LoadInstr) → load_def p w ≡ Ok i → Words loads w
loads_accept p w i e = accepted loads Load.meaning w i (load_form p w i e)

pub stores_accept : (p : Profile) (w : ℕ) (i : StoreInstr) → store_def p w ≡ Ok i → Words stores w
stores_accept p w i e = accepted stores Store.meaning w i (store_form p w i e)

-- no word is accepted in two readings, whatever the two profiles are
pub not_load_and_store : (p q : Profile) (w : ℕ) (i : LoadInstr) (j : StoreInstr) → load_def p w ≡ Ok i → store_def q w ≡ Ok j → ⊥
not_load_and_store p q w i j e f = not_both loads stores Load.meaning Store.meaning w i j refl (load_form p w i e) (store_form q w j f)
