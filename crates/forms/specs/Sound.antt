-- A list of layouts: a word is read, and operands are written, by the first layout that fits. The computed test `sound` says that each layout
-- is good, and that no word and no operands fit two of them, so that the order of the layouts does not matter.
use Rattle.std.specs.Prelude.{ℕ, zero, suc, ◌+◌, Bool, true, false, ◌&&◌, ◌||◌, not, cond, List, [], ◌∷◌, eqb}
use Rattle.std.specs.Prelude.{Ok, Err}
use Rattle.refusals.specs.Answer.{Answer}
use Rattle.refusals.specs.declared.Refusal.{Refusal}
use Rattle.forms.specs.Layout.{Layout, const, take, given, avoid, others, all, bits, width, good, Piece, piece, from, lit, pieces}

-- the first that passes, or the refusal
abbrev pub first : (Layout → Bool) → List Layout → Refusal → Answer Layout
first p [] e = Err e
first p (L ∷ T) e = cond (p L) (Ok L) (first p T e)

abbrev pub any : {A : Type 0} → (A → Bool) → List A → Bool
any p [] = false
any p (x ∷ xs) = p x || any p xs

-- ---- single bits that a layout fixes, of the word or of an operand
pub data Bit : Type 0 where
  bit : ℕ → ℕ → Bit  -- bit k v: bit k is v

-- the n bits from bit k on are v
abbrev pub spread : ℕ → ℕ → ℕ → List Bit → List Bit
spread zero k v r = r
spread (suc n) k v r = bit (k + n) (bits v n 1) ∷ spread n k v r

abbrev pub of_word : Layout → List Bit
of_word [] = []
of_word (const n v ∷ L) = spread n (width L) v (of_word L)
of_word (take x n a ∷ L) = of_word L
of_word (given x n a v ∷ L) = of_word L
of_word (avoid x n a v ∷ L) = of_word L

abbrev pub of_pieces : List Piece → List Bit
of_pieces [] = []
of_pieces (piece n a (from k) ∷ ps) = of_pieces ps
of_pieces (piece n a (lit v) ∷ ps) = spread n a v (of_pieces ps)

-- some bit is fixed in both, and not the same
abbrev pub differs : ℕ → ℕ → List Bit → Bool
differs k v [] = false
differs k v (bit j u ∷ ks) = (eqb j k && not (eqb u v)) || differs k v ks

abbrev pub clash : List Bit → List Bit → Bool
clash [] ks = false
clash (bit k v ∷ js) ks = differs k v ks || clash js ks

-- no word is of both, and no operands are: not by the immediate, by which no layout is chosen
abbrev pub apart : Layout → Layout → Bool
apart L M = clash (of_word L) (of_word M) && any (λ x. clash (of_pieces (pieces L x)) (of_pieces (pieces M x))) others

abbrev pub distinct : List Layout → Bool
distinct [] = true
distinct (L ∷ T) = all (apart L) T && distinct T

abbrev pub sound : List Layout → Bool
sound T = all good T && distinct T
