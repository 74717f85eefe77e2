-- How a table reads words as instructions of a type I, and writes instructions as words. A `Meaning` says how the table's operands are an
-- instruction; `read_of` and `write_of` are the definition of reading and of writing.
use Rattle.std.specs.Prelude.{ℕ, ◌^◌, ◌<◌, ◌≡◌, Bool, true, false, ◌&&◌, ◌||◌, cond, List, [], ◌∷◌, map, eqb, leb, ltb}
use Rattle.std.specs.Prelude.{Option, Some, None, Ok, Err}
use Rattle.refusals.specs.Answer.{Answer}
use Rattle.refusals.specs.declared.Refusal.{Refusal}
use Rattle.refusals.specs.declared.Refusal.TheVariants as refusal
use Rattle.forms.specs.Layout.{Layout, Operand, imm, short, others, all, every, Piece, piece, from, lit, pieces, size, width, read, build, readable, chosen, holds}
use Rattle.forms.specs.Sound.{first}

pub record Meaning (I : Type 0) : Type 0 where
  pub make : (Operand → ℕ) → I  -- the instruction of operands
  pub ops : I → Operand → ℕ  -- the operands of an instruction
  pub code : I → (Option ℕ)  -- of its immediate, or out of range
  pub is_short : I → Bool  -- it is compressed
  pub reading_refusal : ℕ → Refusal  -- the refusal of a word that has no layout
  pub writing_refusal : I → Refusal  -- the refusal of an instruction that has none

-- an instruction's words: below 2^16 where it is compressed, below 2^32 where not
abbrev pub room_of : Bool → ℕ
room_of true = 2 ^ 16
room_of false = 2 ^ 32

-- an operand that is 0 or 1
abbrev pub bit_of : Bool → ℕ
bit_of b = cond b 1 0

-- ---- reading
abbrev pub read_as : {I : Type 0} → Meaning I → ℕ → Answer Layout → Answer I
read_as S w (Ok L) = Ok (S.make (read L w))
read_as S w (Err e) = Err e

-- a word as an instruction, or why it is refused
abbrev pub read_of : {I : Type 0} → List Layout → Meaning I → ℕ → Answer I
read_of T S w = read_as S w (first (readable w) T (S.reading_refusal w))

-- ---- writing
-- the code of an immediate, where the layout can hold it
abbrev pub within : Layout → Option ℕ → Option ℕ
within L (Some n) = cond (holds L imm n) (Some n) None
within L None = None

-- the word w, or refusal 10 of an immediate that has no code
abbrev pub put : Option ℕ → ℕ → Answer ℕ
put (Some n) w = Ok w
put None w = Err refusal.Immediate

abbrev pub write_as : {I : Type 0} → Meaning I → I → Answer Layout → Answer ℕ
write_as S i (Ok L) = put (within L (S.code i)) (build L (S.ops i))
write_as S i (Err e) = Err e

-- an instruction as a word, or why it is refused
abbrev pub write_of : {I : Type 0} → List Layout → Meaning I → I → Answer ℕ
write_of T S i = write_as S i (first (chosen (S.ops i)) T (S.writing_refusal i))

-- ---- what makes a Meaning faithful to a table: the operands of a word of a form, and the instruction that they make, say the same
abbrev pub listed : (Operand → ℕ) → List ℕ
listed env = map env (imm ∷ others)

pub record Agrees {I : Type 0} (S : Meaning I) (L : Layout) (w : ℕ) : Type 0 where
  pub ops : listed (S.ops (S.make (read L w))) ≡ listed (read L w)
  pub code : S.code (S.make (read L w)) ≡ Some (read L w imm)
  pub room : room_of (S.is_short (S.make (read L w))) ≡ 2 ^ width L

abbrev pub Every : (Layout → Type 0) → List Layout → Type 0
Every P [] = Unit {0}
Every P (L ∷ T) = P L × Every P T

pub record Faithful {I : Type 0} (T : List Layout) (S : Meaning I) : Type 0 where
  pub layouts : Every (λ L. (w : ℕ) → Agrees S L w) T
  pub code_ops : (i : I) (n : ℕ) → S.code i ≡ Some n → n ≡ S.ops i imm
  pub make_ops : (i : I) (n : ℕ) → S.code i ≡ Some n → S.make (S.ops i) ≡ i

-- a Meaning that is faithful whatever the form, so long as each operand is below a limit
pub record FaithfulBelow {I : Type 0} (S : Meaning I) (limit : Operand → ℕ) : Type 0 where
  pub ops_make : (env : Operand → ℕ) → ((x : Operand) → env x < limit x) → (x : Operand) → S.ops (S.make env) x ≡ env x
  pub code_make : (env : Operand → ℕ) → ((x : Operand) → env x < limit x) → S.code (S.make env) ≡ Some (env imm)
  pub short_make : (env : Operand → ℕ) → ((x : Operand) → env x < limit x) → S.is_short (S.make env) ≡ eqb (env short) 1
  pub code_ops : (i : I) (n : ℕ) → S.code i ≡ Some n → n ≡ S.ops i imm
  pub make_ops : (i : I) (n : ℕ) → S.code i ≡ Some n → S.make (S.ops i) ≡ i

-- the word has no part in an operand
abbrev pub lits : List Piece → Bool
lits [] = true
lits (piece n a (from k) ∷ ps) = false
lits (piece n a (lit v) ∷ ps) = lits ps

-- whatever word is read, the operand x is below its limit
abbrev pub below : (Operand → ℕ) → Layout → Operand → Bool
below limit L x = leb (2 ^ size L x) (limit x) || (lits (pieces L x) && ltb (read L 0 x) (limit x))

-- the word is as wide as `short` says
abbrev pub fitted : Layout → Bool
fitted L = lits (pieces L short) && eqb (2 ^ width L) (room_of (eqb (read L 0 short) 1))

-- the computed test of a table and its limits
abbrev pub limited : (Operand → ℕ) → List Layout → Bool
limited limit T = all (λ L. every (below limit L) && fitted L) T
