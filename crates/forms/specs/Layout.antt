-- A form of instruction as one line, its layout: its bits from the highest down, each a constant or some bits of an operand. By the line alone
-- a word is tested (`matches`), read (`read`) and written (`build`), and operands are tested (`holds`, `spares`).
use Rattle.std.specs.Prelude.{ℕ, zero, suc, ◌+◌, ◌*◌, ◌/◌, ◌%◌, ◌^◌, Bool, true, ◌&&◌, not, cond, List, [], ◌∷◌, eqb, leb, ltb}

-- what an instruction is made of; each is a number
pub data Operand : Type 0 where
  imm : Operand
  rd : Operand
  rs1 : Operand
  rs2 : Operand
  funct : Operand  -- which instruction it is of those that a table holds
  csr : Operand  -- the address of a CSR
  short : Operand  -- 1 for a compressed instruction, 0 for another

-- all but the immediate
abbrev pub others : List Operand
others = rd ∷ rs1 ∷ rs2 ∷ funct ∷ csr ∷ short ∷ []

-- an operand's place in imm ∷ others, by which two are told apart
abbrev pub code : Operand → ℕ
code imm = 0
code rd = 1
code rs1 = 2
code rs2 = 3
code funct = 4
code csr = 5
code short = 6

-- the last is tested first
abbrev pub all : {A : Type 0} → (A → Bool) → List A → Bool
all p [] = true
all p (x ∷ xs) = all p xs && p x

abbrev pub every : (Operand → Bool) → Bool
every p = all p (imm ∷ others)

-- a layout's parts, from the word's highest bit down
pub data Seg : Type 0 where
  const : ℕ → ℕ → Seg  -- const n v: n bits of the word, which are v
  take : Operand → ℕ → ℕ → Seg  -- take x n a: n bits of the word, which are the bits of x from bit a on
  given : Operand → ℕ → ℕ → ℕ → Seg  -- given x n a v: no bits of the word; the n bits of x from bit a on are v
  avoid : Operand → ℕ → ℕ → ℕ → Seg  -- avoid x n a v: no bits of the word; the n bits of x from bit a on are not v

abbrev pub Layout : Type 0
Layout = List Seg

-- the n bits of w from bit k on
abbrev pub bits : ℕ → ℕ → ℕ → ℕ
bits w zero n = w % 2 ^ n
bits w (suc k) n = w / 2 ^ suc k % 2 ^ n

-- d at bit k, over what is below
abbrev pub place : ℕ → ℕ → ℕ → ℕ
place d zero r = d
place d (suc k) r = d * 2 ^ suc k + r

abbrev pub width : Layout → ℕ
width [] = 0
width (const n v ∷ L) = n + width L
width (take x n a ∷ L) = n + width L
width (given x n a v ∷ L) = width L
width (avoid x n a v ∷ L) = width L

-- ---- the word
-- it has the constants; the lowest is tested first
abbrev pub matches : Layout → ℕ → Bool
matches [] w = true
matches (const n v ∷ L) w = matches L w && eqb (bits w (width L) n) v
matches (take x n a ∷ L) w = matches L w
matches (given x n a v ∷ L) w = matches L w
matches (avoid x n a v ∷ L) w = matches L w

-- the word of these operands
abbrev pub build : Layout → (Operand → ℕ) → ℕ
build [] env = 0
build (const n v ∷ L) env = place v (width L) (build L env)
build (take x n a ∷ L) env = place (bits (env x) a n) (width L) (build L env)
build (given x n a v ∷ L) env = build L env
build (avoid x n a v ∷ L) env = build L env

-- ---- an operand: its pieces, from its highest bit down
pub data Source : Type 0 where
  from : ℕ → Source  -- the word's bits from here on
  lit : ℕ → Source

pub data Piece : Type 0 where
  piece : ℕ → ℕ → Source → Piece  -- piece n a s: its n bits from bit a on are those of s

abbrev pub insert : Piece → List Piece → List Piece
insert p [] = p ∷ []
insert (piece n a s) (piece m b t ∷ ps) = cond (leb b a) (piece n a s ∷ piece m b t ∷ ps) (piece m b t ∷ insert (piece n a s) ps)

-- a piece of y, where y is x
abbrev pub add : Operand → Operand → Piece → List Piece → List Piece
add x y p ps = cond (eqb (code x) (code y)) (insert p ps) ps

abbrev pub pieces : Layout → Operand → List Piece
pieces [] x = []
pieces (const n v ∷ L) x = pieces L x
pieces (take y n a ∷ L) x = add x y (piece n a (from (width L))) (pieces L x)
pieces (given y n a v ∷ L) x = add x y (piece n a (lit v)) (pieces L x)
pieces (avoid y n a v ∷ L) x = pieces L x

abbrev pub digit : ℕ → Source → ℕ → ℕ
digit w (from k) n = bits w k n
digit w (lit v) n = v

abbrev pub gather : ℕ → List Piece → ℕ
gather w [] = 0
gather w (piece n a s ∷ ps) = place (digit w s n) a (gather w ps)

-- the operand x of a word w
abbrev pub read : Layout → ℕ → Operand → ℕ
read L w x = gather w (pieces L x)

-- how many bits it has
abbrev pub top : List Piece → ℕ
top [] = 0
top (piece n a s ∷ ps) = n + a

abbrev pub size : Layout → Operand → ℕ
size L x = top (pieces L x)

-- ---- which words and which operands are of the layout
-- operands are not what they must not be
abbrev pub spares : Layout → (Operand → ℕ) → Bool
spares [] env = true
spares (const n v ∷ L) env = spares L env
spares (take x n a ∷ L) env = spares L env
spares (given x n a v ∷ L) env = spares L env
spares (avoid x n a v ∷ L) env = spares L env && not (eqb (bits (env x) a n) v)

abbrev pub readable : ℕ → Layout → Bool
readable w L = matches L w && spares L (read L w)

-- v has the bits that are given
abbrev pub held : ℕ → List Piece → Bool
held v [] = true
held v (piece n a (from k) ∷ ps) = held v ps
held v (piece n a (lit u) ∷ ps) = held v ps && eqb (bits v a n) u

-- the operand x can be v: it has the bits that are given, and no more bits than x
abbrev pub holds : Layout → Operand → ℕ → Bool
holds L x v = held v (pieces L x) && ltb v (2 ^ size L x)

-- operands choose the layout, whatever the immediate is: an immediate that the layout cannot hold has a refusal of its own
abbrev pub chosen : (Operand → ℕ) → Layout → Bool
chosen env L = all (λ x. holds L x (env x)) others && spares L env

-- ---- the test of a layout: constants fit, and each operand's pieces follow one another from its highest bit down to bit 0
abbrev pub fits : Source → ℕ → Bool
fits (from k) n = true
fits (lit v) n = ltb v (2 ^ n)

abbrev pub chain : List Piece → ℕ → Bool
chain [] h = eqb h 0
chain (piece n a s ∷ ps) h = eqb h (n + a) && (fits s n && chain ps a)

abbrev pub constants : Layout → Bool
constants [] = true
constants (const n v ∷ L) = ltb v (2 ^ n) && constants L
constants (take x n a ∷ L) = constants L
constants (given x n a v ∷ L) = constants L
constants (avoid x n a v ∷ L) = constants L

abbrev pub good : Layout → Bool
good L = constants L && every (λ x. chain (pieces L x) (size L x))
